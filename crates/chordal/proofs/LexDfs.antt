-- The LexDFS ordering: carrying on from nothing, by the vertices in the order of their numbers, fills the output list with one.
--   numbers_full      the first numbers of a list of all are a tie-break
--   ordered           what carry-on leaves in its output list begins with a LexDFS ordering
-- Assumes nothing.
use Prim.Native.Nat.{ℕ, ◌≤◌, ◌<◌}
use mathlib.Core.Path.{◌≡◌, refl, sym, ◌∙◌, subst}
use mathlib.Core.List.{List, []}
use native.Mathlib.Omega.{arith}
use lib.ListN.{length, take, length-take}
use lib.Seq.{get_or-take, length-take-le}
use Rattle.searches.specs.Kind.{lex_dfs, kind_of, search_of}
use Rattle.searches.specs.Ordering.{arcs, at, IsOrdering, IsFullOrdering}
use Rattle.searches.specs.CarryOn.{CarriedOn}
use Rattle.searches.specs.Answer.{is_two_way, open_tests, Accepts, carry_on_output, output_barring}
use Rattle.searches.specs.declared.Mark.{Mark}
use Rattle.searches.proofs.Ordering.{ordering_agree, take_agree}
use Rattle.searches.proofs.Answers.{valid_small}
use Rattle.searches.proofs.Passing.{judge_take}
use Rattle.searches.proofs.Demands.{part_carried_on, part_unfaulted}
use Rattle.searches.proofs.Marks.{valid_both_ways}
use Rattle.searches.proofs.NothingBarred.{output_none}
use Rattle.chordal.specs.Descent.{numbers}
use Rattle.chordal.specs.Lists.{Ordered}
use Rattle.chordal.proofs.Listing.{listed_length, listed_at}

pub numbers_full : (n k : ℕ) → n ≤ k → IsFullOrdering n (take n (numbers k))
numbers_full n k h = record {
  ordering = record {
    long = omega (arith, long);
    vertices = λ p l. subst (λ (v : ℕ). v < n) (sym (stands p l)) l;
    distinct = λ p q l i same. omega (arith, stands p (omega arith), stands q i, same);
  };
  full = long;
}
  where
    long : length (take n (numbers k)) ≡ n
    long = length-take-le n (numbers k) (omega (arith, listed_length k (λ v. v)))

    stands : (p : ℕ) → p < n → at (take n (numbers k)) p ≡ p
    stands p l = get_or-take n (numbers k) p 0 l ∙ listed_at k (λ v. v) p (omega arith)

module _ (rows : List ℕ) (valid : Accepts (open_tests (kind_of lex_dfs) Mark.TwoWay rows)) (t out : List ℕ) (names : IsFullOrdering (length rows) t)
    (room : length rows ≤ length out) where
  abbrev left : List ℕ
  left = carry_on_output (kind_of lex_dfs) Mark.TwoWay rows t out 0

  nothing : IsOrdering (length rows) [] 0
  nothing = record { long = omega arith; vertices = λ p l. absurd (omega arith); distinct = λ p q l h. absurd (omega arith) }

  carried : CarriedOn lex_dfs (arcs rows) (length rows) t [] 0 (take (length rows) left)
  unfolding kind_of search_of
  carried =
      (part_carried_on (kind_of lex_dfs) Mark.TwoWay rows valid [] 0 nothing 0 (omega arith) t out names room refl
      ((part_unfaulted (kind_of lex_dfs) Mark.TwoWay rows valid [] 0 nothing 0 (omega arith)).1 (λ i j c v. absurd (omega (arith, v.middle))))).1

  pub ordered : Ordered rows (output_barring (kind_of lex_dfs) Mark.TwoWay rows 0 t out 0)
  unfolding is_two_way
  ordered =
      subst (λ (w : List ℕ). Ordered rows w) (sym (output_none (kind_of lex_dfs) Mark.TwoWay rows t out 0)) (record {
        small = valid_small (kind_of lex_dfs) Mark.TwoWay rows valid;
        both_ways = valid_both_ways (kind_of lex_dfs) Mark.TwoWay rows valid tt;
        all = ordering_agree (length rows) left (omega (arith, carried.full.full, length-take (length rows) left)) (take_agree (length rows) left) carried.full.ordering;
        passing = sym (judge_take lex_dfs (arcs rows) (length rows) left (length rows)) ∙ carried.passing;
      })
