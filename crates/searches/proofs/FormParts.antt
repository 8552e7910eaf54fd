-- Parts of a walk as the calls answer on them, in whatever form the graph is given: judged as lists of their own, carried on at the front of an output list.
-- `Parts` cites this for rows, `DemandsWide` for tables.
--   part_start               a part at the front of an output list is a start that carry-on lets through
--   first_entries, part_carried   what the first n entries of the output then hold
--   output_kept              for every input: what carry-on leaves as it was
--   passes_written_again, written_again_passes   the reversed walk, by the calls
-- Assumes nothing.
use mathlib.Core.Path.{◌≡◌, refl, sym, ap, ◌∙◌, subst}
use mathlib.Core.Logic.{◌⊎◌, inl, inr}
use mathlib.Core.Bool.{Bool}
use mathlib.Core.List.{List, [], ◌++◌, reverse}
use mathlib.Core.Option.{none}
use Prim.Native.Nat.{ℕ, ◌≤◌}
use native.Mathlib.Omega.{arith}
use lib.ListN.{length, take, drop, length-append, length-drop}
use lib.Seq.{take_at, drop_at, take_all, take-append-le}
use Rattle.searches.specs.Kind.{Search}
use Rattle.searches.specs.Ordering.{IsOrdering, IsFullOrdering}
use Rattle.searches.specs.Violation.{passes, judge}
use Rattle.searches.specs.CarryOn.{carry_on, CarriedOn}
use Rattle.searches.specs.Answer.{Accepts, Refuses}
use Rattle.searches.specs.Form.{carry_on_tests_of, judge_of, carry_on_of, output_of}
use Rattle.searches.proofs.Ordering.{agree_sym, begins_agree, ordering_fits, ordering_agree}
use Rattle.searches.proofs.CarryOn.{passes_greedy, greedy_passes, carry_on_carries, passes_comes_back, comes_back_passes, reverse_full}
use Rattle.searches.proofs.Passing.{judge_agree}
use Rattle.searches.proofs.Refusals.{accepts_none, accepts_or_refuses}
use Rattle.searches.proofs.Forms.{StartOf, start_accepted, accepted_start, prefix_judged, carry_on_done, carry_on-kept}

module _ (tests : List (ℕ × Bool)) (s : Search) (arc : ℕ → ℕ → Bool) (n : ℕ) where
  -- what is carried on from a start that carry-on lets through
  carried : (t out : List ℕ) (k : ℕ) → StartOf tests s arc n t out k → CarriedOn s arc n t out k (carry_on s arc n t out k)
  carried t out k x =
      let start = x.lists.start in
      carry_on_carries s arc n t x.lists.tie_break out k start.long (ordering_fits n start) (passes_greedy s arc n out k start x.passing)

  module _ (valid : Accepts tests) (w : List ℕ) (m : ℕ) (o : IsOrdering n w m) (t out : List ℕ) (names : IsFullOrdering n t)
      (room : n ≤ length out) (front : take m out ≡ take m w) (p : judge s arc n w m ≡ passes) where
    pub part_start : StartOf tests s arc n t out m
    part_start =
        let a = begins_agree m w out o.long front in
        record {
          lists = record { valid = valid; room = room; tie_break = names; start = ordering_agree n out a.0 (agree_sym m out w a.1) o };
          passing = judge_agree s arc n m out w a.1 ∙ p;
        }

    pub first_entries : take n (output_of tests s arc n t out m) ≡ carry_on s arc n t out m
    first_entries =
        ap (λ (l : List ℕ). take n l) (carry_on_done tests s arc n t out m (start_accepted tests s arc n t out m part_start))
        ∙ take_at (carry_on s arc n t out m) (drop n out) n (carried t out m part_start).full.full

    pub part_carried : (carry_on_of tests s arc n t out m ≡ none) × CarriedOn s arc n t w m (take n (output_of tests s arc n t out m))
    unfolding carry_on_of
    part_carried =
        let c = carried t out m part_start in (
          accepts_none (carry_on_tests_of tests s arc n t out m) (start_accepted tests s arc n t out m part_start),
          subst (λ (r : List ℕ). CarriedOn s arc n t w m r) (sym first_entries)
              (record { full = c.full; begins = c.begins ∙ front; passing = c.passing; chosen = c.chosen }),
        )

  -- ---- what carry-on leaves as it was

  -- the first k entries, the entries from n on and the length, for every input
  pub output_kept : (t out : List ℕ) (k : ℕ)
      → (take k (output_of tests s arc n t out k) ≡ take k out) × (drop n (output_of tests s arc n t out k) ≡ drop n out)
      × (length (output_of tests s arc n t out k) ≡ length out)
  output_kept t out k = go (accepts_or_refuses (carry_on_tests_of tests s arc n t out k))
    where
      go : Accepts (carry_on_tests_of tests s arc n t out k) ⊎ ((r : ℕ) × Refuses r (carry_on_tests_of tests s arc n t out k))
          → (take k (output_of tests s arc n t out k) ≡ take k out) × (drop n (output_of tests s arc n t out k) ≡ drop n out)
          × (length (output_of tests s arc n t out k) ≡ length out)
      go (inl a) =
          let x = accepted_start tests s arc n t out k a in
          let r = carry_on s arc n t out k in
          let fits = ordering_fits n x.lists.start in
          let c = carried t out k x in
          let e : output_of tests s arc n t out k ≡ r ++ drop n out = carry_on_done tests s arc n t out k a in
          let full : length r ≡ n = c.full.full in (
            ap (λ (l : List ℕ). take k l) e ∙ take-append-le k r (drop n out) (omega arith) ∙ c.begins,
            ap (λ (l : List ℕ). drop n l) e ∙ drop_at r (drop n out) n full,
            ap length e ∙ length-append r (drop n out) ∙ omega (arith, full, length-drop n out, x.lists.room),
          )
      go (inr x) =
          let e = carry_on-kept tests s arc n t out k x.0 x.1 in
          (ap (λ (l : List ℕ). take k l) e, ap (λ (l : List ℕ). drop n l) e, ap length e)

  -- ---- the reversed walk

  module _ (valid : Accepts tests) (w : List ℕ) (all : IsFullOrdering n w) (out : List ℕ) (room : n ≤ length out) where
    nothing_placed : IsOrdering n out 0
    nothing_placed = record { long = omega arith; vertices = λ p l. absurd (omega arith); distinct = λ p q h l. absurd (omega arith) }

    empty_passes : judge s arc n out 0 ≡ passes
    empty_passes = greedy_passes s arc n out 0 (omega arith) (λ j l. absurd (omega arith))

    whole : judge_of tests s arc n w ≡ judge s arc n w n
    whole =
        ap (λ (l : List ℕ). judge_of tests s arc n l) (sym (take_all n w (omega (arith, all.full))))
        ∙ prefix_judged tests s arc n w n valid all.ordering

    written : take n (output_of tests s arc n (reverse w) out 0) ≡ carry_on s arc n (reverse w) [] 0
    unfolding carry_on
    written = first_entries valid out 0 nothing_placed (reverse w) out (reverse_full n w all) room refl empty_passes

    pub passes_written_again : judge_of tests s arc n w ≡ passes → take n (output_of tests s arc n (reverse w) out 0) ≡ w
    passes_written_again p = written ∙ passes_comes_back n w all s arc (sym whole ∙ p)

    pub written_again_passes : take n (output_of tests s arc n (reverse w) out 0) ≡ w → judge_of tests s arc n w ≡ passes
    written_again_passes e = whole ∙ comes_back_passes n w all s arc (sym written ∙ e)
