-- A graph without some of its vertices. `kept` says which stay; they get new numbers in ascending order.
--   number_of kept v           the new number of v: how many kept vertices are below it                              [02, K8: renumbered]
--   name_of n kept i           the kept vertex below n whose new number is i; n where there is none                  [02, K8: named back]
--   arcs_of n kept arc         the arcs among the kept vertices, by their new numbers
--   numbered kept w           the kept vertices of a list, by their new numbers; the others are passed over
--   named n kept w            a list of new numbers, named back;   named_verdict   a verdict likewise
--   IsKeptOrdering n kept w k   the first k positions of w hold k distinct kept vertices of n
--   judge_without, offered_without, compared_without, carry_on_without   what judge, offered, the comparison and carry-on answer of the graph without the
--                             others, its vertices named back                                                       [02: K8]
--   FirstKept s arc n kept w k a b c   of the violations in the whole graph whose c is kept, one that precedes all others
use Rattle.std.specs.Prelude.{ℕ, ◌<◌, ◌≡◌, ◌⊎◌, Bool, cond, ◌&&◌, List, [], ◌∷◌, map, T, eqb}
use Rattle.bitset.specs.Below.{count_below, first_below}
use Rattle.searches.specs.Kind.{Search}
use Rattle.searches.specs.Ordering.{at, IsOrdering}
use Rattle.searches.specs.Label.{label}
use Rattle.searches.specs.Comparison.{compared}
use Rattle.searches.specs.Run.{offered}
use Rattle.searches.specs.Violation.{Violates, Precedes, Verdict, passes, fails, refused, judge}
use Rattle.searches.specs.CarryOn.{carry_on}
use Rattle.searches.specs.declared.Comparison.{Comparison}

unfoldable pub number_of : (ℕ → Bool) → ℕ → ℕ
number_of kept v = count_below v kept

unfoldable pub name_of : ℕ → (ℕ → Bool) → ℕ → ℕ
name_of n kept i = first_below n (λ v. kept v && eqb (number_of kept v) i)

unfoldable pub numbered : (ℕ → Bool) → List ℕ → List ℕ
numbered kept [] = []
numbered kept (v ∷ w) = let rest = numbered kept w in cond (kept v) (number_of kept v ∷ rest) rest

module _ (n : ℕ) (kept : ℕ → Bool) where
  unfoldable pub arcs_of : (ℕ → ℕ → Bool) → ℕ → ℕ → Bool
  arcs_of arc i j = arc (name_of n kept i) (name_of n kept j)

  unfoldable pub named : List ℕ → List ℕ
  named w = map (name_of n kept) w

  unfoldable pub named_verdict : Verdict → Verdict
  named_verdict passes = passes
  named_verdict (fails a b c) = fails (name_of n kept a) (name_of n kept b) (name_of n kept c)
  named_verdict (refused r) = refused r

pub record IsKeptOrdering (n : ℕ) (kept : ℕ → Bool) (w : List ℕ) (k : ℕ) : Type 0 where
  pub ordering : IsOrdering n w k
  pub stays : (p : ℕ) → p < k → T (kept (at w p))

module _ (s : Search) (arc : ℕ → ℕ → Bool) (n : ℕ) (kept : ℕ → Bool) where
  unfoldable pub judge_without : List ℕ → ℕ → Verdict
  judge_without w k = named_verdict n kept (judge s (arcs_of n kept arc) (count_below n kept) (numbered kept w) k)

  unfoldable pub offered_without : List ℕ → ℕ → ℕ → Bool
  offered_without w k v = kept v && offered s (arcs_of n kept arc) (count_below n kept) (numbered kept w) k (number_of kept v)

  unfoldable pub compared_without : List ℕ → ℕ → ℕ → ℕ → Comparison
  compared_without w k u v =
      compared s k (label (arcs_of n kept arc) (numbered kept w) (number_of kept u)) (label (arcs_of n kept arc) (numbered kept w) (number_of kept v))

  unfoldable pub carry_on_without : List ℕ → List ℕ → ℕ → List ℕ
  carry_on_without t w k = named n kept (carry_on s (arcs_of n kept arc) (count_below n kept) (numbered kept t) (numbered kept w) k)

pub record FirstKept (s : Search) (arc : ℕ → ℕ → Bool) (n : ℕ) (kept : ℕ → Bool) (w : List ℕ) (k a b c : ℕ) : Type 0 where
  pub i : ℕ
  pub j : ℕ
  pub is : Violates s arc n w k i j c
  pub stays : T (kept c)
  pub a_stands : at w i ≡ a
  pub b_stands : at w j ≡ b
  pub others_later : (i' j' c' : ℕ) → Violates s arc n w k i' j' c' → T (kept c') → ((i' ≡ i) × (j' ≡ j) × (c' ≡ c)) ⊎ Precedes w k i j c i' j' c'
