-- The verdict from the replay, over any graph: it stops at the middle of the first violation.
--   offered_unless_stopped, stops_middle    the replay stops at a vertex that is not offered: the middle of a violation
--   first_before                            the search for the first vertex comes to an end there
--   judge_passes, judge_fails               and the verdict is what the searches for the first and the third vertex find
-- Assumes nothing.
use mathlib.Core.Path.{◌≡◌, sym, ap, ap₂, ◌∙◌, subst}
use mathlib.Core.Bool.{Bool, not, ◌&&◌}
use mathlib.Core.List.{List}
use Prim.Native.Nat.{ℕ, ◌+◌, ◌≤◌, ◌<◌}
use native.Mathlib.Omega.{arith}
use lib.Dec.{T, ltb, ltb→lt, lt→ltb, not_T, T_not}
use Rattle.bitset.specs.Below.{first_below}
use Rattle.bitset.proofs.Tests.{not_not, same_test, is_true, cond_yes, cond_no}
use Rattle.bitset.proofs.Below.{any_out, first, first_found, first_same as first-same-test}
use Rattle.searches.specs.Kind.{Search}
use Rattle.searches.specs.Ordering.{at, placed, IsOrdering}
use Rattle.searches.specs.Run.{offered}
use Rattle.searches.specs.Violation.{Verdict, passes, fails, third, is_last, is_first, is_middle, judge}
use Rattle.searches.proofs.Ordering.{ordering_unplaced}
use Rattle.searches.proofs.Judge.{third_vertex, middle_met as middle-found}
use Rattle.searches.proofs.Violations.{violates_out, violation_refutes, ViolatedAt, unoffered_violation}
use Rattle.wide.specs.Steps.{beats, beaten, stops}

module _ (s : Search) (arc : ℕ → ℕ → Bool) (n : ℕ) (w : List ℕ) (k : ℕ) (o : IsOrdering n w k) where
  middle_out : (j : ℕ) → j < k → T (is_middle s arc n w k j) → ViolatedAt s arc w n k j
  unfolding is_middle is_first is_last
  middle_out j l t =
      let x = any_out j (is_first s arc n w k j) t in
      let y = any_out (k + n) (is_last s arc n w k j x.at) x.holds in
      record {
        i = x.at;
        c = third w k y.at;
        is = violates_out s arc w x.at j (third w k y.at) n k x.below l (third_vertex w k n o.vertices y.at y.below) y.holds;
      }

  pub offered_unless_stopped : (j : ℕ) → j < k → offered s arc n w j (at w j) ≡ not (stops s arc n w j)
  unfolding stops beaten beats offered
  offered_unless_stopped j l =
      ap₂ (λ (x y : Bool). x && y && not (stops s arc n w j)) (is_true (ltb (at w j) n) (lt→ltb (at w j) n (o.vertices j l)))
      (is_true (not (placed w j (at w j))) (not_T (placed w j (at w j)) (ordering_unplaced n o j l)))

  pub stops_middle : (j : ℕ) → j < k → stops s arc n w j ≡ is_middle s arc n w k j
  stops_middle j l =
      same_test (stops s arc n w j) (is_middle s arc n w k j)
      (λ t. middle-found s arc n w k (unoffered_violation s arc w n o j l
      (λ x. T_not (stops s arc n w j) (subst (λ (b : Bool). T b) (offered_unless_stopped j l) x) t)).is)
      (λ t. not_not (stops s arc n w j) (not_T (not (stops s arc n w j))
      (λ x. violation_refutes s arc w n (middle_out j l t).is (subst (λ (b : Bool). T b) (sym (offered_unless_stopped j l)) x))))

  same_middle : first_below k (stops s arc n w) ≡ first_below k (is_middle s arc n w k)
  same_middle = first-same-test k (stops s arc n w) (is_middle s arc n w k) stops_middle

  pub judge_passes : k ≤ first_below k (stops s arc n w) → judge s arc n w k ≡ passes
  unfolding judge
  judge_passes l =
      let j = first_below k (is_middle s arc n w k) in
      cond_no (ltb j k) _ passes (λ t. omega (arith, same_middle, ltb→lt j k t))

  module _ (j : ℕ) (stopped : j ≡ first_below k (stops s arc n w)) (l : j < k) where
    -- the middle vertex is met
    pub middle_met : T (is_middle s arc n w k j)
    middle_met = subst (λ (x : ℕ). T (is_middle s arc n w k x)) (sym (stopped ∙ same_middle)) ((first k (is_middle s arc n w k)).holds (omega (arith, same_middle)))

    module _ (i : ℕ) (starts : i ≡ first_below j (is_first s arc n w k j)) where
      pub first_before : i < j
      unfolding is_middle
      first_before = omega (arith, starts, first_found (any_out j (is_first s arc n w k j) middle_met))

      pub judge_fails : judge s arc n w k ≡ fails (at w i) (at w j) (third w k (first_below (k + n) (is_last s arc n w k j i)))
      unfolding judge
      judge_fails =
          cond_yes (ltb m k) (from m) passes (lt→ltb m k (omega (arith, same_middle))) ∙ ap from (sym (stopped ∙ same_middle))
          ∙ ap (λ (x : ℕ). fails (at w x) (at w j) (third w k (first_below (k + n) (is_last s arc n w k j x)))) (sym starts)
        where
          m : ℕ
          m = first_below k (is_middle s arc n w k)

          -- the verdict from the position of the middle vertex
          from : ℕ → Verdict
          from x =
              let a = first_below x (is_first s arc n w k x) in
              fails (at w a) (at w x) (third w k (first_below (k + n) (is_last s arc n w k x a)))
