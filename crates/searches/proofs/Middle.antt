-- A placed vertex was offered unless it is the middle of a violation; among the kept vertices too.
--   middle_out           is_middle: a violation has its middle there
--   offered_unless_middle, kept_unless_middle
-- Assumes nothing.
use mathlib.Core.Path.{◌≡◌, sym, ap, ◌∙◌}
use mathlib.Core.Bool.{Bool, not, ◌&&◌}
use mathlib.Core.List.{List}
use Prim.Native.Nat.{ℕ, ◌+◌, ◌<◌}
use native.Mathlib.Omega.{arith}
use lib.Dec.{T, not_T, T_not}
use Rattle.bitset.specs.Below.{count_below}
use Rattle.bitset.proofs.Tests.{same_test, is_true, not_not}
use Rattle.bitset.proofs.Below.{any_out}
use Rattle.searches.specs.Kind.{Search}
use Rattle.searches.specs.Ordering.{at, IsOrdering}
use Rattle.searches.specs.Run.{offered}
use Rattle.searches.specs.Violation.{third, is_last, is_first, is_middle}
use Rattle.searches.proofs.Ordering.{ordering_prefix}
use Rattle.searches.proofs.Judge.{third_vertex, middle_met}
use Rattle.searches.proofs.Violations.{violates_out, violation_refutes, ViolatedAt, unoffered_violation}
use Rattle.searches.specs.Without.{number_of, numbered, arcs_of, offered_without}
use Rattle.searches.proofs.Kept.{kept_middle, offered_kept}
use Rattle.searches.proofs.Renumbered.{numbered_at, numbered_ordering}
use Rattle.searches.proofs.OfferedKept.{offered_kept_lem}
use Rattle.searches.proofs.JudgeKept.{middle_kept}

module _ (s : Search) (arc : ℕ → ℕ → Bool) (n : ℕ) (w : List ℕ) (k : ℕ) (o : IsOrdering n w k) (j : ℕ) (l : j < k) where
  middle_out : T (is_middle s arc n w k j) → ViolatedAt s arc w n k j
  unfolding is_middle is_first is_last
  middle_out t =
      let x = any_out j (is_first s arc n w k j) t in
      let y = any_out (k + n) (is_last s arc n w k j x.at) x.holds in
      record {
        i = x.at;
        c = third w k y.at;
        is = violates_out s arc w x.at j (third w k y.at) n k x.below l (third_vertex w k n o.vertices y.at y.below) y.holds;
      }

  offered_unless_middle : offered s arc n w j (at w j) ≡ not (is_middle s arc n w k j)
  offered_unless_middle =
      let test = offered s arc n w j (at w j) in
      let middle = is_middle s arc n w k j in
      same_test test (not middle) (λ t. not_T middle (λ m. violation_refutes s arc w n (middle_out m).is t))
      (λ t. not_not test (not_T (not test) (λ out. T_not middle t (middle_met s arc n w k (unoffered_violation s arc w n o j l (T_not test out)).is))))

module _ (s : Search) (arc : ℕ → ℕ → Bool) (n : ℕ) (kept : ℕ → Bool) (w : List ℕ) (k : ℕ) (o : IsOrdering n w k) (stays : (p : ℕ) → p < k → T (kept (at w p))) where
  pub kept_unless_middle : (j : ℕ) → j < k → offered_kept s arc n kept w j (at w j) ≡ not (kept_middle s arc n kept w k j)
  unfolding offered_without
  kept_unless_middle j l =
      let n' = count_below n kept in
      let arc' = arcs_of n kept arc in
      let w' = numbered kept w in
      sym (offered_kept_lem s arc n kept w j (ordering_prefix n j (omega arith) o) (λ p h. stays p (omega arith)) (at w j))
      ∙ ap (λ (b : Bool). b && offered s arc' n' w' j (number_of kept (at w j))) (is_true (kept (at w j)) (stays j l))
      ∙ ap (offered s arc' n' w' j) (sym ((numbered_at kept w k o.long stays).1 j l))
      ∙ offered_unless_middle s arc' n' w' k (numbered_ordering n kept w k o stays) j l ∙ ap not (middle_kept s arc n kept w k o stays j l)
