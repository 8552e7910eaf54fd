-- Judge, offered and carry-on on the whole graph, with only the kept vertices looked at: what a search computes that never frees the others.
--   kept_last, kept_first, kept_middle   is_last, is_first, is_middle, with a third vertex that is kept
--   judge_kept, offered_kept            judge and offered so
--   choice_kept, grow_kept, carry_on_kept choice, grow and carry_on so
-- Assumes nothing.
use Prim.Native.Nat.{ℕ, zero, suc, ◌+◌, ◌-◌}
use mathlib.Core.Bool.{Bool, cond, not, ◌&&◌}
use mathlib.Core.List.{List, [], ◌∷◌, ◌++◌}
use lib.Dec.{ltb}
use lib.ListN.{length, take}
use Rattle.bitset.specs.Below.{any_below, first_below, last_below, count_below}
use Rattle.searches.specs.Kind.{Search}
use Rattle.searches.specs.Ordering.{at, placed}
use Rattle.searches.specs.Label.{label, outranks}
use Rattle.searches.specs.Violation.{Verdict, passes, fails, third, is_last}

module _ (s : Search) (arc : ℕ → ℕ → Bool) (n : ℕ) (kept : ℕ → Bool) (w : List ℕ) (k : ℕ) where
  unfoldable pub kept_last : ℕ → ℕ → ℕ → Bool
  kept_last j i e = kept (third w k e) && is_last s arc n w k j i e

  unfoldable pub kept_first : ℕ → ℕ → Bool
  kept_first j i = any_below (k + n) (kept_last j i)

  unfoldable pub kept_middle : ℕ → Bool
  kept_middle j = any_below j (kept_first j)

  unfoldable pub judge_kept : Verdict
  judge_kept =
      let j = first_below k kept_middle in
      let i = first_below j (kept_first j) in
      let e = first_below (k + n) (kept_last j i) in
      let shown = fails (at w i) (at w j) (third w k e) in
      cond (ltb j k) shown passes

  unfoldable pub offered_kept : ℕ → Bool
  offered_kept v =
      kept v
      && (ltb v n && not (placed w k v)
      && not (any_below n (λ u. kept u && (not (placed w k u) && outranks s k (label arc w u) (label arc w v)))))

module _ (s : Search) (arc : ℕ → ℕ → Bool) (n : ℕ) (kept : ℕ → Bool) (t : List ℕ) where
  unfoldable pub choice_kept : List ℕ → ℕ → ℕ
  choice_kept w k = at t (last_below (length t) (λ q. offered_kept s arc n kept w k (at t q)))

  unfoldable pub grow_kept : ℕ → List ℕ → List ℕ
  grow_kept zero w = w
  grow_kept (suc m) w = grow_kept m (w ++ choice_kept w (length w) ∷ [])

  unfoldable pub carry_on_kept : List ℕ → ℕ → List ℕ
  carry_on_kept w k = grow_kept (count_below n kept - k) (take k w)
