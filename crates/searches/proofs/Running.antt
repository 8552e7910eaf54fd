-- The running values of a vertex, over any ordering: what they are after each placing, and what a placing changes.
--   unchanged_unless_grown             a placing changes them only where the label grows
--   smallest_stays                     the smallest only where there was none
--   smallest_begins, largest_moves     what it is then changed to
--   smallest_found, largest_found      smallest_in and largest_in of a label that is not empty;   smallest_absent, largest_absent   of an empty one
--   keeps_smallest, keeps_largest        after each placing they are the smallest and the largest position in the label
--   smallest_none, largest_none        there is none exactly when the label is empty
-- Assumes nothing.
use mathlib.Core.Path.{◌≡◌, sym, ap, ap₂, ◌∙◌, subst}
use mathlib.Core.Bool.{Bool, true, false, cond, not, ◌||◌}
use mathlib.Core.Logic.{◌⊎◌, inl, inr, ◌↔◌}
use mathlib.Core.List.{List}
use mathlib.Core.Option.{Option, none, some}
use Prim.Native.Nat.{ℕ, zero, suc, ◌<◌, ◌≤◌}
use native.Mathlib.Omega.{arith}
use lib.Dec.{T, not_T, T_not}
use Rattle.bitset.specs.Below.{any_below, first_below, last_below}
use Rattle.bitset.proofs.Tests.{decided, is_false, cond_yes, cond_no}
use Rattle.bitset.proofs.Below.{Some, any_out, any_at, first, first_found, first_unique, last_unique}
use Rattle.searches.specs.Label.{label, empty}
use Rattle.searches.specs.Running.{smallest_in, largest_in, keep_first, running_smallest, running_largest}

-- ---- the smallest and the largest position of a label

module _ (k : ℕ) (f : ℕ → Bool) where
  found : (x : ℕ) → T (any_below k f) → cond (empty k f) none (some x) ≡ some x
  unfolding empty
  found x t = cond_no (not (any_below k f)) none (some x) (λ e. T_not (any_below k f) e t)

  absent : (x : ℕ) → (T (any_below k f) → ⊥) → cond (empty k f) none (some x) ≡ none
  unfolding empty
  absent x out = cond_yes (not (any_below k f)) none (some x) (not_T (any_below k f) out)

  pub smallest_found : T (any_below k f) → smallest_in k f ≡ some (first_below k f)
  unfolding smallest_in
  smallest_found t = found (first_below k f) t

  pub smallest_absent : (T (any_below k f) → ⊥) → smallest_in k f ≡ none
  unfolding smallest_in
  smallest_absent out = absent (first_below k f) out

  pub largest_found : T (any_below k f) → largest_in k f ≡ some (last_below k f)
  unfolding largest_in
  largest_found t = found (last_below k f) t

  pub largest_absent : (T (any_below k f) → ⊥) → largest_in k f ≡ none
  unfolding largest_in
  largest_absent out = absent (last_below k f) out

nothing_below : {f : ℕ → Bool} → Some 0 f → ⊥
nothing_below x = omega (arith, x.below)

-- a value that is none where a label is empty, and a position where it is not
none_exactly : (k : ℕ) (f : ℕ → Bool) (x : ℕ) {kept : Option ℕ} → kept ≡ cond (empty k f) none (some x)
    → (kept ≡ none) ↔ T (empty k f)
none_exactly k f x {kept} e = (λ gone. go (decided (empty k f)) (sym e ∙ gone), λ t. e ∙ cond_yes (empty k f) none (some x) t)
  where
    vacant : Option ℕ → Bool
    vacant none = true
    vacant (some y) = false

    go : T (empty k f) ⊎ (T (empty k f) → ⊥) → cond (empty k f) none (some x) ≡ none → T (empty k f)
    go (inl t) gone = t
    go (inr out) gone = absurd (subst (λ (y : Option ℕ). T (vacant y)) (sym (sym (cond_no (empty k f) none (some x) out) ∙ gone)) tt)

module _ (arc : ℕ → ℕ → Bool) (w : List ℕ) (v : ℕ) where
  -- ---- what a placing changes

  -- a placing changes the running values only where the label grows
  pub unchanged_unless_grown : (k : ℕ) → (T (label arc w v k) → ⊥)
      → (running_smallest arc w v (suc k) ≡ running_smallest arc w v k) × (running_largest arc w v (suc k) ≡ running_largest arc w v k)
  unfolding running_smallest running_largest
  unchanged_unless_grown k out = (cond_no (label arc w v k) _ _ out, cond_no (label arc w v k) _ _ out)

  pub smallest_begins : (k : ℕ) → T (label arc w v k) → running_smallest arc w v k ≡ none → running_smallest arc w v (suc k) ≡ some k
  unfolding running_smallest keep_first
  smallest_begins k t e = cond_yes (label arc w v k) _ _ t ∙ ap (λ (x : Option ℕ). keep_first x k) e

  pub largest_moves : (k : ℕ) → T (label arc w v k) → running_largest arc w v (suc k) ≡ some k
  unfolding running_largest
  largest_moves k t = cond_yes (label arc w v k) _ _ t

  -- the smallest is changed only where there was none
  pub smallest_stays : (k p : ℕ) → running_smallest arc w v k ≡ some p → running_smallest arc w v (suc k) ≡ some p
  unfolding running_smallest keep_first
  smallest_stays k p e = go (decided (label arc w v k))
    where
      go : T (label arc w v k) ⊎ (T (label arc w v k) → ⊥) → running_smallest arc w v (suc k) ≡ some p
      go (inl t) = cond_yes (label arc w v k) _ _ t ∙ ap (λ (x : Option ℕ). keep_first x k) e
      go (inr out) = (unchanged_unless_grown k out).0 ∙ e

  -- ---- what they are after each placing

  -- a label that does not grow is empty exactly if it was
  same_some : (k : ℕ) → (T (label arc w v k) → ⊥) → any_below (suc k) (label arc w v) ≡ any_below k (label arc w v)
  unfolding any_below
  same_some k out = ap (λ (b : Bool). b || any_below k (label arc w v)) (is_false (label arc w v k) out)

  -- the first position stays the first
  first_stays : (k : ℕ) → T (any_below k (label arc w v)) → first_below k (label arc w v) ≡ first_below (suc k) (label arc w v)
  first_stays k t =
      let f = label arc w v in
      let l = first_found (any_out k f t) in
      first_unique (record { within = omega arith; holds = λ _. (first k f).holds l; least = (first k f).least })

  -- after each placing the running smallest is the smallest position in the label
  pub keeps_smallest : (k : ℕ) → running_smallest arc w v k ≡ smallest_in k (label arc w v)
  unfolding running_smallest
  keeps_smallest zero = sym (smallest_absent 0 (label arc w v) (λ t. nothing_below (any_out 0 (label arc w v) t)))
  keeps_smallest (suc k) = go (keeps_smallest k) (decided (label arc w v k)) (decided (any_below k (label arc w v)))
    where
      f : ℕ → Bool
      f = label arc w v

      go : running_smallest arc w v k ≡ smallest_in k f → T (f k) ⊎ (T (f k) → ⊥) → T (any_below k f) ⊎ (T (any_below k f) → ⊥)
          → running_smallest arc w v (suc k) ≡ smallest_in (suc k) f
      go kept here (inl t) =
          let x = any_out k f t in
          smallest_stays k (first_below k f) (kept ∙ smallest_found k f t) ∙ ap some (first_stays k t)
          ∙ sym (smallest_found (suc k) f (any_at (suc k) f x.at (omega (arith, x.below)) x.holds))
      go kept (inl t) (inr out) =
          smallest_begins k t (kept ∙ smallest_absent k f out)
          ∙ ap some (first_unique (record { within = omega arith; holds = λ _. t; least = λ i l p. out (any_at k f i l p) }))
          ∙ sym (smallest_found (suc k) f (any_at (suc k) f k (omega arith) t))
      go kept (inr same) (inr out) =
          (unchanged_unless_grown k same).0 ∙ kept ∙ smallest_absent k f out
          ∙ sym (smallest_absent (suc k) f (λ t. out (subst (λ (b : Bool). T b) (same_some k same) t)))

  -- after each placing the running largest is the largest position in the label
  pub keeps_largest : (k : ℕ) → running_largest arc w v k ≡ largest_in k (label arc w v)
  unfolding running_largest largest_in empty last_below
  keeps_largest zero = sym (largest_absent 0 (label arc w v) (λ t. nothing_below (any_out 0 (label arc w v) t)))
  keeps_largest (suc k) = go (keeps_largest k) (decided (label arc w v k))
    where
      f : ℕ → Bool
      f = label arc w v

      upto : (i : ℕ) → i < suc k → i ≤ k
      upto i l = omega arith

      go : running_largest arc w v k ≡ largest_in k f → T (f k) ⊎ (T (f k) → ⊥) → running_largest arc w v (suc k) ≡ largest_in (suc k) f
      go kept (inl t) =
          largest_moves k t ∙ ap some (last_unique {n = suc k} {f = f} {m = k} (record { below = omega arith; holds = t; greatest = λ i l p. upto i l }))
          ∙ sym (largest_found (suc k) f (any_at (suc k) f k (omega arith) t))
      go kept (inr same) =
          (unchanged_unless_grown k same).1 ∙ kept
          ∙ ap₂ (λ (b : Bool) (x : ℕ). cond (not b) none (some x)) (sym (same_some k same)) (sym (cond_no (f k) k (last_below k f) same))

  -- there is none exactly when the label is empty
  pub smallest_none : (k : ℕ) → (running_smallest arc w v k ≡ none) ↔ T (empty k (label arc w v))
  unfolding smallest_in
  smallest_none k = none_exactly k (label arc w v) (first_below k (label arc w v)) (keeps_smallest k)

  pub largest_none : (k : ℕ) → (running_largest arc w v k ≡ none) ↔ T (empty k (label arc w v))
  unfolding largest_in
  largest_none k = none_exactly k (label arc w v) (last_below k (label arc w v)) (keeps_largest k)
