-- A loop that looks for the first number below n at which f holds, from 0 up.
--   Passed n f i      f holds at none of the numbers below i, and i is at most n
--   passed_start, passed_more     where the loop begins, and after a turn at which f does not hold
--   any_found, any_unfound        what is then known of any_below
--   first_found, first_unfound    what is then known of first_below
--   some_found, none_found        the first number is below n exactly when f holds at some
-- Assumes nothing.
use mathlib.Core.Path.{◌≡◌, sym, subst}
use mathlib.Core.Bool.{Bool, true, false}
use mathlib.Core.Logic.{◌⊎◌, inl, inr}
use Prim.Native.Nat.{ℕ, ◌+◌, ◌≤◌, ◌<◌}
use native.Mathlib.Numerals.{add-one}
use native.Mathlib.Omega.{arith}
use lib.Dec.{T}
use Rattle.bitset.specs.Below.{any_below, first_below}
use Rattle.bitset.proofs.Tests.{is_true, is_false, below_suc}
use Rattle.bitset.proofs.Below as below
use Rattle.bitset.proofs.Below.{any_out, any_at, first, first_unique}

pub record Passed (n : ℕ) (f : ℕ → Bool) (i : ℕ) : Type 0 where
  pub within : i ≤ n
  pub none : (x : ℕ) → x < i → T (f x) → ⊥

pub passed_start : (n : ℕ) (f : ℕ → Bool) → Passed n f 0
passed_start n f = record { within = omega arith; none = λ x l. absurd (omega arith) }

pub passed_more : {n : ℕ} {f : ℕ → Bool} {i : ℕ} → Passed n f i → i < n → f i ≡ false → Passed n f (i + 1)
passed_more {n} {f} {i} p l fails = record { within = omega arith; none = λ x h t. go (below_suc i x (subst (λ (m : ℕ). x < m) (add-one i) h)) t }
  where
    go : {x : ℕ} → (x < i) ⊎ (x ≡ i) → T (f x) → ⊥
    go {x} (inl h) t = p.none x h t
    go (inr same) t = subst (λ (b : Bool). T b) fails (subst (λ (y : ℕ). T (f y)) same t)

pub any_found : (n : ℕ) (f : ℕ → Bool) {i : ℕ} → i < n → f i ≡ true → true ≡ any_below n f
any_found n f {i} l holds = sym (is_true (any_below n f) (any_at n f i l (subst (λ (b : Bool). T b) (sym holds) tt)))

pub any_unfound : {n : ℕ} {f : ℕ → Bool} {i : ℕ} → Passed n f i → n ≤ i → false ≡ any_below n f
any_unfound {n} {f} {i} p l =
    sym (is_false (any_below n f) (λ t. let s = any_out n f t in p.none s.at (omega (arith, s.below)) s.holds))

pub first_found : {n : ℕ} {f : ℕ → Bool} {i : ℕ} → Passed n f i → f i ≡ true → i ≡ first_below n f
first_found {n} {f} {i} p holds = first_unique (record { within = p.within; holds = λ _. subst (λ (b : Bool). T b) (sym holds) tt; least = p.none })

pub first_unfound : {n : ℕ} {f : ℕ → Bool} {i : ℕ} → Passed n f i → n ≤ i → n ≡ first_below n f
first_unfound {n} {f} {i} p l =
    first_unique (record { within = omega arith; holds = λ h. absurd (omega arith); least = λ x h. p.none x (omega arith) })

-- ---- what a search that found something, or nothing, says

pub some_found : (n : ℕ) (f : ℕ → Bool) (r : ℕ) → r ≡ first_below n f → r < n → T (any_below n f)
some_found n f r e l =
    let h : first_below n f < n = omega arith in
    any_at n f (first_below n f) h ((first n f).holds h)

pub none_found : (n : ℕ) (f : ℕ → Bool) (r : ℕ) → r ≡ first_below n f → n ≤ r → T (any_below n f) → ⊥
none_found n f r e l t = omega (arith, e, below.first_found (any_out n f t))
