-- A loop that looks for the last number below m at which f holds, from the top down.
--   Closed m f q                  f holds at none of the numbers from q up
--   closed_start, closed_next     where the loop begins, and after a turn at which f does not hold
--   last_found, last_unfound      what is then known of last_below
-- Assumes nothing.
use mathlib.Core.Path.{◌≡◌, sym, subst}
use mathlib.Core.Bool.{Bool, true, false}
use mathlib.Core.Logic.{◌⊎◌, inl, inr}
use Prim.Native.Nat.{ℕ, suc, ◌≤◌, ◌<◌}
use native.Mathlib.Omega.{arith}
use lib.Dec.{T}
use Rattle.bitset.specs.Below.{last_below}
use Rattle.bitset.proofs.Tests.{below_or}
use Rattle.bitset.proofs.Below.{last_unique, last_none}

module _ (m : ℕ) (f : ℕ → Bool) where
  pub record Closed (q : ℕ) : Type 0 where
    pub none : (x : ℕ) → q ≤ x → x < m → T (f x) → ⊥

  pub closed_start : {q : ℕ} → m ≤ q → Closed q
  closed_start l = record { none = λ x g h t. omega arith }

  pub closed_next : (q r : ℕ) → Closed r → r ≡ suc q → f q ≡ false → Closed q
  closed_next q r c e out = record { none = λ x g h t. go x g h t (below_or x r) }
    where
      go : (x : ℕ) → q ≤ x → x < m → T (f x) → (x < r) ⊎ (r ≤ x) → ⊥
      go x g h t (inl l) = let same : x ≡ q = omega arith in subst (λ (b : Bool). T b) out (subst (λ (y : ℕ). T (f y)) same t)
      go x g h t (inr l) = c.none x l h t

  pub last_found : (q r : ℕ) → Closed r → r ≡ suc q → q < m → f q ≡ true → q ≡ last_below m f
  last_found q r c e l holds = last_unique (record {
    below = l;
    holds = subst (λ (b : Bool). T b) (sym holds) tt;
    greatest = λ i h t. under i h t (below_or i r);
  })
    where
      under : (i : ℕ) → i < m → T (f i) → (i < r) ⊎ (r ≤ i) → i ≤ q
      under i h t (inl g) = omega arith
      under i h t (inr g) = absurd (c.none i g h t)

  pub last_unfound : {q : ℕ} → Closed q → q ≡ 0 → 0 ≡ last_below m f
  last_unfound {q} c e = sym (last_none m f (λ i l t. c.none i (omega arith) l t))
