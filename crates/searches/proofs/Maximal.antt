-- A set of numbers below n under a strict order has a maximal one, unless it is empty.
-- Assumes nothing.
use mathlib.Core.Path.{◌≡◌, subst}
use mathlib.Core.Bool.{Bool}
use mathlib.Core.Logic.{◌⊎◌, inl, inr}
use Prim.Native.Nat.{ℕ, zero, suc, ◌<◌}
use native.Mathlib.Omega.{arith}
use lib.Dec.{T}
use Rattle.bitset.proofs.Tests.{decided, below_suc}

-- a number below n in f, with none of f above it
pub record Maximal (above : ℕ → ℕ → Bool) (n : ℕ) (f : ℕ → Bool) : Type 0 where
  pub at : ℕ
  pub below : at < n
  pub holds : T (f at)
  pub topmost : (x : ℕ) → x < n → T (f x) → T (above x at) → ⊥

module _ (above : ℕ → ℕ → Bool) (irreflexive : (x : ℕ) → T (above x x) → ⊥)
    (transitive : (x y z : ℕ) → T (above x y) → T (above y z) → T (above x z)) where
  pub some_maximal : (n : ℕ) (f : ℕ → Bool) → Maximal above n f ⊎ ((x : ℕ) → x < n → T (f x) → ⊥)
  some_maximal zero f = inr (λ x l. absurd (omega arith))
  some_maximal (suc n) f = go (some_maximal n f) (decided (f n))
    where
      top : T (f n) → ((x : ℕ) → x < n → T (f x) → T (above x n) → ⊥) → Maximal above (suc n) f
      top p h = record { at = n; below = omega arith; holds = p; topmost = λ x l. split x (below_suc n x l) }
        where
          split : (x : ℕ) → (x < n) ⊎ (x ≡ n) → T (f x) → T (above x n) → ⊥
          split x (inl l) q t = h x l q t
          split x (inr e) q t = irreflexive n (subst (λ (y : ℕ). T (above y n)) e t)

      keep : (m : Maximal above n f) → (T (f n) → T (above n m.at) → ⊥) → Maximal above (suc n) f
      keep m h = record { at = m.at; below = omega (arith, m.below); holds = m.holds; topmost = λ x l. split x (below_suc n x l) }
        where
          split : (x : ℕ) → (x < n) ⊎ (x ≡ n) → T (f x) → T (above x m.at) → ⊥
          split x (inl l) q t = m.topmost x l q t
          split x (inr e) q t = h (subst (λ (y : ℕ). T (f y)) e q) (subst (λ (y : ℕ). T (above y m.at)) e t)

      versus : (m : Maximal above n f) → T (f n) → T (above n m.at) ⊎ (T (above n m.at) → ⊥) → Maximal above (suc n) f
      versus m p (inl t) = top p (λ x l q u. m.topmost x l q (transitive x n m.at u t))
      versus m p (inr out) = keep m (λ _. out)

      go : Maximal above n f ⊎ ((x : ℕ) → x < n → T (f x) → ⊥) → T (f n) ⊎ (T (f n) → ⊥) → Maximal above (suc n) f ⊎ ((x : ℕ) → x < suc n → T (f x) → ⊥)
      go (inl m) (inl p) = inl (versus m p (decided (above n m.at)))
      go (inl m) (inr out) = inl (keep m (λ p. absurd (out p)))
      go (inr none) (inl p) = inl (top p (λ x l q t. none x l q))
      go (inr none) (inr out) = inr (λ x l. split x (below_suc n x l))
        where
          split : (x : ℕ) → (x < n) ⊎ (x ≡ n) → T (f x) → ⊥
          split x (inl l) q = none x l q
          split x (inr e) q = out (subst (λ (y : ℕ). T (f y)) e q)
