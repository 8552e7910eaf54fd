-- Two sets compared: where they differ, and when one lies in the other.
--   differ_in, differ_other    differ: a number is in just one of the two;   differ_out, differ_one   and then in which
--   differ_same                where they do not differ;   differ_comm   the two turned round
--   within_in, within_out, not_within      within: what is in the one is in the other
-- Assumes nothing.
use mathlib.Core.Path.{◌≡◌, refl}
use mathlib.Core.Bool.{Bool, true, false, not, ◌||◌, beq}
use mathlib.Core.Logic.{◌⊎◌, inl, inr}
use Prim.Native.Nat.{ℕ, ◌<◌}
use lib.Dec.{T, T_not, not_T}
use Rattle.bitset.specs.Below.{differ, within}
use Rattle.bitset.proofs.Tests.{or_inl, or_inr, or_out, not_not, decided}
use Rattle.bitset.proofs.Below.{all_out, all_in, not_all}

module _ (f g : ℕ → Bool) where
  pub differ_in : (p : ℕ) → T (f p) → (T (g p) → ⊥) → T (differ f g p)
  unfolding differ
  differ_in p ours theirs = go (f p) (g p) ours theirs
    where
      go : (x y : Bool) → T x → (T y → ⊥) → T (not (beq x y))
      go true true a b = b tt
      go true false a b = tt
      go false y a b = absurd a

  pub differ_other : (p : ℕ) → (T (f p) → ⊥) → T (g p) → T (differ f g p)
  unfolding differ
  differ_other p ours theirs = go (f p) (g p) ours theirs
    where
      go : (x y : Bool) → (T x → ⊥) → T y → T (not (beq x y))
      go true y a b = absurd (a tt)
      go false true a b = tt
      go false false a b = absurd b

  -- of a number in which they differ, one has it and the other not
  pub differ_out : (p : ℕ) → T (differ f g p) → (T (f p) → T (g p) → ⊥) × ((T (f p) → ⊥) → T (g p))
  unfolding differ
  differ_out p d = go (f p) (g p) d
    where
      go : (x y : Bool) → T (not (beq x y)) → (T x → T y → ⊥) × ((T x → ⊥) → T y)
      go true true d = absurd d
      go true false d = (λ a b. b, λ a. absurd (a tt))
      go false true d = (λ a b. a, λ a. tt)
      go false false d = absurd d

  pub differ_one : (p : ℕ) → T (differ f g p) → (T (f p) × (T (g p) → ⊥)) ⊎ (T (g p) × (T (f p) → ⊥))
  differ_one p d = go (decided (f p))
    where
      go : T (f p) ⊎ (T (f p) → ⊥) → (T (f p) × (T (g p) → ⊥)) ⊎ (T (g p) × (T (f p) → ⊥))
      go (inl ours) = inl (ours, (differ_out p d).0 ours)
      go (inr out) = inr ((differ_out p d).1 out, out)

  pub differ_same : (p : ℕ) → (T (differ f g p) → ⊥) → f p ≡ g p
  unfolding differ
  differ_same p same = go (f p) (g p) same
    where
      go : (a b : Bool) → (T (not (beq a b)) → ⊥) → a ≡ b
      go true true e = refl
      go true false e = absurd (e tt)
      go false true e = absurd (e tt)
      go false false e = refl

pub differ_comm : (f g : ℕ → Bool) (p : ℕ) → differ f g p ≡ differ g f p
unfolding differ
differ_comm f g p = go (f p) (g p)
  where
    go : (x y : Bool) → not (beq x y) ≡ not (beq y x)
    go true true = refl
    go true false = refl
    go false true = refl
    go false false = refl

module _ (n : ℕ) (f g : ℕ → Bool) where
  pub within_in : ((p : ℕ) → p < n → T (f p) → T (g p)) → T (within n f g)
  unfolding within
  within_in h = all_in n (λ p. not (f p) || g p) (λ p l. go p (h p l) (decided (f p)))
    where
      go : (p : ℕ) → (T (f p) → T (g p)) → T (f p) ⊎ (T (f p) → ⊥) → T (not (f p) || g p)
      go p h (inl t) = or_inr (not (f p)) (g p) (h t)
      go p h (inr out) = or_inl (not (f p)) (g p) (not_T (f p) out)

  implied : (p : ℕ) → T (not (f p) || g p) → T (f p) → T (g p)
  implied p t inside = go (or_out (not (f p)) (g p) t)
    where
      go : T (not (f p)) ⊎ T (g p) → T (g p)
      go (inl out) = absurd (T_not (f p) out inside)
      go (inr there) = there

  pub within_out : T (within n f g) → (p : ℕ) → p < n → T (f p) → T (g p)
  unfolding within
  within_out t p l = implied p (all_out n (λ p. not (f p) || g p) t p l)

  -- what is not within the other has a number that the other has not
  pub not_within : (T (within n f g) → ⊥) → (p : ℕ) × (p < n) × T (f p) × (T (g p) → ⊥)
  unfolding within
  not_within no_within =
      let s = not_all n (λ p. not (f p) || g p) no_within in
      let fails = T_not (not (f s.at) || g s.at) s.holds in (
        s.at,
        s.below,
        not_not (f s.at) (not_T (not (f s.at)) (λ out. fails (or_inl (not (f s.at)) (g s.at) out))),
        λ there. fails (or_inr (not (f s.at)) (g s.at) there),
      )
