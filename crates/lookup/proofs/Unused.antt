-- The entries of a list of 64 behind the first m.
--   unused_start                 none before the first of them is one
--   used_there, unused_there     what the entry at i says
--   unused_out, unused_in        used_from does not hold: all of them are 0
-- Assumes nothing.
use Prim.Native.Nat.{ℕ, ◌≤◌, ◌<◌}
use mathlib.Core.Path.{◌≡◌, sym, ap₂, subst}
use mathlib.Core.Bool.{Bool, true, false, not, ◌&&◌}
use mathlib.Core.Logic.{◌⊎◌, inl, inr}
use mathlib.Core.List.{List}
use native.Mathlib.Omega.{arith}
use borrow.Author.Tests.{le-leb, eq-eqb, ne_eqb}
use lib.Dec.{T, leb, eqb, leb→le, eqb→eq, T_not}
use Rattle.bitset.proofs.Tests.{and_out, decided}
use Rattle.bitset.proofs.Below.{any_at, any_out}
use Rattle.bitset.proofs.Passed.{Passed}
use Rattle.searches.specs.Ordering.{at}
use Rattle.lookup.specs.Unused.{used_at, used_from}

module _ (m : ℕ) (l : List ℕ) where
  pub unused_start : m ≤ 64 → Passed 64 (used_at m l) m
  unfolding used_at
  unused_start h = record { within = h; none = λ x i t. omega (arith, i, leb→le m x (and_out (leb m x) (not (eqb (at l x) 0)) t).0) }

  pub used_there : {i : ℕ} → m ≤ i → (at l i ≡ 0 → ⊥) → used_at m l i ≡ true
  unfolding used_at
  used_there {i} h other = ap₂ (λ (a b : Bool). a && not b) (le-leb m i h) (ne_eqb (at l i) 0 other)

  pub unused_there : {i : ℕ} → m ≤ i → at l i ≡ 0 → used_at m l i ≡ false
  unfolding used_at
  unused_there {i} h zero = ap₂ (λ (a b : Bool). a && not b) (le-leb m i h) (eq-eqb (at l i) 0 zero)

  pub unused_out : (T (used_from m l) → ⊥) → (i : ℕ) → m ≤ i → i < 64 → at l i ≡ 0
  unfolding used_from
  unused_out none i h below = go (decided (eqb (at l i) 0))
    where
      go : T (eqb (at l i) 0) ⊎ (T (eqb (at l i) 0) → ⊥) → at l i ≡ 0
      go (inl e) = eqb→eq (at l i) 0 e
      go (inr other) =
          absurd (none (any_at 64 (used_at m l) i below
          (subst (λ (b : Bool). T b) (sym (used_there h (λ e. other (subst (λ (x : ℕ). T (eqb x 0)) (sym e) tt)))) tt)))

  pub unused_in : ((i : ℕ) → m ≤ i → i < 64 → at l i ≡ 0) → T (used_from m l) → ⊥
  unfolding used_from used_at
  unused_in zero t =
      let s = any_out 64 (used_at m l) t in
      let both = and_out (leb m s.at) (not (eqb (at l s.at) 0)) s.holds in
      T_not (eqb (at l s.at) 0) both.1 (subst (λ (x : ℕ). T (eqb x 0)) (sym (zero s.at (leb→le m s.at both.0) s.below)) tt)
