-- Sixtieths of a cent, rounded by the two rules for halves of a cent.
--   halves_up_rounds, to_even_rounds   each formula rounds by its rule
--   halfway_apart                      at 60 q + 30, with q even, the rules give q and q + 1
--   apart_halfway                      they differ nowhere else
--   to_even_less, to_even_same         from halves up to halves to the even cent: 1 less where x is halfway between two cents and the upper is odd
-- Assumes nothing.
use mathlib.Core.Path.{◌≡◌}
use mathlib.Core.Logic.{◌⊎◌, inl, inr}
use Prim.Native.Nat.{ℕ, suc, ◌+◌, ◌-◌, ◌*◌, ◌/◌, ◌%◌, ◌<◌}
use native.Mathlib.Omega.{arith}
use Rattle.bitset.proofs.Tests.{three_ways}
use Rattle.cents.specs.Rounding.{distance, halves_up, Even, halves_to_even, Rounds, rounded}
use Rattle.cents.specs.Cents.{cents_halves_up, cents_to_even}
use Rattle.cents.proofs.Rounding.{rounded_rounds, rounds_alone, to_even_in, to_even_out, halfway_even, below_halves_up}

some_sixtieths : 0 < 60
some_sixtieths = omega arith

module _ (x : ℕ) where
  pub halves_up_rounds : Rounds halves_up 60 x (cents_halves_up x)
  unfolding cents_halves_up rounded halves_up
  halves_up_rounds = rounded_rounds 60 some_sixtieths x halves_up

  pub to_even_rounds : Rounds halves_to_even 60 x (cents_to_even x)
  unfolding cents_to_even
  to_even_rounds = rounded_rounds 60 some_sixtieths x halves_to_even

  pub halfway_apart : (q : ℕ) → x ≡ 60 * q + 30 → Even q → (cents_to_even x ≡ q) × (cents_halves_up x ≡ q + 1)
  unfolding cents_halves_up
  halfway_apart q half even = (
    rounds_alone 60 some_sixtieths x halves_to_even (cents_to_even x) q to_even_rounds
        (to_even_out 60 some_sixtieths x q (halfway_even 60 some_sixtieths x q (omega arith) even)),
    omega arith,
  )

  pub apart_halfway : (cents_to_even x ≡ cents_halves_up x → ⊥) → (q : ℕ) × (x ≡ 60 * q + 30) × Even q
  unfolding distance
  apart_halfway differ =
      let q : ℕ = cents_to_even x in
      let less = below_halves_up 60 some_sixtieths x halves_to_even q (cents_halves_up x) to_even_rounds halves_up_rounds differ in
      let half : x ≡ 60 * q + 30 = omega (arith, less.1) in
      (q, half, (to_even_in 60 some_sixtieths x q to_even_rounds).even (suc q) (λ e. omega arith) (omega arith))

  pub to_even_less : x % 60 ≡ 30 → cents_halves_up x % 2 ≡ 1 → cents_to_even x ≡ cents_halves_up x - 1
  unfolding cents_halves_up
  to_even_less half odd =
      let even : Even (x / 60) = omega arith in
      omega (arith, (halfway_apart (x / 60) (omega arith) even).0)

  pub to_even_same : (x % 60 ≡ 30 → cents_halves_up x % 2 ≡ 1 → ⊥) → cents_to_even x ≡ cents_halves_up x
  to_even_same other = go (three_ways (cents_to_even x) (cents_halves_up x))
    where
      never : (cents_to_even x ≡ cents_halves_up x → ⊥) → ⊥
      never differ =
          let y = apart_halfway differ in
          let apart = halfway_apart y.0 y.1 y.2 in
          other (omega (arith, y.1)) (omega (arith, y.2, apart.1))

      go : (cents_to_even x < cents_halves_up x) ⊎ ((cents_to_even x ≡ cents_halves_up x) ⊎ (cents_halves_up x < cents_to_even x)) → cents_to_even x ≡ cents_halves_up x
      go (inl l) = absurd (never (λ e. omega arith))
      go (inr (inl e)) = e
      go (inr (inr l)) = absurd (never (λ e. omega arith))
