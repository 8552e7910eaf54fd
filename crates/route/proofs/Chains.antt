-- What `position` finds in a list, said by positions.
--   found_or_none        the first position at which an entry passes, or that there is none
-- Assumes nothing.
use mathlib.Core.Path.{◌≡◌, refl, ap, ◌∙◌, subst, sym}
use mathlib.Core.Bool.{Bool, cond}
use mathlib.Core.Logic.{◌⊎◌, inl, inr}
use mathlib.Core.List.{List}
use Prim.Native.Nat.{ℕ, ◌≤◌, ◌<◌}
use native.Mathlib.Omega.{arith}
use borrow.Author.Tests.{lt-ltb, le-ltb}
use lib.Dec.{ltb}
use lib.ListN.{length, get_or}
use Rattle.std.specs.Prelude.{Option, Some, None, MatchOption}
use Rattle.std.specs.List.{position_or_len}
use Rattle.bitset.specs.Below.{first_below}
use Rattle.bitset.proofs.Tests.{below_or}
use Rattle.bitset.proofs.Below.{first}
use Rattle.bitset.proofs.Chains.{items_first}

module _ (test : ℕ → Bool) (xs : List ℕ) where
  abbrev passing : ℕ → Bool
  passing k = test (get_or xs k 0)

  abbrev place : ℕ
  place = first_below (length xs) passing

  pub found_or_none : {r : Option ℕ} → r ≡ cond (ltb (position_or_len test xs) (length xs)) (Some (position_or_len test xs)) None
      → MatchOption r (place ≡ length xs) (λ p. (p ≡ place) × (p < length xs))
  found_or_none {r} e = go (below_or place (length xs)) (e ∙ ap (λ (p : ℕ). cond (ltb p (length xs)) (Some p) None) (items_first test 0 xs passing (λ i l. refl)))
    where
      go : (place < length xs) ⊎ (length xs ≤ place) → r ≡ cond (ltb place (length xs)) (Some place) None
          → MatchOption r (place ≡ length xs) (λ p. (p ≡ place) × (p < length xs))
      go (inl l) e =
          let is = e ∙ ap (λ (b : Bool). cond b (Some place) None) (lt-ltb _ _ l) in
          subst (λ (o : Option ℕ). MatchOption o (place ≡ length xs) (λ p. (p ≡ place) × (p < length xs))) (sym is) (refl, l)
      go (inr h) e =
          let is = e ∙ ap (λ (b : Bool). cond b (Some place) None) (le-ltb _ _ h) in
          let x = first (length xs) passing in
          let all : place ≡ length xs = omega (arith, x.within) in
          subst (λ (o : Option ℕ). MatchOption o (place ≡ length xs) (λ p. (p ≡ place) × (p < length xs))) (sym is) all
