-- A list of bytes cut where a test first fails: `front` and `behind`, for every list.
--   front_every          what is cut off passes the test
--   front_behind         the two parts make the list again
--   Stops test b         b is empty, or begins with a byte that fails the test;   behind_stops   what is left does
--   front_all, behind_all     where every byte passes, all of it is cut off and nothing is left
-- Assumes nothing.
use mathlib.Core.Path.{◌≡◌, refl, ap, ◌∙◌}
use mathlib.Core.Bool.{Bool, true, false, cond}
use mathlib.Core.Logic.{◌⊎◌, inl, inr}
use mathlib.Core.List.{List, [], ◌∷◌, ◌++◌}
use Prim.Native.Nat.{ℕ}
use lib.Dec.{T}
use Rattle.bitset.proofs.Tests.{cond_yes}
use Rattle.wording.specs.Reading.{front, behind}
use Rattle.wording.proofs.Spans.{Every}

abbrev pub Stops : (ℕ → Bool) → List ℕ → Type 0
Stops test b = (b ≡ []) ⊎ ((c : ℕ) × (rest : List ℕ) × (b ≡ c ∷ rest) × (T (test c) → ⊥))

module _ (test : ℕ → Bool) where
  pub front_every : (b : List ℕ) → Every test (front test b)
  unfolding front
  front_every [] = tt
  front_every (c ∷ b) = go (test c) (λ t. t) (front_every b)
    where
      go : (passes : Bool) → (T passes → T (test c)) → Every test (front test b) → Every test (cond passes (c ∷ front test b) [])
      go true t rest = (t tt, rest)
      go false t rest = tt

  pub front_behind : (b : List ℕ) → front test b ++ behind test b ≡ b
  unfolding front behind
  front_behind [] = refl
  front_behind (c ∷ b) = go (test c) (front_behind b)
    where
      go : (passes : Bool) → front test b ++ behind test b ≡ b → cond passes (c ∷ front test b) [] ++ cond passes (behind test b) (c ∷ b) ≡ c ∷ b
      go true rest = ap (λ (l : List ℕ). c ∷ l) rest
      go false rest = refl

  pub behind_stops : (b : List ℕ) → Stops test (behind test b)
  unfolding behind
  behind_stops [] = inl refl
  behind_stops (c ∷ b) = go (test c) (λ t. t) (behind_stops b)
    where
      go : (passes : Bool) → (T (test c) → T passes) → Stops test (behind test b) → Stops test (cond passes (behind test b) (c ∷ b))
      go true t rest = rest
      go false t rest = inr (c, b, refl, t)

  pub front_all : (b : List ℕ) → Every test b → front test b ≡ b
  unfolding front
  front_all [] p = refl
  front_all (c ∷ b) p = cond_yes (test c) _ _ p.0 ∙ ap (λ (l : List ℕ). c ∷ l) (front_all b p.1)

  pub behind_all : (b : List ℕ) → Every test b → behind test b ≡ []
  unfolding behind
  behind_all [] p = refl
  behind_all (c ∷ b) p = cond_yes (test c) _ _ p.0 ∙ behind_all b p.1
