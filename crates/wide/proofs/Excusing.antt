-- The search's own condition of a violation, told by the weights of the two labels, of positions below 512.
--   unexcused_*     the condition of each search that compares weights alone, in the form in which the code tests it
-- Assumes nothing.
use mathlib.Core.Path.{◌≡◌, refl, ap, ◌∙◌}
use mathlib.Core.Bool.{Bool, true, false, cond, not, ◌&&◌}
use Prim.Native.Nat.{ℕ, suc, ◌-◌, ◌≤◌}
use native.Mathlib.Omega.{arith}
use lib.Dec.{ltb, leb, eqb, leb→le, le→leb}
use Rattle.bitset.specs.Below.{any_below, first_below}
use Rattle.bitset.proofs.Tests.{and_true, same_test}
use Rattle.bitset.proofs.Below.{any_same, first}
use Rattle.searches.specs.Kind.{generic, bfs, dfs, mcs}
use Rattle.searches.specs.Label.{empty}
use Rattle.searches.specs.Violation.{condition, meets}
use Rattle.searches.proofs.Unexcused.{none_sooner, none_later}
use Rattle.wide.specs.Store.{weight_in}
use Rattle.wide.proofs.Comparing.{smallest_first, largest_past}

module _ (i : ℕ) (c b : ℕ → Bool) where
  pub unexcused_bfs : i ≤ 512 → leb (weight_in bfs 512 b) (512 - i) ≡ meets (condition bfs i) 512 c b
  unfolding condition meets weight_in
  unexcused_bfs l =
      ap (λ (x : ℕ). leb (512 - x) (512 - i)) (smallest_first b) ∙ mirrored (first_below 512 b) (first 512 b).within ∙ none_sooner 512 i b l
    where
      mirrored : (p : ℕ) → p ≤ 512 → leb (512 - p) (512 - i) ≡ leb i p
      mirrored p h =
          same_test (leb (512 - p) (512 - i)) (leb i p) (λ t. le→leb i p (omega (arith, leb→le (512 - p) (512 - i) t)))
          (λ t. le→leb (512 - p) (512 - i) (omega (arith, leb→le i p t)))

  pub unexcused_dfs : leb (weight_in dfs 512 b) (suc i) ≡ meets (condition dfs i) 512 c b
  unfolding condition meets weight_in
  unexcused_dfs = ap (λ (x : ℕ). leb x (suc i)) (largest_past 512 b) ∙ none_later 512 i b

  pub unexcused_mcs : ltb (weight_in mcs 512 b) (weight_in mcs 512 c) ≡ meets (condition mcs i) 512 c b
  unfolding condition meets weight_in
  unexcused_mcs = refl

  pub unexcused_generic : eqb (weight_in generic 512 b) 0 ≡ meets (condition generic i) 512 c b
  unfolding condition meets weight_in empty
  unexcused_generic = go (any_below 512 b) ∙ ap not (any_same 512 b (λ d. b d && true) (λ d _. and_true (b d)))
    where
      go : (x : Bool) → eqb (cond (not x) 0 1) 0 ≡ not x
      go true = refl
      go false = refl
