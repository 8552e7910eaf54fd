-- `any` over the numbers from 0 up, said by the search below their bound: f is what the test p says of each number.
--   range_any                  it finds one where any_below does
-- Assumes nothing.
use mathlib.Core.Path.{◌≡◌, ap, ◌∙◌}
use mathlib.Core.Bool.{Bool}
use Prim.Native.Nat.{ℕ, ◌<◌}
use native.Mathlib.Omega.{arith}
use lib.ListN.{length, get_or}
use Rattle.std.specs.List.{list_any, range_with_len}
use Rattle.std.proofs.lemmas.List.FromFn.{length-range_with_len, get_or-range_with_len}
use Rattle.bitset.specs.Below.{any_below}
use Rattle.bitset.proofs.Chains.{items_any}

module _ (n : ℕ) (p f : ℕ → Bool) (said : (i : ℕ) → i < n → p i ≡ f i) where
  pub range_any : list_any p (range_with_len 0 n) ≡ any_below n f
  range_any =
      let long : length (range_with_len 0 n) ≡ n = length-range_with_len 0 n in
      items_any p 0 (range_with_len 0 n) f
      (λ i l.
      let below : i < n = omega arith in
      let same : get_or (range_with_len 0 n) i 0 ≡ i = omega (arith, get_or-range_with_len 0 n i 0 below) in
      ap p same ∙ said i below)
      ∙ ap (λ (m : ℕ). any_below m f) long
