-- The first entries of a list, gone through as a list of their own.
--   front_entry          an entry there is one of the first k, and the same
--   front_whole          past the last of them all k are passed
-- Assumes nothing.
use mathlib.Core.Path.{◌≡◌}
use mathlib.Core.List.{List}
use Prim.Native.Nat.{ℕ, ◌<◌, ◌≤◌}
use native.Mathlib.Omega.{arith}
use lib.ListN.{length, take, get_or}
use Rattle.std.proofs.lemmas.List.{get_or-take, length-take-le}
use Rattle.searches.specs.Ordering.{at}

module _ (w : List ℕ) (k : ℕ) (inside : k ≤ length w) (i : ℕ) where
  pub front_entry : i < length (take k w) → (i < k) × (get_or (take k w) i 0 ≡ at w i)
  front_entry l = let h : i < k = omega (arith, length-take-le k w inside) in (h, get_or-take k w i 0 h)

  pub front_whole : length (take k w) ≤ i → k ≤ i
  front_whole l = omega (arith, length-take-le k w inside)
