-- The minutes of an ordering.
--   sum_below n f                 f 0 + f 1 + .. + f (n - 1)
--   jump arc w p                 position p is not the first, and the vertex placed directly before does not lead to the one at p
--   jump_minutes arc w p          7 for a jump, else 0
--   minutes_of arc w k minutes    the minutes of the vertices at the first k positions, and 7 for each jump to one of these       [02: K2, minutes]
use Rattle.std.specs.Prelude.{ℕ, zero, suc, ◌+◌, ◌-◌, ◌*◌, Bool, cond, not, ◌&&◌, List, eqb}
use Rattle.bitset.specs.Below.{count_below}
use Rattle.searches.specs.Ordering.{at}

unfoldable pub sum_below : ℕ → (ℕ → ℕ) → ℕ
sum_below zero f = zero
sum_below (suc n) f = let rest = sum_below n f in rest + f n

unfoldable pub jump : (ℕ → ℕ → Bool) → List ℕ → ℕ → Bool
jump arc w p = not (eqb p 0) && not (arc (at w (p - 1)) (at w p))

unfoldable pub jump_minutes : (ℕ → ℕ → Bool) → List ℕ → ℕ → ℕ
jump_minutes arc w p = cond (jump arc w p) 7 0

unfoldable pub minutes_of : (ℕ → ℕ → Bool) → List ℕ → ℕ → List ℕ → ℕ
minutes_of arc w k minutes = sum_below k (λ p. at minutes (at w p)) + 7 * count_below k (jump arc w)
