-- A 64-bit word as a set of the numbers 0 to 63.
--   member x p        p is in the set x: bit p of x is set
--   inserted x p      the set x and p; x itself where p is 64 or more
--   removed x p       the set x without p
--   difference x y    the numbers of x that are not in y
--   united x y        the numbers that are in x or in y
--   common x y        the numbers that are in both
--   full_below n       the set of the numbers below n; of all 64 where n is more
--   from_up n x p      p is in the set x, and n or more
--   set_below n f      the set of the numbers below n at which f holds
use Rattle.std.specs.Prelude.{ℕ, zero, suc, ◌-◌, ◌/◌, ◌%◌, ◌^◌, min, Bool, cond, ◌&&◌, eqb, ltb, leb}
use Rattle.std.specs.Int.Bits.{bit_and, bit_or, bit_xor}

unfoldable pub member : ℕ → ℕ → Bool
member x p = eqb (x / 2 ^ p % 2) 1

unfoldable pub inserted : ℕ → ℕ → ℕ
inserted x p = cond (ltb p 64) (bit_or x (2 ^ p)) x

unfoldable pub removed : ℕ → ℕ → ℕ
removed x p = cond (member x p) (bit_xor x (2 ^ p)) x

unfoldable pub difference : ℕ → ℕ → ℕ
difference x y = bit_xor x (bit_and x y)

unfoldable pub united : ℕ → ℕ → ℕ
united x y = bit_or x y

unfoldable pub common : ℕ → ℕ → ℕ
common x y = bit_and x y

unfoldable pub full_below : ℕ → ℕ
full_below n = 2 ^ min n 64 - 1

unfoldable pub from_up : ℕ → ℕ → ℕ → Bool
from_up n x p = leb n p && member x p

unfoldable pub set_below : ℕ → (ℕ → Bool) → ℕ
set_below zero f = 0
set_below (suc n) f = let rest = set_below n f in cond (f n) (inserted rest n) rest
