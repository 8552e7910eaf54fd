-- Sixtieths of a cent, rounded to the nearest cent, and how many there can be.
--   cents_halves_up x                         x sixtieths of a cent, rounded to the nearest cent, halves up             [02: K2]
--   cents_to_even x                           x sixtieths of a cent, rounded to the nearest cent, halves to the even cent   [02: K7]
--   cents_by halves x                        one of the two, by the code's name of the rule
--   largest_minutes, largest_product          64 points of 999 minutes with a jump to all but the first; at the largest rate
use Rattle.std.specs.Prelude.{ℕ, ◌+◌, ◌*◌, ◌/◌}
use Rattle.cents.specs.Rounding.{halves_to_even, rounded}
use Rattle.cents.specs.declared.Halves.{Halves}

unfoldable pub cents_halves_up : ℕ → ℕ
cents_halves_up x = (x + 30) / 60

unfoldable pub cents_to_even : ℕ → ℕ
cents_to_even x = rounded halves_to_even 60 x

unfoldable pub cents_by : Halves → ℕ → ℕ
cents_by Halves.Up = cents_halves_up
cents_by Halves.ToEven = cents_to_even

abbrev pub largest_minutes : ℕ
largest_minutes = 64 * 999 + 63 * 7

abbrev pub largest_product : ℕ
largest_product = largest_minutes * 99999
