-- What rows are refused for.
--   outside_at rows u           row u has a bit at or above the number of rows
--   loop_at rows u              u is linked to itself
--   refused_at r rows u         of these the one that refusal r, 3 or 4, is given for
--   differs_in rows columns p   some row has p and the column of the same number has not, or the other way round
use Rattle.std.specs.Prelude.{ℕ, Bool, cond, eqb, List, length, get_or}
use Rattle.bitset.specs.Below.{any_below, differ}
use Rattle.bitset.specs.Word.{member, from_up}
use Rattle.searches.specs.Ordering.{arcs}

unfoldable pub outside_at : List ℕ → ℕ → Bool
outside_at rows u = any_below 64 (from_up (length rows) (get_or rows u 0))

unfoldable pub loop_at : List ℕ → ℕ → Bool
loop_at rows u = arcs rows u u

unfoldable pub refused_at : ℕ → List ℕ → ℕ → Bool
refused_at r rows u = cond (eqb r 3) (outside_at rows u) (loop_at rows u)

unfoldable pub differs_in : List ℕ → List ℕ → ℕ → Bool
differs_in rows columns p = any_below (length rows) (λ u. differ (member (get_or rows u 0)) (member (get_or columns u 0)) p)
