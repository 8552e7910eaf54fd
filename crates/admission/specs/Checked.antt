-- The tests on a table, row by row and word by word; and when what they read is there.
--   outside_in n table u        the row of u has a bit at or above n
--   one_sided_in table u v       the row of u has v, and the row of v does not have u
--   IsTable n table            the table has n rows, at most 512
use Rattle.std.specs.Prelude.{ℕ, ◌*◌, ◌≤◌, ◌≡◌, Bool, not, ◌&&◌, List, leb, length}
use Rattle.bitset.specs.Below.{any_below}
use Rattle.searches.specs.Table.{arcs_wide}

unfoldable pub outside_in : ℕ → List ℕ → ℕ → Bool
outside_in n table u = any_below 512 (λ v. leb n v && arcs_wide 8 table u v)

unfoldable pub one_sided_in : List ℕ → ℕ → ℕ → Bool
one_sided_in table u v = arcs_wide 8 table u v && not (arcs_wide 8 table v u)

pub record IsTable (n : ℕ) (table : List ℕ) : Type 0 where
  pub small : n ≤ 512
  pub whole : length table ≡ 8 * n
