-- What is behind the used entries of a list of 64.
--   used_at m l i, used_from m l   entry i of l is behind the first m and not 0; some of the 64 is
use Rattle.std.specs.Prelude.{ℕ, Bool, not, ◌&&◌, List, leb, eqb}
use Rattle.bitset.specs.Below.{any_below}
use Rattle.searches.specs.Ordering.{at}

unfoldable pub used_at : ℕ → List ℕ → ℕ → Bool
used_at m l i = leb m i && not (eqb (at l i) 0)

unfoldable pub used_from : ℕ → List ℕ → Bool
used_from m l = any_below 64 (used_at m l)
