-- The first row that is outside, and the first vertex that is looped, as the first row to which refusal 3, and refusal 4, applies.
-- Assumes nothing.
use mathlib.Core.Path.{◌≡◌}
use mathlib.Core.List.{List}
use Prim.Native.Nat.{ℕ}
use lib.ListN.{length}
use Rattle.std.specs.Option.{unwrap_or}
use Rattle.bitset.specs.Below.{first_below, found_below}
use Rattle.bitset.proofs.Chains.{found_or}
use Rattle.lookup.specs.Row.{outside_at, loop_at, refused_at}

module _ (rows : List ℕ) where
  pub outside_3 : unwrap_or (found_below (length rows) (outside_at rows)) (length rows) ≡ first_below (length rows) (refused_at 3 rows)
  unfolding refused_at
  outside_3 = found_or (length rows) (outside_at rows)

  pub looped_4 : unwrap_or (found_below (length rows) (loop_at rows)) (length rows) ≡ first_below (length rows) (refused_at 4 rows)
  unfolding refused_at
  looped_4 = found_or (length rows) (loop_at rows)
