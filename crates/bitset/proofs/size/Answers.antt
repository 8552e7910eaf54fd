-- `bitset::size` meets its contract: the set bits are the members.
-- Assumes nothing.
use native.Mathlib.Omega.{arith}
use lib.Count.{ones-le}
use Rattle.bitset.proofs.Word.{size_counts}
use Rattle.bitset.proofs.size.Goals as goal

pub overflow_cast-result : goal.overflow_cast-result
overflow_cast-result c = omega (arith, ones-le 64 c.args.set c.ranges.set.fits)

pub returns : goal.returns
returns c = size_counts 64 c.ranges.set.fits
