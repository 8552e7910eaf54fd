-- `bitset::smallest` meets its contract: the zeros below the lowest set bit are the numbers before the first member.
-- Assumes nothing.
use native.Mathlib.Omega.{arith}
use lib.Count.{trailing_le}
use Rattle.bitset.proofs.Word.{trailing_first}
use Rattle.bitset.proofs.smallest.Goals as goal

pub overflow_cast-result : goal.overflow_cast-result
overflow_cast-result c = omega (arith, trailing_le 64 c.args.set)

pub returns : goal.returns
returns c = trailing_first 64 c.args.set
