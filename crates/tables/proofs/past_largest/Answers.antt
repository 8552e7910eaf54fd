-- `tables::past_largest` meets its contract: the zeros above the highest set bit are the numbers behind the last member.
-- Assumes nothing.
use lib.Count.{leading_le}
use Rattle.tables.proofs.Words.{past_largest}
use Rattle.tables.proofs.past_largest.Goals as goal

pub overflow_sub-result : goal.overflow_sub-result
overflow_sub-result c = leading_le 64 c.args.set

pub returns : goal.returns
returns c = past_largest c.args.set c.ranges.set.fits
