-- `bitset::subset` meets its contract: the `and` leaves `a` as it is where `a` lies within `b`.
-- Assumes nothing.
use Rattle.bitset.proofs.WordOrder.{within_and}
use Rattle.bitset.proofs.subset.Goals as goal

pub returns : goal.returns
returns c = within_and 64 c.ranges.a.fits c.args.b
