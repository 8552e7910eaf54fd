-- `bitset::without_smallest` meets its contract: 1 taken away clears the smallest number and leaves those above it.
-- Assumes nothing.
use native.Mathlib.Omega.{arith}
use Rattle.bitset.proofs.Scan.{cleared_smallest, cleared_empty}
use Rattle.bitset.proofs.without_smallest.Goals as goal

pub returns-then-set-eq0 : goal.returns-then-set-eq0
returns-then-set-eq0 c = cleared_empty c.args.set c.if-set-eq0.true

pub returns-else-set-eq0 : goal.returns-else-set-eq0
returns-else-set-eq0 c = cleared_smallest c.args.set c.ranges.set.fits (omega arith)
