-- `tables::empty_row` meets its contract: the words of the row below the counter are empty.
-- Assumes nothing.
use native.Mathlib.Omega.{arith}
use Rattle.tables.proofs.Emptying.{emptying_start, emptying_next, emptying_end}
use Rattle.tables.proofs.empty_row.Goals as goal

pub loop-i-init : goal.loop-i-init
loop-i-init c = emptying_start

pub loop-i-preserved : goal.loop-i-preserved
loop-i-preserved c =
    emptying_next c.loop-i.invariant c.loop-i-test.true (omega (arith, c.requires))

pub returns : goal.returns
returns c = emptying_end c.loop-i.invariant c.loop-i-test.false
