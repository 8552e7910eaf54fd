-- `conversion::lists::arc_count` meets its contract: the neighbours of one vertex more each turn.
-- Assumes nothing.
use native.Mathlib.Omega.{arith}
use lib.ListN.{get_or}
use Rattle.bitset.specs.Word.{member}
use Rattle.bitset.proofs.Count.{count_le}
use Rattle.conversion.proofs.Writing.{neighbours_few, counting_start, counting_next, counting_end}
use Rattle.conversion.proofs.lists.arc_count.Goals as goal

pub loop-row-init : goal.loop-row-init
loop-row-init c = counting_start _

pub overflow_add-count : goal.overflow_add-count
overflow_add-count c =
    let rows = c.args.rows.now in
    let i = c.loop-row.invariant in
    omega (arith, i.counted, i.upto, c.requires, neighbours_few rows c.loop-row.row-index, c.size-count.ensures, count_le 64 (member (get_or rows c.loop-row.row-index 0)))

pub loop-row-preserved : goal.loop-row-preserved
loop-row-preserved c = counting_next c.loop-row.invariant c.loop-row-test.true c.size-count.ensures

pub returns : goal.returns
returns c = counting_end c.loop-row.invariant c.loop-row-test.false
