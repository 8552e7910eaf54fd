-- `wide::fault::Turn::first_by_number` meets its contract.
-- Assumes nothing.
use mathlib.Core.Path.{sym, ◌∙◌}
use Rattle.tables.proofs.Found.{found_at, found_none}
use Rattle.bitset.proofs.Passed.{passed_start, passed_more}
use Rattle.wide.proofs.fault.Turn.first_by_number.Goals as goal

pub loop-v-init : goal.loop-v-init
loop-v-init c = passed_start _ _

pub is_violation-requires : goal.is_violation-requires
is_violation-requires c = (c.requires, c.loop-v-test.true)

pub returns-then-is_violation : goal.returns-then-is_violation
returns-then-is_violation c = found_at c.loop-v.invariant c.loop-v-test.true (sym c.is_violation.ensures ∙ c.if-is_violation.true)

pub loop-v-preserved : goal.loop-v-preserved
loop-v-preserved c =
    passed_more c.loop-v.invariant c.loop-v-test.true (sym c.is_violation.ensures ∙ c.if-is_violation.false)

pub returns : goal.returns
returns c = found_none c.loop-v.invariant c.loop-v-test.false
