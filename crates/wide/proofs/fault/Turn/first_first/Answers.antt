-- `wide::fault::Turn::first_first` meets its contract.
-- Assumes nothing.
use mathlib.Core.Path.{sym, ◌∙◌}
use Rattle.tables.proofs.Found.{found_at, found_none}
use Rattle.bitset.proofs.Passed.{passed_start, passed_more}
use Rattle.wide.proofs.fault.Turn.first_first.Goals as goal

pub loop-i-init : goal.loop-i-init
loop-i-init c = passed_start _ _

pub starts-requires : goal.starts-requires
starts-requires c = c.loop-i-test.true

pub returns-then-starts : goal.returns-then-starts
returns-then-starts c =
    found_at c.loop-i.invariant c.loop-i-test.true (sym c.starts.ensures ∙ c.if-starts.true)

pub loop-i-preserved : goal.loop-i-preserved
loop-i-preserved c =
    passed_more c.loop-i.invariant c.loop-i-test.true (sym c.starts.ensures ∙ c.if-starts.false)

pub returns : goal.returns
returns c = found_none c.loop-i.invariant c.loop-i-test.false
