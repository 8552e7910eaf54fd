-- `chordal::cycle::next_stop` meets its contract: the descent may go to no position that was passed.
-- Assumes nothing.
use mathlib.Core.Path.{sym, ◌∙◌}
use native.Mathlib.Omega.{arith}
use Rattle.bitset.proofs.Passed.{Passed, passed_more, first_found}
use Rattle.bitset.proofs.Below.{first_unique}
use Rattle.searches.specs.Ordering.{arcs}
use Rattle.chordal.specs.Descent.{step, next}
use Rattle.chordal.proofs.Writing.{low_first}
use Rattle.chordal.proofs.cycle.next_stop.Goals as goal
use Rattle.chordal.proofs.cycle.next_stop.Goals.{In-loop-d}

pub loop-d-init : goal.loop-d-init
loop-d-init c = low_first _ _ _ _ _

pub may_step-requires : goal.may_step-requires
may_step-requires c = (c.requires.0, c.requires.1, omega (arith, c.requires.1))

-- as a search below the position from which the descent goes
passed : (c : In-loop-d)
    → let a = c.args in
    Passed a.from.0 (step (arcs a.rows.now) a.ordering.now a.gap.low.0 a.gap.top.0 a.from.0) c.loop-d.d
passed c = record { within = omega (arith, c.loop-d-test.true); none = c.loop-d.invariant }

pub returns-then-may_step : goal.returns-then-may_step
unfolding next
returns-then-may_step c =
    (first_found (passed (goal.at.returns-then-may_step c).In-loop-d) (sym c.may_step.ensures ∙ c.if-may_step.true), c.loop-d-test.true)

pub loop-d-preserved : goal.loop-d-preserved
loop-d-preserved c =
    (passed_more (passed (goal.at.loop-d-preserved c).In-loop-d) c.loop-d-test.true (sym c.may_step.ensures ∙ c.if-may_step.false)).none

pub returns : goal.returns
unfolding next
returns c =
    sym (first_unique (record { within = omega arith; holds = λ l. absurd (omega arith); least = λ x l. c.loop-d.invariant x (omega (arith, c.loop-d-test.false)) }))
