-- `dimacs::draw::read_lines` meets its contract: each turn takes up one line.
-- Assumes nothing.
use Prim.Native.Nat.{◌-◌, ◌^◌, ◌<◌}
use native.Mathlib.Omega.{arith}
use Rattle.bitset.proofs.Tests.{not_true, not_false}
use lib.ListN.{length}
use Rattle.dimacs.proofs.Gathering.{gathering_start, gathering_few, gathering_drawable, gathering_stop, gathering_end, gathering_next}
use Rattle.dimacs.proofs.draw.read_lines.Goals as goal
use Rattle.dimacs.proofs.draw.read_lines.Goals.{At-loop-at}

-- a length fits a word
fits : (c : At-loop-at) → length c.args.file.now < 2 ^ 64
fits c = omega arith

pub loop-at-init : goal.loop-at-init
loop-at-init c = gathering_start _

pub returns-then-not-drawing : goal.returns-then-not-drawing
returns-then-not-drawing c = record {
  drawing = gathering_stop _ c.loop-at.invariant (not_true _ c.if-not-drawing.true);
  few = gathering_few _ c.loop-at.invariant (fits (goal.at.returns-then-not-drawing c).At-loop-at);
}

pub next_line-step-requires : goal.next_line-step-requires
next_line-step-requires c = c.loop-at-test.true

pub add_line-more-requires : goal.add_line-more-requires
add_line-more-requires c =
    gathering_drawable _ c.loop-at.invariant (fits (goal.at.add_line-more-requires c).At-loop-at) (not_false _ c.if-not-drawing.false)

pub loop-at-smaller : goal.loop-at-smaller
loop-at-smaller c =
    let step = c.next_line-step in
    omega (arith, step.ensures.further.0, step.ensures.further.1)

pub loop-at-preserved : goal.loop-at-preserved
loop-at-preserved c =
    let step = c.next_line-step in
    gathering_next _ c.loop-at.invariant c.loop-at-test.true (not_false _ c.if-not-drawing.false) step.ensures.line step.ensures.rest
    step.ensures.further.0 step.ensures.further.1 c.add_line-more.ensures

pub returns : goal.returns
returns c = record {
  drawing = gathering_end _ c.loop-at.invariant c.loop-at-test.false;
  few = gathering_few _ c.loop-at.invariant (fits (goal.at.returns c).At-loop-at);
}
