-- `choice::lead_of` meets its contract: the lead leads the first vertex and those of the words passed.
-- Assumes nothing.
use native.Mathlib.Omega.{arith}
use Rattle.wide.proofs.Leading.{seen_start, seen_next, seen_all}
use Rattle.wide.proofs.choice.lead_of.Goals as goal

pub loop-i-init : goal.loop-i-init
loop-i-init c = (omega arith, seen_start _ _ _ _ _ c.requires.1)

pub lead_in-lead-requires : goal.lead_in-lead-requires
lead_in-lead-requires c =
    (c.requires.0, c.loop-i-test.true, c.loop-i.invariant.1.vertex)

pub loop-i-preserved : goal.loop-i-preserved
loop-i-preserved c =
    (omega (arith, c.loop-i-test.true), seen_next _ _ _ _ _ c.loop-i.i (c.lead_in-lead.ensures.leads _ c.loop-i.invariant.1))

pub returns : goal.returns
returns c = seen_all _ _ _ _ _ c.requires.2 c.loop-i-test.false c.loop-i.invariant.1
