-- `chordal::order::write_turned` meets its contract: each turn writes one vertex in front of those that were written.
-- Assumes nothing.
use native.Mathlib.Omega.{arith}
use Rattle.chordal.proofs.Listing.{turning_start, turning_next, turning_end}
use Rattle.chordal.proofs.order.write_turned.Goals as goal

pub loop-q-init : goal.loop-q-init
loop-q-init c = turning_start _ _ _

pub vertex_at-requires : goal.vertex_at-requires
vertex_at-requires c = omega (arith, c.requires.0)

pub bounds-output-p : goal.bounds-output-p
bounds-output-p c =
    omega (arith, c.requires.1, c.loop-q.invariant.long, c.loop-q-test.true)

pub loop-q-preserved : goal.loop-q-preserved
loop-q-preserved c =
    turning_next _ _ _ c.loop-q.invariant c.loop-q-test.true c.requires.1 c.vertex_at.ensures

pub shape_of-output : goal.shape_of-output
shape_of-output c = c.loop-q.invariant.long

pub returns : goal.returns
returns c = turning_end _ _ _ c.loop-q.invariant c.loop-q-test.false c.requires.1
