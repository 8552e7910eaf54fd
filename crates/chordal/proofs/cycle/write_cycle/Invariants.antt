-- `chordal::cycle::write_cycle` meets its contract: each turn steps down once and writes the vertex there.
use Rattle.searches.specs.Ordering.{arcs}
use Rattle.chordal.proofs.Writing.{Writing}
use Rattle.chordal.proofs.cycle.write_cycle.Given as goal

abbrev pub invariant-loop-next : goal.invariant-loop-next
invariant-loop-next l = Writing (arcs l.rows) l.ordering l.gap.low.0 l.gap.top.0 l.initial.at.0 l.initial.output l.output l.at.0 l.written

abbrev pub decreases-loop-next : goal.decreases-loop-next
decreases-loop-next l = l.at.0
