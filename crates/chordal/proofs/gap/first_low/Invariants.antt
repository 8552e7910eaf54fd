-- `chordal::gap::first_low` meets its contract: no position that was passed makes a gap.
use Prim.Native.Nat.{◌-◌}
use Rattle.bitset.proofs.Passed.{Passed}
use Rattle.searches.specs.Ordering.{arcs}
use Rattle.chordal.specs.Descent.{is_gap}
use Rattle.chordal.proofs.gap.first_low.Given as goal

abbrev pub invariant-loop-i : goal.invariant-loop-i
invariant-loop-i l = Passed l.middle.0 (is_gap (arcs l.rows) l.ordering l.top.0 l.middle.0) l.i

abbrev pub decreases-loop-i : goal.decreases-loop-i
decreases-loop-i l = l.i-end - l.i
