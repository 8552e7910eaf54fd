-- `chordal::gap::first_middle` meets its contract: no position that was passed is the middle one of a gap, and the set holds the vertices before.
use Prim.Native.Nat.{◌-◌}
use Rattle.bitset.proofs.Passed.{Passed}
use Rattle.searches.specs.Ordering.{arcs}
use Rattle.lookup.proofs.Seen.{Seen}
use Rattle.chordal.specs.Descent.{is_middle}
use Rattle.chordal.proofs.gap.first_middle.Given as goal

abbrev pub invariant-loop-j : goal.invariant-loop-j
invariant-loop-j l = Passed l.fn.top.0 (is_middle (arcs l.rows) l.ordering l.fn.top.0) l.j × Seen l.ordering l.before l.j

abbrev pub decreases-loop-j : goal.decreases-loop-j
decreases-loop-j l = l.j-end - l.j
