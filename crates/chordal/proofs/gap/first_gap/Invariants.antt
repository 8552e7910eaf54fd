-- `chordal::gap::first_gap` meets its contract: no position that was passed is the last one of a gap.
use Prim.Native.Nat.{◌-◌}
use lib.ListN.{length}
use Rattle.bitset.proofs.Passed.{Passed}
use Rattle.searches.specs.Ordering.{arcs}
use Rattle.chordal.specs.Descent.{is_top}
use Rattle.chordal.proofs.gap.first_gap.Given as goal

abbrev pub invariant-loop-l : goal.invariant-loop-l
invariant-loop-l l = Passed (length l.rows) (is_top (arcs l.rows) l.ordering) l.l

abbrev pub decreases-loop-l : goal.decreases-loop-l
decreases-loop-l l = l.l-end - l.l
