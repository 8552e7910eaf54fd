-- `route::parent` meets its contract: no vertex that was passed leads to the one at the position.
use Prim.Native.Nat.{◌-◌}
use Rattle.bitset.proofs.Passed.{Passed}
use Rattle.searches.specs.Ordering.{arcs, at}
use Rattle.searches.specs.Label.{label}
use Rattle.route.proofs.parent.Given as goal

abbrev pub invariant-loop-p : goal.invariant-loop-p
invariant-loop-p l = Passed l.q (label (arcs l.rows) l.ordering (at l.ordering l.q)) l.p

abbrev pub decreases-loop-p : goal.decreases-loop-p
decreases-loop-p l = l.q - l.p
