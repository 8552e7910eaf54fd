-- `minutes::minutes_of` meets its contract: each turn adds what its position comes to.
use Prim.Native.Nat.{◌-◌}
use Rattle.searches.specs.Ordering.{arcs}
use Rattle.minutes.proofs.Adding.{Added}
use Rattle.minutes.proofs.minutes_of.Given as goal

abbrev pub invariant-loop-p : goal.invariant-loop-p
invariant-loop-p l = Added (arcs l.rows) l.ordering l.minutes l.p l.total

abbrev pub decreases-loop-p : goal.decreases-loop-p
decreases-loop-p l = l.p-end - l.p
