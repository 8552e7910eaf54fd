-- `route::depth` meets its contract: each turn climbs to an earlier position, and no vertex before was without a parent.
use Prim.Native.Nat.{◌+◌, ◌≤◌}
use Rattle.searches.specs.Ordering.{arcs}
use Rattle.route.proofs.Climbing.{Climbing}
use Rattle.route.proofs.depth.Given as goal

abbrev pub invariant-loop-up : goal.invariant-loop-up
invariant-loop-up l = Climbing (arcs l.rows) l.ordering l.fn.position.0 l.at.0 l.steps × (l.steps + l.at.0 ≤ l.fn.position.0)

abbrev pub decreases-loop-up : goal.decreases-loop-up
decreases-loop-up l = l.at.0
