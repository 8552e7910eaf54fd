-- `route::write_path` meets its contract: each turn writes one vertex before those that were written, and steps to its parent.
use Prim.Native.Nat.{◌-◌}
use Rattle.searches.specs.Ordering.{arcs}
use Rattle.route.proofs.Climbing.{Writing}
use Rattle.route.proofs.write_path.Given as goal

abbrev pub invariant-loop-i : goal.invariant-loop-i
invariant-loop-i l = Writing (arcs l.rows) l.ordering l.initial.at.0 l.count l.initial.output l.output l.at.0 (l.count - l.i)
