-- `adjacency::Layout::one_way` meets its contract: at first each list is due from its beginning, and then vertex by vertex each neighbour leads back.
use Prim.Native.Nat.{◌-◌, ◌≤◌}
use Rattle.searches.specs.Ordering.{at}
use Rattle.adjacency.specs.LeadsBack.{Due}
use Rattle.adjacency.proofs.Layout.one_way.Given as goal

abbrev pub invariant-loop-u : goal.invariant-loop-u
invariant-loop-u l = (l.u ≤ l.n) × Due l.self.offsets.now l.self.neighbours.now l.due (at l.self.offsets.now l.u)

abbrev pub decreases-loop-u : goal.decreases-loop-u
decreases-loop-u l = l.n - l.u
