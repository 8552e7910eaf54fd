-- `adjacency::Layout::leads_back` meets its contract: what is due in each list, as far as the neighbours of the vertex were looked at.
use Prim.Native.Nat.{◌+◌}
use Rattle.searches.specs.Ordering.{at}
use Rattle.adjacency.specs.LeadsBack.{Due}
use Rattle.adjacency.proofs.Layout.leads_back.Given as goal

abbrev pub invariant-loop-v : goal.invariant-loop-v
invariant-loop-v l = Due l.self.offsets.now l.self.neighbours.now l.due (at l.self.offsets.now l.u + l.v-index)
