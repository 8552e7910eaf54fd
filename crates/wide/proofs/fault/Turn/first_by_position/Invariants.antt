-- `wide::fault::Turn::first_by_position` meets its contract.
use Rattle.bitset.proofs.Passed.{Passed}
use Rattle.searches.specs.Kind.{search_of}
use Rattle.searches.specs.Ordering.{at}
use Rattle.searches.specs.Table.{arcs_wide}
use Rattle.searches.specs.Violation.{violates}
use Rattle.wide.proofs.fault.Turn.first_by_position.Given as goal

abbrev pub invariant-loop-p : goal.invariant-loop-p
invariant-loop-p l = Passed l.self.k (λ q. violates (search_of l.self.labels.now.kind.0) (arcs_wide 8 l.self.graph.table.now) l.self.ordering.now l.i.0 l.self.j.0 (at l.self.ordering.now q)) l.p
