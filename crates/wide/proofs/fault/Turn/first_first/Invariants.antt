-- `wide::fault::Turn::first_first` meets its contract.
use Rattle.bitset.proofs.Passed.{Passed}
use Rattle.searches.specs.Kind.{search_of}
use Rattle.searches.specs.Table.{arcs_wide}
use Rattle.searches.specs.Violation.{is_first}
use Rattle.wide.proofs.fault.Turn.first_first.Given as goal

abbrev pub invariant-loop-i : goal.invariant-loop-i
invariant-loop-i l = Passed l.self.j.0 (is_first (search_of l.self.labels.now.kind.0) (arcs_wide 8 l.self.graph.table.now) l.self.graph.n l.self.ordering.now l.self.k l.self.j.0) l.i
