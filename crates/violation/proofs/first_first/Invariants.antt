-- `violation::first_first` meets its contract: no position that was passed starts a violation.
use Prim.Native.Nat.{◌-◌}
use Rattle.bitset.proofs.Passed.{Passed}
use Rattle.searches.specs.Kind.{search_of}
use Rattle.violation.specs.Fault.{first_in}
use Rattle.violation.proofs.first_first.Given as goal

abbrev pub invariant-loop-i : goal.invariant-loop-i
invariant-loop-i g l = Passed l.fn.j.0 (first_in (search_of l.labels.kind.0) (g.G.Graph.rows l.graph) l.ordering l.labels.words l.free l.fn.j.0 l.fn.k) l.i

abbrev pub decreases-loop-i : goal.decreases-loop-i
decreases-loop-i g l = l.fn.j.0 - l.i
