-- `violation::first_by_position` meets its contract: no position that was passed has a vertex that completes a violation.
use Prim.Native.Nat.{◌-◌, ◌<◌}
use Rattle.bitset.proofs.Passed.{Passed}
use Rattle.searches.specs.Kind.{search_of}
use Rattle.violation.specs.Fault.{behind_in}
use Rattle.violation.proofs.first_by_position.Given as goal

abbrev pub invariant-loop-p : goal.invariant-loop-p
invariant-loop-p l = Passed l.fn.k (behind_in (search_of l.labels.kind.0) l.labels.words l.front l.i.0 l.mine.label l.ordering l.fn.j.0) l.p × (l.fn.j.0 < l.p)

abbrev pub decreases-loop-p : goal.decreases-loop-p
decreases-loop-p l = l.fn.k - l.p
