-- `adjacency::Layout::self_loop` meets its contract: no vertex that was passed stands in its own list.
use Rattle.bitset.proofs.Passed.{Passed}
use Rattle.adjacency.specs.Layout.{size_of, arcs_listed}
use Rattle.adjacency.proofs.Layout.self_loop.Given as goal

abbrev pub invariant-loop-u : goal.invariant-loop-u
invariant-loop-u l = Passed (size_of l.self.offsets.now) (λ x. arcs_listed l.self.offsets.now l.self.neighbours.now x x) l.u
