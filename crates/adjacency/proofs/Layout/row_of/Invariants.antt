-- `adjacency::Layout::row_of` meets its contract: the neighbours so far are gathered.
use Prim.Native.Nat.{◌+◌}
use Rattle.searches.specs.Ordering.{at}
use Rattle.adjacency.proofs.Layouts.{Gathered}
use Rattle.adjacency.proofs.Layout.row_of.Given as goal

abbrev pub invariant-loop-v : goal.invariant-loop-v
invariant-loop-v l =
    let begin = at l.self.offsets.now l.fn.vertex.0 in
    Gathered l.self.neighbours.now begin (begin + l.v-index) l.row
