-- `lookup::entries::repeated` meets its contract: the set holds the entries that were passed, and is smaller than their number where one stood there twice.
use Rattle.lookup.proofs.Seen.{Counted}
use Rattle.lookup.proofs.entries.repeated.Given as goal

abbrev pub invariant-loop-vertex : goal.invariant-loop-vertex
invariant-loop-vertex l = Counted l.list l.seen l.vertex-index
