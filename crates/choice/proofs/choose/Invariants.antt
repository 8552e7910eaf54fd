-- `choice::choose` meets its contract: in MNS no entry that was passed, from the end on, is open, and in the other searches the offered vertices
-- are at hand.
use Rattle.searches.specs.Kind.{search_of}
use Rattle.choice.proofs.Choosing.{Passed}
use Rattle.choice.proofs.choose.Given as goal

abbrev pub invariant-loop-v : goal.invariant-loop-v
invariant-loop-v l = Passed (search_of l.labels.kind.0) l.labels.words l.free l.tie_break l.v-iterator.iter.rest.now
