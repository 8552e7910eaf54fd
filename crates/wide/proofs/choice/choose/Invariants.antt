-- `choice::choose` meets its contract. Where weights tell, the last of the heaviest is chosen. In MNS no entry of the tie-break from the place reached on is open.
use lib.ListN.{length}
use Rattle.searches.specs.Kind.{search_of}
use Rattle.searches.specs.Ordering.{at}
use Rattle.wide.specs.Store.{open_in}
use Rattle.wide.proofs.Downward.{Closed}
use Rattle.wide.proofs.choice.choose.Given as goal

abbrev pub invariant-loop-q : goal.invariant-loop-q
invariant-loop-q l = Closed (length l.tie_break) (λ q. open_in (search_of l.labels.kind.0) l.labels.words l.sets.free (at l.tie_break q)) l.q
