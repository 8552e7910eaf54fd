-- `offers::is_beaten` meets its contract: what was taken out of the set so far is not ahead. The measure is the word that is left.
use Rattle.searches.specs.Kind.{search_of}
use Rattle.offers.proofs.Scan.{Scanned}
use Rattle.offers.proofs.is_beaten.Given as goal

abbrev pub invariant-loop-rest : goal.invariant-loop-rest
invariant-loop-rest l = Scanned (search_of l.labels.kind.0) l.labels.words l.free l.mine.label l.rest

abbrev pub decreases-loop-rest : goal.decreases-loop-rest
decreases-loop-rest l = l.rest
