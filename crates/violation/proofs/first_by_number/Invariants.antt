-- `violation::first_by_number` meets its contract: no number that was taken out of the front so far completes a violation. The measure
-- is the word that is left.
use lib.ListN.{get_or}
use Rattle.bitset.proofs.Scan.{Scanned}
use Rattle.searches.specs.Kind.{search_of}
use Rattle.labels.specs.Words.{unexcused_in}
use Rattle.violation.proofs.first_by_number.Given as goal

abbrev pub invariant-loop-rest : goal.invariant-loop-rest
invariant-loop-rest l = Scanned 64 l.front (λ c. unexcused_in (search_of l.labels.kind.0) l.i.0 (get_or l.labels.words c 0) l.mine.label) l.rest

abbrev pub decreases-loop-rest : goal.decreases-loop-rest
decreases-loop-rest l = l.rest
