-- `admission::entries::repeated` meets its contract: the set holds the entries that were passed, and none of them stood there twice.
use Rattle.bitset.proofs.Passed.{Passed}
use Rattle.searches.specs.Ordering.{at, placed}
use Rattle.admission.proofs.Seen.{Seen}
use Rattle.admission.proofs.entries.repeated.Given as goal

abbrev pub invariant-loop-entry : goal.invariant-loop-entry
invariant-loop-entry l = Passed l.k (λ q'. placed l.list q' (at l.list q')) l.entry-index × Seen l.list l.seen l.entry-index
