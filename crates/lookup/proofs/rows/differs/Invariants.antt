-- `lookup::rows::differs` meets its contract: what differs in the rows that were passed is in the word.
use lib.ListN.{length}
use Rattle.lookup.proofs.Symmetry.{Comparing}
use Rattle.lookup.proofs.rows.differs.Given as goal

abbrev pub invariant-loop-row : goal.invariant-loop-row
invariant-loop-row l = Comparing l.rows l.columns l.difference (length l.yielded) l.row-iterator.a.rest.now l.row-iterator.b.rest.now
