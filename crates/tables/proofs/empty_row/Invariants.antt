-- `tables::empty_row` meets its contract: the words of the row below the counter are empty.
use Rattle.tables.proofs.Emptying.{Emptying}
use Rattle.tables.proofs.empty_row.Given as goal

abbrev pub invariant-loop-i : goal.invariant-loop-i
invariant-loop-i l = Emptying l.v l.initial.labels l.labels l.i
