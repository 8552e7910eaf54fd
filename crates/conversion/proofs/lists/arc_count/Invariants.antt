-- `conversion::lists::arc_count` meets its contract: the neighbours of one vertex more each turn.
use Rattle.conversion.proofs.Writing.{Counting}
use Rattle.conversion.proofs.lists.arc_count.Given as goal

abbrev pub invariant-loop-row : goal.invariant-loop-row
invariant-loop-row l = Counting l.rows l.count l.row-index
