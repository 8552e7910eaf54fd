-- `conversion::lists::write_numbers` meets its contract: each turn writes the smallest number that is left. The measure is the word that is left.
use Rattle.conversion.proofs.Writing.{Numbering}
use Rattle.conversion.proofs.lists.write_numbers.Given as goal

abbrev pub invariant-loop-rest : goal.invariant-loop-rest
invariant-loop-rest l = Numbering l.row l.begin l.initial.list l.list l.end l.rest

abbrev pub decreases-loop-rest : goal.decreases-loop-rest
decreases-loop-rest l = l.rest
