-- `fields::write::line_of` meets its contract: each turn writes the field of one number more.
use Rattle.fields.proofs.Writing.{Lining}
use Rattle.fields.proofs.write.line_of.Given as goal

abbrev pub invariant-loop-x : goal.invariant-loop-x
invariant-loop-x l = Lining l.initial.output l.at l.numbers l.output l.end l.x-index
