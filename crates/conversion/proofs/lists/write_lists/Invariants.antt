-- `conversion::lists::write_lists` meets its contract: each turn writes the neighbours of one vertex, and the offset behind them.
use Rattle.conversion.proofs.Writing.{Laying}
use Rattle.conversion.proofs.lists.write_lists.Given as goal

abbrev pub invariant-loop-u : goal.invariant-loop-u
invariant-loop-u l = Laying l.rows l.initial.offsets l.initial.neighbours l.offsets l.neighbours l.end l.u
