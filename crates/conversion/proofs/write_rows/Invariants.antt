-- `conversion::write_rows` meets its contract: one row more each turn.
use Rattle.adjacency.specs.Layout.{rows_listed}
use Rattle.conversion.proofs.Writing.{Copying}
use Rattle.conversion.proofs.write_rows.Given as goal

abbrev pub invariant-loop-u : goal.invariant-loop-u
invariant-loop-u l = Copying (rows_listed l.layout.offsets.now l.layout.neighbours.now) l.initial.row-items l.row-items l.u
