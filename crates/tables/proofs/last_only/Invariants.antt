-- `tables::last_only` meets its contract: the last word of the one row without the other that is not empty has it.
use Prim.Native.Nat.{◌*◌}
use Rattle.bitset.specs.Below.{only}
use Rattle.searches.specs.Table.{arcs_wide}
use Rattle.tables.proofs.Words.{NoneFrom}
use Rattle.tables.proofs.last_only.Given as goal

abbrev pub invariant-loop-i : goal.invariant-loop-i
invariant-loop-i l = NoneFrom 512 (only (arcs_wide 8 l.labels l.c) (arcs_wide 8 l.labels l.b)) (64 * l.i)
