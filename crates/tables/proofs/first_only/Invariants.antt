-- `tables::first_only` meets its contract: the first word of the one row without the other that is not empty has it.
use Prim.Native.Nat.{◌*◌}
use Rattle.bitset.specs.Below.{only}
use Rattle.bitset.proofs.Passed.{Passed}
use Rattle.searches.specs.Table.{arcs_wide}
use Rattle.tables.proofs.first_only.Given as goal

abbrev pub invariant-loop-i : goal.invariant-loop-i
invariant-loop-i l = Passed 512 (only (arcs_wide 8 l.labels l.c) (arcs_wide 8 l.labels l.b)) (64 * l.i)
