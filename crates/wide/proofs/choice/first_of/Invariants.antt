-- `wide::choice::first_of` meets its contract: the first word of the set that is not empty has it.
use Prim.Native.Nat.{◌*◌}
use Rattle.bitset.proofs.Passed.{Passed}
use Rattle.tables.specs.Rows.{in_set}
use Rattle.wide.proofs.choice.first_of.Given as goal

abbrev pub invariant-loop-i : goal.invariant-loop-i
invariant-loop-i l = Passed 512 (in_set l.set) (64 * l.i)
