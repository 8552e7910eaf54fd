-- `bitset::copy::copy` meets its contract.
use Rattle.bitset.proofs.Copying.{Copying}
use Rattle.bitset.proofs.copy.copy.Given as goal

abbrev pub invariant-loop-u : goal.invariant-loop-u
invariant-loop-u l = Copying l.rows l.initial.copy l.copy l.u
