-- `firmware::plan::decode` meets its contract.
use Rattle.firmware.proofs.Reading.{Decoding}
use Rattle.firmware.proofs.plan.decode.Given as goal

abbrev pub invariant-loop-u : goal.invariant-loop-u
invariant-loop-u l = Decoding l.plan l.rows l.u
