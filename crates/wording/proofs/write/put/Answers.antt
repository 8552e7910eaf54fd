-- `wording::write::put` meets its contract: the bytes are copied to their place.
-- Assumes nothing.
use native.Mathlib.Omega.{arith}
use Rattle.wording.proofs.Writing.{copied_there}
use Rattle.wording.proofs.write.put.Goals as goal

pub returns-clause-output : goal.returns-clause-output
returns-clause-output c = copied_there _ _ _ c.requires (omega arith) c.copy_from_slice.ensures.after
