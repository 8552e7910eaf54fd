-- `choice::entry` meets its contract.
-- Assumes nothing.
use mathlib.Core.Path.{sym}
use native.Mathlib.Omega.{arith}
use lib.ListN.{get_or-eq_default}
use Rattle.choice.proofs.entry.Goals as goal

pub returns-else-i-list : goal.returns-else-i-list
returns-else-i-list c = sym (get_or-eq_default c.args.list.now 0 (omega arith))
