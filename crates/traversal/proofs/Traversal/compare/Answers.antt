-- `traversal::Traversal::compare` meets its contract: the open walk is only read.
-- Assumes nothing.
use mathlib.Core.Path.{refl}
use Rattle.traversal.proofs.Traversal.compare.Goals as goal

pub returns : goal.returns
returns c = record { state = refl; answer = c.standing-standing.ensures }
