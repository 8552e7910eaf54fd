-- `lines::end` meets its contract.
-- Assumes nothing.
use mathlib.Core.Path.{refl}
use Rattle.lines.specs.Line.{end_read}
use Rattle.lines.proofs.end.Goals as goal

pub returns : goal.returns
unfolding end_read
returns c = refl
