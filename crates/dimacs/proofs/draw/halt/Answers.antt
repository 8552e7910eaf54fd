-- `dimacs::draw::halt` meets its contract.
-- Assumes nothing.
use mathlib.Core.Path.{refl}
use Rattle.dimacs.specs.Drawing.{broken}
use Rattle.dimacs.proofs.draw.halt.Goals as goal

pub returns : goal.returns
unfolding broken
returns c = refl
