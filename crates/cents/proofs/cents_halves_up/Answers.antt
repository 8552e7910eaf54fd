-- `cents::cents_halves_up` meets its contract: 30 more do not wrap.
-- Assumes nothing.
use mathlib.Core.Path.{refl}
use Rattle.cents.specs.Cents.{cents_halves_up}
use Rattle.cents.proofs.cents_halves_up.Goals as goal

pub returns : goal.returns
unfolding cents_halves_up
returns c = refl
