-- `fields::field::ones_of` meets its contract, which says what the code does.
-- Assumes nothing.
use mathlib.Core.Path.{refl}
use Rattle.fields.specs.Field.{ones}
use Rattle.fields.proofs.field.ones_of.Goals as goal

pub returns : goal.returns
unfolding ones
returns c = refl
