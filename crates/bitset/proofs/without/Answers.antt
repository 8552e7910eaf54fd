-- `bitset::without` meets its contract, which says what the code does.
-- Assumes nothing.
use mathlib.Core.Path.{refl}
use Rattle.bitset.specs.Word.{difference}
use Rattle.bitset.proofs.without.Goals as goal

pub returns : goal.returns
unfolding difference
returns c = refl
