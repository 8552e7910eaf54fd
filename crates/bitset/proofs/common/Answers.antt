-- `bitset::common` meets its contract, which says what the code does.
-- Assumes nothing.
use mathlib.Core.Path.{refl}
use Rattle.bitset.specs.Word.{common}
use Rattle.bitset.proofs.common.Goals as goal

pub returns : goal.returns
unfolding common
returns c = refl
