-- `bitset::union` meets its contract, which says what the code does.
-- Assumes nothing.
use mathlib.Core.Path.{refl}
use Rattle.bitset.specs.Word.{united}
use Rattle.bitset.proofs.union.Goals as goal

pub returns : goal.returns
unfolding united
returns c = refl
