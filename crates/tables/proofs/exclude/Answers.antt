-- `tables::exclude` meets its contract: one word of the set is changed.
-- Assumes nothing.
use Rattle.bitset.specs.Word.{removed}
use Rattle.tables.specs.Rows.{without_bit}
use Rattle.tables.proofs.Bits.{first_row}
use Rattle.tables.proofs.exclude.Goals as goal

pub returns : goal.returns
unfolding without_bit
returns c = first_row removed c.args.set.now c.args.v c.remove.ensures
