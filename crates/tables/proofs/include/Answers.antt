-- `tables::include` meets its contract: one word of the set is changed.
-- Assumes nothing.
use Rattle.bitset.specs.Word.{inserted}
use Rattle.tables.specs.Rows.{with_bit}
use Rattle.tables.proofs.Bits.{first_row}
use Rattle.tables.proofs.include.Goals as goal

pub returns : goal.returns
unfolding with_bit
returns c = first_row inserted c.args.set.now c.args.v c.insert.ensures
