-- `tables::contains` meets its contract: the word of `v` in the row, and its bit there.
-- Assumes nothing.
use mathlib.Core.Path.{sym, ◌∙◌}
use Rattle.tables.proofs.Bits.{arc_word}
use Rattle.tables.proofs.contains.Goals as goal

pub returns : goal.returns
returns c =
    c.contains.ensures ∙ sym (arc_word 8 c.args.table.now c.args.u c.args.v c.requires.1)
