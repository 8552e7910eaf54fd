-- `tables::in_set` meets its contract: the word of `v` in the set, and its bit there.
-- Assumes nothing.
use mathlib.Core.Path.{sym, ◌∙◌}
use Rattle.tables.proofs.Bits.{in_word_lem}
use Rattle.tables.proofs.in_set.Goals as goal

pub returns : goal.returns
returns c =
    c.contains.ensures ∙ sym (in_word_lem c.args.set.now c.args.v c.requires)
