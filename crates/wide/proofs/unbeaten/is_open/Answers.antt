-- `unbeaten::is_open` meets its contract.
-- Assumes nothing.
use mathlib.Core.Path.{sym, ◌∙◌}
use Rattle.wide.proofs.Beaten.{closed_outside, open_unbeaten}
use Rattle.wide.proofs.unbeaten.is_open.Goals as goal

pub returns-then-not-in_set : goal.returns-then-not-in_set
returns-then-not-in_set c = closed_outside _ _ _ _ (sym c.in_set.ensures ∙ c.if-not-in_set.true)

pub returns : goal.returns
returns c = open_unbeaten _ _ _ _ (sym c.in_set.ensures ∙ c.if-not-in_set.false) c.is_beaten.ensures
