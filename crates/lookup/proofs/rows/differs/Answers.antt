-- `lookup::rows::differs` meets its contract: what differs in the rows that were passed is in the word.
-- Assumes nothing.
use mathlib.Core.Logic.{inl, inr}
use lib.ListN.{length, length-append}
use Rattle.std.proofs.Common.{rules}
use Rattle.lookup.proofs.Symmetry.{comparing_none, comparing_more, comparing_all}
use Rattle.lookup.proofs.rows.differs.Goals as goal

pub loop-row-init : goal.loop-row-init
loop-row-init c = comparing_none _ _ (search rules) (search rules)

pub loop-row-preserved : goal.loop-row-preserved
loop-row-preserved c =
    let steps = c.in-Some.ensures.steps in
    comparing_more c.loop-row.invariant steps.0 steps.1 (length-append c.loop-row.yielded _) (c.type_inv.rows (length c.loop-row.yielded)).fits (c.type_inv.columns (length c.loop-row.yielded)).fits

pub returns : goal.returns
returns c = comparing_all c.loop-row.invariant c.requires (elim c.in-None.ensures.steps [ inl e ↦ inl e.1.0 | inr e ↦ inr e.1.0 ])
