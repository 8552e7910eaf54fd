-- `unbeaten::by_weight` meets its contract.
-- Assumes nothing.
use mathlib.Core.Path.{refl, ◌∙◌}
use Rattle.searches.specs.Kind.{search_of}
use Rattle.labels.proofs.Comparison.{of_kind}
use Rattle.wide.specs.Store.{by_weight}
use Rattle.wide.proofs.Heaviest.{by_weight_mns}
use Rattle.wide.proofs.Equal.{equal_told, unequal_told}
use Rattle.wide.proofs.unbeaten.by_weight.Goals as goal

pub returns-then-eq : goal.returns-then-eq
unfolding by_weight search_of
returns-then-eq c = of_kind by_weight (equal_told c.eq.ensures c.if-eq.true) refl

pub returns-then-eq-2 : goal.returns-then-eq-2
unfolding by_weight search_of
returns-then-eq-2 c = of_kind by_weight (equal_told c.eq-2.ensures c.if-eq-2.true) refl

pub returns : goal.returns
returns c = c.ne.ensures ∙ by_weight_mns _ (unequal_told c.eq.ensures c.if-eq.false) (unequal_told c.eq-2.ensures c.if-eq-2.false)
