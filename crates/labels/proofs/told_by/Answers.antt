-- `labels::told_by` meets its contract: the tests are tried in their order.
-- Assumes nothing.
use mathlib.Core.Path.{sym, ap, ap₂, ◌∙◌}
use mathlib.Core.Bool.{Bool, false}
use Rattle.searches.specs.Comparison.{told_by}
use Rattle.labels.proofs.told_by.Goals as goal

pub returns-then-ahead : goal.returns-then-ahead
unfolding told_by
returns-then-ahead c = let a = c.args in sym (ap (λ (x : Bool). told_by x a.behind a.level) c.if-ahead.true)

pub returns-then-behind : goal.returns-then-behind
unfolding told_by
returns-then-behind c = let a = c.args in sym (ap₂ (λ (x y : Bool). told_by x y a.level) c.if-ahead.false c.if-behind.true)

pub returns-then-level : goal.returns-then-level
unfolding told_by
returns-then-level c =
    let a = c.args in
    sym (ap₂ (λ (x y : Bool). told_by x y a.level) c.if-ahead.false c.if-behind.false ∙ ap (told_by false false) c.if-level.true)

pub returns : goal.returns
unfolding told_by
returns c =
    let a = c.args in
    sym (ap₂ (λ (x y : Bool). told_by x y a.level) c.if-ahead.false c.if-behind.false ∙ ap (told_by false false) c.if-level.false)
