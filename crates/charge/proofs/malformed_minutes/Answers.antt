-- `charge::malformed_minutes` meets its contract: the list has n entries, and none above 999.
-- Assumes nothing.
use mathlib.Core.Path.{◌≡◌, refl, sym, ap, ◌∙◌}
use mathlib.Core.Bool.{Bool, not, ◌||◌}
use borrow.Author.Tests.{eq-eqb, ne_eqb}
use lib.Dec.{ltb}
use lib.ListN.{length}
use Rattle.std.proofs.Common.{rules}
use borrow.Author.Tests.{tests}
use Rattle.std.proofs.lemmas.Iterator.Search.{any_from_yields_List}
use Rattle.std.proofs.lemmas.Iterator.{YieldsList-from_slice}
use Rattle.std.specs.List.{list_any}
use Rattle.bitset.specs.Below.{any_below}
use Rattle.bitset.proofs.Chains.{items_any}
use Rattle.searches.specs.Ordering.{at}
use Rattle.charge.specs.Charge.{malformed_minutes}
use Rattle.charge.proofs.malformed_minutes.Goals as goal

pub returns-then-minutes-n : goal.returns-then-minutes-n
unfolding malformed_minutes
returns-then-minutes-n c =
    let a = c.args in
    let other = ap not (ne_eqb _ _ c.if-minutes-n.true) in
    other ∙ sym (ap (λ (b : Bool). b || any_below (length a.minutes.now) (λ v. ltb 999 (at a.minutes.now v))) other)

pub returns-else-minutes-n : goal.returns-else-minutes-n
unfolding malformed_minutes
returns-else-minutes-n c =
    let a = c.args in
    let asked : c.any.result ≡ list_any (λ m. ltb 999 m) a.minutes.now = any_from_yields_List (λ m. ltb 999 m) _ _ _ c.any.ensures.ran (YieldsList-from_slice a.minutes.now cc) (λ x b q k. search (rules, tests)) in
    asked ∙ items_any (λ m. ltb 999 m) 0 a.minutes.now (λ v. ltb 999 (at a.minutes.now v)) (λ i l. refl)
    ∙ sym (ap (λ (b : Bool). not b || any_below (length a.minutes.now) (λ v. ltb 999 (at a.minutes.now v))) (eq-eqb _ _ c.if-minutes-n.false))
