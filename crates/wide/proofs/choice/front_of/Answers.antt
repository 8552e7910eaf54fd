-- `choice::front_of` meets its contract: the words passed are written, and a vertex was found in them where `some` says so.
-- Assumes nothing.
use mathlib.Core.Path.{refl, sym, subst}
use mathlib.Core.Bool.{Bool}
use lib.Dec.{T}
use Rattle.wide.proofs.Fronting.{fronting_start, fronting_next, fronting_some, fronting_all}
use Rattle.wide.proofs.choice.front_of.Goals as goal

pub loop-i-init : goal.loop-i-init
loop-i-init c = fronting_start _ _ _ _ refl refl

pub loop-i-preserved : goal.loop-i-preserved
loop-i-preserved c =
    fronting_next _ _ c.loop-i.invariant c.loop-i-test.true c.common-word.ensures c.common-word.type_inv

pub returns-then-some : goal.returns-then-some
returns-then-some c = fronting_some _ _ c.loop-i.invariant c.loop-i-test.false (subst (λ (b : Bool). T b) (sym c.if-some.true) tt)

pub returns-else-some : goal.returns-else-some
returns-else-some c = fronting_all _ _ c.loop-i.invariant c.loop-i-test.false
