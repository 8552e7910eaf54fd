-- `offers::leaders::offered_after` meets its contract: who leads by a rule is offered, and where nobody does the comparisons tell.
-- Assumes nothing.
use Prim.Native.Nat.{ℕ, ◌<◌, ◌^◌}
use mathlib.Core.Path.{◌≡◌, sym, ap, ◌∙◌, subst}
use native.Mathlib.Omega.{arith}
use Rattle.bitset.specs.Word.{common}
use Rattle.bitset.proofs.Word.{common_word}
use Rattle.searches.specs.Kind.{search_of}
use Rattle.offers.specs.Open.{Leads, by_rule}
use Rattle.offers.proofs.Rules.{rule_word, leads_offers}
use Rattle.offers.proofs.leaders.offered_after.Goals as goal

pub returns-then-leaders-ne0 : goal.returns-then-leaders-ne0
returns-then-leaders-ne0 c =
    let a = c.args in
    let front = c.common-front.ensures in
    let set = c.by_rule-leaders.result in
    let is : set ≡ by_rule a.labels.now.kind.0 (common a.free a.reached) a.early a.grown =
    c.by_rule-leaders.ensures ∙ ap (λ (x : ℕ). by_rule a.labels.now.kind.0 x a.early a.grown) front
    in
    leads_offers (search_of a.labels.now.kind.0) a.labels.now.words a.free set
    (subst (λ (x : ℕ). x < 2 ^ 64) (sym is) (rule_word a.labels.now.kind.0 (common_word c.ranges.free.fits a.reached) c.ranges.early.fits c.ranges.grown.fits))
    (omega arith) (subst (Leads (search_of a.labels.now.kind.0) a.labels.now.words a.free) (sym is) c.requires.3)

pub narrowed-requires : goal.narrowed-requires
narrowed-requires c = let pre = c.requires in (pre.0, pre.1, pre.2)

pub returns : goal.returns
returns c = c.narrowed.ensures
