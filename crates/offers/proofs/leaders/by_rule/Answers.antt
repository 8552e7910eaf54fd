-- `offers::leaders::by_rule` meets its contract.
-- Assumes nothing.
use Prim.Native.Nat.{ℕ, zero, suc}
use mathlib.Core.Path.{◌≡◌, refl, sym, ap}
use mathlib.Core.Logic.{◌≢◌}
use Rattle.labels.proofs.Comparison.{is_kind, no_kind}
use Rattle.offers.specs.Open.{by_rule}
use Rattle.offers.proofs.leaders.by_rule.Goals as goal

pub returns-then-eq : goal.returns-then-eq
unfolding by_rule
returns-then-eq c = let a = c.args in sym (ap (λ (k : ℕ). by_rule k a.front a.early a.grown) (is_kind a.kind.0 0 c.eq.ensures c.if-eq.true))

pub returns-then-eq-2 : goal.returns-then-eq-2
unfolding by_rule
returns-then-eq-2 c = let a = c.args in sym (ap (λ (k : ℕ). by_rule k a.front a.early a.grown) (is_kind a.kind.0 1 c.eq-2.ensures c.if-eq-2.true))

pub returns-then-eq-3 : goal.returns-then-eq-3
unfolding by_rule
returns-then-eq-3 c = let a = c.args in sym (ap (λ (k : ℕ). by_rule k a.front a.early a.grown) (is_kind a.kind.0 2 c.eq-3.ensures c.if-eq-3.true))

-- no other search has a rule
no_rule : (kind front early grown : ℕ) → kind ≢ 0 → kind ≢ 1 → kind ≢ 2 → 0 ≡ by_rule kind front early grown
unfolding by_rule
no_rule zero front early grown a b c = absurd (a refl)
no_rule (suc zero) front early grown a b c = absurd (b refl)
no_rule (suc (suc zero)) front early grown a b c = absurd (c refl)
no_rule (suc (suc (suc kind))) front early grown a b c = refl

pub returns : goal.returns
returns c =
    let a = c.args in
    no_rule a.kind.0 a.front a.early a.grown (no_kind a.kind.0 0 c.eq.ensures c.if-eq.false) (no_kind a.kind.0 1 c.eq-2.ensures c.if-eq-2.false) (no_kind a.kind.0 2 c.eq-3.ensures c.if-eq-3.false)
