-- `offers::leaders::led` meets its contract.
-- Assumes nothing.
use mathlib.Core.Path.{◌≡◌, refl, sym, ap, ◌∙◌}
use mathlib.Core.Bool.{Bool, true, false, cond, ◌||◌}
use Prim.Native.Nat.{ℕ}
use Rattle.bitset.specs.Word.{inserted}
use Rattle.offers.proofs.leaders.led.Goals as goal
use Rattle.offers.proofs.leaders.led.Goals.{Joined-ahead, then-ahead, else-ahead}

-- where one of the tests holds, and where none does
joins : (ahead level : Bool) (best u : ℕ) → (ahead || level) ≡ true → inserted (cond ahead 0 best) u ≡ cond ahead (inserted 0 u) (cond level (inserted best u) best)
joins true level best u e = refl
joins false true best u e = refl
joins false false best u e = ap (λ (b : Bool). cond b (inserted best u) best) (sym e)

stays : (ahead level : Bool) (best u : ℕ) → (ahead || level) ≡ false → cond ahead 0 best ≡ cond ahead (inserted 0 u) (cond level (inserted best u) best)
stays true level best u e = ap (λ (b : Bool). cond b 0 (inserted 0 u)) e
stays false true best u e = ap (λ (b : Bool). cond b best (inserted best u)) e
stays false false best u e = refl

-- what is kept of the leaders
kept : (c : Joined-ahead) → c.if-ahead.kept ≡ cond c.args.ahead 0 c.args.best
kept c =
    let a = c.args in
    elim c.if-ahead.branch [ then-ahead w ↦ w.kept-is ∙ sym (ap (λ (b : Bool). cond b 0 a.best) w.if-ahead.true) | else-ahead w ↦ w.kept-is ∙ sym (ap (λ (b : Bool). cond b 0 a.best) w.if-ahead.false) ]

pub returns-then-ahead-level : goal.returns-then-ahead-level
returns-then-ahead-level c =
    let a = c.args in
    c.insert.ensures ∙ ap (λ (x : ℕ). inserted x a.u) (kept (goal.at.returns-then-ahead-level c).Joined-ahead) ∙ joins a.ahead a.level a.best a.u c.if-ahead-level.true

pub returns-else-ahead-level : goal.returns-else-ahead-level
returns-else-ahead-level c = let a = c.args in kept (goal.at.returns-else-ahead-level c).Joined-ahead ∙ stays a.ahead a.level a.best a.u c.if-ahead-level.false
