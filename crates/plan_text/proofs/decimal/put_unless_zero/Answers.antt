-- `plan_text::decimal::put_unless_zero` meets its contract: nothing is written for 0, else one digit.
-- Assumes nothing.
use mathlib.Core.Path.{sym, ap, ◌∙◌}
use mathlib.Core.List.{List}
use Prim.Native.Nat.{ℕ, ◌+◌}
use native.Mathlib.Omega.{arith}
use lib.ListN.{length, set}
use lib.Seq.{sets}
use Rattle.plan_text.proofs.Digits.{shown_none, shown_some}
use Rattle.plan_text.proofs.decimal.put_unless_zero.Goals as goal

pub returns-then-y-eq0 : goal.returns-then-y-eq0
returns-then-y-eq0 c =
    let a = c.args in
    let is = shown_none a.y c.if-y-eq0.true in
    record {
      output = ap (λ (b : List ℕ). sets a.output.now a.at b) (sym is);
      end = omega (arith, ap length is);
    }

pub bounds-output-at : goal.bounds-output-at
bounds-output-at c =
    omega (arith, c.requires, ap length (shown_some c.args.y c.if-y-eq0.false))

pub overflow_add-result : goal.overflow_add-result
overflow_add-result c =
    omega (arith, c.requires, ap length (shown_some c.args.y c.if-y-eq0.false))

pub returns : goal.returns
returns c =
    let a = c.args in
    let is = shown_some a.y c.if-y-eq0.false in record {
      output = ap (λ (d : ℕ). set a.output.now a.at d) c.ones_of.ensures ∙ ap (λ (b : List ℕ). sets a.output.now a.at b) (sym is);
      end = ap (λ (b : List ℕ). a.at + length b) (sym is);
    }
