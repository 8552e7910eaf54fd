-- `fields::field::lead_of` meets its contract.
-- Assumes nothing.
use mathlib.Core.Path.{sym, ap}
use mathlib.Core.Bool.{Bool, cond}
use Prim.Native.Nat.{◌+◌, ◌%◌}
use borrow.Author.Tests.{eq-eqb, ne_eqb}
use Rattle.fields.specs.Field.{lead}
use Rattle.fields.proofs.field.lead_of.Goals as goal

pub returns-then-y-eq0 : goal.returns-then-y-eq0
unfolding lead
returns-then-y-eq0 c = sym (ap (λ (b : Bool). cond b 32 (48 + c.args.y % 10)) (eq-eqb _ _ c.if-y-eq0.true))

pub returns-else-y-eq0 : goal.returns-else-y-eq0
unfolding lead
returns-else-y-eq0 c = sym (ap (λ (b : Bool). cond b 32 (48 + c.args.y % 10)) (ne_eqb _ _ c.if-y-eq0.false))
