-- `edge_lines::number::append` meets its contract: ten times the number and the digit, or the greatest number.
-- Assumes nothing.
use mathlib.Core.Path.{sym, ap, ap₂}
use Prim.Native.Nat.{ℕ, ◌+◌, ◌*◌}
use mathlib.Core.Bool.{Bool, cond}
use borrow.Author.Tests.{lt-ltb, le-ltb}
use Rattle.fields.specs.Field.{digit_value}
use Rattle.fields.proofs.Fields.{digit_is}
use Rattle.edge_lines.specs.Reading.{appended, most}
use Rattle.edge_lines.proofs.number.append.Goals as goal

pub returns-then-x-lt-TENTH : goal.returns-then-x-lt-TENTH
unfolding appended
returns-then-x-lt-TENTH c =
    let a = c.args in
    sym (ap₂ (λ (t : Bool) (d : ℕ). cond t (10 * a.x + d) most) (lt-ltb _ _ c.if-x-lt-TENTH.true) (digit_is a.byte c.requires.0 c.requires.1))

pub returns-else-x-lt-TENTH : goal.returns-else-x-lt-TENTH
unfolding appended
returns-else-x-lt-TENTH c =
    let a = c.args in
    sym (ap (λ (t : Bool). cond t (10 * a.x + digit_value a.byte) most) (le-ltb _ _ c.if-x-lt-TENTH.false))
