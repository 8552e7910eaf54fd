-- `fields::field::digits` meets its contract.
-- Assumes nothing.
use mathlib.Core.Path.{◌≡◌, ap, ◌∙◌}
use Prim.Native.Nat.{◌+◌, ◌≤◌}
use native.Mathlib.Omega.{arith}
use Rattle.searches.specs.Ordering.{at}
use Rattle.fields.specs.Field.{digit_value, digits_at}
use Rattle.fields.proofs.Fields.{digit_small}
use Rattle.fields.proofs.field.digits.Goals as goal
use Rattle.fields.proofs.field.digits.Goals.{After-digit-d}

-- what was read in the four columns
read : (c : After-digit-d)
    → (c.digit-a.result ≡ digit_value (at c.args.bytes.now c.args.i))
    × (c.digit-b.result ≡ digit_value (at c.args.bytes.now (c.args.i + 1)))
    × (c.digit-c.result ≡ digit_value (at c.args.bytes.now (c.args.i + 2)))
    × (c.digit-d.result ≡ digit_value (at c.args.bytes.now (c.args.i + 3)))
read c = (
  c.digit-a.ensures ∙ ap digit_value c.byte_at.ensures,
  c.digit-b.ensures ∙ ap digit_value c.byte_at-2.ensures,
  c.digit-c.ensures ∙ ap digit_value c.byte_at-3.ensures,
  c.digit-d.ensures ∙ ap digit_value c.byte_at-4.ensures,
)

small : (c : After-digit-d)
    → (c.digit-a.result ≤ 9) × (c.digit-b.result ≤ 9)
    × (c.digit-c.result ≤ 9) × (c.digit-d.result ≤ 9)
small c = (
  omega (arith, c.digit-a.ensures, digit_small c.byte_at.result),
  omega (arith, c.digit-b.ensures, digit_small c.byte_at-2.result),
  omega (arith, c.digit-c.ensures, digit_small c.byte_at-3.result),
  omega (arith, c.digit-d.ensures, digit_small c.byte_at-4.result),
)

pub overflow_mul-result : goal.overflow_mul-result
overflow_mul-result c = omega (arith, small c)

pub overflow_mul-result-2 : goal.overflow_mul-result-2
overflow_mul-result-2 c = omega (arith, small c)

pub overflow_add-result : goal.overflow_add-result
overflow_add-result c = omega (arith, small c)

pub overflow_mul-result-3 : goal.overflow_mul-result-3
overflow_mul-result-3 c = omega (arith, small c)

pub overflow_add-result-2 : goal.overflow_add-result-2
overflow_add-result-2 c = omega (arith, small c)

pub overflow_add-result-3 : goal.overflow_add-result-3
overflow_add-result-3 c = omega (arith, small c)

pub returns : goal.returns
unfolding digits_at
returns c = omega (arith, read c)
