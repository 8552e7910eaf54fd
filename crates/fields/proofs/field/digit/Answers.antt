-- `fields::field::digit` meets its contract.
-- Assumes nothing.
use mathlib.Core.Path.{sym}
use native.Mathlib.Omega.{arith}
use mathlib.Core.Logic.{inl, inr}
use Rattle.bitset.proofs.Tests.{below_or}
use Rattle.fields.proofs.Fields.{digit_is, digit_low, digit_high}
use Rattle.fields.proofs.field.digit.Goals as goal

pub returns-then-is_ascii_digit : goal.returns-then-is_ascii_digit
returns-then-is_ascii_digit c = let range = c.if-is_ascii_digit.ensures.cases in sym (digit_is _ (omega (arith, range)) (omega (arith, range)))

pub returns-else-is_ascii_digit : goal.returns-else-is_ascii_digit
returns-else-is_ascii_digit c = let range = c.if-is_ascii_digit.ensures.cases in
    elim (below_or c.args.byte 48) [
      | inl low ↦ digit_low _ low
      | inr high ↦ digit_high _ (omega (arith, range))
    ]
