-- `bitset::full_below` meets its contract: the bits below 2 ^ n are those of 2 ^ n - 1.
-- Assumes nothing.
use mathlib.Core.Path.{sym, ap, ◌∙◌}
use Prim.Native.Nat.{ℕ, ◌-◌, ◌^◌}
use native.Mathlib.Nat.{le_of_lt, min-eq_left, min-eq_right}
use native.Mathlib.Omega.{arith}
use lib.Pow.{pow_pos}
use Rattle.bitset.specs.Word.{full_below}
use Rattle.bitset.proofs.Word.{one_shifted}
use Rattle.bitset.proofs.full_below.Goals as goal

pub overflow_sub-result : goal.overflow_sub-result
overflow_sub-result c = omega (arith, one_shifted c.if-n-lt64.true, pow_pos c.args.n)

pub returns-then-n-lt64 : goal.returns-then-n-lt64
unfolding full_below
returns-then-n-lt64 c = ap (λ (y : ℕ). y - 1) (one_shifted c.if-n-lt64.true ∙ ap (λ (m : ℕ). 2 ^ m) (sym (min-eq_left (le_of_lt c.if-n-lt64.true))))

pub returns-else-n-lt64 : goal.returns-else-n-lt64
unfolding full_below
returns-else-n-lt64 c = ap (λ (m : ℕ). 2 ^ m - 1) (sym (min-eq_right c.if-n-lt64.false))
