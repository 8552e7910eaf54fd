-- `bitset::contains` meets its contract: the lowest bit of the shifted word is the bit that was shifted there.
-- Assumes nothing.
use mathlib.Core.Path.{sym, ap}
use Prim.Native.Nat.{ℕ, ◌/◌, ◌^◌}
use lib.Dec.{eqb}
use lib.Bits.{and_mask}
use borrow.Author.Rules.{rules}
use Rattle.bitset.specs.Word.{member}
use Rattle.bitset.proofs.Word.{member_beyond}
use Rattle.bitset.proofs.contains.Goals as goal

pub returns-then-element-lt64 : goal.returns-then-element-lt64
unfolding member
returns-then-element-lt64 c = ap (λ (y : ℕ). eqb y 1) (and_mask (c.args.set / 2 ^ c.args.element) 1)

pub returns-else-element-lt64 : goal.returns-else-element-lt64
returns-else-element-lt64 c = sym (member_beyond 64 c.ranges.set.fits c.args.element (search rules))
