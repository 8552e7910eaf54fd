-- `bitset::remove` meets its contract: the `xor` with one bit, where the set has it.
-- Assumes nothing.
use mathlib.Core.Path.{sym, ap, ◌∙◌, subst}
use mathlib.Core.Bool.{Bool, cond}
use Prim.Native.Nat.{◌^◌}
use lib.Dec.{T}
use lib.Bits.{bit_xor}
use Rattle.bitset.specs.Word.{removed}
use Rattle.bitset.proofs.Word.{member_below, one_shifted}
use Rattle.bitset.proofs.remove.Goals as goal

-- the set has only numbers below 64
pub overflow_shl-result : goal.overflow_shl-result
overflow_shl-result c = member_below 64 c.ranges.set.fits c.args.element
    (subst (λ (t : Bool). T t) (sym c.if-contains.true ∙ c.contains.ensures) tt)

pub returns-then-contains : goal.returns-then-contains
unfolding removed
returns-then-contains c =
    let set = c.args.set in
    let element = c.args.element in
    ap (bit_xor set) (one_shifted (overflow_shl-result c)) ∙ ap (λ (t : Bool). cond t (bit_xor set (2 ^ element)) set) (sym c.if-contains.true ∙ c.contains.ensures)

pub returns-else-contains : goal.returns-else-contains
unfolding removed
returns-else-contains c =
    let set = c.args.set in
    let element = c.args.element in
    ap (λ (t : Bool). cond t (bit_xor set (2 ^ element)) set) (sym c.if-contains.false ∙ c.contains.ensures)
