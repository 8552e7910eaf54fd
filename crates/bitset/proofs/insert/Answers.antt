-- `bitset::insert` meets its contract: the `or` with one bit, where the word has that bit.
-- Assumes nothing.
use mathlib.Core.Path.{sym, ap, ◌∙◌}
use mathlib.Core.Bool.{Bool, cond}
use Prim.Native.Nat.{◌^◌}
use lib.Bits.{bit_or}
use borrow.Author.Tests.{lt-ltb, le-ltb}
use Rattle.bitset.specs.Word.{inserted}
use Rattle.bitset.proofs.Word.{one_shifted}
use Rattle.bitset.proofs.insert.Goals as goal

pub returns-then-element-lt64 : goal.returns-then-element-lt64
unfolding inserted
returns-then-element-lt64 c =
    let set = c.args.set in
    let element = c.args.element in
    ap (bit_or set) (one_shifted c.if-element-lt64.true) ∙ ap (λ (t : Bool). cond t (bit_or set (2 ^ element)) set) (sym (lt-ltb element 64 c.if-element-lt64.true))

pub returns-else-element-lt64 : goal.returns-else-element-lt64
unfolding inserted
returns-else-element-lt64 c =
    let set = c.args.set in
    let element = c.args.element in
    ap (λ (t : Bool). cond t (bit_or set (2 ^ element)) set) (sym (le-ltb element 64 c.if-element-lt64.false))
