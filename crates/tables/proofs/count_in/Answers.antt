-- `tables::count_in` meets its contract: the counts of the words in common.
-- Assumes nothing.
use mathlib.Core.Path.{◌≡◌, refl, ap, ◌∙◌}
use Prim.Native.Nat.{ℕ, ◌*◌}
use native.Mathlib.Omega.{arith}
use Rattle.bitset.specs.Below.{count_below}
use Rattle.bitset.specs.Word.{member}
use Rattle.bitset.proofs.Count.{count_le}
use Rattle.tables.proofs.Words.{both_word, count_here}
use Rattle.tables.proofs.count_in.Invariants.{both}
use Rattle.tables.proofs.count_in.Goals as goal

pub loop-i-init : goal.loop-i-init
unfolding count_below
loop-i-init c = refl

pub overflow_add-total : goal.overflow_add-total
overflow_add-total c =
    let a = c.args in
    omega (arith, c.loop-i-test.true, c.loop-i.invariant, count_le (64 * c.loop-i.i) (both a.table.now a.v a.set.now), c.size-total.ensures, count_le 64 (member c.common.result))

pub loop-i-preserved : goal.loop-i-preserved
loop-i-preserved c =
    let a = c.args in
    let i = c.loop-i.i in
    count_here (both a.table.now a.v a.set.now) i _ (λ q h. both_word a.table.now a.v a.set.now i q c.loop-i-test.true h) c.loop-i.invariant
    (c.size-total.ensures ∙ ap (λ (x : ℕ). count_below 64 (member x)) c.common.ensures)

pub returns : goal.returns
returns c =
    let a = c.args in
    let all : 64 * c.loop-i.i ≡ 512 = omega (arith, c.loop-i-test.false) in
    c.loop-i.invariant ∙ ap (λ (m : ℕ). count_below m (both a.table.now a.v a.set.now)) all
