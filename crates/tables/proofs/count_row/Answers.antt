-- `tables::count_row` meets its contract: the counts of its words.
-- Assumes nothing.
use mathlib.Core.Path.{◌≡◌, refl, ap, ◌∙◌}
use Prim.Native.Nat.{ℕ, ◌+◌, ◌*◌}
use native.Mathlib.Omega.{arith}
use lib.ListN.{get_or}
use Rattle.bitset.specs.Below.{count_below}
use Rattle.bitset.specs.Word.{member}
use Rattle.bitset.proofs.Count.{count_le}
use Rattle.searches.specs.Table.{arcs_wide}
use Rattle.tables.proofs.Bits.{arc_word_at}
use Rattle.tables.proofs.Words.{count_here}
use Rattle.tables.proofs.count_row.Goals as goal

pub loop-i-init : goal.loop-i-init
unfolding count_below
loop-i-init c = refl

pub overflow_add-total : goal.overflow_add-total
overflow_add-total c =
    let a = c.args in
    omega (arith, c.loop-i-test.true, c.loop-i.invariant, count_le (64 * c.loop-i.i) (arcs_wide 8 a.labels.now a.v), c.size-total.ensures, count_le 64 (member (get_or a.labels.now (8 * a.v + c.loop-i.i) 0)))

pub loop-i-preserved : goal.loop-i-preserved
loop-i-preserved c =
    let a = c.args in
    let i = c.loop-i.i in
    count_here (arcs_wide 8 a.labels.now a.v) i _ (λ q h. arc_word_at 8 a.labels.now a.v i q c.loop-i-test.true h) c.loop-i.invariant c.size-total.ensures

pub returns : goal.returns
returns c =
    let a = c.args in
    let all : 64 * c.loop-i.i ≡ 512 = omega (arith, c.loop-i-test.false) in
    c.loop-i.invariant ∙ ap (λ (m : ℕ). count_below m (arcs_wide 8 a.labels.now a.v)) all
