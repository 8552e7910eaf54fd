-- `adjacency::Layout::row_of` meets its contract: the neighbours so far are gathered.
-- Assumes nothing.
use Prim.Native.Nat.{ℕ, suc, ◌+◌}
use mathlib.Core.Path.{◌≡◌, sym, ap, ◌∙◌, subst}
use native.Mathlib.Omega.{arith}
use Rattle.bitset.specs.Word.{inserted}
use Rattle.searches.specs.Ordering.{at}
use Rattle.adjacency.proofs.Layouts.{Gathered, size_suc, gather_start, gather_next, gather_end, own_end, own_inside, own_at}
use Rattle.adjacency.proofs.Layout.row_of.Goals as goal

pub loop-v-init : goal.loop-v-init
loop-v-init c =
    let begin = at c.args.self.offsets.now c.args.vertex.0 in
    let here : begin ≡ begin + 0 = omega arith in
    subst (λ (e : ℕ). Gathered c.args.self.neighbours.now begin e 0) here (gather_start c.args.self.neighbours.now begin)

pub loop-v-preserved : goal.loop-v-preserved
loop-v-preserved c =
    let x = c.args.self.layout in
    let l = c.loop-v in
    let e = at c.args.self.offsets.now c.args.vertex.0 + l.v-index in
    let number = own_at x c.requires c.list_of-v-items.ensures l.v-index c.loop-v-test.true in
    let small = x.inside e (own_inside x c.requires c.list_of-v-items.ensures l.v-index c.loop-v-test.true) in
    let next : e + 1 ≡ at c.args.self.offsets.now c.args.vertex.0 + (l.v-index + 1) = omega arith in
    subst (λ (m : ℕ). Gathered c.args.self.neighbours.now (at c.args.self.offsets.now c.args.vertex.0) m c.insert-row.result) next
    (subst (λ (y : ℕ). Gathered c.args.self.neighbours.now (at c.args.self.offsets.now c.args.vertex.0) (e + 1) y) (sym (c.insert-row.ensures ∙ ap (λ (y : ℕ). inserted l.row y) number))
    (gather_next l.invariant (omega (arith, small, x.few, size_suc x.cover))))

pub returns : goal.returns
returns c =
    let x = c.args.self.layout in
    let l = c.loop-v in
    let begin = at c.args.self.offsets.now c.args.vertex.0 in
    let end : begin + l.v-index ≡ at c.args.self.offsets.now (suc c.args.vertex.0) = omega (arith, own_end x c.requires c.list_of-v-items.ensures, c.loop-v-test.false, l.auto.v-index-end) in
    gather_end x c.requires (subst (λ (b : ℕ). Gathered c.args.self.neighbours.now begin b l.row) end l.invariant)
