-- `adjacency::Layout::one_way` meets its contract: at first each list is due from its beginning, and then vertex by vertex each neighbour leads back.
-- Assumes nothing.
use Prim.Native.Nat.{ℕ, ◌-◌, ◌≤◌}
use mathlib.Core.Path.{◌≡◌, sym, ap, ◌∙◌, subst}
use native.Mathlib.Omega.{arith}
use native.Mathlib.Numerals.{add-one}
use lib.ListN.{length, take, length-drop}
use lib.Seq.{length-take-le}
use Rattle.bitset.proofs.Tests.{is_true, is_false}
use Rattle.searches.specs.Ordering.{at}
use Rattle.adjacency.specs.Layout.{size_of}
use Rattle.adjacency.specs.LeadsBack.{Due}
use Rattle.adjacency.proofs.LeadsBack.{due_copied, due_end}
use Rattle.adjacency.proofs.Layouts.{size_suc}
use Rattle.adjacency.proofs.Layout.one_way.Goals as goal
use Rattle.adjacency.proofs.Layout.one_way.Goals.{After-vertex_count-n}

-- there are at most 64 vertices, and an offset for each
few : (c : After-vertex_count-n) → (c.vertex_count-n.result ≤ 64) × (c.vertex_count-n.result ≤ length c.args.self.offsets.now)
few c =
    let x = c.args.self.layout in
    (omega (arith, c.vertex_count-n.ensures, size_suc x.cover, x.few), omega (arith, c.vertex_count-n.ensures, size_suc x.cover))

pub slice_bounds-due-end : goal.slice_bounds-due-end
slice_bounds-due-end c = (few c).0

pub slice_bounds-copy_from_slice-end : goal.slice_bounds-copy_from_slice-end
slice_bounds-copy_from_slice-end c = sym (length-take-le _ _ (few (goal.at.slice_bounds-copy_from_slice-end c).After-vertex_count-n).0)

pub slice_bounds-copy_from_slice-end-2 : goal.slice_bounds-copy_from_slice-end-2
slice_bounds-copy_from_slice-end-2 c = sym (length-take-le _ _ (few (goal.at.slice_bounds-copy_from_slice-end-2 c).After-vertex_count-n).1)

pub copy_from_slice-requires : goal.copy_from_slice-requires
copy_from_slice-requires c =
    let few = few (goal.at.copy_from_slice-requires c).After-vertex_count-n in
    length-take-le _ _ few.0 ∙ sym (length-take-le _ _ few.1)

pub loop-u-init : goal.loop-u-init
loop-u-init c =
    let n = c.vertex_count-n.ensures in
    let offsets = c.args.self.offsets.now in (
      omega arith,
      due_copied c.args.self.layout _ _ (c.copy_from_slice.ensures.after ∙ ap (λ (m : ℕ). take m offsets) n) (length-drop c.vertex_count-n.result _ ∙ ap (λ (m : ℕ). 64 - m) n),
    )

pub leads_back-requires : goal.leads_back-requires
unfolding size_of
leads_back-requires c =
    (omega (arith, c.loop-u-test.true, c.vertex_count-n.ensures), c.loop-u.invariant.1)

pub returns-then-not-leads_back : goal.returns-then-not-leads_back
returns-then-not-leads_back c =
    sym (is_true _ (c.leads_back.ensures.not_all c.if-not-leads_back.true))

pub loop-u-preserved : goal.loop-u-preserved
loop-u-preserved c =
    let a = c.args in
    let due = c.leads_back.new.due in (
      omega (arith, c.loop-u-test.true),
      subst (λ (u : ℕ). Due a.self.offsets.now a.self.neighbours.now due (at a.self.offsets.now u)) (sym (add-one c.loop-u.u))
          (c.leads_back.ensures.all c.if-not-leads_back.false),
    )

pub returns : goal.returns
unfolding size_of
returns c =
    let l = c.loop-u in
    let offsets = c.args.self.offsets.now in
    let end : l.u ≡ length offsets - 1 = omega (arith, l.invariant.0, c.loop-u-test.false) in
    sym (is_false _ (due_end c.args.self.layout (subst (λ (u : ℕ). Due offsets c.args.self.neighbours.now l.due (at offsets u)) end l.invariant.1)))
