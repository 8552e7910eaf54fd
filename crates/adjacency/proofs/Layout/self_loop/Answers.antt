-- `adjacency::Layout::self_loop` meets its contract: no vertex that was passed stands in its own list.
-- Assumes nothing.
use Prim.Native.Nat.{◌<◌}
use mathlib.Core.Path.{◌≡◌, sym, ◌∙◌}
use native.Mathlib.Omega.{arith}
use Rattle.bitset.proofs.Passed.{passed_start, passed_more, any_found, any_unfound}
use Rattle.adjacency.specs.Layout.{size_of, arcs_listed, self_loop_in}
use Rattle.adjacency.proofs.Layouts.{size_suc, own_any}
use Rattle.adjacency.proofs.Layout.self_loop.Goals as goal
use Rattle.adjacency.proofs.Layout.self_loop.Goals.{After-contains, In-loop-u}

pub loop-u-init : goal.loop-u-init
loop-u-init c = passed_start _ _

-- u is a vertex
vertex : (c : In-loop-u) → c.loop-u.u < size_of c.args.self.offsets.now
vertex c = omega (arith, c.loop-u-test.true, c.vertex_count-u-end.ensures)

pub list_of-requires : goal.list_of-requires
list_of-requires c = vertex (goal.at.list_of-requires c).In-loop-u

pub overflow_cast-u : goal.overflow_cast-u
overflow_cast-u c = omega (arith, vertex (goal.at.overflow_cast-u c).In-loop-u, size_suc c.args.self.layout.cover, c.args.self.layout.few)

-- what was asked of its list
told : (c : After-contains)
    → let a = c.args.self in
    c.contains.result ≡ arcs_listed a.offsets.now a.neighbours.now c.loop-u.u c.loop-u.u
told c =
    c.contains.ensures.value ∙ own_any c.args.self.layout (vertex (goal.at.After-contains c).In-loop-u) c.list_of.ensures c.loop-u.u

pub returns-then-contains : goal.returns-then-contains
unfolding self_loop_in
returns-then-contains c =
    any_found _ _ (vertex (goal.at.returns-then-contains c).In-loop-u) (sym (told (goal.at.returns-then-contains c).After-contains) ∙ c.if-contains.true)

pub loop-u-preserved : goal.loop-u-preserved
loop-u-preserved c =
    passed_more c.loop-u.invariant (vertex (goal.at.loop-u-preserved c).In-loop-u) (sym (told (goal.at.loop-u-preserved c).After-contains) ∙ c.if-contains.false)

pub returns : goal.returns
unfolding self_loop_in
returns c = any_unfound c.loop-u.invariant (omega (arith, c.loop-u-test.false, c.vertex_count-u-end.ensures))
