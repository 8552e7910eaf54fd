-- `route::parent` meets its contract: no vertex that was passed leads to the one at the position.
-- Assumes nothing.
use Prim.Native.Nat.{ℕ}
use mathlib.Core.Path.{◌≡◌, sym, ap, ap₂, ◌∙◌}
use native.Mathlib.Omega.{arith}
use lib.ListN.{get_or}
use Rattle.bitset.specs.Word.{member}
use Rattle.bitset.proofs.Passed.{passed_start, passed_more, first_found, first_unfound}
use Rattle.searches.specs.Ordering.{arcs, at}
use Rattle.searches.specs.Label.{label}
use Rattle.route.specs.Tree.{parent}
use Rattle.route.proofs.parent.Goals as goal
use Rattle.route.proofs.parent.Goals.{After-contains}

pub loop-p-init : goal.loop-p-init
loop-p-init c = passed_start _ _

pub vertex_at-requires : goal.vertex_at-requires
vertex_at-requires c = omega (arith, c.requires)

-- the bit that is looked at is the arc from the vertex before
led : (c : After-contains)
    → let a = c.args in
    c.contains.result ≡ label (arcs a.rows.now) a.ordering.now (at a.ordering.now a.position.0) c.loop-p.p
unfolding arcs label
led c =
    c.contains.ensures
    ∙ ap₂ member (c.row_of.ensures ∙ ap (λ (u : ℕ). get_or c.args.rows.now u 0) c.vertex_at.ensures)
    c.vertex_at-v.ensures

pub returns-then-contains : goal.returns-then-contains
unfolding parent
returns-then-contains c =
    (first_found c.loop-p.invariant (sym (led (goal.at.returns-then-contains c).After-contains) ∙ c.if-contains.true), c.loop-p-test.true)

pub loop-p-preserved : goal.loop-p-preserved
loop-p-preserved c =
    passed_more c.loop-p.invariant c.loop-p-test.true (sym (led (goal.at.loop-p-preserved c).After-contains) ∙ c.if-contains.false)

pub returns : goal.returns
unfolding parent
returns c = sym (first_unfound c.loop-p.invariant c.loop-p-test.false)
