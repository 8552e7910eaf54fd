-- `minutes::jump_minutes` meets its contract: 0 for the first position; 7 for a later one, unless the vertex before leads to it.
-- Assumes nothing.
use mathlib.Core.Path.{◌≡◌, sym, ap, ap₂, ◌∙◌}
use borrow.Author.Tests.{eq-eqb, ne_eqb}
use Prim.Native.Nat.{ℕ, ◌-◌}
use lib.ListN.{get_or}
use Rattle.bitset.specs.Word.{member}
use Rattle.searches.specs.Ordering.{arcs, at}
use Rattle.minutes.proofs.Adding.{first_none, later_unless_led}
use Rattle.minutes.proofs.jump_minutes.Goals as goal
use Rattle.minutes.proofs.jump_minutes.Goals.{After-contains}

-- the bit that is looked at is the arc from the vertex before
led : (c : After-contains)
    → let a = c.args in
    c.contains.result ≡ arcs a.rows.now (at a.ordering.now (a.position.0 - 1)) (at a.ordering.now a.position.0)
unfolding arcs
led c =
    let rows = c.args.rows.now in
    c.contains.ensures
    ∙ ap₂ (λ (x v : ℕ). member x v) (c.row_of.ensures ∙ ap (λ (u : ℕ). get_or rows u 0) c.vertex_at-before.ensures) c.vertex_at-vertex.ensures

pub returns-then-p-eq0 : goal.returns-then-p-eq0
returns-then-p-eq0 c = let a = c.args in sym (first_none (arcs a.rows.now) a.ordering.now a.position.0 (eq-eqb _ _ c.if-p-eq0.true))

pub returns-then-contains : goal.returns-then-contains
returns-then-contains c =
    let a = c.args in
    sym (later_unless_led (arcs a.rows.now) a.ordering.now a.position.0 (ne_eqb _ _ c.if-p-eq0.false) (sym c.if-contains.true ∙ led (goal.at.returns-then-contains c).After-contains))

pub returns-else-contains : goal.returns-else-contains
returns-else-contains c =
    let a = c.args in
    sym (later_unless_led (arcs a.rows.now) a.ordering.now a.position.0 (ne_eqb _ _ c.if-p-eq0.false) (sym c.if-contains.false ∙ led (goal.at.returns-else-contains c).After-contains))
