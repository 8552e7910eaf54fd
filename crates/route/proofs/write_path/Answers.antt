-- `route::write_path` meets its contract: each turn writes one vertex before those that were written, and steps to its parent.
-- Assumes nothing.
use Prim.Native.Nat.{ℕ, ◌+◌, ◌-◌, ◌<◌}
use mathlib.Core.Path.{◌≡◌, sym, ap, ◌∙◌, subst}
use native.Mathlib.Omega.{arith}
use lib.ListN.{set}
use Rattle.std.specs.Prelude.{Option, Some, None, MatchOption}
use Rattle.std.specs.Option.{unwrap_or}
use Rattle.searches.specs.Ordering.{arcs}
use Rattle.searches.specs.declared.Position.{Position}
use Rattle.route.specs.Tree.{parent}
use Rattle.route.proofs.Climbing.{Writing, writing_start, writing_within, writing_next, writing_end}
use Rattle.route.proofs.write_path.Goals as goal

-- where there is no parent, the climb stays where it is, as the parent's position says
stepped : (o : Option Position) (here : Position) (p : ℕ) {up : Position} → up ≡ unwrap_or o here
    → MatchOption o (p ≡ here.0) (λ u. (u.0 ≡ p) × (u.0 < here.0)) → up.0 ≡ p
stepped None here p e same = ap (λ (u : Position). u.0) e ∙ sym same
stepped (Some u) here p e found = ap (λ (x : Position). x.0) e ∙ found.0

pub loop-i-init : goal.loop-i-init
loop-i-init c =
    let a = c.args in
    let none : 0 ≡ a.count - a.count = omega arith in
    subst (λ (m : ℕ). Writing (arcs a.rows.now) a.ordering.now a.position.0 a.count a.output.now a.output.now a.position.0 m) none (writing_start _ _ _ _ _)

pub vertex_at-requires : goal.vertex_at-requires
vertex_at-requires c = omega (arith, c.requires.position_in_bounds, writing_within _ _ _ _ _ c.loop-i.invariant)

pub parent-requires : goal.parent-requires
parent-requires c = omega (arith, c.requires.position_in_bounds, writing_within _ _ _ _ _ c.loop-i.invariant)

pub loop-i-preserved : goal.loop-i-preserved
loop-i-preserved c =
    let a = c.args in
    let x = c.loop-i in
    let v = c.vertex_at.result.0 in
    let up = c.unwrap_or-at.result.0 in
    let one : a.count - x.i < a.count = omega arith in
    let place : a.count - 1 - (a.count - x.i) ≡ x.i - 1 = omega arith in
    let turns : a.count - x.i + 1 ≡ a.count - (x.i - 1) = omega arith in
    subst (λ (p : ℕ). Writing (arcs a.rows.now) a.ordering.now a.position.0 a.count a.output.now (set x.output p v) up (a.count - (x.i - 1))) place
    (subst (λ (m : ℕ). Writing (arcs a.rows.now) a.ordering.now a.position.0 a.count a.output.now (set x.output (a.count - 1 - (a.count - x.i)) v) up m) turns
    (writing_next _ _ _ _ _ x.invariant one c.requires.count_in_bounds c.vertex_at.ensures
    (stepped c.parent.result x.at (parent (arcs a.rows.now) a.ordering.now x.at.0) c.unwrap_or-at.ensures c.parent.ensures)))

pub shape_of-output : goal.shape_of-output
shape_of-output c = c.loop-i.invariant.long

pub returns : goal.returns
returns c = writing_end _ _ _ _ _ c.loop-i.invariant (omega arith)
