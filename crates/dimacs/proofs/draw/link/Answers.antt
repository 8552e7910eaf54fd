-- `dimacs::draw::link` meets its contract: both points are from 1 to n, and both rows get their bit.
-- Assumes nothing.
use Prim.Native.Nat.{ℕ, ◌-◌, ◌≤◌}
use mathlib.Core.Path.{sym, ap, ◌∙◌}
use mathlib.Core.List.{List}
use native.Mathlib.Omega.{arith}
use Rattle.lines.proofs.LineByLine.{joined_as}
use Rattle.dimacs.specs.Import.{is_point}
use Rattle.dimacs.proofs.Gathered.{points_inside, edged, link_inside, link_outside}
use Rattle.dimacs.proofs.draw.link.Goals as goal
use Rattle.dimacs.proofs.draw.link.Goals.{Else-not-inside}

-- both points are from 1 to n, and n is at most 64
inside : (c : Else-not-inside) → let a = c.args in (1 ≤ a.u) × (a.u ≤ 64) × (1 ≤ a.v) × (a.v ≤ 64)
unfolding is_point
inside c = let a = c.args in points_inside a.drawing.n a.u a.v c.requires.small c.if-not-inside.false

pub returns-then-not-inside : goal.returns-then-not-inside
unfolding is_point
returns-then-not-inside c = let a = c.args in c.halt.ensures ∙ sym (link_outside a.drawing a.u a.v c.if-not-inside.true)

pub overflow_sub-first : goal.overflow_sub-first
overflow_sub-first c = omega (arith, inside c)

pub overflow_sub-second : goal.overflow_sub-second
overflow_sub-second c = omega (arith, inside c)

pub offset_bounds-joined-first : goal.offset_bounds-joined-first
offset_bounds-joined-first c = omega (arith, inside (goal.at.offset_bounds-joined-first c).Else-not-inside)

pub bounds-joined-first : goal.bounds-joined-first
bounds-joined-first c = omega (arith, inside (goal.at.bounds-joined-first c).Else-not-inside)

pub offset_bounds-joined-first-2 : goal.offset_bounds-joined-first-2
offset_bounds-joined-first-2 c = omega (arith, inside (goal.at.offset_bounds-joined-first-2 c).Else-not-inside)

pub bounds-joined-first-2 : goal.bounds-joined-first-2
bounds-joined-first-2 c = omega (arith, inside (goal.at.bounds-joined-first-2 c).Else-not-inside)

pub offset_bounds-joined-second : goal.offset_bounds-joined-second
offset_bounds-joined-second c = omega (arith, inside (goal.at.offset_bounds-joined-second c).Else-not-inside)

pub bounds-joined-second : goal.bounds-joined-second
bounds-joined-second c = omega (arith, inside (goal.at.bounds-joined-second c).Else-not-inside)

pub offset_bounds-joined-second-2 : goal.offset_bounds-joined-second-2
offset_bounds-joined-second-2 c = omega (arith, inside (goal.at.offset_bounds-joined-second-2 c).Else-not-inside)

pub bounds-joined-second-2 : goal.bounds-joined-second-2
bounds-joined-second-2 c = omega (arith, inside (goal.at.bounds-joined-second-2 c).Else-not-inside)

pub returns : goal.returns
unfolding is_point
returns c =
    let a = c.args in
    ap (λ (rows : List ℕ). edged a.drawing a.u a.v rows) (joined_as (a.u - 1) (a.v - 1) a.drawing.rows c.insert.ensures c.insert-2.ensures)
    ∙ sym (link_inside a.drawing a.u a.v c.if-not-inside.false)
