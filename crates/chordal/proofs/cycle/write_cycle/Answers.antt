-- `chordal::cycle::write_cycle` meets its contract: each turn steps down once and writes the vertex there.
-- Assumes nothing.
use Prim.Native.Nat.{◌<◌}
use mathlib.Core.Path.{◌≡◌, ◌∙◌}
use native.Mathlib.Omega.{arith}
use lib.ListN.{length, set, length-set}
use Rattle.searches.specs.Ordering.{arcs}
use Rattle.chordal.specs.Descent.{next, cycle_vertex}
use Rattle.chordal.specs.Lists.{Descendable}
use Rattle.chordal.proofs.Listing.{Filled, filled_length, filled_through}
use Rattle.chordal.proofs.Writing.{begun, writing_start, low_last, writing_inside, writing_stops, writing_room, writing_next, writing_end}
use Rattle.chordal.proofs.cycle.write_cycle.Goals as goal
use Rattle.chordal.proofs.cycle.write_cycle.Goals.{After-vertex_at-2, At-loop-next, In-Some}

pub vertex_at-requires : goal.vertex_at-requires
vertex_at-requires c = omega (arith, c.requires.gap.inside, c.requires.ordered.all.long)

pub bounds-output-0 : goal.bounds-output-0
bounds-output-0 c = omega (arith, c.requires.gap.inside, c.requires.room)

pub vertex_at-requires-2 : goal.vertex_at-requires-2
vertex_at-requires-2 c =
    omega (arith, c.requires.gap.high, c.requires.gap.inside, c.requires.ordered.all.long)

pub bounds-output-1 : goal.bounds-output-1
bounds-output-1 c =
    omega (arith, length-set c.args.output.now 0 c.vertex_at.result.0, c.requires.gap.high, c.requires.gap.inside, c.requires.room)

-- the first two vertices
started : (c : After-vertex_at-2)
    → let a = c.args in
    Filled (cycle_vertex (arcs a.rows.now) a.ordering.now a.gap.low.0 a.gap.top.0 a.gap.middle.0) a.output.now
    (set (set a.output.now 0 c.vertex_at.result.0) 1 c.vertex_at-2.result.0) 2
started c =
    let a = c.args in
    begun (arcs a.rows.now) a.ordering.now a.gap.low.0 a.gap.top.0 a.gap.middle.0 a.output.now
    (omega (arith, c.requires.gap.low, c.requires.gap.high, c.requires.gap.inside, c.requires.room)) c.vertex_at.ensures c.vertex_at-2.ensures

pub loop-next-init : goal.loop-next-init
loop-next-init c =
    let a = c.args in
    writing_start (arcs a.rows.now) a.ordering.now a.gap.low.0 a.gap.top.0 a.gap.middle.0 (started (goal.at.loop-next-init c).After-vertex_at-2)

abbrev pre_of : (c : At-loop-next)
    → let a = c.args in
    Descendable a.rows.now a.ordering.now a.output.now a.gap.low.0 a.gap.middle.0 a.gap.top.0
pre_of c = c.requires

-- the descent is at a position of the ordering
inside : (c : At-loop-next) → c.loop-next.at.0 < length c.args.ordering.now
inside c =
    let p = pre_of c in
    omega (arith, writing_inside _ _ _ _ _ p.ordered p.gap c.loop-next.invariant, p.gap.inside, p.ordered.all.long)

pub next_stop-requires : goal.next_stop-requires
next_stop-requires c =
    (omega (arith, (pre_of (goal.at.next_stop-requires c).At-loop-next).gap.inside, (pre_of (goal.at.next_stop-requires c).At-loop-next).ordered.all.long), inside (goal.at.next_stop-requires c).At-loop-next)

-- where it steps down it is above the low position,
over : (c : In-Some) → c.args.gap.low.0 < c.loop-next.at.0
over c =
    let a = c.args in
    let x = c.in-Some.ensures in
    let falls : next (arcs a.rows.now) a.ordering.now a.gap.low.0 a.gap.top.0 c.loop-next.at.0 < c.loop-next.at.0 = omega (arith, x.0, x.1) in
    low_last _ _ _ _ _ falls

-- and there is room for the vertex
fits : (c : In-Some)
    → c.loop-next.written < length c.args.rows.now
fits c =
    let p = pre_of (goal.at.In-Some c).At-loop-next in
    writing_room _ _ _ _ _ p.ordered p.gap c.loop-next.invariant (over c)

pub vertex_at-requires-in-Some : goal.vertex_at-requires-in-Some
vertex_at-requires-in-Some c = omega (arith, c.in-Some.ensures.1, inside (goal.at.vertex_at-requires-in-Some c).At-loop-next)

-- the list with the first two vertices is as long as it was
started_length : (c : At-loop-next) → length c.loop-next.output ≡ length c.args.output.now
started_length c = filled_length _ c.loop-next.invariant.filled ∙ filled_length _ (started (goal.at.At-loop-next c).After-vertex_at-2)

pub bounds-output-written : goal.bounds-output-written
bounds-output-written c =
    omega (arith, fits (goal.at.bounds-output-written c).In-Some, started_length (goal.at.bounds-output-written c).At-loop-next, (pre_of (goal.at.bounds-output-written c).At-loop-next).room)

pub overflow_add-written : goal.overflow_add-written
overflow_add-written c = omega (arith, fits (goal.at.overflow_add-written c).In-Some, (pre_of (goal.at.overflow_add-written c).At-loop-next).ordered.small)

pub loop-next-smaller : goal.loop-next-smaller
loop-next-smaller c = c.in-Some.ensures.1

pub loop-next-preserved : goal.loop-next-preserved
loop-next-preserved c =
    let p = pre_of (goal.at.loop-next-preserved c).At-loop-next in
    writing_next _ _ _ _ _ p.ordered p.gap c.loop-next.invariant (over (goal.at.loop-next-preserved c).In-Some)
    (omega (arith, p.room, filled_length _ (started (goal.at.loop-next-preserved c).After-vertex_at-2))) c.in-Some.ensures.0 c.vertex_at-in-Some.ensures

pub shape_of-output : goal.shape_of-output
shape_of-output c = started_length (goal.at.shape_of-output c).At-loop-next

pub returns : goal.returns
returns c =
    let p = pre_of (goal.at.returns c).At-loop-next in
    let x = c.loop-next.invariant in record {
      length = writing_end _ _ _ _ _ p.ordered p.gap x (writing_stops _ _ _ _ _ p.ordered p.gap x c.in_default.ensures);
      output = (filled_through _ (started (goal.at.returns c).After-vertex_at-2) (omega (arith, x.count)) x.filled).written;
    }
