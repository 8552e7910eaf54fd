-- `conversion::lists::write_lists` meets its contract: each turn writes the neighbours of one vertex, and the offset behind them.
-- Assumes nothing.
use Prim.Native.Nat.{suc, ◌≤◌, ◌<◌}
use mathlib.Core.Path.{◌≡◌}
use native.Mathlib.Omega.{arith}
use lib.ListN.{length}
use Rattle.searches.specs.Ordering.{arcs}
use Rattle.conversion.proofs.Neighbours.{neighbours_more}
use Rattle.conversion.proofs.Writing.{neighbours_few, laying_start, laying_lengths, laying_room, laying_next, laying_end}
use Rattle.conversion.proofs.lists.write_lists.Goals as goal
use Rattle.conversion.proofs.lists.write_lists.Goals.{After-write_numbers-end, At-loop-u, In-loop-u}

-- u is a vertex, and there are at most 64
turn : (c : In-loop-u) → (c.loop-u.u < length c.args.rows.now) × (length c.args.rows.now ≤ 64)
turn c = (c.loop-u-test.true, c.requires.0)

-- so the position behind its neighbours fits an offset
next_few : (c : After-write_numbers-end) → c.write_numbers-end.result ≤ 4096
unfolding arcs
next_few c =
    let rows = c.args.rows.now in
    let u = c.loop-u.u in
    omega (arith, turn (goal.at.After-write_numbers-end c).In-loop-u, c.write_numbers-end.ensures.end, c.loop-u.invariant.place, neighbours_more rows u, neighbours_few rows (suc u))

-- the lists stay as long as they were
as_long : (c : At-loop-u)
    → (length c.loop-u.offsets ≡ length c.args.offsets.now) × (length c.loop-u.neighbours ≡ length c.args.neighbours.now)
as_long c =
    laying_lengths c.args.rows.now c.args.offsets.now c.args.neighbours.now c.requires.1 c.requires.2 c.loop-u.invariant

pub bounds-offsets-0 : goal.bounds-offsets-0
bounds-offsets-0 c = omega (arith, c.requires.1)

pub loop-u-init : goal.loop-u-init
loop-u-init c =
    laying_start c.args.rows.now c.args.offsets.now c.args.neighbours.now c.requires.1 c.requires.2

pub offset_bounds-rows-u : goal.offset_bounds-rows-u
offset_bounds-rows-u c = omega (arith, c.loop-u-test.true, c.requires.0)

pub bounds-rows-u : goal.bounds-rows-u
bounds-rows-u c = c.loop-u-test.true

pub write_numbers-end-requires : goal.write_numbers-end-requires
write_numbers-end-requires c =
    laying_room c.args.rows.now c.args.offsets.now c.args.neighbours.now c.requires.1 c.requires.2 c.loop-u.invariant c.loop-u-test.true

pub overflow_cast-offsets : goal.overflow_cast-offsets
overflow_cast-offsets c = omega (arith, next_few (goal.at.overflow_cast-offsets c).After-write_numbers-end)

pub overflow_add-offsets : goal.overflow_add-offsets
overflow_add-offsets c = omega (arith, turn (goal.at.overflow_add-offsets c).In-loop-u)

pub offset_bounds-offsets-u : goal.offset_bounds-offsets-u
offset_bounds-offsets-u c = omega (arith, turn (goal.at.offset_bounds-offsets-u c).In-loop-u)

pub bounds-offsets-u : goal.bounds-offsets-u
bounds-offsets-u c =
    omega (arith, turn (goal.at.bounds-offsets-u c).In-loop-u, c.requires.1, as_long (goal.at.bounds-offsets-u c).At-loop-u)

pub overflow_step-u : goal.overflow_step-u
overflow_step-u c = omega (arith, turn (goal.at.overflow_step-u c).In-loop-u)

pub loop-u-smaller : goal.loop-u-smaller
loop-u-smaller c = omega (arith, turn (goal.at.loop-u-smaller c).In-loop-u)

pub loop-u-preserved : goal.loop-u-preserved
loop-u-preserved c =
    let written = c.write_numbers-end in
    laying_next c.args.rows.now c.args.offsets.now c.args.neighbours.now c.requires.1 c.requires.2 c.loop-u.invariant (turn (goal.at.loop-u-preserved c).In-loop-u).0
    written.ensures.end written.ensures.list

pub shape_of-offsets : goal.shape_of-offsets
shape_of-offsets c = (as_long (goal.at.shape_of-offsets c).At-loop-u).0

pub shape_of-neighbours : goal.shape_of-neighbours
shape_of-neighbours c = (as_long (goal.at.shape_of-neighbours c).At-loop-u).1

pub returns : goal.returns
returns c =
    let whole = laying_end c.args.rows.now c.args.offsets.now c.args.neighbours.now c.requires.1 c.requires.2 c.loop-u.invariant c.loop-u-test.false in
    record { offsets = whole.0; neighbours = whole.1 }
