-- `conversion::write_rows` meets its contract: one row more each turn.
-- Assumes nothing.
use Prim.Native.Nat.{ℕ, ◌≤◌, ◌<◌}
use mathlib.Core.Path.{◌≡◌, ap, ap₂, ◌∙◌}
use mathlib.Core.List.{List, [], ◌++◌}
use native.Mathlib.Omega.{arith}
use lib.ListN.{length, take, drop}
use lib.Seq.{length-take-le}
use Rattle.std.proofs.Common.{append-nil}
use Rattle.std.proofs.lemmas.List.{drop_all}
use Rattle.adjacency.specs.Layout.{rows_listed}
use Rattle.adjacency.proofs.Layouts.{rows_length, size_suc}
use Rattle.conversion.proofs.Writing.{copying_start, copying_next, copying_end}
use Rattle.conversion.proofs.write_rows.Goals as goal
use Rattle.conversion.proofs.write_rows.Goals.{After-vertex_count-n, In-loop-u}

-- as many rows are written as there are vertices
count : (c : After-vertex_count-n) → let x = c.args.layout in length (rows_listed x.offsets.now x.neighbours.now) ≡ c.vertex_count-n.result
count c = let x = c.args.layout in omega (arith, rows_length x.offsets.now x.neighbours.now, c.vertex_count-n.ensures)

-- and there is room for them
long : (c : After-vertex_count-n) → length (take c.vertex_count-n.result c.args.rows.now) ≡ c.vertex_count-n.result
long c = length-take-le c.vertex_count-n.result c.args.rows.now (omega (arith, c.requires, c.vertex_count-n.ensures))

room : (c : After-vertex_count-n) → let x = c.args.layout in
    length (rows_listed x.offsets.now x.neighbours.now) ≤ length (take c.vertex_count-n.result c.args.rows.now)
room c = omega (arith, count c, long c)

-- u is a vertex
turn : (c : In-loop-u) → c.loop-u.u < c.vertex_count-n.result
turn c = omega (arith, c.loop-u-test.true, long (goal.at.In-loop-u c).After-vertex_count-n)

pub loop-u-init : goal.loop-u-init
loop-u-init c = copying_start _ _ (room (goal.at.loop-u-init c).After-vertex_count-n)

pub overflow_cast-u : goal.overflow_cast-u
overflow_cast-u c =
    let x = c.args.layout.layout in
    omega (arith, turn (goal.at.overflow_cast-u c).In-loop-u, c.vertex_count-n.ensures, size_suc x.cover, x.few)

pub row_of-requires : goal.row_of-requires
row_of-requires c = omega (arith, turn (goal.at.row_of-requires c).In-loop-u, c.vertex_count-n.ensures)

pub loop-u-preserved : goal.loop-u-preserved
loop-u-preserved c =
    let w = (goal.at.loop-u-preserved c).After-vertex_count-n in
    copying_next _ _ (room w) c.loop-u.invariant (omega (arith, turn (goal.at.loop-u-preserved c).In-loop-u, count w)) c.row_of.ensures

pub returns : goal.returns
returns c =
    let w = (goal.at.returns c).After-vertex_count-n in
    let x = c.args.layout in
    let rows = rows_listed x.offsets.now x.neighbours.now in
    let n = c.vertex_count-n.result in
    let old = c.args.rows.now in
    let all = copying_end _ _ (room w) c.loop-u.invariant (omega (arith, c.loop-u-test.false, count w, long w)) in
    let rest : drop (length rows) (take n old) ≡ [] = drop_all (length rows) (take n old) (omega (arith, count w, long w)) in
    ap₂ (λ (front : List ℕ) (m : ℕ). front ++ drop m old) (all ∙ ap (λ (l : List ℕ). rows ++ l) rest ∙ append-nil rows) c.vertex_count-n.ensures
