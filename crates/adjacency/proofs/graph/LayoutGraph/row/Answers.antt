-- `Layout` as a graph: a vertex has its row, and behind the last there is none.
-- Assumes nothing.
use Prim.Native.Nat.{◌≤◌}
use mathlib.Core.Path.{sym}
use native.Mathlib.Omega.{arith}
use lib.ListN.{length, get_or-eq_default}
use Rattle.adjacency.specs.Layout.{rows_listed}
use Rattle.adjacency.proofs.Layouts.{rows_length}
use Rattle.adjacency.proofs.graph.LayoutGraph.row.Goals as goal

pub returns-else-vertex-vertex_count : goal.returns-else-vertex-vertex_count
returns-else-vertex-vertex_count c =
    let a = c.args in
    let behind : length (rows_listed a.self.offsets.now a.self.neighbours.now) ≤ a.vertex.0 =
    omega (arith, rows_length a.self.offsets.now a.self.neighbours.now, c.vertex_count.ensures, c.if-vertex-vertex_count.false) in
    sym (get_or-eq_default (rows_listed a.self.offsets.now a.self.neighbours.now) 0 {n = a.vertex.0} behind)
