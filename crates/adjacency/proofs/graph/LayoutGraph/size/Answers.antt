-- `Layout` as a graph: there are as many rows as vertices.
-- Assumes nothing.
use mathlib.Core.Path.{sym, ◌∙◌}
use Rattle.adjacency.proofs.Layouts.{rows_length}
use Rattle.adjacency.proofs.graph.LayoutGraph.size.Goals as goal

pub returns : goal.returns
returns c = c.vertex_count.ensures ∙ sym (rows_length c.args.self.offsets.now c.args.self.neighbours.now)
