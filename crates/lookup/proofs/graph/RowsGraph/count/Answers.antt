-- `Rows` counts in the column of the vertex.
-- Assumes nothing.
use Prim.Native.Nat.{ℕ}
use mathlib.Core.Path.{ap, ◌∙◌}
use Rattle.bitset.specs.Below.{count_below}
use Rattle.bitset.specs.Word.{member, common}
use Rattle.lookup.specs.Columns.{tally}
use Rattle.lookup.proofs.graph.RowsGraph.count.Goals as goal

pub returns : goal.returns
unfolding tally
returns c =
    c.size.ensures ∙ ap (λ (x : ℕ). count_below 64 (member x)) c.common.ensures
    ∙ ap (λ (x : ℕ). count_below 64 (member (common x c.args.placed))) c.row_of.ensures ∙ c.requires
