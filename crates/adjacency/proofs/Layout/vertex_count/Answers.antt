-- `adjacency::Layout::vertex_count` meets its contract.
-- Assumes nothing.
use mathlib.Core.Path.{refl}
use Rattle.adjacency.specs.Layout.{size_of}
use Rattle.adjacency.proofs.Layout.vertex_count.Goals as goal

pub returns : goal.returns
unfolding size_of
returns c = refl
