-- `wide::place::clear` meets its contract: what is kept of an empty label is written for the vertex.
-- Assumes nothing.
use mathlib.Core.Path.{refl}
use Rattle.wide.proofs.Clearing.{row_cleared, stored_cleared}
use Rattle.wide.proofs.place.clear.Goals as goal

pub invariant_of-labels : goal.invariant_of-labels
invariant_of-labels c =
    let e = c.empty_row.ensures in
    record { stored = stored_cleared c.requires (row_cleared e) e.same_length _ c.args.labels.now.stored }

pub returns : goal.returns
returns c = record { label = row_cleared c.empty_row.ensures; kind = refl }
