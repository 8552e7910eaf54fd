-- `labels::Labels::empty` meets its contract: an empty label weighs nothing.
-- Assumes nothing.
use mathlib.Core.Path.{refl}
use Rattle.searches.specs.Kind.{search_of}
use Rattle.labels.proofs.Weights.{weighed_none}
use Rattle.labels.proofs.Labels.empty.Goals as goal

pub invariant_of-result : goal.invariant_of-result
invariant_of-result c = record { weighed = weighed_none (search_of c.args.kind.0) refl refl }
