-- `wide::place::raise` meets its contract: what is kept of one vertex is written anew.
-- Assumes nothing.
use mathlib.Core.Path.{refl}
use Rattle.wide.proofs.Storing.{weighable_raised, stored_raised}
use Rattle.wide.proofs.place.raise.Goals as goal

pub weigh-weight-requires : goal.weigh-weight-requires
weigh-weight-requires c =
    weighable_raised c.requires c.put.ensures c.smallest_with-first.ensures

pub invariant_of-labels : goal.invariant_of-labels
invariant_of-labels c =
    record { stored = stored_raised c.requires c.put.ensures c.smallest_with-first.ensures c.weigh-weight.ensures }

pub returns : goal.returns
returns c = record { words = c.put.ensures; kind = refl }
