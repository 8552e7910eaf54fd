-- `labels::profile::profile_of` meets its contract.
-- Assumes nothing.
use mathlib.Core.Path.{refl}
use Rattle.labels.specs.Words.{profile_at}
use Rattle.labels.proofs.profile.profile_of.Goals as goal

pub returns : goal.returns
unfolding profile_at
returns c = refl
