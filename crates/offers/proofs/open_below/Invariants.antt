-- `offers::open_below` meets its contract: the set holds the open vertices that were passed.
use Prim.Native.Nat.{◌-◌, ◌≤◌}
use mathlib.Core.Path.{◌≡◌}
use Rattle.searches.specs.Kind.{search_of}
use Rattle.offers.specs.Open.{open_in}
use Rattle.bitset.specs.Word.{set_below}
use Rattle.offers.proofs.open_below.Given as goal

abbrev pub invariant-loop-v : goal.invariant-loop-v
invariant-loop-v l = (l.v ≤ l.n) × (l.set ≡ set_below l.v (open_in (search_of l.labels.kind.0) l.labels.words l.free))

abbrev pub decreases-loop-v : goal.decreases-loop-v
decreases-loop-v l = l.n - l.v
