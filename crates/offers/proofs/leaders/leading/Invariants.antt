-- `offers::leaders::leading` meets its contract: of those that were met so far, the leaders are the ones that none is ahead of. The measure is the word
-- that is left.
use Prim.Native.Nat.{ℕ, ◌<◌, ◌^◌}
use mathlib.Core.Path.{◌≡◌}
use mathlib.Core.List.{List}
use mathlib.Core.Logic.{◌≢◌}
use Rattle.bitset.specs.Word.{united}
use Rattle.searches.specs.Kind.{Search, mns, search_of}
use Rattle.labels.specs.Weights.{weight_of}
use Rattle.offers.proofs.Leading.{Leading}
use Rattle.offers.proofs.leaders.leading.Given as goal

-- the leaders, and the two halves of the profile that they have
pub record Led (s : Search) (labels : List ℕ) (known rivals best label weight rest : ℕ) : Type 0 where
  pub left : rest < 2 ^ 64
  pub shows : weight ≡ weight_of s label
  pub leads : (other : s ≢ mns) → Leading s other labels (united known rivals) rest best label

abbrev pub invariant-loop-rest : goal.invariant-loop-rest
invariant-loop-rest l = Led (search_of l.labels.kind.0) l.labels.words l.known l.rivals l.best l.label l.weight l.rest

abbrev pub decreases-loop-rest : goal.decreases-loop-rest
decreases-loop-rest l = l.rest
