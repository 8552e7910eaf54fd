-- `choice::rank` meets its contract.
use mathlib.Core.Path.{◌≡◌}
use Rattle.choice.specs.Ranks.{ranks_below}
use Rattle.choice.proofs.rank.Given as goal

abbrev pub invariant-loop-q : goal.invariant-loop-q
invariant-loop-q l = l.ranks ≡ ranks_below l.tie_break l.q
