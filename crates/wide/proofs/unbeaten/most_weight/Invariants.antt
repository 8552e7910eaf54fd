-- `unbeaten::most_weight` meets its contract: `most` is the greatest of the weights passed.
use lib.ListN.{get_or}
use Rattle.wide.proofs.Heaviest.{Highest}
use Rattle.wide.proofs.unbeaten.most_weight.Given as goal

abbrev pub invariant-loop-weight : goal.invariant-loop-weight
invariant-loop-weight l = Highest (λ u. get_or l.weights u 0) l.weight-index l.most
