-- `choice::last_of` meets its contract: `most` is the greatest rank so far. The measure is the word that is left.
use Rattle.choice.proofs.Ranking.{Ranking}
use Rattle.choice.proofs.last_of.Given as goal

abbrev pub invariant-loop-rest : goal.invariant-loop-rest
invariant-loop-rest l = Ranking l.tie_break l.ranks l.set l.most l.rest

abbrev pub decreases-loop-rest : goal.decreases-loop-rest
decreases-loop-rest l = l.rest
