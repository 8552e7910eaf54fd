-- `choice::rank` meets its contract: the ranks of the entries passed are written.
use Rattle.wide.proofs.Ranking.{Ranking}
use Rattle.wide.proofs.choice.rank.Given as goal

abbrev pub invariant-loop-q : goal.invariant-loop-q
invariant-loop-q l = Ranking l.tie_break l.ranks l.q
