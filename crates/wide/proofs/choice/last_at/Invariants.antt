-- `choice::last_at` meets its contract: `last` is the greatest place of the vertices passed that have the weight.
use Rattle.wide.proofs.Heaviest.{Highest, place_at}
use Rattle.wide.proofs.choice.last_at.Given as goal

abbrev pub invariant-loop-v : goal.invariant-loop-v
invariant-loop-v l = Highest (place_at l.weights l.ranks l.most) l.v l.last
