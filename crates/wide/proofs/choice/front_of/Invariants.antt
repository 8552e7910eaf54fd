-- `choice::front_of` meets its contract: the words passed are written, and a vertex was found in them where `some` says so.
use Rattle.wide.proofs.Fronting.{Fronting}
use Rattle.wide.proofs.choice.front_of.Given as goal

abbrev pub invariant-loop-i : goal.invariant-loop-i
invariant-loop-i l = Fronting l.sets.free l.sets.reached l.front l.all l.some l.i
