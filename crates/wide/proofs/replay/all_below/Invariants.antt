-- `wide::replay::all_below` meets its contract: word by word, the numbers of the word that are below n.
use Rattle.wide.proofs.Upto.{Upto}
use Rattle.wide.proofs.replay.all_below.Given as goal

abbrev pub invariant-loop-i : goal.invariant-loop-i
invariant-loop-i l = Upto l.n l.set l.i
