-- `dimacs::draw::read_lines` meets its contract: each turn takes up one line.
use Prim.Native.Nat.{◌-◌}
use lib.ListN.{length}
use Rattle.dimacs.proofs.Gathering.{Gathering}
use Rattle.dimacs.proofs.draw.read_lines.Given as goal

abbrev pub invariant-loop-at : goal.invariant-loop-at
invariant-loop-at l = Gathering l.file l.drawing l.at

abbrev pub decreases-loop-at : goal.decreases-loop-at
decreases-loop-at l = length l.file - l.at
