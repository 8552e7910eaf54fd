-- `edge_lines::number::read_number` meets its contract: each turn reads one digit more.
use Prim.Native.Nat.{◌-◌}
use lib.ListN.{length}
use Rattle.edge_lines.proofs.Scanning.{Counting}
use Rattle.edge_lines.proofs.number.read_number.Given as goal

abbrev pub invariant-loop-value : goal.invariant-loop-value
invariant-loop-value l = Counting l.line l.start l.end l.value

abbrev pub decreases-loop-value : goal.decreases-loop-value
decreases-loop-value l = length l.line - l.end
