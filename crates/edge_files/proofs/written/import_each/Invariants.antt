-- `edge_files::written::import_each` goes through the text.
use lib.ListN.{length}
use Prim.Native.Nat.{◌≤◌, ◌-◌}
use Rattle.edge_files.proofs.written.import_each.Given as goal

abbrev pub invariant-loop-end : goal.invariant-loop-end
invariant-loop-end l = (l.start ≤ l.end) × (l.end-end ≤ length l.texts)

abbrev pub decreases-loop-end : goal.decreases-loop-end
decreases-loop-end l = l.end-end - l.end
