-- `judgement::judged_lines` meets its contract: the lines of the kinds so far are written.
use Prim.Native.Nat.{◌-◌}
use Rattle.judgement.proofs.Writing.{Judging}
use Rattle.judgement.proofs.judged_lines.Given as goal

abbrev pub invariant-loop-kind : goal.invariant-loop-kind
invariant-loop-kind l = Judging l.initial.output l.rows l.ordering l.output l.at l.kind

abbrev pub decreases-loop-kind : goal.decreases-loop-kind
decreases-loop-kind l = 7 - l.kind
