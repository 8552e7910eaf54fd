-- `plan_text::write_plan` meets its contract: the first line, and then each turn the line of a link, if the number is that of one.
use Prim.Native.Nat.{◌-◌}
use Rattle.plan_text.proofs.Writing.{Listing}
use Rattle.plan_text.proofs.write_plan.Given as goal

abbrev pub invariant-loop-c : goal.invariant-loop-c
invariant-loop-c l = Listing l.format l.rows l.initial.output l.initial.at l.output l.at l.c

abbrev pub decreases-loop-c : goal.decreases-loop-c
decreases-loop-c l = l.c-end - l.c
