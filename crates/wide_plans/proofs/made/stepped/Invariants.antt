-- `wide_plans::made::stepped` writes to places that are there.
use Prim.Native.Nat.{◌≤◌, ◌+◌, ◌*◌}
use Rattle.wide_plans.proofs.made.stepped.Given as goal

abbrev pub invariant-loop-point : goal.invariant-loop-point
invariant-loop-point l = l.reached ≤ 1024 + l.point-index * 1024
