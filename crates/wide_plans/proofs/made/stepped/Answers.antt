-- `wide_plans::made::stepped` writes to places that are there.
-- Assumes nothing.
use Prim.Native.Nat.{◌≤◌, ◌<◌, ◌%◌}
use native.Mathlib.Nat.{mod-lt}
use native.Mathlib.Omega.{arith}
use borrow.Author.Rules.{rules}
use Rattle.wide_plans.proofs.made.stepped.Goals as goal

-- a remainder by n is below n
pub overflow_cast-point : goal.overflow_cast-point
overflow_cast-point c =
    let n = c.args.n in
    let reached = c.loop-point.reached in
    let some : 0 < n = search rules in
    let below : reached % n < n = mod-lt reached some in
    let few : n ≤ 513 = c.requires.0 in
    record { fits = omega (arith, below, few) }
