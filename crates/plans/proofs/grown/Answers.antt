-- `plans::grown` reads and writes rows that are there: the point before u is smaller.
-- Assumes nothing.
use Prim.Native.Nat.{◌<◌, ◌/◌, ◌%◌}
use native.Mathlib.Nat.{mod-lt}
use native.Mathlib.Omega.{arith}
use Rattle.plans.proofs.grown.Goals as goal
use Rattle.plans.proofs.grown.Goals.{After-next-r}

inside : (c : After-next-r) → c.next-r.result / 1048576 % c.loop-u.u < 64
inside c =
    omega (arith, mod-lt (c.next-r.result / 1048576) c.loop-u.invariant, c.loop-u-test.true, c.requires)

pub offset_bounds-rows-c : goal.offset_bounds-rows-c
offset_bounds-rows-c c = omega (arith, inside c)

pub bounds-rows-c : goal.bounds-rows-c
bounds-rows-c c = inside c
