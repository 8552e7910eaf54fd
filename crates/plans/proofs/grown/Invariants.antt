-- `plans::grown` reads and writes rows that are there: the point before u is smaller.
use Prim.Native.Nat.{◌≤◌, ◌-◌}
use Rattle.plans.proofs.grown.Given as goal

abbrev pub invariant-loop-u : goal.invariant-loop-u
invariant-loop-u l = 1 ≤ l.u

abbrev pub decreases-loop-u : goal.decreases-loop-u
decreases-loop-u l = l.n - l.u
