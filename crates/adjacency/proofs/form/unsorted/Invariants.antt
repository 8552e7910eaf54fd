-- `adjacency::form::unsorted` meets its contract: the neighbours of no vertex that was passed are unsorted.
use Prim.Native.Nat.{◌-◌}
use Rattle.bitset.proofs.Passed.{Passed}
use Rattle.adjacency.specs.Layout.{unsorted_at}
use Rattle.adjacency.proofs.form.unsorted.Given as goal

abbrev pub invariant-loop-u : goal.invariant-loop-u
invariant-loop-u l = Passed l.n (unsorted_at l.offsets l.neighbours) l.u

abbrev pub decreases-loop-u : goal.decreases-loop-u
decreases-loop-u l = l.n - l.u
