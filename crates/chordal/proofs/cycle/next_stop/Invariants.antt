-- `chordal::cycle::next_stop` meets its contract: the descent may go to no position that was passed.
use Prim.Native.Nat.{ℕ, ◌-◌, ◌<◌}
use lib.Dec.{T}
use Rattle.searches.specs.Ordering.{arcs}
use Rattle.chordal.specs.Descent.{step}
use Rattle.chordal.proofs.cycle.next_stop.Given as goal

abbrev pub invariant-loop-d : goal.invariant-loop-d
invariant-loop-d l = (x : ℕ) → x < l.d → T (step (arcs l.rows) l.ordering l.gap.low.0 l.gap.top.0 l.from.0 x) → ⊥

abbrev pub decreases-loop-d : goal.decreases-loop-d
decreases-loop-d l = l.d-end - l.d
