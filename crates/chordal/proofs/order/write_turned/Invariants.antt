-- `chordal::order::write_turned` meets its contract: each turn writes one vertex in front of those that were written.
use Prim.Native.Nat.{◌-◌}
use Rattle.chordal.proofs.Listing.{Turning}
use Rattle.chordal.proofs.order.write_turned.Given as goal

abbrev pub invariant-loop-q : goal.invariant-loop-q
invariant-loop-q l = Turning l.ordering l.n l.initial.output l.output l.q

abbrev pub decreases-loop-q : goal.decreases-loop-q
decreases-loop-q l = l.n - l.q
