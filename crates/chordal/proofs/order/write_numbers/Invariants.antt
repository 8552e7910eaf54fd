-- `chordal::order::write_numbers` meets its contract: one number more each turn.
use Rattle.chordal.proofs.Listing.{Filled}
use Rattle.chordal.proofs.order.write_numbers.Given as goal

abbrev pub invariant-loop-p : goal.invariant-loop-p
invariant-loop-p l = Filled (λ v. v) l.initial.list l.list l.p
