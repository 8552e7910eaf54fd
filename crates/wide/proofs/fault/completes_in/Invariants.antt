-- `fault::completes_in` meets its contract: what was taken out of the word so far completes nothing. The measure is the word that is left.
use Prim.Native.Nat.{◌+◌, ◌*◌}
use Rattle.bitset.proofs.Scan.{Scanned}
use Rattle.searches.specs.Kind.{search_of}
use Rattle.wide.specs.Fault.{completes}
use Rattle.wide.proofs.fault.completes_in.Given as goal

abbrev pub invariant-loop-rest : goal.invariant-loop-rest
invariant-loop-rest l = Scanned 64 l.word (λ q. completes (search_of l.labels.kind.0) l.labels.words l.position.0 l.b.0 (64 * l.i + q)) l.rest

abbrev pub decreases-loop-rest : goal.decreases-loop-rest
decreases-loop-rest l = l.rest
