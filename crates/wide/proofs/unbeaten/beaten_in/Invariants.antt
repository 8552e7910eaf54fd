-- `unbeaten::beaten_in` meets its contract: what was taken out of the word so far is not ahead. The measure is the word that is left.
use Prim.Native.Nat.{◌+◌, ◌*◌}
use Rattle.bitset.proofs.Scan.{Scanned}
use Rattle.searches.specs.Kind.{search_of}
use Rattle.searches.specs.Label.{outranks}
use Rattle.tables.specs.Rows.{row_of}
use Rattle.wide.proofs.unbeaten.beaten_in.Given as goal

abbrev pub invariant-loop-rest : goal.invariant-loop-rest
invariant-loop-rest l = Scanned 64 l.word (λ q. outranks (search_of l.labels.kind.0) 512 (row_of l.labels.words (64 * l.i + q)) (row_of l.labels.words l.b.0)) l.rest

abbrev pub decreases-loop-rest : goal.decreases-loop-rest
decreases-loop-rest l = l.rest
