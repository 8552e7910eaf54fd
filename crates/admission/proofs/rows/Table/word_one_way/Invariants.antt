-- `admission::rows::Table::word_one_way` meets its contract: the vertices of the word that were taken out have `u` in their rows.
use mathlib.Core.Bool.{not}
use Prim.Native.Nat.{◌+◌, ◌*◌}
use lib.ListN.{get_or}
use Rattle.bitset.proofs.Scan.{Scanned}
use Rattle.searches.specs.Table.{arcs_wide}
use Rattle.admission.proofs.rows.Table.word_one_way.Given as goal

abbrev pub invariant-loop-rest : goal.invariant-loop-rest
invariant-loop-rest l = Scanned 64 (get_or l.self.words.now (8 * l.u + l.i) 0) (λ q. not (arcs_wide 8 l.self.words.now (64 * l.i + q) l.u)) l.rest

abbrev pub decreases-loop-rest : goal.decreases-loop-rest
decreases-loop-rest l = l.rest
