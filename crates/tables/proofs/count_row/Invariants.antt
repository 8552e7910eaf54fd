-- `tables::count_row` meets its contract: the counts of its words.
use mathlib.Core.Path.{◌≡◌}
use Prim.Native.Nat.{◌*◌}
use Rattle.bitset.specs.Below.{count_below}
use Rattle.searches.specs.Table.{arcs_wide}
use Rattle.tables.proofs.count_row.Given as goal

abbrev pub invariant-loop-i : goal.invariant-loop-i
invariant-loop-i l = l.total ≡ count_below (64 * l.i) (arcs_wide 8 l.labels l.v)
