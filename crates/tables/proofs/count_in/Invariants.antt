-- `tables::count_in` meets its contract: the counts of the words in common.
use mathlib.Core.Path.{◌≡◌}
use mathlib.Core.Bool.{Bool, ◌&&◌}
use mathlib.Core.List.{List}
use Prim.Native.Nat.{ℕ, ◌*◌}
use Rattle.bitset.specs.Below.{count_below}
use Rattle.searches.specs.Table.{arcs_wide}
use Rattle.tables.specs.Rows.{in_set}
use Rattle.tables.proofs.count_in.Given as goal

abbrev pub both : List ℕ → ℕ → List ℕ → ℕ → Bool
both table v set u = arcs_wide 8 table v u && in_set set u

abbrev pub invariant-loop-i : goal.invariant-loop-i
invariant-loop-i l = l.total ≡ count_below (64 * l.i) (both l.table l.v l.set)
