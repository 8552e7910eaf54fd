-- `tables::put` meets its contract: one word of the label is changed.
-- Assumes nothing.
use mathlib.Core.Path.{ap}
use Prim.Native.Nat.{ℕ, ◌+◌, ◌*◌, ◌/◌}
use lib.ListN.{set}
use Rattle.tables.specs.Rows.{with_bit}
use Rattle.tables.proofs.put.Goals as goal

pub returns : goal.returns
unfolding with_bit
returns c =
    let a = c.args in
    ap (λ (x : ℕ). set a.labels.now (8 * a.v + a.p / 64) x) c.insert.ensures
