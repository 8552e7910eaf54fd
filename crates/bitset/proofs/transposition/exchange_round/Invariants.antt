-- `bitset::transposition::exchange_round` meets its contract: the blocks that were passed are exchanged, and those that are left out are empty.
use mathlib.Core.Path.{◌≡◌}
use mathlib.Core.List.{List}
use Prim.Native.Nat.{ℕ, ◌-◌, ◌*◌, ◌%◌}
use Rattle.bitset.specs.Matrix.{Exchanged, between}
use Rattle.bitset.proofs.transposition.exchange_round.Given as goal

-- the blocks before the one that begins with the word `begin` are exchanged
abbrev pub Passed : ℕ → List ℕ → List ℕ → ℕ → Type 0
Passed stride before after begin = (begin % (2 * stride) ≡ 0) × Exchanged stride (between 0 begin) before after

abbrev pub invariant-loop-begin : goal.invariant-loop-begin
invariant-loop-begin l = Passed l.stride l.initial.words l.words l.begin

abbrev pub decreases-loop-begin : goal.decreases-loop-begin
decreases-loop-begin l = l.n - l.begin
