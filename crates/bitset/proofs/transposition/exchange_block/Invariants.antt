-- `bitset::transposition::exchange_block` meets its contract: the pairs of the block that were passed are exchanged.
use Prim.Native.Nat.{◌+◌, ◌-◌, ◌≤◌}
use Rattle.bitset.specs.Matrix.{Exchanged, between}
use Rattle.bitset.proofs.transposition.exchange_block.Given as goal

abbrev pub invariant-loop-low : goal.invariant-loop-low
invariant-loop-low l = (l.begin ≤ l.low) × (l.low ≤ l.begin + l.stride) × Exchanged l.stride (between l.begin l.low) l.initial.words l.words

abbrev pub decreases-loop-low : goal.decreases-loop-low
decreases-loop-low l = l.low-end - l.low
