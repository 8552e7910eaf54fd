-- `bitset::transposition::exchange_block` meets its contract: the pairs of the block that were passed are exchanged.
-- Assumes nothing.
use mathlib.Core.Path.{◌≡◌, ◌∙◌, subst}
use Prim.Native.Nat.{ℕ, ◌+◌}
use native.Mathlib.Omega.{arith}
use Rattle.bitset.specs.Matrix.{Exchanged, between}
use Rattle.bitset.proofs.Halves.{begin_low}
use Rattle.bitset.proofs.Rounds.{block_start, block_next}
use Rattle.bitset.proofs.transposition.exchange_block.Goals as goal

pub loop-low-init : goal.loop-low-init
loop-low-init c = (omega arith, omega arith, block_start c.args.stride c.args.begin c.args.words.now)

pub exchange-requires : goal.exchange-requires
exchange-requires c =
    (c.loop-low.invariant.2.as_many ∙ c.requires.0, c.requires.1, begin_low c.args.stride c.requires.1.positive c.requires.1.whole c.requires.2 c.loop-low.invariant.0 (omega arith))

pub loop-low-preserved : goal.loop-low-preserved
loop-low-preserved c =
    (omega arith, omega arith, block_next c.requires.1 c.loop-low.invariant.0 c.loop-low.invariant.2 c.exchange.ensures)

pub returns : goal.returns
returns c =
    let a = c.args in
    let over : c.loop-low.low ≡ a.begin + a.stride = omega arith in
    subst (λ (low : ℕ). Exchanged a.stride (between a.begin low) a.words.now c.loop-low.words) over c.loop-low.invariant.2
