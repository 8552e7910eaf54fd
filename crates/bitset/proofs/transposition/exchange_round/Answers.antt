-- `bitset::transposition::exchange_round` meets its contract: the blocks that were passed are exchanged, and those that are left out are empty.
-- Assumes nothing.
use mathlib.Core.Path.{◌∙◌}
use Prim.Native.Nat.{◌+◌, ◌*◌}
use native.Mathlib.Nat.{zero-mod, add-mod_right}
use native.Mathlib.Omega.{arith}
use Rattle.bitset.proofs.Rounds.{block_start, round_next, round_end, round_skipped}
use Rattle.bitset.proofs.transposition.exchange_round.Goals as goal
use Rattle.bitset.proofs.transposition.exchange_round.Goals.{After-exchange_block}
use Rattle.bitset.proofs.transposition.exchange_round.Invariants.{Passed}

pub returns-then-n-stride : goal.returns-then-n-stride
returns-then-n-stride c = round_skipped c.requires.1 c.requires.2 c.if-n-stride.true

pub loop-begin-init : goal.loop-begin-init
loop-begin-init c = (zero-mod (2 * c.args.stride), block_start c.args.stride 0 c.args.words.now)

pub exchange_block-requires : goal.exchange_block-requires
exchange_block-requires c =
    (c.loop-begin.invariant.1.as_many ∙ c.requires.2.full, c.requires.1, record { below = omega arith; first = c.loop-begin.invariant.0 })

-- one block more
onward : (c : After-exchange_block) → Passed c.args.stride c.args.words.now c.exchange_block.new.words (c.loop-begin.begin + 2 * c.args.stride)
onward c =
    let begin = c.loop-begin.begin in (
      add-mod_right begin (2 * c.args.stride) ∙ c.loop-begin.invariant.0,
      round_next c.requires.1 begin c.loop-begin.invariant.0 c.loop-begin.invariant.1 c.exchange_block.ensures,
    )

pub loop-begin-preserved : goal.loop-begin-preserved
loop-begin-preserved c = onward (goal.at.loop-begin-preserved c).After-exchange_block

pub returns-else-n-stride : goal.returns-else-n-stride
returns-else-n-stride c =
    round_end c.requires.1 c.requires.2 c.loop-begin.begin c.loop-begin.invariant.0 c.loop-begin-test.false c.loop-begin.invariant.1

-- behind the last block
pub returns-else-n-stride-2 : goal.returns-else-n-stride-2
returns-else-n-stride-2 c =
    let over = onward (goal.at.returns-else-n-stride-2 c).After-exchange_block in
    round_end c.requires.1 c.requires.2 (c.loop-begin.begin + 2 * c.args.stride) over.0 (omega arith) over.1
