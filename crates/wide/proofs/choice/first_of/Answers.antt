-- `wide::choice::first_of` meets its contract: the first word of the set that is not empty has it.
-- Assumes nothing.
use native.Mathlib.Omega.{arith}
use Rattle.bitset.proofs.Passed.{passed_start}
use Rattle.tables.proofs.Found.{first_inside, found_none}
use Rattle.tables.specs.Rows.{in_set}
use Rattle.tables.proofs.Bits.{in_word_at_lem}
use Rattle.tables.proofs.Words.{FirstHere, first_here}
use Rattle.wide.proofs.choice.first_of.Goals as goal
use Rattle.wide.proofs.choice.first_of.Goals.{After-smallest-q}

pub loop-i-init : goal.loop-i-init
loop-i-init c = passed_start _ _

-- what a turn says
turn : (c : After-smallest-q)
    → FirstHere 512 (in_set c.args.set.now) c.loop-i.i c.smallest-q.result
turn c =
    let i = c.loop-i.i in
    first_here _ _ i _ (λ q h. in_word_at_lem _ i q c.loop-i-test.true h) _ (omega (arith, c.loop-i-test.true)) c.loop-i.invariant c.smallest-q.ensures

pub returns-then-q-lt64 : goal.returns-then-q-lt64
returns-then-q-lt64 c =
    first_inside 512 _ ((turn (goal.at.returns-then-q-lt64 c).After-smallest-q).found c.if-q-lt64.true) (omega (arith, c.loop-i-test.true, c.if-q-lt64.true))

pub loop-i-preserved : goal.loop-i-preserved
loop-i-preserved c = (turn (goal.at.loop-i-preserved c).After-smallest-q).passed c.if-q-lt64.false

pub returns : goal.returns
returns c = found_none c.loop-i.invariant (omega (arith, c.loop-i-test.false))
