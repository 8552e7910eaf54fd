-- `tables::first_only` meets its contract: the first word of the one row without the other that is not empty has it.
-- Assumes nothing.
use mathlib.Core.Path.{ap, ◌∙◌}
use Prim.Native.Nat.{ℕ}
use native.Mathlib.Omega.{arith}
use Rattle.bitset.specs.Below.{first_below, only}
use Rattle.bitset.specs.Word.{member}
use Rattle.bitset.proofs.Passed.{passed_start, first_unfound}
use Rattle.searches.specs.Table.{arcs_wide}
use Rattle.tables.proofs.Words.{only_word, FirstHere, first_here}
use Rattle.tables.proofs.first_only.Goals as goal
use Rattle.tables.proofs.first_only.Goals.{After-smallest-q}

pub loop-i-init : goal.loop-i-init
loop-i-init c = passed_start _ _

-- what a turn says
turn : (c : After-smallest-q)
    → let a = c.args in
    FirstHere 512 (only (arcs_wide 8 a.labels.now a.c) (arcs_wide 8 a.labels.now a.b)) c.loop-i.i c.smallest-q.result
turn c =
    let i = c.loop-i.i in
    first_here _ _ i _ (λ q h. only_word _ _ _ i q c.loop-i-test.true h) _ (omega (arith, c.loop-i-test.true)) c.loop-i.invariant
    (c.smallest-q.ensures ∙ ap (λ (x : ℕ). first_below 64 (member x)) c.without.ensures)

pub returns-then-q-lt64 : goal.returns-then-q-lt64
returns-then-q-lt64 c = (turn (goal.at.returns-then-q-lt64 c).After-smallest-q).found c.if-q-lt64.true

pub loop-i-preserved : goal.loop-i-preserved
loop-i-preserved c = (turn (goal.at.loop-i-preserved c).After-smallest-q).passed c.if-q-lt64.false

pub returns : goal.returns
returns c = first_unfound c.loop-i.invariant (omega (arith, c.loop-i-test.false))
