-- `tables::last_only` meets its contract: the last word of the one row without the other that is not empty has it.
-- Assumes nothing.
use mathlib.Core.Path.{ap, ◌∙◌}
use Prim.Native.Nat.{ℕ, ◌+◌, ◌*◌, ◌-◌}
use native.Mathlib.Omega.{arith}
use Rattle.bitset.specs.Below.{only, past_last}
use Rattle.bitset.specs.Word.{member}
use Rattle.searches.specs.Table.{arcs_wide}
use Rattle.tables.proofs.Words.{only_word, past, none_sooner, past_none, PastHere, past_here}
use Rattle.tables.proofs.last_only.Goals as goal
use Rattle.tables.proofs.last_only.Goals.{After-past_largest-q}

pub loop-i-init : goal.loop-i-init
loop-i-init c = record { none = λ j l h t. omega arith }

-- what a turn says
turn : (c : After-past_largest-q)
    → let a = c.args in
    PastHere 512 (only (arcs_wide 8 a.labels.now a.c) (arcs_wide 8 a.labels.now a.b)) (c.loop-i.i - 1) c.past_largest-q.result
turn c =
    let i : ℕ = c.loop-i.i - 1 in
    past_here _ _ i _ (λ q h. only_word _ _ _ i q (omega arith) h) _ (omega arith) (none_sooner (64 * i + 64) c.loop-i.invariant (omega arith))
    (c.past_largest-q.ensures ∙ ap (λ (x : ℕ). past_last 64 (member x)) c.without.ensures)

pub overflow_add-result : goal.overflow_add-result
overflow_add-result c =
    omega (arith, c.past_largest-q.ensures, (past 64 (member c.without.result)).within)

pub returns-then-q-gt0 : goal.returns-then-q-gt0
returns-then-q-gt0 c = (turn (goal.at.returns-then-q-gt0 c).After-past_largest-q).found c.if-q-gt0.true

pub loop-i-preserved : goal.loop-i-preserved
loop-i-preserved c = (turn (goal.at.loop-i-preserved c).After-past_largest-q).passed c.if-q-gt0.false

pub returns : goal.returns
returns c = past_none c.loop-i.invariant (omega (arith, c.loop-i-test.false))
