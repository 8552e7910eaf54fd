-- `choice::last_at` meets its contract: `last` is the greatest place of the vertices passed that have the weight.
-- Assumes nothing.
use mathlib.Core.Path.{◌≡◌, sym, ◌∙◌}
use native.Mathlib.Omega.{arith}
use Rattle.wide.proofs.Heaviest.{place_at, place_yes, place_no, highest_start, highest_next, highest_last}
use Rattle.wide.proofs.choice.last_at.Goals as goal
use Rattle.wide.proofs.choice.last_at.Goals.{Joined-weight-most, then-weight-most, else-weight-most}

pub loop-v-init : goal.loop-v-init
loop-v-init c = highest_start _

-- the place read is that of the vertex
placed : (c : Joined-weight-most)
    → let a = c.args in
    c.if-weight-most.place ≡ place_at a.weights.now a.ranks.now a.most c.loop-v.v
placed c =
    let a = c.args in
    elim c.if-weight-most.branch [
      | then-weight-most w ↦ w.place-is ∙ sym (place_yes a.weights.now a.ranks.now a.most c.loop-v.v w.if-weight-most.true)
      | else-weight-most w ↦ w.place-is ∙ sym (place_no a.weights.now a.ranks.now a.most c.loop-v.v w.if-weight-most.false)
    ]

pub loop-v-preserved : goal.loop-v-preserved
loop-v-preserved c =
    highest_next c.loop-v.invariant c.if-weight-most.place (placed (goal.at.loop-v-preserved c).Joined-weight-most) (omega arith) (omega arith) (grind arith)

pub returns : goal.returns
returns c = highest_last c.loop-v.invariant (omega arith) (omega arith)
