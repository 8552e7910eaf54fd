-- `chordal::cycle::may_step` meets its contract.
-- Assumes nothing.
use mathlib.Core.Path.{◌≡◌, ap₂}
use Rattle.std.proofs.Common.{rules}
use mathlib.Core.Bool.{Bool, not, ◌&&◌, ◌||◌}
use lib.Dec.{eqb, ltb}
use Rattle.chordal.specs.Descent.{step, opened}
use Rattle.chordal.proofs.cycle.may_step.Goals as goal

pub returns : goal.returns
unfolding step opened
returns c =
    let a = c.args in
    let here : c.eq.result ≡ eqb a.to.0 a.gap.low.0 = search rules in
    ap₂ (λ (e : Bool) (rest : Bool × Bool). (e || (ltb a.gap.low.0 a.to.0 && not rest.0)) && rest.1) here (ap₂ (λ (t h : Bool). (t, h)) c.joined-chord.ensures c.joined-here.ensures)
