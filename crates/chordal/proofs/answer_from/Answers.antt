-- `chordal::answer_from` meets its contract: the cycle of the first gap, or the ordering turned round.
-- Assumes nothing.
use mathlib.Core.Path.{sym}
use native.Mathlib.Omega.{arith}
use Rattle.chordal.specs.Answer.{answer_of}
use Rattle.chordal.specs.Lists.{Descendable}
use Rattle.chordal.proofs.Deciding.{gap_found, cycle_shown, order_shown}
use Rattle.chordal.proofs.answer_from.Goals as goal
use Rattle.chordal.proofs.answer_from.Goals.{In-Some}

-- the three positions are a gap
found : (c : In-Some)
    → let a = c.args in
    let g = c.in-Some.gap in
    Descendable a.rows.now a.ordering.now a.output.now g.low.0 g.middle.0 g.top.0
found c =
    let x = c.in-Some.ensures in
    gap_found _ _ _ c.requires.0 c.requires.1 x.0 x.1 x.2 x.3

pub write_cycle-requires : goal.write_cycle-requires
write_cycle-requires c = found (goal.at.write_cycle-requires c).In-Some

pub returns-in_default : goal.returns-in_default
unfolding answer_of
returns-in_default c = order_shown _ _ _ c.requires.0 c.requires.1 (sym c.in_default.ensures) (omega arith) c.write_turned.ensures

pub returns : goal.returns
unfolding answer_of
returns c = cycle_shown _ _ _ c.requires.0 c.requires.1 (found (goal.at.returns c).In-Some).gap c.write_cycle.ensures.length c.write_cycle.ensures.output
