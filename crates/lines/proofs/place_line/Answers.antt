-- `lines::place_line` meets its contract: the line is what its field and its last byte come to.
-- Assumes nothing.
use mathlib.Core.Path.{◌∙◌}
use native.Mathlib.Omega.{arith}
use Rattle.lines.specs.Line.{place_added}
use Rattle.lines.proofs.LineByLine.{chosen_first, placed_read, place_there, place_missing}
use Rattle.lines.proofs.place_line.Goals as goal
use Rattle.lines.proofs.place_line.Goals.{in_default-via-in-Some+in_default, in_default-via-in_default}

pub returns-in_default : goal.returns-in_default
returns-in_default c =
    c.halt.ensures ∙ place_missing c.args.sheet.now c.args.at c.args.parsed
    (elim c.in_default.branch [
      | in_default-via-in-Some+in_default w ↦ λ v e. w.in_default.is-1.1 (c.byte_at.ensures ∙ e)
      | in_default-via-in_default w ↦ λ v e. let missing = rw w.in_default.is-0 at c.field.ensures in omega arith
    ])

pub returns : goal.returns
unfolding place_added
returns c =
    let l = c.in-Some-eq10 in
    chosen_first (placed_read c.args.sheet.now c.args.at c.args.parsed l.ensures.1 c.byte_at.ensures) (place_there l.ensures.0 l.is-1)
