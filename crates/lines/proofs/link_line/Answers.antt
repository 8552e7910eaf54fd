-- `lines::link_line` meets its contract: the line is what its fields and its last byte come to.
-- Assumes nothing.
use mathlib.Core.Path.{◌∙◌}
use native.Mathlib.Omega.{arith}
use Rattle.lines.specs.Line.{is_below}
use Rattle.lines.proofs.LineByLine.{chosen_second, Linked, linked_read, linked_by_lem, link_missing, joined_as}
use Rattle.lines.proofs.link_line.Goals as goal
use Rattle.lines.proofs.link_line.Goals.{After-byte_at-end, in_default-via-in-Some+in_default, in_default-via-in_default}

pub returns-in_default : goal.returns-in_default
returns-in_default c =
    c.halt.ensures ∙ link_missing c.args.sheet.now c.args.at c.args.parsed c.requires.1.few
    (elim c.in_default.branch [
      | in_default-via-in-Some+in_default w ↦ λ u v. let missing = rw w.in_default.is-1 at c.field-2.ensures in omega arith
      | in_default-via-in_default w ↦ λ u v. let missing = rw w.in_default.is-0 at c.field.ensures in omega arith
    ])

-- the line is what was read
read : (c : After-byte_at-end)
    → Linked c.args.sheet.now c.args.at c.args.parsed c.in-Some-Some.u c.in-Some-Some.v c.byte_at-end.result
read c =
    let l = c.in-Some-Some in
    linked_read c.args.sheet.now c.args.at c.args.parsed l.ensures.1 l.ensures'.1 c.byte_at-end.ensures

pub returns-then-not-line-later : goal.returns-then-not-line-later
unfolding is_below
returns-then-not-line-later c =
    c.halt-then-not-line-later.ensures ∙ chosen_second (read (goal.at.returns-then-not-line-later c).After-byte_at-end) c.if-not-line-later.true

pub returns : goal.returns
unfolding is_below
returns c =
    let l = c.in-Some-Some in
    let both = joined_as l.u l.v c.args.parsed.content.rows c.insert.ensures c.insert-2.ensures in
    linked_by_lem _ _ _ (read (goal.at.returns c).After-byte_at-end) c.if-not-line-later.false both
