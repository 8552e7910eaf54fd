-- `lines::first_line` meets its contract: the line is what its fields and its last byte come to.
-- Assumes nothing.
use mathlib.Core.Path.{◌∙◌}
use native.Mathlib.Omega.{arith}
use Rattle.lines.proofs.LineByLine.{Headed, headed_read, head_there, head_missing, headed_by}
use Rattle.lines.proofs.first_line.Goals as goal
use Rattle.lines.proofs.first_line.Goals.{In-Some-Some-Some-eq10, in_default-via-in-Some+in-Some+in-Some+in_default, in_default-via-in-Some+in-Some+in_default, in_default-via-in-Some+in_default, in_default-via-in_default}

pub returns-in_default : goal.returns-in_default
returns-in_default c =
    c.halt.ensures ∙ head_missing c.args.sheet.now c.args.at c.args.parsed
    (elim c.in_default.branch [
      | in_default-via-in-Some+in-Some+in-Some+in_default w ↦ λ n m k e. w.in_default.is-3.1 (c.byte_at.ensures ∙ e)
      | in_default-via-in-Some+in-Some+in_default w ↦ λ n m k e. let missing = rw w.in_default.is-2 at c.field-3.ensures in omega arith
      | in_default-via-in-Some+in_default w ↦ λ n m k e. let missing = rw w.in_default.is-1 at c.field-2.ensures in omega arith
      | in_default-via-in_default w ↦ λ n m k e. let missing = rw w.in_default.is-0 at c.field.ensures in omega arith
    ])

-- the line is what was read
read : (c : In-Some-Some-Some-eq10)
    → let l = c.in-Some-Some-Some-eq10 in
    Headed c.args.sheet.now c.args.at c.args.parsed l.n l.m l.k c.byte_at.result
read c =
    let l = c.in-Some-Some-Some-eq10 in
    headed_read c.args.sheet.now c.args.at c.args.parsed l.ensures.1 l.ensures'.1 l.ensures''.1 c.byte_at.ensures

pub returns-then-large : goal.returns-then-large
returns-then-large c =
    let l = c.in-Some-Some-Some-eq10 in
    headed_by _ _ _ (read (goal.at.returns-then-large c).In-Some-Some-Some-eq10) (head_there l.ensures.0 l.ensures'.0 l.ensures''.0 l.is-3) c.if-large.true

pub returns-else-large : goal.returns-else-large
returns-else-large c =
    let l = c.in-Some-Some-Some-eq10 in
    headed_by _ _ _ (read (goal.at.returns-else-large c).In-Some-Some-Some-eq10) (head_there l.ensures.0 l.ensures'.0 l.ensures''.0 l.is-3) c.if-large.false
