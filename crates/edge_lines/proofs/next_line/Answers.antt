-- `edge_lines::next_line` meets its contract: the bytes up to the line end are a line, and the next one begins behind it.
-- Assumes nothing.
use Prim.Native.Nat.{ℕ, ◌+◌, ◌-◌, ◌≤◌, ◌<◌}
use mathlib.Core.Path.{◌≡◌, sym, ap, ◌∙◌}
use mathlib.Core.List.{List}
use native.Mathlib.Omega.{arith}
use lib.ListN.{length, drop, length-drop}
use lib.Seq.{take_all}
use Rattle.std.specs.Prelude.{Option, position, ◌==◌}
use Rattle.wording.specs.Reading.{is_other, front}
use Rattle.edge_lines.specs.Reading.{capped_line}
use Rattle.edge_lines.proofs.Scanning.{line_ended, line_unended, unended_said, unended_rest, ended_said, ended_rest}
use Rattle.edge_lines.proofs.next_line.Goals as goal
use Rattle.edge_lines.proofs.next_line.Goals.{After-line_end}

-- where the first line end stands, from start on
abbrev until : List ℕ → ℕ → Option ℕ
until file start = position (λ c. c == 10) (drop start file)

found : (c : After-line_end) → c.line_end.result ≡ until c.args.file.now c.args.cursor.at
found c =
    let file = c.args.file.now in
    let start = c.args.cursor.at in
    c.line_end.ensures ∙ ap (λ (b : List ℕ). position (λ x. x == 10) b) (take_all (length file - start) (drop start file) (omega (arith, length-drop start file)))

pub returns-in-Some : goal.returns-in-Some
returns-in-Some c =
    let file = c.args.file.now in
    let start = c.args.cursor.at in
    let ends = line_ended (drop start file) (sym c.in-Some.is ∙ found (goal.at.returns-in-Some c).After-line_end) in
    let stop = start + c.in-Some.length in
    let there : stop ≡ start + length (front (is_other 10) (drop start file)) = omega (arith, ends.0) in
    let inside : stop < length file = omega (arith, ends.1, length-drop start file, c.requires) in
    record {
      line = c.read_line.ensures ∙ ap capped_line (ended_said file start stop there inside);
      rest = ended_rest file start stop there inside;
      further = (omega arith, omega arith);
    }

pub returns-in-None : goal.returns-in-None
unfolding capped_line
returns-in-None c =
    let file = c.args.file.now in
    let start = c.args.cursor.at in
    let long = line_unended (drop start file) (sym c.in-None.is ∙ found (goal.at.returns-in-None c).After-line_end) in
    let there : length file ≡ start + length (front (is_other 10) (drop start file)) = omega (arith, long, length-drop start file, c.requires) in
    let past : length file ≤ length file = omega arith in
    record {
      line = ap capped_line (unended_said file start (length file) there past);
      rest = unended_rest file start (length file) there past;
      further = (c.requires, past);
    }
