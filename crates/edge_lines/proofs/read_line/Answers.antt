-- `edge_lines::read_line` meets its contract: a comment, a link, a p line or none of these, tried in this order.
-- Assumes nothing.
use mathlib.Core.Path.{◌≡◌, sym, ◌∙◌}
use mathlib.Core.Bool.{false}
use Rattle.wording.specs.Text.{bytes}
use Rattle.edge_lines.specs.Reading.{begins}
use Rattle.edge_lines.proofs.Scanning.{begins_starts}
use Rattle.edge_lines.proofs.Choosing.{said_comment, said_edge, said_problem, said_other}
use Rattle.edge_lines.proofs.read_line.Goals as goal
use Rattle.edge_lines.proofs.read_line.Goals.{Else-starts_with}

pub returns-then-starts_with : goal.returns-then-starts_with
unfolding bytes
returns-then-starts_with c = said_comment _ (sym (begins_starts (bytes "c") c.args.line.now) ∙ sym c.starts_with.ensures.value ∙ c.if-starts_with.true)

uncommented : (c : Else-starts_with) → begins (bytes "c") c.args.line.now ≡ false
unfolding bytes
uncommented c = sym (begins_starts (bytes "c") c.args.line.now) ∙ sym c.starts_with.ensures.value ∙ c.if-starts_with.false

pub returns-in-Some : goal.returns-in-Some
unfolding bytes
returns-in-Some c = let edge = c.in-Some.ensures in said_edge _ (uncommented (goal.at.returns-in-Some c).Else-starts_with) edge.0 edge.1 edge.2

pub returns-in-Some-read_pair : goal.returns-in-Some-read_pair
unfolding bytes
returns-in-Some-read_pair c =
    let problem = c.in-Some-read_pair.ensures in
    said_problem _ (uncommented (goal.at.returns-in-Some-read_pair c).Else-starts_with) c.in_default.ensures problem.0 problem.1 problem.2

pub returns : goal.returns
unfolding bytes
returns c = said_other _ (uncommented (goal.at.returns c).Else-starts_with) c.in_default.ensures c.in_default-read_pair.ensures
