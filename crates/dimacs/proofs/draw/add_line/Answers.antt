-- `dimacs::draw::add_line` meets its contract: each sort of line is taken up by its own function.
-- Assumes nothing.
use mathlib.Core.Path.{sym, ap, ◌∙◌}
use Rattle.edge_lines.specs.declared.Line.{Line}
use Rattle.dimacs.specs.Drawing.{added}
use Rattle.dimacs.proofs.draw.add_line.Goals as goal

pub returns-in-Comment : goal.returns-in-Comment
unfolding added
returns-in-Comment c = sym (ap (λ (l : Line). added l c.args.drawing) c.in-Comment.is)

pub returns-in-Problem : goal.returns-in-Problem
unfolding added
returns-in-Problem c =
    c.begin.ensures ∙ sym (ap (λ (l : Line). added l c.args.drawing) c.in-Problem.is)

pub returns-in-Edge : goal.returns-in-Edge
unfolding added
returns-in-Edge c =
    c.link.ensures ∙ sym (ap (λ (l : Line). added l c.args.drawing) c.in-Edge.is)

pub returns-in-Other : goal.returns-in-Other
unfolding added
returns-in-Other c = c.halt.ensures ∙ sym (ap (λ (l : Line). added l c.args.drawing) c.in-Other.is)
