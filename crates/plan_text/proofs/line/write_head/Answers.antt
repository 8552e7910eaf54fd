-- `plan_text::line::write_head` meets its contract, in either format.
-- Assumes nothing.
use mathlib.Core.Path.{◌≡◌, sym, ap, ◌∙◌}
use mathlib.Core.List.{List}
use Prim.Native.Nat.{ℕ, ◌+◌}
use native.Mathlib.Omega.{arith}
use lib.ListN.{length}
use lib.Seq.{sets}
use Rattle.fields.specs.Field.{field, fields, line}
use Rattle.sheet.specs.Written.{first_line}
use Rattle.wording.specs.Text.{bytes}
use Rattle.edge_lines.specs.Writing.{problem_text}
use Rattle.plan_text.specs.Text.{head_text}
use Rattle.plan_text.specs.declared.Format.{Format}
use Rattle.plan_text.proofs.line.write_head.Goals as goal
use Rattle.plan_text.proofs.line.write_head.Goals.{In-Edges, In-Sheet}

-- the line in this format
edges : (c : In-Edges) → let a = c.args in head_text Format.Edges a.n a.m ≡ head_text a.format a.n a.m
edges c = let a = c.args in ap (λ (f : Format). head_text f a.n a.m) (sym c.in-Edges.is)

sheet : (c : In-Sheet) → let a = c.args in head_text Format.Sheet a.n a.m ≡ head_text a.format a.n a.m
sheet c = let a = c.args in ap (λ (f : Format). head_text f a.n a.m) (sym c.in-Sheet.is)

pub put_pair-requires : goal.put_pair-requires
unfolding head_text problem_text bytes
put_pair-requires c =
    (c.requires.0, c.requires.1, omega (arith, c.requires.2, ap length (edges (goal.at.put_pair-requires c).In-Edges)))

pub line_of-requires : goal.line_of-requires
unfolding head_text first_line field
line_of-requires c =
    omega (arith, c.requires.2, ap length (sheet (goal.at.line_of-requires c).In-Sheet))

pub returns-in-Edges : goal.returns-in-Edges
unfolding head_text problem_text bytes
returns-in-Edges c =
    let a = c.args in record {
      output = c.put_pair.ensures.output ∙ ap (λ (b : List ℕ). sets a.output.now 0 b) (edges (goal.at.returns-in-Edges c).In-Edges);
      end = c.put_pair.ensures.end ∙ ap (λ (b : List ℕ). 0 + length b) (edges (goal.at.returns-in-Edges c).In-Edges) ∙ omega arith;
    }

pub returns-in-Sheet : goal.returns-in-Sheet
unfolding head_text first_line line fields field
returns-in-Sheet c =
    let a = c.args in record {
      output = c.line_of.ensures.output ∙ ap (λ (b : List ℕ). sets a.output.now 0 b) (sheet (goal.at.returns-in-Sheet c).In-Sheet);
      end = c.line_of.ensures.at ∙ ap length (sheet (goal.at.returns-in-Sheet c).In-Sheet);
    }
