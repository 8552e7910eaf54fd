-- `plan_text::line::write_link` meets its contract, in either format.
-- Assumes nothing.
use mathlib.Core.Path.{◌≡◌, sym, ap, ap₂, ◌∙◌}
use mathlib.Core.List.{List, [], ◌∷◌, ◌++◌}
use Prim.Native.Nat.{ℕ, ◌+◌, ◌/◌, ◌%◌}
use native.Mathlib.Numerals.{add-one}
use native.Mathlib.Omega.{arith}
use lib.ListN.{length}
use lib.Seq.{sets}
use Rattle.fields.specs.Field.{field, fields, line}
use Rattle.sheet.specs.Written.{link_line}
use Rattle.wording.specs.Text.{bytes}
use Rattle.edge_lines.specs.Writing.{edge_text}
use Rattle.plan_text.specs.Text.{link_text}
use Rattle.plan_text.specs.declared.Format.{Format}
use Rattle.plan_text.proofs.line.write_link.Goals as goal
use Rattle.plan_text.proofs.line.write_link.Goals.{In-Edges, In-Sheet}

-- the line in this format
edges : (c : In-Edges)
    → let a = c.args in
    edge_text (a.c / 64 + 1) (a.c % 64 + 1) ++ 10 ∷ [] ≡ link_text a.format a.c
unfolding link_text
edges c =
    let a = c.args in
    ap₂ (λ (u v : ℕ). edge_text u v ++ 10 ∷ []) (add-one (a.c / 64)) (add-one (a.c % 64)) ∙ ap (λ (f : Format). link_text f a.c) (sym c.in-Edges.is)

sheet : (c : In-Sheet) → let a = c.args in link_text Format.Sheet a.c ≡ link_text a.format a.c
sheet c = let a = c.args in ap (λ (f : Format). link_text f a.c) (sym c.in-Sheet.is)

pub put_pair-requires : goal.put_pair-requires
unfolding edge_text bytes
put_pair-requires c =
    (omega (arith, c.requires.0), omega (arith, c.requires.0), omega (arith, c.requires.1, ap length (edges (goal.at.put_pair-requires c).In-Edges)))

pub line_of-requires : goal.line_of-requires
unfolding link_text link_line field
line_of-requires c =
    omega (arith, c.requires.1, ap length (sheet (goal.at.line_of-requires c).In-Sheet))

pub returns-in-Edges : goal.returns-in-Edges
unfolding edge_text bytes
returns-in-Edges c =
    let a = c.args in record {
      output = c.put_pair.ensures.output ∙ ap (λ (b : List ℕ). sets a.output.now a.at b) (edges (goal.at.returns-in-Edges c).In-Edges);
      end = c.put_pair.ensures.end ∙ ap (λ (b : List ℕ). a.at + length b) (edges (goal.at.returns-in-Edges c).In-Edges);
    }

pub returns-in-Sheet : goal.returns-in-Sheet
unfolding link_text link_line line fields field
returns-in-Sheet c =
    let a = c.args in record {
      output = c.line_of.ensures.output ∙ ap (λ (b : List ℕ). sets a.output.now a.at b) (sheet (goal.at.returns-in-Sheet c).In-Sheet);
      end = c.line_of.ensures.at ∙ ap (λ (b : List ℕ). a.at + length b) (sheet (goal.at.returns-in-Sheet c).In-Sheet);
    }
