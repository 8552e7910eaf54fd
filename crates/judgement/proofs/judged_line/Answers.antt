-- `judgement::judged_line` meets its contract: each verdict has its line.
-- Assumes nothing.
use mathlib.Core.Path.{◌≡◌, sym, ap, ◌∙◌}
use mathlib.Core.List.{[], ◌∷◌}
use Prim.Native.Nat.{ℕ, ◌+◌}
use lib.ListN.{length}
use lib.Seq.{sets}
use Rattle.std.specs.Prelude.{Result, Ok}
use Rattle.searches.specs.declared.Judgement.{Judgement}
use Rattle.searches.specs.declared.Vertex.{Vertex}
use Rattle.searches.specs.declared.Refusal.{Refusal}
use Rattle.searches.specs.Answer.{verdict_of, number}
use Rattle.fields.specs.Field.{field}
use Rattle.fields.specs.Field.{fields, line}
use Rattle.judgement.specs.Judged.{judged_line}
use Rattle.judgement.proofs.judged_line.Goals as goal

abbrev Answer : Type 0
Answer = Result (Judgement Vertex) Refusal

pub returns-in-Ok-Passes : goal.returns-in-Ok-Passes
unfolding judged_line verdict_of line fields field
returns-in-Ok-Passes c =
    let e = c.line_of.ensures in
    let a = c.args in
    let is : a.judgement ≡ Ok Judgement.Passes = c.in-Ok-Passes.is ∙ ap Ok (rw c.in-Ok-Passes.is at c.in-Ok-Passes.field-0-is) in
    record {
      output = e.output ∙ ap (λ (j : Answer). sets a.output.now a.at (judged_line a.kind (verdict_of j))) (sym is);
      at = e.at ∙ ap (λ (j : Answer). a.at + length (judged_line a.kind (verdict_of j))) (sym is);
    }

pub returns-in-Ok-Fails : goal.returns-in-Ok-Fails
unfolding judged_line verdict_of line fields field
returns-in-Ok-Fails c =
    let e = c.line_of-in-Ok-Fails.ensures in
    let a = c.args in
    let is : a.judgement ≡ Ok (Judgement.Fails c.in-Ok-Fails.v) = c.in-Ok-Fails.is ∙ ap Ok (rw c.in-Ok-Fails.is at c.in-Ok-Fails.field-0-is) in
    record {
      output = e.output ∙ ap (λ (j : Answer). sets a.output.now a.at (judged_line a.kind (verdict_of j))) (sym is);
      at = e.at ∙ ap (λ (j : Answer). a.at + length (judged_line a.kind (verdict_of j))) (sym is);
    }

pub returns-in-Err : goal.returns-in-Err
unfolding judged_line verdict_of line fields field number
returns-in-Err c =
    let e = c.line_of-in-Err.ensures in
    let a = c.args in
    let is = c.in-Err.is in
    record {
      output = e.output ∙ ap (λ (x : ℕ). sets a.output.now a.at (line (x ∷ []))) c.number.ensures ∙ ap (λ (j : Answer). sets a.output.now a.at (judged_line a.kind (verdict_of j))) (sym is);
      at = e.at ∙ ap (λ (j : Answer). a.at + length (judged_line a.kind (verdict_of j))) (sym is);
    }
