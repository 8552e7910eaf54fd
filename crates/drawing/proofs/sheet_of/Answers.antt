-- `drawing::sheet_of` meets its contract: the file is imported, and its plan or the number of the refusal is written.
-- Assumes nothing.
use mathlib.Core.Path.{◌≡◌, sym, ap, ◌∙◌}
use mathlib.Core.List.{List, [], ◌∷◌}
use Prim.Native.Nat.{ℕ}
use lib.Seq.{sets, length-take-le}
use Rattle.searches.specs.Answer.{number}
use Rattle.fields.specs.Field.{line}
use Rattle.drawing.proofs.Drawn.{part_inside, part_two_way, part_sheet, refusal_sheet, line_long, too_short, enough_room}
use Rattle.drawing.proofs.sheet_of.Goals as goal
use Rattle.drawing.proofs.sheet_of.Goals.{In-Ok}

pub returns-then-output-lt18159 : goal.returns-then-output-lt18159
returns-then-output-lt18159 c = let a = c.args in
    let whole = too_short a.file.now a.output.now c.if-output-lt18159.true in
    record { output = whole.0; length = whole.1 }

pub slice_bounds-rows-end : goal.slice_bounds-rows-end
slice_bounds-rows-end c =
    part_inside c.args.file.now c.in-Ok.is c.import.ensures.answer c.import.ensures.rows

pub slice_bounds-write_plan-end : goal.slice_bounds-write_plan-end
slice_bounds-write_plan-end c = sym (length-take-le _ _ (slice_bounds-rows-end (goal.at.slice_bounds-write_plan-end c).In-Ok))

pub write_plan-requires : goal.write_plan-requires
write_plan-requires c =
    (part_two_way c.args.file.now c.in-Ok.is c.import.ensures.answer c.import.ensures.rows, c.if-output-lt18159.false)

pub returns-in-Ok : goal.returns-in-Ok
returns-in-Ok c =
    let a = c.args in
    let done = enough_room a.file.now a.output.now c.if-output-lt18159.false (part_sheet a.file.now c.in-Ok.is c.import.ensures.answer c.import.ensures.rows) in
    record {
      output = c.write_plan.ensures.output ∙ done.0;
      length = c.write_plan.ensures.end ∙ done.1;
    }

pub returns-in-Err : goal.returns-in-Err
returns-in-Err c =
    let a = c.args in
    let done = enough_room a.file.now a.output.now c.if-output-lt18159.false (refusal_sheet a.file.now c.in-Err.is c.import.ensures.answer) in
    let text : line (c.number.result ∷ []) ≡ line (number _ ∷ []) = ap (λ (x : ℕ). line (x ∷ [])) c.number.ensures in
    record {
      output = c.line_of.ensures.output ∙ ap (λ (x : List ℕ). sets a.output.now 0 x) text ∙ done.0;
      length = c.line_of.ensures.at ∙ line_long _ ∙ done.1;
    }
