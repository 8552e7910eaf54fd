-- `judgement::write_judgement` meets its contract: a refusal is its number; else the lines of the seven kinds.
-- Assumes nothing.
use mathlib.Core.Path.{◌≡◌, sym, ap, ap₂, ◌∙◌}
use mathlib.Core.List.{List, [], ◌∷◌}
use mathlib.Core.Option.{Option, none}
use Prim.Native.Nat.{ℕ, ◌≤◌}
use native.Mathlib.Omega.{arith}
use lib.ListN.{length, take}
use lib.Seq.{sets, length-take-le}
use Rattle.sheet.specs.Answer.{refusal_in, line_in}
use Rattle.sheet.specs.declared.read.Held.{Held}
use Rattle.fields.specs.Field.{field}
use Rattle.sheet.specs.Sheet.{points_of, links_of, places_of, rows_of, walk_of, read_answer}
use Rattle.sheet.specs.Lines.{held_unless, held_in}
use Rattle.fields.specs.Field.{fields, line}
use Rattle.judgement.specs.Judged.{judged_lines, judged_unless, judgement}
use Rattle.sheet.proofs.Joined.{rows_length}
use Rattle.sheet.proofs.Sheets.{bytes_length, points_few, places_few, walk_read}
use Rattle.judgement.proofs.write_judgement.Goals as goal
use Rattle.judgement.proofs.write_judgement.Goals.{In-Ok}

pub returns-in-Err : goal.returns-in-Err
unfolding refusal_in line_in judgement judged_unless line fields field
returns-in-Err c =
    let b = c.args.sheet.now in
    let out = c.args.output.now in
    let told = c.in-Err.ensures.answer in
    record {
      output = c.line_of-length.ensures.output ∙ ap (λ (x : ℕ). sets out 0 (line (x ∷ []))) c.number-number.ensures ∙ ap (λ (x : Option ℕ). sets out 0 (judged_unless x b)) told;
      length = c.line_of-length.ensures.at ∙ ap (λ (x : Option ℕ). length (judged_unless x b)) told;
      line = c.in-Err.ensures.line;
    }

-- what was read
accepted : (c : In-Ok) → none ≡ read_answer c.args.sheet.now
unfolding refusal_in
accepted c = c.in-Ok.ensures.answer

held_is : (c : In-Ok) → c.in-Ok.held ≡ held_unless none c.args.sheet.now
unfolding held_in
held_is c = c.in-Ok.ensures.held ∙ ap (λ (x : Option ℕ). held_unless x c.args.sheet.now) (sym (accepted c))

counts : (c : In-Ok) → (c.in-Ok.held.n ≡ points_of c.args.sheet.now) × (c.in-Ok.held.k ≡ places_of c.args.sheet.now)
unfolding held_unless
counts c = (ap (λ (h : Held). h.n) (held_is c), ap (λ (h : Held). h.k) (held_is c))

few : (c : In-Ok) → (c.in-Ok.held.n ≤ 64) × (c.in-Ok.held.k ≤ 64)
few c =
    let b = c.args.sheet.now in
    let e = counts c in
    (omega (arith, e.0, points_few b (accepted c)), omega (arith, e.1, points_few b (accepted c), places_few b (accepted c)))

full : (c : In-Ok) → (length c.in-Ok.held.rows ≡ 64) × (length c.in-Ok.held.ordering ≡ 64)
unfolding held_unless
full c =
    let b = c.args.sheet.now in
    (ap (λ (h : Held). length h.rows) (held_is c) ∙ rows_length b (links_of b), ap (λ (h : Held). length h.ordering) (held_is c) ∙ bytes_length b (places_of b))

pub slice_bounds-rows-end : goal.slice_bounds-rows-end
slice_bounds-rows-end c = omega (arith, (few (goal.at.slice_bounds-rows-end c).In-Ok).0, (full (goal.at.slice_bounds-rows-end c).In-Ok).0)

pub slice_bounds-judged_lines-end : goal.slice_bounds-judged_lines-end
slice_bounds-judged_lines-end c = sym (length-take-le _ _ (omega (arith, (few (goal.at.slice_bounds-judged_lines-end c).In-Ok).0, (full (goal.at.slice_bounds-judged_lines-end c).In-Ok).0)))

pub slice_bounds-ordering-end : goal.slice_bounds-ordering-end
slice_bounds-ordering-end c = omega (arith, (few (goal.at.slice_bounds-ordering-end c).In-Ok).1, (full (goal.at.slice_bounds-ordering-end c).In-Ok).1)

pub slice_bounds-judged_lines-end-in-Ok : goal.slice_bounds-judged_lines-end-in-Ok
slice_bounds-judged_lines-end-in-Ok c = sym (length-take-le _ _ (omega (arith, (few (goal.at.slice_bounds-judged_lines-end-in-Ok c).In-Ok).1, (full (goal.at.slice_bounds-judged_lines-end-in-Ok c).In-Ok).1)))

-- the parts that are passed on are the rows and the walk
lent : (c : In-Ok)
    → let b = c.args.sheet.now in
    let h = c.in-Ok.held in
    (take h.n h.rows ≡ rows_of b) × (take h.k h.ordering ≡ walk_of b)
unfolding held_unless rows_of
lent c = (
  ap (λ (h : Held). take h.n h.rows) (held_is c),
  ap (λ (h : Held). take h.k h.ordering) (held_is c) ∙ walk_read c.args.sheet.now (accepted c),
)

pub returns-in-Ok : goal.returns-in-Ok
unfolding line_in judgement judged_unless
returns-in-Ok c =
    let b = c.args.sheet.now in
    let out = c.args.output.now in
    let here = (goal.at.returns-in-Ok c).In-Ok in
    let read_so = lent here in
    record {
      output = c.judged_lines-length.ensures.output ∙ ap₂ (λ (r w : List ℕ). sets out 0 (judged_lines r w 7)) read_so.0 read_so.1 ∙ ap (λ (x : Option ℕ). sets out 0 (judged_unless x b)) (accepted here);
      length = c.judged_lines-length.ensures.at ∙ ap₂ (λ (r w : List ℕ). length (judged_lines r w 7)) read_so.0 read_so.1 ∙ ap (λ (x : Option ℕ). length (judged_unless x b)) (accepted here);
      line = c.in-Ok.ensures.line;
    }
