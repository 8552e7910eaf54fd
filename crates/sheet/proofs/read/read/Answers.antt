-- `sheet::read::read` meets its contract: what was parsed is held, unless it is refused.
-- Assumes nothing.
use mathlib.Core.Path.{◌≡◌, sym, ap, ◌∙◌, subst}
use mathlib.Core.Option.{Option, none}
use Prim.Native.Nat.{ℕ}
use Rattle.std.proofs.lemmas.Result.{err_from_is_err_and}
use Rattle.sheet.specs.Sheet.{read_answer, stopped_in}
use Rattle.sheet.specs.Lines.{held_unless, held_in, nothing_held}
use Rattle.sheet.specs.Parsing.{parsed_of, parsed_answer, parsed_line, Readable}
use Rattle.sheet.specs.Answer.{refusal_in, line_in}
use Rattle.lines.specs.declared.Parsed.{Parsed}
use Rattle.sheet.specs.declared.read.Held.{Held}
use Rattle.sheet.proofs.Decided.{parsed_answers, parsed_stops, parsed_held, parsed_readable}
use Rattle.sheet.proofs.read.read.Goals as goal
use Rattle.sheet.proofs.read.read.Goals.{After-decide}

pub decide-requires : goal.decide-requires
decide-requires c = subst Readable (sym c.parse-parsed.ensures) (parsed_readable c.args.sheet.now)

-- what was decided is the sheet's answer
answered : (c : After-decide)
    → let b = c.args.sheet.now in
    (refusal_in c.decide.result ≡ read_answer b) × (line_in c.decide.result ≡ stopped_in b)
answered c =
    let b = c.args.sheet.now in
    let whole = c.parse-parsed.ensures in (
      c.decide.ensures.answer ∙ ap parsed_answer whole ∙ parsed_answers b,
      c.decide.ensures.line ∙ ap (λ (p : Parsed). parsed_line (parsed_answer p) p) whole ∙ ap (λ (answer : Option ℕ). parsed_line answer (parsed_of b)) (parsed_answers b) ∙ parsed_stops b,
    )

pub returns-in_err-decide : goal.returns-in_err-decide
unfolding refusal_in line_in held_in held_unless nothing_held
returns-in_err-decide c =
    let so = answered (goal.at.returns-in_err-decide c).After-decide in
    let told = err_from_is_err_and c.from_residual.result c.from_residual.ensures.1 in
    let refused_so = sym (ap refusal_in c.in_err-decide.was) ∙ so.0 in
    rw (told.1, told.2) (record { held = tt; refused = sym (ap (λ (answer : Option ℕ). held_unless answer c.args.sheet.now) refused_so); answer = sym (ap refusal_in c.in_err-decide.was) ∙ so.0; line = sym (ap line_in c.in_err-decide.was) ∙ so.1 })

pub returns : goal.returns
unfolding refusal_in line_in held_in
returns c =
    let b = c.args.sheet.now in
    let so = answered (goal.at.returns c).After-decide in
    let read_so : none ≡ read_answer b = sym (ap refusal_in c.in_ok-decide.was) ∙ so.0 in
    let held : Parsed → Held = λ p. record { n = p.content.n; rows = p.content.rows; k = p.content.k; ordering = p.content.ordering } in
    record {
      held = ap held c.parse-parsed.ensures ∙ parsed_held b read_so ∙ ap (λ (answer : Option ℕ). held_unless answer b) read_so;
      refused = tt;
      answer = read_so;
      line = sym (ap line_in c.in_ok-decide.was) ∙ so.1;
    }
