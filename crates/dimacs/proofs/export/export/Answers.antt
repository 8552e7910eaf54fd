-- `dimacs::export::export` meets its contract: refused as the tests say, else the text is written to a buffer, and copied where there is room.
-- Assumes nothing.
use mathlib.Core.Path.{◌≡◌, sym, ap, ◌∙◌}
use mathlib.Core.List.{List}
use mathlib.Core.Option.{none}
use Prim.Native.Nat.{ℕ, ◌≤◌}
use native.Mathlib.Omega.{arith}
use borrow.Author.Rules.{rules}
use lib.ListN.{length, take, replicate, length-replicate}
use lib.Seq.{sets, length-sets, length-take-le}
use Rattle.std.proofs.lemmas.Result.{err_from_is_err_and}
use Rattle.searches.specs.Answer.{two_way_tests, first_refusal, number, refusal_of}
use Rattle.wording.proofs.Writing.{front_left}
use Rattle.plan_text.proofs.Texts.{text_short}
use Rattle.dimacs.specs.Export.{edge_file, written, exported_of}
use Rattle.dimacs.proofs.Exporting.{accepted_two_way, graph_refused, output_short, text_fits, export_refused, export_done, filled_part}
use Rattle.dimacs.proofs.export.export.Goals as goal
use Rattle.dimacs.proofs.export.export.Goals.{After-write_plan-length, Else-output-length, In_ok-two_way_refusal}

pub returns-in_err-two_way_refusal : goal.returns-in_err-two_way_refusal
unfolding refusal_of exported_of
returns-in_err-two_way_refusal c =
    let a = c.args in
    let whole = export_refused a.mark a.rows.now a.output.now
    (graph_refused a.mark a.rows.now a.output.now (sym (ap refusal_of c.in_err-two_way_refusal.was) ∙ c.two_way_refusal.ensures)) in
    let told = err_from_is_err_and c.from_residual.result c.from_residual.ensures.1 in
    rw (told.1, told.2) (record { answer = whole.0; output = whole.1 })

-- the graph is not refused
accepted : (c : In_ok-two_way_refusal) → let a = c.args in none ≡ first_refusal (two_way_tests a.mark a.rows.now)
unfolding refusal_of
accepted c = sym (ap refusal_of c.in_ok-two_way_refusal.was) ∙ c.two_way_refusal.ensures

pub write_plan-length-requires : goal.write_plan-length-requires
write_plan-length-requires c = let a = c.args in (accepted_two_way a.mark a.rows.now (accepted (goal.at.write_plan-length-requires c).In_ok-two_way_refusal), search rules)

abbrev buffer : List ℕ
buffer = replicate 18159 0

-- the text in the buffer
wrote : (c : After-write_plan-length)
    → let rows = c.args.rows.now in
    (c.write_plan-length.new.output ≡ sets buffer 0 (edge_file rows)) × (c.write_plan-length.result ≡ length (edge_file rows))
unfolding edge_file
wrote c = (c.write_plan-length.ensures.output, c.write_plan-length.ensures.end)

-- it fits there
short : (c : In_ok-two_way_refusal) → length (edge_file c.args.rows.now) ≤ length buffer
unfolding edge_file
short c =
    let a = c.args in
    omega (arith, text_short a.rows.now (accepted_two_way a.mark a.rows.now (accepted c)), length-replicate {A = ℕ} 18159 0)

part : (c : After-write_plan-length) → take c.write_plan-length.result c.write_plan-length.new.output ≡ edge_file c.args.rows.now
part c = filled_part buffer (edge_file c.args.rows.now) (short (goal.at.After-write_plan-length c).In_ok-two_way_refusal) (wrote c).0 (wrote c).1

pub returns-then-output-length : goal.returns-then-output-length
unfolding number exported_of
returns-then-output-length c =
    let a = c.args in
    let whole = export_refused a.mark a.rows.now a.output.now
    (output_short a.mark a.rows.now a.output.now (accepted (goal.at.returns-then-output-length c).In_ok-two_way_refusal) (omega (arith, c.if-output-length.true, (wrote (goal.at.returns-then-output-length c).After-write_plan-length).1))) in
    record { answer = whole.0; output = whole.1 }

-- so it ends in the buffer
inside : (c : After-write_plan-length) → c.write_plan-length.result ≤ length c.write_plan-length.new.output
inside c =
    omega (arith, (wrote c).1, short (goal.at.After-write_plan-length c).In_ok-two_way_refusal, ap length (wrote c).0, length-sets buffer 0 (edge_file c.args.rows.now))

pub slice_bounds-text-end : goal.slice_bounds-text-end
slice_bounds-text-end c = inside (goal.at.slice_bounds-text-end c).After-write_plan-length

pub slice_bounds-put-end : goal.slice_bounds-put-end
slice_bounds-put-end c = sym (length-take-le _ _ (inside (goal.at.slice_bounds-put-end c).After-write_plan-length))

-- the output list has room
enough : (c : Else-output-length) → let a = c.args in length (edge_file a.rows.now) ≤ length a.output.now
enough c = omega (arith, c.if-output-length.false, (wrote (goal.at.Else-output-length c).After-write_plan-length).1)

pub put-requires : goal.put-requires
put-requires c =
    omega (arith, enough (goal.at.put-requires c).Else-output-length, ap length (part (goal.at.put-requires c).After-write_plan-length))

pub returns : goal.returns
unfolding exported_of
returns c =
    let a = c.args in
    let text = edge_file a.rows.now in
    let done = export_done a.mark a.rows.now a.output.now (text_fits a.mark a.rows.now a.output.now (accepted (goal.at.returns c).In_ok-two_way_refusal) (enough (goal.at.returns c).Else-output-length)) in record {
      answer = ap written (wrote (goal.at.returns c).After-write_plan-length).1 ∙ done.0;
      output = c.put.ensures.output ∙ ap (λ (b : List ℕ). sets a.output.now 0 b) (part (goal.at.returns c).After-write_plan-length) ∙ front_left a.output.now text (enough (goal.at.returns c).Else-output-length) ∙ done.1;
    }
