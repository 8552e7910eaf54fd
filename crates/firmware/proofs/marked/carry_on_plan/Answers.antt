-- `firmware::marked::carry_on_plan` meets its contract: refused unread, or carried on along the plan's rows.
-- Assumes nothing.
use mathlib.Core.Path.{◌≡◌, refl, sym, ap, ◌∙◌}
use mathlib.Core.Option.{none}
use Rattle.std.proofs.lemmas.Result.{err_from_is_err_and}
use Rattle.searches.specs.Answer.{first_refusal, refusal_of}
use Rattle.firmware.specs.Code.{read_tests, number_of}
use Rattle.firmware.proofs.Reading.{part_length, part_within}
use Rattle.firmware.proofs.Unread.{read, carry_on_unread, carry_on_read}
use Rattle.firmware.proofs.marked.carry_on_plan.Goals as goal
use Rattle.firmware.proofs.marked.carry_on_plan.Goals.{In_ok-refusal}

pub returns-in_err-refusal : goal.returns-in_err-refusal
unfolding refusal_of number_of
returns-in_err-refusal c =
    let a = c.args in
    let told = err_from_is_err_and c.from_residual.result c.from_residual.ensures.1 in
    let unread = carry_on_unread a.kind a.plan.now a.mark a.barred a.preference.now a.output.now a.k c.in_err-refusal.ensures in
    rw (told.1, told.2) (record { answer = unread.0; output = unread.1 })

accepted : (c : In_ok-refusal) → let a = c.args in none ≡ first_refusal (read_tests a.kind a.plan.now)
unfolding refusal_of
accepted c = c.in_ok-refusal.ensures

pub decode-requires : goal.decode-requires
decode-requires c =
    let a = c.args in
    ((read a.kind a.plan.now (accepted (goal.at.decode-requires c).In_ok-refusal)).few, refl)

pub slice_bounds-rows-end : goal.slice_bounds-rows-end
slice_bounds-rows-end c =
    let a = c.args in
    part_within a.plan.now c.decode.new.rows c.decode.ensures

pub slice_bounds-carry_on-end : goal.slice_bounds-carry_on-end
slice_bounds-carry_on-end c =
    let a = c.args in
    part_length a.plan.now c.decode.new.rows c.decode.ensures

pub returns : goal.returns
returns c =
    let a = c.args in
    let whole = carry_on_read a.kind a.plan.now a.mark a.barred a.preference.now a.output.now a.k
    (accepted (goal.at.returns c).In_ok-refusal)
    c.decode.ensures
    c.carry_on.ensures.answer
    c.carry_on.ensures.output
    refl in
    record { answer = whole.0; output = whole.1 }
