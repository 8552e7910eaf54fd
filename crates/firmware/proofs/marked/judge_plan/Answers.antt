-- `firmware::marked::judge_plan` meets its contract: refused unread, or judged on the plan's rows.
-- Assumes nothing.
use mathlib.Core.Path.{◌≡◌, refl, sym, ap, ◌∙◌}
use mathlib.Core.Option.{none}
use Rattle.std.proofs.lemmas.Result.{err_from_is_err_and}
use Rattle.searches.specs.Answer.{first_refusal, refusal_of, verdict_of}
use Rattle.firmware.specs.Code.{read_tests, code_of}
use Rattle.firmware.proofs.Reading.{part_length, part_within}
use Rattle.firmware.proofs.Unread.{read, judge_unread, judge_read}
use Rattle.firmware.proofs.marked.judge_plan.Goals as goal
use Rattle.firmware.proofs.marked.judge_plan.Goals.{In_ok-refusal}

pub returns-in_err-refusal : goal.returns-in_err-refusal
unfolding refusal_of verdict_of code_of
returns-in_err-refusal c =
    let a = c.args in
    let told = err_from_is_err_and c.from_residual.result c.from_residual.ensures.1 in
    rw (told.1, told.2) (judge_unread a.kind a.plan.now a.mark a.barred a.walk.now c.in_err-refusal.ensures)

accepted : (c : In_ok-refusal) → let a = c.args in none ≡ first_refusal (read_tests a.kind a.plan.now)
unfolding refusal_of
accepted c = c.in_ok-refusal.ensures

pub decode-requires : goal.decode-requires
decode-requires c =
    let a = c.args in
    ((read a.kind a.plan.now (accepted (goal.at.decode-requires c).In_ok-refusal)).few, refl)

pub slice_bounds-rows-end : goal.slice_bounds-rows-end
slice_bounds-rows-end c =
    let a = c.args in
    part_within a.plan.now c.decode.new.rows c.decode.ensures

pub slice_bounds-judge-end : goal.slice_bounds-judge-end
slice_bounds-judge-end c =
    let a = c.args in
    part_length a.plan.now c.decode.new.rows c.decode.ensures

pub returns : goal.returns
returns c =
    let a = c.args in
    judge_read a.kind a.plan.now a.mark a.barred a.walk.now (accepted (goal.at.returns c).In_ok-refusal) c.decode.ensures c.judge.ensures refl
