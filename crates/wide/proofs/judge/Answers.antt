-- `wide::judge` meets its contract: refused as the tests say, else the verdict.
-- Assumes nothing.
use mathlib.Core.Path.{◌≡◌, sym, ap, ◌∙◌}
use mathlib.Core.Option.{none}
use Rattle.searches.specs.Answer.{first_refusal, refusal_of}
use Rattle.searches.specs.Wide.{judge_tests_wide, wide_verdict_of}
use Rattle.std.proofs.lemmas.Result.{err_from_is_err_and}
use Rattle.wide.proofs.Calls.{judge_asked_refused, judge_asked_accepted, judge_asked_verdict}
use Rattle.wide.proofs.judge.Goals as goal
use Rattle.wide.proofs.judge.Goals.{In_ok-judge_refusal}

pub returns-in_err-judge_refusal : goal.returns-in_err-judge_refusal
unfolding wide_verdict_of refusal_of
returns-in_err-judge_refusal c =
    let a = c.args in
    let p = err_from_is_err_and c.from_residual.result c.from_residual.ensures.1 in
    rw (p.1, p.2)
    (judge_asked_refused a.kind.0 a.mark a.table.now a.ordering.now _
    (sym (ap refusal_of c.in_err-judge_refusal.was) ∙ c.judge_refusal.ensures))

accepted : (c : In_ok-judge_refusal)
    → let a = c.args in
    none ≡ first_refusal (judge_tests_wide 8 a.kind.0 a.mark a.table.now a.ordering.now)
unfolding refusal_of
accepted c = sym (ap refusal_of c.in_ok-judge_refusal.was) ∙ c.judge_refusal.ensures

pub invariant_of-verdict : goal.invariant_of-verdict
invariant_of-verdict c =
    let a = c.args in
    record { valid = (judge_asked_accepted a.kind.0 a.mark a.table.now a.ordering.now (accepted c)).0 }

pub verdict-requires : goal.verdict-requires
verdict-requires c =
    let a = c.args in
    (judge_asked_accepted a.kind.0 a.mark a.table.now a.ordering.now (accepted (goal.at.verdict-requires c).In_ok-judge_refusal)).1

pub returns : goal.returns
returns c =
    let a = c.args in
    c.verdict.ensures ∙ judge_asked_verdict a.kind.0 a.mark a.table.now a.ordering.now (accepted (goal.at.returns c).In_ok-judge_refusal)
