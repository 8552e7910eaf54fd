-- `checks::judge_refusal` meets its contract: the tests on the graph come first, then those on the ordering.
-- Assumes nothing.
use mathlib.Core.Path.{◌∙◌}
use lib.ListN.{length}
use Rattle.std.proofs.lemmas.Result.{err_from_is_err_and}
use Rattle.searches.specs.Answer.{open_tests_barring, ordering_tests, judge_tests_barring, refusal_of}
use Rattle.checks.proofs.Tried.{tried_first, refused_before, rows_fit}
use Rattle.checks.proofs.judge_refusal.Goals as goal

pub returns-in_err-open_refusal : goal.returns-in_err-open_refusal
unfolding judge_tests_barring refusal_of
returns-in_err-open_refusal c =
    let a = c.args in
    let p = err_from_is_err_and c.from_residual.result c.from_residual.ensures.1 in
    rw (p.1, p.2) (refused_before (open_tests_barring a.kind.0 a.mark a.rows.now a.barred) _ c.in_err-open_refusal.ensures)

pub ordering_refusal-requires : goal.ordering_refusal-requires
unfolding refusal_of
ordering_refusal-requires c = rows_fit _ _ _ _ c.in_ok-open_refusal.ensures

pub returns : goal.returns
unfolding judge_tests_barring ordering_tests refusal_of
returns c =
    let a = c.args in
    c.ordering_refusal.ensures ∙ (tried_first (open_tests_barring a.kind.0 a.mark a.rows.now a.barred) (ordering_tests (length a.rows.now) a.barred a.ordering.now) c.in_ok-open_refusal.ensures).same
