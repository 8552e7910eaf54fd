-- `sparse::judge` meets its contract: refused as the checks say, else the verdict.
-- Assumes nothing.
use mathlib.Core.Path.{◌≡◌, ◌∙◌}
use mathlib.Core.Option.{none}
use lib.ListN.{length}
use Rattle.std.proofs.lemmas.Result.{err_from_is_err_and}
use Rattle.searches.specs.Answer.{unbarred, first_refusal, verdict_of, refusal_of}
use Rattle.searches.specs.Kind.{search_of}
use Rattle.sparse.specs.Judge.{judge_tests_listed}
use Rattle.sparse.proofs.Same.{without_same, asked_refused, asked_judgeable, asked_verdict}
use Rattle.sparse.proofs.judge.Goals as goal
use Rattle.sparse.proofs.judge.Goals.{In_ok-layout}

pub returns-in_err-layout : goal.returns-in_err-layout
unfolding verdict_of refusal_of
returns-in_err-layout c =
    let a = c.args in
    let p = err_from_is_err_and c.from_residual.result c.from_residual.ensures.1 in
    rw (p.1, p.2) (asked_refused a.kind.0 a.mark a.barred a.ordering.now a.offsets.now a.neighbours.now c.in_err-layout.ensures.refusal)

accepted : (c : In_ok-layout)
    → let a = c.args in
    none ≡ first_refusal (judge_tests_listed a.kind.0 a.mark a.offsets.now a.neighbours.now a.barred a.ordering.now)
unfolding refusal_of
accepted c = c.in_ok-layout.ensures.refusal

pub verdict-requires : goal.verdict-requires
verdict-requires c =
    let a = c.args in
    let lists = c.in_ok-layout.ensures.lists in
    rw (lists.0, lists.1) (asked_judgeable a.kind.0 a.mark a.barred a.ordering.now a.offsets.now a.neighbours.now (accepted c))

pub returns : goal.returns
returns c =
    let a = c.args in
    let lists = c.in_ok-layout.ensures.lists in
    (rw (lists.0, lists.1) at
    (c.verdict.ensures ∙ without_same c.in_ok-layout.layout.layout (search_of a.kind.0) (unbarred a.barred) a.ordering.now (length a.ordering.now)))
    ∙ asked_verdict a.kind.0 a.mark a.barred a.ordering.now a.offsets.now a.neighbours.now (accepted (goal.at.returns c).In_ok-layout)
