-- `sparse::refusal::judge_refusal` meets its contract: the tests on the graph come first, then those on the ordering.
-- Assumes nothing.
use Prim.Native.Nat.{ℕ}
use mathlib.Core.Path.{◌≡◌, ap, ◌∙◌}
use mathlib.Core.Bool.{Bool}
use mathlib.Core.List.{List}
use mathlib.Core.Option.{Option}
use native.Mathlib.Omega.{arith}
use Rattle.std.proofs.lemmas.Result.{err_from_is_err_and}
use Rattle.searches.specs.Answer.{ordering_tests, first_refusal, refusal_of}
use Rattle.checks.proofs.Tried.{tried_first, refused_before}
use Rattle.adjacency.specs.Layout.{size_of}
use Rattle.adjacency.proofs.Layouts.{size_suc}
use Rattle.sparse.specs.Judge.{open_tests_listed, judge_tests_listed}
use Rattle.sparse.proofs.refusal.judge_refusal.Goals as goal
use Rattle.sparse.proofs.refusal.judge_refusal.Goals.{Start, After-vertex_count}

abbrev first_tests : Start → List (ℕ × Bool)
first_tests c = let a = c.args in open_tests_listed a.kind.0 a.mark a.offsets.now a.neighbours.now a.barred

-- behind the tests on the graph those on the ordering decide, for as many vertices as the layout has
decided : (c : After-vertex_count) {answer : Option ℕ}
    → let a = c.args in
    answer ≡ first_refusal (ordering_tests c.vertex_count.result a.barred a.ordering.now)
    → answer ≡ first_refusal (judge_tests_listed a.kind.0 a.mark a.offsets.now a.neighbours.now a.barred a.ordering.now)
unfolding judge_tests_listed ordering_tests refusal_of
decided c is =
    let a = c.args in
    let size : c.vertex_count.result ≡ size_of a.offsets.now = c.vertex_count.ensures ∙ ap size_of c.in_ok-layout.ensures.lists.0 in
    is ∙ ap (λ (n : ℕ). first_refusal (ordering_tests n a.barred a.ordering.now)) size
    ∙ (tried_first (first_tests (goal.at.After-vertex_count c).Start) (ordering_tests (size_of a.offsets.now) a.barred a.ordering.now) c.in_ok-layout.ensures.refusal).same

pub returns-in_err-layout-clause-refusal : goal.returns-in_err-layout-clause-refusal
unfolding judge_tests_listed refusal_of
returns-in_err-layout-clause-refusal c =
    let p = err_from_is_err_and c.from_residual.result c.from_residual.ensures.1 in
    rw (p.1, p.2) (refused_before (first_tests (goal.at.returns-in_err-layout-clause-refusal c).Start) _ c.in_err-layout.ensures.refusal)

pub ordering_refusal-requires : goal.ordering_refusal-requires
ordering_refusal-requires c =
    let x = c.in_ok-layout.layout.layout in
    omega (arith, c.vertex_count.ensures, size_suc x.cover, x.few)

pub returns-in_err-ordering_refusal-clause-refusal : goal.returns-in_err-ordering_refusal-clause-refusal
unfolding refusal_of
returns-in_err-ordering_refusal-clause-refusal c =
    let p = err_from_is_err_and c.from_residual-in_err-ordering_refusal.result c.from_residual-in_err-ordering_refusal.ensures.1 in
    rw (p.1, p.2) (decided (goal.at.returns-in_err-ordering_refusal-clause-refusal c).After-vertex_count c.in_err-ordering_refusal.ensures)

pub returns : goal.returns
unfolding refusal_of
returns c =
    record {
      refusal = decided (goal.at.returns c).After-vertex_count c.in_ok-ordering_refusal.ensures;
      lists = c.in_ok-layout.ensures.lists;
    }
