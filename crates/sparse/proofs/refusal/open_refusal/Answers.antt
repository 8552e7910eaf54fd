-- `sparse::refusal::open_refusal` meets its contract: 1, then the tests on the lists, then the one on the set of barred vertices.
-- Assumes nothing.
use Prim.Native.Nat.{ℕ}
use mathlib.Core.Path.{◌≡◌, sym, ap, ◌∙◌}
use mathlib.Core.Bool.{Bool}
use mathlib.Core.List.{List, [], ◌∷◌, ◌++◌}
use mathlib.Core.Option.{none}
use borrow.Author.Tests.{lt-ltb, le-ltb}
use Rattle.std.proofs.lemmas.Result.{err_from_is_err_and}
use Rattle.bitset.specs.Word.{from_up}
use Rattle.searches.specs.Answer.{barred_outside, first_refusal, number, refusal_of}
use Rattle.checks.proofs.Tried.{Tried, tried_none, tried_one, tried_list, refused_here, refused_list, accepted_here}
use Rattle.adjacency.specs.Layout.{size_of, listed_tests}
use Rattle.sparse.specs.Judge.{open_tests_listed}
use Rattle.sparse.proofs.refusal.open_refusal.Goals as goal
use Rattle.sparse.proofs.refusal.open_refusal.Goals.{After-any_from, Else-kind, In_ok-layout, Start}

abbrev list_tests : Start → List (ℕ × Bool)
list_tests c = let a = c.args in listed_tests a.mark a.offsets.now a.neighbours.now

abbrev tests : Start → List (ℕ × Bool)
tests c = let a = c.args in open_tests_listed a.kind.0 a.mark a.offsets.now a.neighbours.now a.barred

abbrev last_test : Start → List (ℕ × Bool)
last_test c = let a = c.args in (23, barred_outside (size_of a.offsets.now) a.barred) ∷ []

-- the kind is known
past_1 : (c : Else-kind) → Tried (tests (goal.at.Else-kind c).Start) (list_tests (goal.at.Else-kind c).Start ++ last_test (goal.at.Else-kind c).Start)
unfolding open_tests_listed
past_1 c = tried_one (tried_none _) (le-ltb _ _ c.if-kind.false)

listed : (c : In_ok-layout) → none ≡ first_refusal (list_tests (goal.at.In_ok-layout c).Start)
unfolding refusal_of
listed c = c.in_ok-layout.ensures.refusal

past_lists : (c : In_ok-layout) → Tried (tests (goal.at.In_ok-layout c).Start) (last_test (goal.at.In_ok-layout c).Start)
past_lists c = tried_list (list_tests (goal.at.In_ok-layout c).Start) (last_test (goal.at.In_ok-layout c).Start) (past_1 (goal.at.In_ok-layout c).Else-kind) (listed c)

pub returns-then-kind-clause-refusal : goal.returns-then-kind-clause-refusal
unfolding open_tests_listed number refusal_of
returns-then-kind-clause-refusal c = refused_here (tried_none _) (lt-ltb _ _ c.if-kind.true)

pub returns-in_err-layout-clause-refusal : goal.returns-in_err-layout-clause-refusal
unfolding refusal_of
returns-in_err-layout-clause-refusal c =
    let s = (goal.at.returns-in_err-layout-clause-refusal c).Start in
    let p = err_from_is_err_and c.from_residual.result c.from_residual.ensures.1 in
    rw (p.1, p.2)
    (refused_list (list_tests s) (last_test s) (past_1 (goal.at.returns-in_err-layout-clause-refusal c).Else-kind) c.in_err-layout.ensures.refusal)

-- the last test is that of the code
last : (c : After-any_from)
    → let a = c.args in
    c.any_from.result ≡ barred_outside (size_of a.offsets.now) a.barred
unfolding barred_outside from_up
last c = c.any_from.ensures ∙ ap (λ (n : ℕ). barred_outside n c.args.barred) (c.vertex_count.ensures ∙ ap size_of c.in_ok-layout.ensures.lists.0)

pub returns-then-any_from-clause-refusal : goal.returns-then-any_from-clause-refusal
unfolding number refusal_of
returns-then-any_from-clause-refusal c = refused_here (past_lists (goal.at.returns-then-any_from-clause-refusal c).In_ok-layout) (sym (last (goal.at.returns-then-any_from-clause-refusal c).After-any_from) ∙ c.if-any_from.true)

pub returns : goal.returns
unfolding refusal_of
returns c =
    record {
      refusal = accepted_here (tried_one (past_lists (goal.at.returns c).In_ok-layout) (sym (last (goal.at.returns c).After-any_from) ∙ c.if-any_from.false));
      lists = c.in_ok-layout.ensures.lists;
    }
