-- `route::position_to_trace` meets its contract: judge's refusal, or after its verdict each answer is given after the tests before it were tried. The facts on
-- the tests are found by what they say, and not by name.
-- Assumes nothing.
use mathlib.Core.Path.{◌≡◌, refl, ap, ◌∙◌}
use mathlib.Core.Bool.{Bool, true, not}
use mathlib.Core.List.{List}
use Prim.Native.Nat.{ℕ, ◌≤◌, ◌<◌}
use native.Mathlib.Omega.{arith}
use Rattle.std.proofs.Common.{rules}
use borrow.Author.Tests.{lt-ltb, le-ltb}
use lib.ListN.{drop, length}
use Rattle.std.specs.Prelude.{Ok}
use Rattle.std.proofs.lemmas.Result.{err_from_is_err_and}
use Rattle.searches.specs.Kind.{bfs, kind_of, search_of}
use Rattle.searches.specs.Answer.{is_pass, number, refusal_of, verdict_of}
use Rattle.searches.specs.declared.Vertex.{Vertex}
use Rattle.searches.specs.declared.Judgement.{Judgement}
use Rattle.searches.proofs.NothingBarred.{judge_none}
use Rattle.checks.proofs.AfterJudge.{judged_refused, decided}
use Rattle.checks.proofs.Tried.{Tried, tried_one, refused_here, accepted_here}
use Rattle.route.specs.WayBack.{tests_after_bfs, way_tests, position_of}
use Rattle.route.proofs.Standing.{found_placed, unfound_absent}
use Rattle.route.proofs.position_to_trace.Goals as goal
use Rattle.route.proofs.position_to_trace.Goals.{In_ok-judgement, in-Passes, in_default}

abbrev own : In_ok-judgement → List (ℕ × Bool)
own c = let a = c.args in tests_after_bfs (length a.rows.now) a.ordering.now a.vertex.0 a.room (is_pass (verdict_of (Ok c.in_ok-judgement.judgement)))

-- the first i of the tests behind judge's do not hold
abbrev Past : ℕ → In_ok-judgement → Type 0
Past i c = let a = c.args in Tried (way_tests a.mark a.rows.now a.ordering.now a.vertex.0 a.room) (drop i (own c))

past_0 : (c : In_ok-judgement) → Past 0 c
unfolding way_tests kind_of search_of
past_0 c =
    let a = c.args in
    decided (kind_of bfs) a.mark a.rows.now a.ordering.now (tests_after_bfs (length a.rows.now) a.ordering.now a.vertex.0 a.room) c.in_ok-judgement.judgement
    (c.in_ok-judgement.ensures ∙ judge_none (kind_of bfs) a.mark a.rows.now a.ordering.now)

past_1 : (c : In_ok-judgement) → c.in_ok-judgement.judgement ≡ Judgement.Passes → Past 1 c
unfolding tests_after_bfs is_pass verdict_of
past_1 c passes = tried_one (past_0 c) (ap (λ (j : Judgement Vertex). not (is_pass (verdict_of (Ok j)))) passes)

past_2 : (c : In_ok-judgement) → c.in_ok-judgement.judgement ≡ Judgement.Passes → {q : ℕ} → q ≡ position_of c.args.ordering.now c.args.vertex.0
    → q < length c.args.ordering.now → Past 2 c
unfolding tests_after_bfs
past_2 c passes stands found = tried_one (past_1 c passes) (found_placed _ _ stands found)

past_3 : (c : In_ok-judgement) → c.in_ok-judgement.judgement ≡ Judgement.Passes → {q : ℕ} → q ≡ position_of c.args.ordering.now c.args.vertex.0
    → q < length c.args.ordering.now → length c.args.rows.now ≤ c.args.room → Past 3 c
unfolding tests_after_bfs
past_3 c passes stands found long = tried_one (past_2 c passes stands found) (le-ltb _ _ long)

-- ---- the answers

pub returns-in_err-judgement-clause-refusal : goal.returns-in_err-judgement-clause-refusal
unfolding verdict_of refusal_of way_tests kind_of search_of
returns-in_err-judgement-clause-refusal c =
    let a = c.args in
    let p = err_from_is_err_and c.from_residual.result c.from_residual.ensures.1 in
    rw (p.1, p.2)
    (judged_refused (kind_of bfs) a.mark a.rows.now a.ordering.now (tests_after_bfs (length a.rows.now) a.ordering.now a.vertex.0 a.room) _
    (c.in_err-judgement.ensures ∙ judge_none (kind_of bfs) a.mark a.rows.now a.ordering.now))

pub returns-then-not-passing-clause-refusal : goal.returns-then-not-passing-clause-refusal
unfolding tests_after_bfs number refusal_of is_pass verdict_of
returns-then-not-passing-clause-refusal c =
    let failing : not (is_pass (verdict_of (Ok c.in_ok-judgement.judgement))) ≡ true =
    elim c.match-matches.branch [
      | in-Passes w ↦ cc
      | in_default w ↦ ap (λ (j : Judgement Vertex). not (is_pass (verdict_of (Ok j)))) w.in_default.is
    ]
    in
    refused_here (past_0 (goal.at.returns-then-not-passing-clause-refusal c).In_ok-judgement) failing

pub returns-in_default-position_of-clause-refusal : goal.returns-in_default-position_of-clause-refusal
unfolding tests_after_bfs number refusal_of
returns-in_default-position_of-clause-refusal c =
    let absent = c.in_default-position_of.ensures in
    refused_here (past_1 (goal.at.returns-in_default-position_of-clause-refusal c).In_ok-judgement (search rules))
    (unfound_absent c.args.ordering.now c.args.vertex.0 refl (omega (arith, absent)))

pub returns-then-short-clause-refusal : goal.returns-then-short-clause-refusal
unfolding tests_after_bfs number refusal_of
returns-then-short-clause-refusal c =
    let x = c.in-Some.ensures in
    refused_here (past_2 (goal.at.returns-then-short-clause-refusal c).In_ok-judgement (search rules) x.0 x.1) (lt-ltb _ _ (omega arith))

pub returns-clause-refusal : goal.returns-clause-refusal
unfolding tests_after_bfs number refusal_of
returns-clause-refusal c =
    let x = c.in-Some.ensures in
    accepted_here (past_3 (goal.at.returns-clause-refusal c).In_ok-judgement (search rules) x.0 x.1 (omega arith))
