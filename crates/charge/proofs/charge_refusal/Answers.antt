-- `charge::charge_refusal` meets its contract: judge's refusal, or after its verdict each answer is given after the tests before it were tried. The facts on
-- the tests are found by what they say, and not by name.
-- Assumes nothing.
use mathlib.Core.Path.{◌≡◌, sym, ap, ◌∙◌}
use mathlib.Core.Bool.{Bool, false, not}
use mathlib.Core.List.{List}
use Prim.Native.Nat.{ℕ, ◌≤◌}
use native.Mathlib.Omega.{arith}
use borrow.Author.Tests.{lt-ltb, le-ltb}
use lib.ListN.{length, drop}
use Rattle.std.specs.Prelude.{Ok}
use Rattle.std.proofs.lemmas.Result.{err_from_is_err_and}
use Rattle.searches.specs.Answer.{is_pass, number, refusal_of, verdict_of}
use Rattle.searches.specs.declared.Vertex.{Vertex}
use Rattle.searches.specs.declared.Judgement.{Judgement}
use Rattle.searches.proofs.NothingBarred.{judge_none}
use Rattle.checks.proofs.AfterJudge.{judged_refused, decided}
use Rattle.checks.proofs.Tried.{Tried, tried_one, refused_here, accepted_here}
use Rattle.charge.specs.Charge.{malformed_minutes, tests_after_judge, charge_tests}
use Rattle.charge.proofs.charge_refusal.Goals as goal
use Rattle.charge.proofs.charge_refusal.Goals.{In_ok-judgement}

abbrev own : In_ok-judgement → List (ℕ × Bool)
own c = let a = c.args in tests_after_judge (length a.rows.now) a.minutes.now a.rate (is_pass (verdict_of (Ok c.in_ok-judgement.judgement)))

-- the first i of the tests behind judge's do not hold
abbrev Past : ℕ → In_ok-judgement → Type 0
Past i c = let a = c.args in Tried (charge_tests a.kind.0 a.mark a.rows.now a.ordering.now a.minutes.now a.rate) (drop i (own c))

past_0 : (c : In_ok-judgement) → Past 0 c
unfolding charge_tests
past_0 c =
    let a = c.args in
    decided a.kind.0 a.mark a.rows.now a.ordering.now (tests_after_judge (length a.rows.now) a.minutes.now a.rate) c.in_ok-judgement.judgement
    (c.in_ok-judgement.ensures ∙ judge_none a.kind.0 a.mark a.rows.now a.ordering.now)

past_1 : (c : In_ok-judgement) → malformed_minutes (length c.args.rows.now) c.args.minutes.now ≡ false → Past 1 c
unfolding tests_after_judge
past_1 c sound = tried_one (past_0 c) sound

past_2 : (c : In_ok-judgement) → malformed_minutes (length c.args.rows.now) c.args.minutes.now ≡ false → c.args.rate ≤ 99999 → Past 2 c
unfolding tests_after_judge
past_2 c sound low = tried_one (past_1 c sound) (le-ltb _ _ low)

-- ---- the answers

pub returns-in_err-judgement : goal.returns-in_err-judgement
unfolding verdict_of refusal_of charge_tests
returns-in_err-judgement c =
    let a = c.args in
    let p = err_from_is_err_and c.from_residual.result c.from_residual.ensures.1 in
    rw (p.1, p.2)
    (judged_refused a.kind.0 a.mark a.rows.now a.ordering.now (tests_after_judge (length a.rows.now) a.minutes.now a.rate) _
    (c.in_err-judgement.ensures ∙ judge_none a.kind.0 a.mark a.rows.now a.ordering.now))

pub returns-then-malformed : goal.returns-then-malformed
unfolding tests_after_judge number refusal_of
returns-then-malformed c = refused_here (past_0 (goal.at.returns-then-malformed c).In_ok-judgement) (sym c.malformed_minutes-malformed.ensures ∙ grind arith)

pub returns-then-above : goal.returns-then-above
unfolding tests_after_judge number refusal_of
returns-then-above c = refused_here (past_1 (goal.at.returns-then-above c).In_ok-judgement (grind arith)) (lt-ltb _ _ (omega arith))

pub returns-in-Fails : goal.returns-in-Fails
unfolding tests_after_judge number refusal_of is_pass verdict_of
returns-in-Fails c =
    refused_here (past_2 (goal.at.returns-in-Fails c).In_ok-judgement (grind arith) (omega arith))
    (ap (λ (j : Judgement Vertex). not (is_pass (verdict_of (Ok j)))) c.in-Fails.is)

pub returns : goal.returns
unfolding tests_after_judge number refusal_of is_pass verdict_of
returns c =
    accepted_here (tried_one (past_2 (goal.at.returns c).In_ok-judgement (grind arith) (omega arith))
    (ap (λ (j : Judgement Vertex). not (is_pass (verdict_of (Ok j)))) c.in_default.is))
