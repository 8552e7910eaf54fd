-- `firmware::plan::refusal` meets its contract: each answer is given after the tests before it were tried.
-- Assumes nothing.
use borrow.Author.Tests.{lt-ltb, le-ltb, eq-eqb, ne_eqb}
use Rattle.searches.specs.Answer.{first_refusal, number, refusal_of}
use Rattle.firmware.specs.Code.{plan_tests, read_tests}
use Rattle.firmware.proofs.plan.refusal.Goals as goal

pub returns-then-kind : goal.returns-then-kind
unfolding first_refusal plan_tests read_tests number refusal_of
returns-then-kind c = simp (lt-ltb _ _ c.if-kind.true)

pub returns-then-plan-ne0 : goal.returns-then-plan-ne0
unfolding first_refusal plan_tests read_tests number refusal_of
returns-then-plan-ne0 c = simp (le-ltb _ _ c.if-kind.false, ne_eqb _ _ c.if-plan-ne0.true)

pub returns-then-plan-gt512 : goal.returns-then-plan-gt512
unfolding first_refusal plan_tests read_tests number refusal_of
returns-then-plan-gt512 c = simp (le-ltb _ _ c.if-kind.false, eq-eqb _ _ c.if-plan-ne0.false, lt-ltb _ _ c.if-plan-gt512.true)

pub returns : goal.returns
unfolding first_refusal plan_tests read_tests number refusal_of
returns c = simp (le-ltb _ _ c.if-kind.false, eq-eqb _ _ c.if-plan-ne0.false, le-ltb _ _ c.if-plan-gt512.false)
