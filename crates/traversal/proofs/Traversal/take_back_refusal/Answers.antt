-- `traversal::Traversal::take_back_refusal` meets its contract: each answer is given after the tests before it were tried. The facts on the tests are found
-- by what they say, and not by name.
-- Assumes nothing.
use mathlib.Core.Path.{◌≡◌, sym, ap, ◌∙◌}
use mathlib.Core.Bool.{true, not}
use Prim.Native.Nat.{ℕ, ◌<◌}
use native.Mathlib.Omega.{arith}
use borrow.Author.Tests.{eq-eqb, ne_eqb}
use lib.ListN.{drop}
use Rattle.searches.specs.Answer.{number, refusal_of}
use Rattle.checks.proofs.Tried.{Tried, tried_none, tried_one, refused_here, accepted_here}
use Rattle.traversal.specs.declared.Traversal.{Traversal}
use Rattle.traversal.specs.State.{well_formed, take_back_tests, take_back_answer}
use Rattle.traversal.proofs.Traversal.take_back_refusal.Goals as goal

-- the first i tests do not hold
abbrev Past : ℕ → Traversal → Type 0
Past i t = Tried (take_back_tests t) (drop i (take_back_tests t))

-- 13's test, by what survey says of the state
past_1 : (t : Traversal) → well_formed t ≡ true → Past 1 t
unfolding take_back_tests
past_1 t sound = tried_one (tried_none _) (ap not sound)

past_2 : (t : Traversal) → well_formed t ≡ true → 0 < t.k → Past 2 t
unfolding take_back_tests
past_2 t sound some = tried_one (past_1 t sound) (ne_eqb _ _ (omega arith))

pub returns-then-is_none : goal.returns-then-is_none
unfolding take_back_answer take_back_tests number refusal_of
returns-then-is_none c = refused_here (tried_none _) (ap not (sym c.survey.ensures.formed ∙ c.if-is_none.ensures))

pub returns-then-self-eq0 : goal.returns-then-self-eq0
unfolding take_back_answer take_back_tests number refusal_of
returns-then-self-eq0 c = refused_here (past_1 c.args.self.now (sym c.survey.ensures.formed ∙ c.if-is_none.ensures)) (eq-eqb _ _ (omega arith))

pub returns : goal.returns
unfolding take_back_answer take_back_tests number refusal_of
returns c = accepted_here (past_2 c.args.self.now (sym c.survey.ensures.formed ∙ c.if-is_none.ensures) (omega arith))
