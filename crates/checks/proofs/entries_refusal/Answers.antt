-- `checks::entries_refusal` meets its contract: the first test that holds decides. The facts on the two tests are found by what they say, and not by name.
-- Assumes nothing.
use Rattle.std.proofs.Common.{rules}
use Rattle.searches.specs.Answer.{number, refusal_of, first_refusal}
use Rattle.checks.proofs.entries_refusal.Goals as goal

pub returns-then-twice : goal.returns-then-twice
unfolding number refusal_of first_refusal
returns-then-twice c = search rules

pub returns-then-out_of_service : goal.returns-then-out_of_service
unfolding number refusal_of first_refusal
returns-then-out_of_service c = search rules

pub returns : goal.returns
unfolding number refusal_of first_refusal
returns c = search rules
