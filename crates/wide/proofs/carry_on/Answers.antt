-- `wide::carry_on` meets its contract: refused as the tests say, else extended.
-- Assumes nothing.
use mathlib.Core.Path.{◌≡◌, sym, ap, ◌∙◌}
use mathlib.Core.Option.{none}
use Prim.Native.Nat.{◌/◌, ◌≤◌}
use lib.ListN.{length}
use Rattle.searches.specs.Ordering.{IsOrdering, IsFullOrdering}
use Rattle.searches.specs.Answer.{first_refusal, refusal_of}
use Rattle.searches.specs.Wide.{list_tests_wide}
use Rattle.std.proofs.lemmas.Result.{err_from_is_err_and}
use Rattle.wide.specs.Steps.{IsGraph}
use Rattle.wide.proofs.Calls.{carry_on_asked_refused, carry_on_asked_accepted, carry_on_asked_last}
use Rattle.wide.proofs.carry_on.Goals as goal
use Rattle.wide.proofs.carry_on.Goals.{In_ok-list_refusal}

pub returns-in_err-list_refusal : goal.returns-in_err-list_refusal
unfolding refusal_of
returns-in_err-list_refusal c =
    let a = c.args in
    let p = err_from_is_err_and c.from_residual.result c.from_residual.ensures.1 in
    let whole = carry_on_asked_refused a.kind.0 a.mark a.table.now a.tie_break.now a.output.now a.k _
    (sym (ap refusal_of c.in_err-list_refusal.was) ∙ c.list_refusal.ensures) in
    record { answer = rw (p.1, p.2) whole.0; output = whole.1 }

accepted : (c : In_ok-list_refusal)
    → let a = c.args in
    none ≡ first_refusal (list_tests_wide 8 a.kind.0 a.mark a.table.now a.tie_break.now a.output.now a.k)
unfolding refusal_of
accepted c = sym (ap refusal_of c.in_ok-list_refusal.was) ∙ c.list_refusal.ensures

-- what carrying on asks for
asked : (c : In_ok-list_refusal)
    → let a = c.args in
    let n = length a.table.now / 8 in
    IsGraph a.mark n a.table.now × IsFullOrdering n a.tie_break.now × IsOrdering n a.output.now a.k × (n ≤ length a.output.now)
asked c =
    let a = c.args in
    carry_on_asked_accepted a.kind.0 a.mark a.table.now a.tie_break.now a.output.now a.k (accepted c)

pub invariant_of-extend : goal.invariant_of-extend
invariant_of-extend c = record { valid = (asked c).0 }

pub extend-requires : goal.extend-requires
extend-requires c =
    let x = asked (goal.at.extend-requires c).In_ok-list_refusal in
    (x.1, x.2, x.3)

pub returns : goal.returns
returns c =
    let a = c.args in
    let last = carry_on_asked_last a.kind.0 a.mark a.table.now a.tie_break.now a.output.now a.k (accepted (goal.at.returns c).In_ok-list_refusal) in
    record {
      answer = c.extend.ensures.answer ∙ last.0;
      output = c.extend.ensures.output ∙ last.1;
    }
