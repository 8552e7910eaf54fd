-- `chordal::decide` meets its contract: refused as the tests say, else decided from the ordering that was written.
-- Assumes nothing.
use mathlib.Core.Path.{◌≡◌, refl, sym, ◌∙◌}
use mathlib.Core.Option.{none}
use lib.ListN.{length}
use Rattle.std.proofs.lemmas.Result.{err_from_is_err_and}
use Rattle.searches.specs.Answer.{first_refusal, Accepts, refusal_of}
use Rattle.searches.proofs.Refusals.{none_accepts}
use Rattle.std.specs.Prelude.{Ok}
use Rattle.chordal.specs.declared.Chordality.{Chordality}
use Rattle.chordal.specs.Answer.{chordal_tests, refusal_in, answer_of}
use Rattle.chordal.proofs.Deciding.{valid}
use Rattle.chordal.proofs.decide.Goals as goal
use Rattle.chordal.proofs.decide.Goals.{In_ok-chordal_refusal}

pub returns-in_err-chordal_refusal : goal.returns-in_err-chordal_refusal
unfolding refusal_in answer_of refusal_of
returns-in_err-chordal_refusal c =
    let p = err_from_is_err_and c.from_residual.result c.from_residual.ensures.1 in
    record { answer = rw (p.1, p.2) c.in_err-chordal_refusal.ensures; output = rw p.1 refl }

accepted : (c : In_ok-chordal_refusal)
    → let a = c.args in
    none ≡ first_refusal (chordal_tests a.mark a.rows.now (length a.output.now))
unfolding refusal_of
accepted c = c.in_ok-chordal_refusal.ensures

able : (c : In_ok-chordal_refusal)
    → let a = c.args in
    Accepts (chordal_tests a.mark a.rows.now (length a.output.now))
able c = none_accepts _ (sym (accepted c))

pub write_order-requires : goal.write_order-requires
write_order-requires c = ((valid _ _ _ (able (goal.at.write_order-requires c).In_ok-chordal_refusal)).0, refl)

pub slice_bounds-answer_from-end : goal.slice_bounds-answer_from-end
slice_bounds-answer_from-end c = sym c.write_order.ensures.length

pub answer_from-requires : goal.answer_from-requires
answer_from-requires c = (c.write_order.ensures.ordering, (valid _ _ _ (able (goal.at.answer_from-requires c).In_ok-chordal_refusal)).1)

-- neither answer is a refusal
decided : (x : Chordality) → refusal_in (answer_of (Ok x)) ≡ none
unfolding refusal_in answer_of
decided Chordality.Chordal = refl
decided (Chordality.Cycle m) = refl

pub returns : goal.returns
returns c =
    record {
      answer = decided c.answer_from.result ∙ accepted (goal.at.returns c).In_ok-chordal_refusal;
      output = c.answer_from.ensures;
    }
