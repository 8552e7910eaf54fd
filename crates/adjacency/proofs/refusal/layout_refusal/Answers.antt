-- `adjacency::refusal::layout_refusal` meets its contract: 2, then the six cases of 26, then the arcs.
-- Assumes nothing.
use mathlib.Core.List.{List, [], ◌∷◌, ◌++◌}
use mathlib.Core.Path.{◌≡◌, sym, ap, ◌∙◌}
use mathlib.Core.Bool.{Bool, ◌&&◌}
use mathlib.Core.Option.{none}
use Prim.Native.Nat.{ℕ}
use borrow.Author.Tests.{lt-ltb, le-ltb}
use Rattle.std.proofs.lemmas.Result.{err_from_is_err_and}
use Rattle.searches.specs.Answer.{is_two_way, first_refusal, number, refusal_of}
use Rattle.searches.specs.declared.Mark.{Mark}
use Rattle.searches.proofs.Refusals.{none_accepts}
use Rattle.checks.proofs.Tried.{Tried, tried_none, tried_one, tried_list, refused_here, refused_list, accepted_here}
use Rattle.adjacency.specs.Layout.{size_of, arcs_listed, form_tests, self_loop_in, one_way_in, listed_tests, IsLayout}
use Rattle.adjacency.proofs.Layouts.{layout_of}
use Rattle.adjacency.proofs.refusal.layout_refusal.Goals as goal
use Rattle.adjacency.proofs.refusal.layout_refusal.Goals.{After-one_way, Else-offsets-gt65, Else-self_loop, In_ok-form_refusal, Start}

abbrev mark_of : Start → Mark
mark_of c = c.args.mark

abbrev offsets_of : Start → List ℕ
offsets_of c = c.args.offsets.now

abbrev neighbours_of : Start → List ℕ
neighbours_of c = c.args.neighbours.now

abbrev all_tests : Start → List (ℕ × Bool)
all_tests c = listed_tests (mark_of c) (offsets_of c) (neighbours_of c)

-- refusal 5 is tried as the mark says
abbrev five : Start → List (ℕ × Bool)
five c = (5, is_two_way (mark_of c) && one_way_in (size_of (offsets_of c)) (arcs_listed (offsets_of c) (neighbours_of c))) ∷ []

abbrev four : Start → List (ℕ × Bool)
four c = (4, self_loop_in (size_of (offsets_of c)) (arcs_listed (offsets_of c) (neighbours_of c))) ∷ five c

-- there are not too many offsets
past_2 : (c : Else-offsets-gt65) → Tried (all_tests (goal.at.Else-offsets-gt65 c).Start) (form_tests (offsets_of (goal.at.Else-offsets-gt65 c).Start) (neighbours_of (goal.at.Else-offsets-gt65 c).Start) ++ four (goal.at.Else-offsets-gt65 c).Start)
unfolding listed_tests
past_2 c = tried_one (tried_none _) (le-ltb _ _ c.if-offsets-gt65.false)

formed : (c : In_ok-form_refusal) → none ≡ first_refusal (form_tests (offsets_of (goal.at.In_ok-form_refusal c).Start) (neighbours_of (goal.at.In_ok-form_refusal c).Start))
unfolding refusal_of
formed c = c.in_ok-form_refusal.ensures

-- the lists are a layout
layout : (c : In_ok-form_refusal) → IsLayout (offsets_of (goal.at.In_ok-form_refusal c).Start) (neighbours_of (goal.at.In_ok-form_refusal c).Start)
layout c =
    layout_of (offsets_of (goal.at.In_ok-form_refusal c).Start) (neighbours_of (goal.at.In_ok-form_refusal c).Start) c.if-offsets-gt65.false (none_accepts (form_tests (offsets_of (goal.at.In_ok-form_refusal c).Start) (neighbours_of (goal.at.In_ok-form_refusal c).Start)) (sym (formed c)))

past_26 : (c : In_ok-form_refusal) → Tried (all_tests (goal.at.In_ok-form_refusal c).Start) (four (goal.at.In_ok-form_refusal c).Start)
past_26 c = tried_list (form_tests (offsets_of (goal.at.In_ok-form_refusal c).Start) (neighbours_of (goal.at.In_ok-form_refusal c).Start)) (four (goal.at.In_ok-form_refusal c).Start) (past_2 (goal.at.In_ok-form_refusal c).Else-offsets-gt65) (formed c)

past_4 : (c : Else-self_loop) → Tried (all_tests (goal.at.Else-self_loop c).Start) (five (goal.at.Else-self_loop c).Start)
past_4 c = tried_one (past_26 (goal.at.Else-self_loop c).In_ok-form_refusal) (sym c.self_loop.ensures ∙ c.if-self_loop.false)

pub returns-then-offsets-gt65-clause-refusal : goal.returns-then-offsets-gt65-clause-refusal
unfolding listed_tests number refusal_of
returns-then-offsets-gt65-clause-refusal c = refused_here (tried_none _) (lt-ltb _ _ c.if-offsets-gt65.true)

pub returns-in_err-form_refusal-clause-refusal : goal.returns-in_err-form_refusal-clause-refusal
unfolding refusal_of
returns-in_err-form_refusal-clause-refusal c =
    let s = (goal.at.returns-in_err-form_refusal-clause-refusal c).Start in
    let p = err_from_is_err_and c.from_residual.result c.from_residual.ensures.1 in
    rw (p.1, p.2)
    (refused_list (form_tests (offsets_of s) (neighbours_of s)) (four s) (past_2 (goal.at.returns-in_err-form_refusal-clause-refusal c).Else-offsets-gt65) c.in_err-form_refusal.ensures)

pub invariant_of-layout : goal.invariant_of-layout
invariant_of-layout c = record { layout = layout (goal.at.invariant_of-layout c).In_ok-form_refusal }

pub returns-then-self_loop-clause-refusal : goal.returns-then-self_loop-clause-refusal
unfolding number refusal_of
returns-then-self_loop-clause-refusal c = refused_here (past_26 (goal.at.returns-then-self_loop-clause-refusal c).In_ok-form_refusal) (sym c.self_loop.ensures ∙ c.if-self_loop.true)

pub returns-in-OneWay-clause-refusal : goal.returns-in-OneWay-clause-refusal
unfolding is_two_way refusal_of
returns-in-OneWay-clause-refusal c =
    accepted_here (tried_one (past_4 (goal.at.returns-in-OneWay-clause-refusal c).Else-self_loop) (ap (λ (m : Mark). is_two_way m && one_way_in (size_of (offsets_of (goal.at.returns-in-OneWay-clause-refusal c).Start)) (arcs_listed (offsets_of (goal.at.returns-in-OneWay-clause-refusal c).Start) (neighbours_of (goal.at.returns-in-OneWay-clause-refusal c).Start))) c.in-OneWay.is))

-- the last test is that of the code
last : (c : After-one_way)
    → c.one_way.result ≡ (is_two_way (mark_of (goal.at.After-one_way c).Start) && one_way_in (size_of (offsets_of (goal.at.After-one_way c).Start)) (arcs_listed (offsets_of (goal.at.After-one_way c).Start) (neighbours_of (goal.at.After-one_way c).Start)))
unfolding is_two_way
last c =
    c.one_way.ensures ∙ sym (ap (λ (m : Mark). is_two_way m && one_way_in (size_of (offsets_of (goal.at.After-one_way c).Start)) (arcs_listed (offsets_of (goal.at.After-one_way c).Start) (neighbours_of (goal.at.After-one_way c).Start))) c.in_default.is)

pub returns-then-one_way-clause-refusal : goal.returns-then-one_way-clause-refusal
unfolding number refusal_of
returns-then-one_way-clause-refusal c = refused_here (past_4 (goal.at.returns-then-one_way-clause-refusal c).Else-self_loop) (sym (last (goal.at.returns-then-one_way-clause-refusal c).After-one_way) ∙ c.if-one_way.true)

pub returns-clause-refusal : goal.returns-clause-refusal
unfolding refusal_of
returns-clause-refusal c = accepted_here (tried_one (past_4 (goal.at.returns-clause-refusal c).Else-self_loop) (sym (last (goal.at.returns-clause-refusal c).After-one_way) ∙ c.if-one_way.false))
