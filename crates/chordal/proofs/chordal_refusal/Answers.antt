-- `chordal::chordal_refusal` meets its contract: the tests on the graph come first, then the one on the output list.
-- Assumes nothing.
use mathlib.Core.Bool.{Bool}
use mathlib.Core.List.{List, [], ◌∷◌}
use Prim.Native.Nat.{ℕ}
use borrow.Author.Tests.{lt-ltb, le-ltb}
use lib.Dec.{ltb}
use lib.ListN.{length}
use Rattle.std.proofs.lemmas.Result.{err_from_is_err_and}
use Rattle.searches.specs.Answer.{two_way_tests, number, refusal_of}
use Rattle.checks.proofs.Tried.{Tried, tried_one, tried_first, refused_here, refused_before, accepted_here}
use Rattle.chordal.specs.Answer.{chordal_tests}
use Rattle.chordal.proofs.chordal_refusal.Goals as goal
use Rattle.chordal.proofs.chordal_refusal.Goals.{In_ok-two_way_refusal, Start}

abbrev first_tests : Start → List (ℕ × Bool)
first_tests c = let a = c.args in two_way_tests a.mark a.rows.now

-- the tests on the graph do not hold
last : (c : In_ok-two_way_refusal)
    → let a = c.args in
    Tried (chordal_tests a.mark a.rows.now a.room) ((10, ltb a.room (length a.rows.now)) ∷ [])
unfolding chordal_tests refusal_of
last c = tried_first (first_tests (goal.at.In_ok-two_way_refusal c).Start) _ c.in_ok-two_way_refusal.ensures

pub returns-in_err-two_way_refusal : goal.returns-in_err-two_way_refusal
unfolding chordal_tests refusal_of
returns-in_err-two_way_refusal c =
    let p = err_from_is_err_and c.from_residual.result c.from_residual.ensures.1 in
    rw (p.1, p.2) (refused_before (first_tests (goal.at.returns-in_err-two_way_refusal c).Start) _ c.in_err-two_way_refusal.ensures)

pub returns-then-room-rows : goal.returns-then-room-rows
unfolding number refusal_of
returns-then-room-rows c = refused_here (last (goal.at.returns-then-room-rows c).In_ok-two_way_refusal) (lt-ltb _ _ c.if-room-rows.true)

pub returns : goal.returns
unfolding refusal_of
returns c = accepted_here (tried_one (last (goal.at.returns c).In_ok-two_way_refusal) (le-ltb _ _ c.if-room-rows.false))
