-- `checks::two_way::two_way_refusal` meets its contract: refusals 2, 3 and 4 are those of a graph of either mark, then the mark is looked at, then every link.
-- Assumes nothing.
use mathlib.Core.Path.{◌≡◌, refl, sym, ap, ◌∙◌}
use mathlib.Core.Bool.{Bool, true, false, not}
use mathlib.Core.List.{List, [], ◌∷◌}
use mathlib.Core.Option.{none, some}
use Prim.Native.Nat.{ℕ}
use lib.Dec.{ltb}
use lib.ListN.{length}
use Rattle.std.proofs.Common.{rules}
use Rattle.std.proofs.lemmas.Result.{err_from_is_err_and}
use Rattle.bitset.proofs.Tests.{is_false}
use Rattle.searches.specs.Answer.{bit_outside, self_loop, one_way, is_two_way, open_tests, two_way_tests, first_refusal, number, refusal_of}
use Rattle.searches.specs.declared.Mark.{Mark}
use Rattle.searches.proofs.Refusals.{none_accepts}
use Rattle.searches.proofs.Answers.{valid_small}
use Rattle.checks.proofs.Tried.{Tried, tried_one, tried_first, refused_here, refused_before, accepted_here}
use Rattle.checks.proofs.two_way.two_way_refusal.Goals as goal

-- the tests that know no mark
abbrev unmarked : List ℕ → List (ℕ × Bool)
unmarked rows = (2, ltb 64 (length rows)) ∷ (3, bit_outside rows) ∷ (4, self_loop rows) ∷ []

unmarked_first : (rows : List ℕ) → first_refusal (open_tests 0 Mark.OneWay rows) ≡ first_refusal (unmarked rows)
unfolding open_tests is_two_way first_refusal
unmarked_first rows = refl

module _ (mark : Mark) (rows : List ℕ) where
  unmarked_before : {r : ℕ} → some r ≡ first_refusal (open_tests 0 Mark.OneWay rows) → some r ≡ first_refusal (two_way_tests mark rows)
  unfolding two_way_tests
  unmarked_before e = refused_before (unmarked rows) _ (e ∙ unmarked_first rows)

  module _ (accepted : none ≡ first_refusal (open_tests 0 Mark.OneWay rows)) where
    -- they do not hold
    past : Tried (two_way_tests mark rows) ((25, not (is_two_way mark)) ∷ (5, one_way rows) ∷ [])
    unfolding two_way_tests
    past = tried_first (unmarked rows) _ (accepted ∙ unmarked_first rows)

    marked_one_way : mark ≡ Mark.OneWay → some 25 ≡ first_refusal (two_way_tests mark rows)
    unfolding is_two_way
    marked_one_way e = refused_here past (ap (λ (m : Mark). not (is_two_way m)) e)

    -- nor does the test on the mark
    past_mark : mark ≡ Mark.TwoWay → Tried (two_way_tests mark rows) ((5, one_way rows) ∷ [])
    unfolding is_two_way
    past_mark e = tried_one past (ap (λ (m : Mark). not (is_two_way m)) e)

    five_last : mark ≡ Mark.TwoWay → one_way rows ≡ true → some 5 ≡ first_refusal (two_way_tests mark rows)
    five_last e holds = refused_here (past_mark e) holds

    none_last : mark ≡ Mark.TwoWay → one_way rows ≡ false → none ≡ first_refusal (two_way_tests mark rows)
    none_last e fails = accepted_here (tried_one (past_mark e) fails)

pub returns-in_err-graph_refusal : goal.returns-in_err-graph_refusal
unfolding refusal_of
returns-in_err-graph_refusal c =
    let p = err_from_is_err_and c.from_residual.result c.from_residual.ensures.1 in
    rw (p.1, p.2) (unmarked_before _ _ c.in_err-graph_refusal.ensures)

pub returns-in-OneWay : goal.returns-in-OneWay
unfolding number refusal_of
returns-in-OneWay c = marked_one_way _ _ c.in_ok-graph_refusal.ensures c.in-OneWay.is

pub one_way-requires : goal.one_way-requires
unfolding open_tests refusal_of
one_way-requires c =
    let valid = none_accepts (open_tests 0 Mark.OneWay c.args.rows.now) (sym c.in_ok-graph_refusal.ensures) in
    (valid_small 0 Mark.OneWay c.args.rows.now valid, is_false _ valid.1.1.0)

pub returns-then-one_way : goal.returns-then-one_way
unfolding number refusal_of
returns-then-one_way c = five_last _ _ c.in_ok-graph_refusal.ensures (search rules) (sym c.one_way.ensures ∙ c.if-one_way.true)

pub returns : goal.returns
unfolding refusal_of
returns c = none_last _ _ c.in_ok-graph_refusal.ensures (search rules) (sym c.one_way.ensures ∙ c.if-one_way.false)
