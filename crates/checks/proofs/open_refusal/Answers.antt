-- `checks::open_refusal` meets its contract: the tests on the graph come first, then the one on the set of barred vertices.
-- Assumes nothing.
use mathlib.Core.Path.{◌≡◌, sym, ◌∙◌}
use mathlib.Core.Bool.{true, false}
use mathlib.Core.List.{List}
use mathlib.Core.Option.{none, some}
use Prim.Native.Nat.{ℕ}
use lib.ListN.{length}
use Rattle.std.proofs.lemmas.Result.{err_from_is_err_and}
use Rattle.bitset.specs.Word.{from_up}
use Rattle.searches.specs.Answer.{open_tests, open_tests_barring, barred_outside, first_refusal, number, refusal_of}
use Rattle.searches.specs.declared.Mark.{Mark}
use Rattle.checks.proofs.Tried.{tried_one, tried_first, refused_here, refused_before, accepted_here}
use Rattle.checks.proofs.open_refusal.Goals as goal

-- the tests on the graph do not hold: the last one decides
module _ (kind : ℕ) (mark : Mark) (rows : List ℕ) (barred : ℕ) where
  barred_first : none ≡ first_refusal (open_tests kind mark rows) → barred_outside (length rows) barred ≡ true → some 23 ≡ first_refusal (open_tests_barring kind mark rows barred)
  unfolding open_tests_barring
  barred_first e holds = refused_here (tried_first (open_tests kind mark rows) _ e) holds

  none_first : none ≡ first_refusal (open_tests kind mark rows) → barred_outside (length rows) barred ≡ false → none ≡ first_refusal (open_tests_barring kind mark rows barred)
  unfolding open_tests_barring
  none_first e fails = accepted_here (tried_one (tried_first (open_tests kind mark rows) _ e) fails)

pub returns-in_err-graph_refusal : goal.returns-in_err-graph_refusal
unfolding open_tests_barring refusal_of
returns-in_err-graph_refusal c =
    let p = err_from_is_err_and c.from_residual.result c.from_residual.ensures.1 in
    rw (p.1, p.2) (refused_before (open_tests c.args.kind.0 c.args.mark c.args.rows.now) _ c.in_err-graph_refusal.ensures)

pub returns-then-any_from : goal.returns-then-any_from
unfolding number refusal_of barred_outside from_up
returns-then-any_from c = barred_first _ _ _ _ c.in_ok-graph_refusal.ensures (sym c.any_from.ensures ∙ c.if-any_from.true)

pub returns : goal.returns
unfolding refusal_of barred_outside from_up
returns c = none_first _ _ _ _ c.in_ok-graph_refusal.ensures (sym c.any_from.ensures ∙ c.if-any_from.false)
