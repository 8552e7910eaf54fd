-- `traversal::Traversal::open` meets its contract: refused it is the empty open walk, else the rows are copied.
-- Assumes nothing.
use Prim.Native.Nat.{ℕ}
use mathlib.Core.Path.{◌≡◌, refl, ap, ◌∙◌}
use mathlib.Core.List.{List, ◌++◌}
use mathlib.Core.Option.{none}
use lib.ListN.{length, replicate}
use Rattle.searches.specs.Answer.{refusal_of, open_tests_barring, first_refusal, open_barring}
use Rattle.checks.proofs.Tried.{rows_fit}
use Rattle.traversal.specs.State.{state, nothing_open, opened}
use Rattle.bitset.proofs.Copying.{behind_zeros}
use Rattle.traversal.proofs.Answered.{next_handed, kept_handed}
use Rattle.traversal.proofs.Traversal.open.Goals as goal
use Rattle.traversal.proofs.Traversal.open.Goals.{In_default}

pub returns-in-Err : goal.returns-in-Err
unfolding refusal_of open_barring opened nothing_open
returns-in-Err c = record { state = kept_handed _ nothing_open c.in-Err.ensures; answer = c.in-Err.ensures }

accepted : (c : In_default)
    → let a = c.args in
    none ≡ first_refusal (open_tests_barring a.kind.0 a.mark a.rows.now a.barred)
unfolding refusal_of
accepted c = c.in_default.ensures

pub copy-requires : goal.copy-requires
copy-requires c = (rows_fit _ _ _ _ (accepted (goal.at.copy-requires c).In_default), refl)

pub returns : goal.returns
unfolding refusal_of open_barring opened
returns c =
    let a = c.args in
    let rows = a.rows.now in record {
      state = ap (λ (copy : List ℕ). state a.kind a.mark (length rows) copy a.barred 0 (replicate 64 0)) (c.copy.ensures ∙ ap (λ (x : List ℕ). rows ++ x) (behind_zeros (length rows)))
          ∙ next_handed _ nothing_open (accepted (goal.at.returns c).In_default);
      answer = accepted (goal.at.returns c).In_default;
    }
