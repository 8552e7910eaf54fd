-- `traversal::Traversal::survey` meets its contract: a test that fails decides, and where all others hold, judge does.
-- Assumes nothing.
use native.Mathlib.Omega.{arith}
use Rattle.bitset.proofs.Tests.{said_true, said_false}
use Rattle.lookup.specs.Unused.{used_from}
use Rattle.traversal.specs.State.{plan, walk}
use Rattle.traversal.proofs.WellFormed.{parts, by_judge, surveyed_broken, surveyed_judged}
use Rattle.traversal.proofs.Traversal.survey.Goals as goal
use Rattle.traversal.proofs.Traversal.survey.Goals.{then-self-gt64-via-then-self-gt64, then-self-gt64-via-else-self-gt64+then-self}
use Rattle.traversal.proofs.Traversal.survey.Goals.{then-self-gt64-via-else-self-gt64+else-self+then-row_used_from}
use Rattle.traversal.proofs.Traversal.survey.Goals.{then-self-gt64-via-else-self-gt64+else-self+else-row_used_from+then-entry_used_from}

pub returns-then-self-gt64-clause-formed : goal.returns-then-self-gt64-clause-formed
returns-then-self-gt64-clause-formed c =
    let t = c.args.self.now in
    elim c.then-self-gt64.branch [
      | then-self-gt64-via-then-self-gt64 w ↦ surveyed_broken t (λ x. omega (arith, (parts t x).points))
      | then-self-gt64-via-else-self-gt64+then-self w ↦ surveyed_broken t (λ x. omega (arith, (parts t x).places))
      | then-self-gt64-via-else-self-gt64+else-self+then-row_used_from w ↦
          surveyed_broken t (λ x. (parts t x).rows_unused (said_true (used_from t.n t.rows) w.row_used_from.ensures w.if-row_used_from.true))
      | then-self-gt64-via-else-self-gt64+else-self+else-row_used_from+then-entry_used_from w ↦
          surveyed_broken t (λ x. (parts t x).places_unused (said_true (used_from t.k t.ordering) w.entry_used_from.ensures w.if-entry_used_from.true))
    ]

pub returns-clause-formed : goal.returns-clause-formed
unfolding plan walk
returns-clause-formed c =
    let t = c.args.self.now in
    surveyed_judged t c.after.ensures.passes
    (by_judge t (omega arith) (omega arith) (said_false (used_from t.n t.rows) c.row_used_from.ensures c.if-row_used_from.false)
    (said_false (used_from t.k t.ordering) c.entry_used_from.ensures c.if-entry_used_from.false))

pub returns-clause-moment : goal.returns-clause-moment
unfolding plan walk
returns-clause-moment c = c.after.ensures.moment
