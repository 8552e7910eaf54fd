-- `wide::verdict` meets its contract: the replay goes to the end, or stops where the first violation is.
-- Assumes nothing.
use mathlib.Core.Path.{refl, sym}
use lib.ListN.{length}
use Rattle.searches.specs.Kind.{search_of}
use Rattle.searches.specs.Table.{arcs_wide}
use Rattle.searches.specs.Wide.{wide_verdict_of}
use Rattle.wide.proofs.Staging.{stored_start}
use Rattle.wide.proofs.Violating.{faulty_staged}
use Rattle.wide.proofs.Calls.{ended_passes}
use Rattle.wide.proofs.verdict.Goals as goal

pub invariant_of-labels : goal.invariant_of-labels
invariant_of-labels c = record { stored = stored_start _ refl refl refl refl }

pub invariant_of-turn : goal.invariant_of-turn
invariant_of-turn c =
    record { faulty = rw c.replay-j.ensures.kind (faulty_staged c.args.graph.now.valid c.requires c.if-j-k.true c.replay-j.ensures.staged) }

pub first_violation-requires : goal.first_violation-requires
first_violation-requires c = rw c.replay-j.ensures.kind c.replay-j.ensures.count

pub returns-then-j-k : goal.returns-then-j-k
returns-then-j-k c = rw c.replay-j.ensures.kind at c.first_violation.ensures

pub returns : goal.returns
unfolding wide_verdict_of
returns c =
    let a = c.args in
    let w = a.ordering.now in
    sym (ended_passes (search_of a.kind.0) (arcs_wide 8 a.graph.now.table.now) a.graph.now.n w (length w) c.requires c.replay-j.result c.replay-j.ensures.count c.if-j-k.false)
