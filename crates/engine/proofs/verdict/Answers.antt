-- `engine::verdict` meets its contract: the replay goes to the end, or stops where the first violation is.
-- Assumes nothing.
use mathlib.Core.Path.{◌≡◌, sym, ◌∙◌}
use native.Mathlib.Omega.{arith}
use lib.ListN.{length}
use Rattle.bitset.specs.Below.{first_below}
use Rattle.searches.specs.Kind.{search_of}
use Rattle.searches.specs.Answer.{verdict_of}
use Rattle.steps.specs.Steps.{whole, stops_at}
use Rattle.engine.proofs.Calls.{replayable, fault_there, fault_judged, ended_passes}
use Rattle.engine.proofs.verdict.Goals as goal
use Rattle.engine.proofs.verdict.Given.{Over}
use Rattle.engine.proofs.verdict.Goals.{After-replay-replayed}

pub replay-replayed-requires : goal.replay-replayed-requires
replay-replayed-requires g c =
    let a = c.args in
    rw (c.empty-labels.ensures.words, c.empty-labels.ensures.smallest, c.empty-labels.ensures.largest, c.empty-labels.ensures.weights)
    (replayable (g.G.Graph.rows a.graph) a.barred a.ordering.now (length a.ordering.now) c.requires)

-- where the replay stops, in the search of this kind
stops : (g : Over) (c : After-replay-replayed g)
    → let a = c.args in
    c.replay-replayed.result.count ≡ first_below (length a.ordering.now) (stops_at (search_of a.kind.0) (g.G.Graph.rows a.graph) (whole (length (g.G.Graph.rows a.graph)) a.barred) a.ordering.now)
stops g c = rw c.empty-labels.ensures.kind at c.replay-replayed.ensures.count

-- the labels are those of a search of this kind
of_kind : (g : Over) (c : After-replay-replayed g) → c.replay-replayed.new.labels.kind ≡ c.args.kind
of_kind g c = c.replay-replayed.ensures.kind ∙ c.empty-labels.ensures.kind

pub first_violation-requires : goal.first_violation-requires
first_violation-requires g c =
    let a = c.args in
    let r = c.replay-replayed in
    let w = (goal.at.first_violation-requires g c).After-replay-replayed in
    rw (of_kind g w)
    (fault_there (g.G.Graph.rows a.graph) a.barred a.ordering.now (length a.ordering.now) c.requires (search_of a.kind.0) r.result.count (stops g w) r.new.labels.words
    r.result.stage.free c.if-j-k.true r.ensures.words r.ensures.free (rw (of_kind g w) at r.new.labels.weighed))

pub returns-then-j-k : goal.returns-then-j-k
returns-then-j-k g c =
    let a = c.args in
    let r = c.replay-replayed in
    let w = (goal.at.returns-then-j-k g c).After-replay-replayed in
    (rw (of_kind g w) at c.first_violation.ensures)
    ∙ fault_judged (g.G.Graph.rows a.graph) a.barred a.ordering.now (length a.ordering.now) c.requires (search_of a.kind.0) r.result.count (stops g w)
    r.new.labels.words r.result.stage.free c.if-j-k.true r.ensures.words r.ensures.free

pub returns : goal.returns
unfolding verdict_of
returns g c =
    let a = c.args in
    let r = c.replay-replayed in
    sym (ended_passes (g.G.Graph.rows a.graph) a.barred a.ordering.now (length a.ordering.now) c.requires (search_of a.kind.0) r.result.count (stops g (goal.at.returns g c).After-replay-replayed) (omega arith))
