-- `steps::replay::replay` meets its contract.
use Prim.Native.Nat.{◌-◌}
use mathlib.Core.Path.{◌≡◌}
use lib.ListN.{length}
use Rattle.searches.specs.Kind.{search_of}
use Rattle.steps.specs.Steps.{whole}
use Rattle.steps.proofs.Replaying.{Replaying}
use Rattle.steps.proofs.replay.replay.Given as goal

abbrev pub invariant-loop-j : goal.invariant-loop-j
invariant-loop-j g l =
    let kept = l.labels in
    record {
      same_kind : kept.kind ≡ l.initial.labels.kind;
      replaying : Replaying (search_of l.initial.labels.kind.0) (g.G.Graph.rows l.graph) (whole (length (g.G.Graph.rows l.graph)) l.barred) l.ordering l.k kept.words kept.smallest kept.largest kept.weights l.stage l.j;
    }

abbrev pub decreases-loop-j : goal.decreases-loop-j
decreases-loop-j g l = l.k - l.j
