-- `wide::replay::replay` meets its contract. The loop's invariant: j vertices are placed, none of which was beaten.
use mathlib.Core.Path.{◌≡◌}
use Rattle.searches.specs.Kind.{search_of}
use Rattle.wide.proofs.Replaying.{Replaying}
use Rattle.wide.proofs.replay.replay.Given as goal

abbrev pub invariant-loop-j : goal.invariant-loop-j
invariant-loop-j l = record {
  kind : l.labels.kind ≡ l.initial.labels.kind;
  replaying : Replaying (search_of l.initial.labels.kind.0) l.graph.table.now l.graph.n l.ordering l.k
      l.labels.words l.labels.smallest l.labels.largest l.labels.weights l.sets.placed l.sets.free l.sets.reached l.j;
}
