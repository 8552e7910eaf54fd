-- `wide::fill::fill` meets its contract. The loop's invariant: behind every walk that has left what is kept at the start, i vertices are chosen.
use Prim.Native.Nat.{ℕ}
use mathlib.Core.Path.{◌≡◌}
use mathlib.Core.List.{List}
use Rattle.searches.specs.Kind.{search_of}
use Rattle.wide.specs.Steps.{Begun}
use Rattle.wide.proofs.Filling.{Filling}
use Rattle.wide.proofs.fill.fill.Given as goal

abbrev pub invariant-loop-i : goal.invariant-loop-i
invariant-loop-i l = record {
  kind : l.labels.kind ≡ l.initial.labels.kind;
  filling : (w : List ℕ)
      → Begun (search_of l.initial.labels.kind.0) l.graph.mark l.graph.table.now l.graph.n l.tie_break l.initial.tail l.k
      l.initial.labels.words l.initial.labels.smallest l.initial.labels.largest l.initial.labels.weights l.initial.sets.placed l.initial.sets.free l.initial.sets.reached w
      → Filling (search_of l.initial.labels.kind.0) l.graph.table.now l.graph.n l.tie_break w l.k l.initial.tail l.tail
      l.labels.words l.labels.smallest l.labels.largest l.labels.weights l.sets.placed l.sets.free l.sets.reached l.i;
}
