-- `wide::place::place` meets its contract: the words of the vertex's row below the counter are done.
use mathlib.Core.Path.{◌≡◌}
use Rattle.searches.specs.Kind.{search_of}
use Rattle.wide.proofs.Placing.{Placing}
use Rattle.wide.proofs.place.place.Given as goal

abbrev pub invariant-loop-i : goal.invariant-loop-i
invariant-loop-i l = record {
  kind : l.labels.kind ≡ l.fn.labels.kind;
  placed : l.sets.placed ≡ l.initial.sets.placed;
  free : l.sets.free ≡ l.initial.sets.free;
  placing : Placing (search_of l.fn.labels.kind.0) l.graph.table.now l.v l.position.0 l.initial.sets.free l.initial.labels.words l.initial.sets.reached
      l.labels.words l.labels.smallest l.labels.largest l.labels.weights l.sets.reached l.i;
}
