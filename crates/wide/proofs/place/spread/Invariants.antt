-- `wide::place::spread` meets its contract: the vertices of the word that are not in what is left of it have the position. The measure is the word that
-- is left.
use mathlib.Core.Path.{◌≡◌}
use Rattle.searches.specs.Kind.{search_of}
use Rattle.wide.proofs.Spreading.{Spreading}
use Rattle.wide.proofs.place.spread.Given as goal

abbrev pub invariant-loop-rest : goal.invariant-loop-rest
invariant-loop-rest l = record {
  kind : l.labels.kind ≡ l.initial.labels.kind;
  spread : Spreading (search_of l.initial.labels.kind.0) l.initial.labels.words l.word l.i l.position.0
      l.labels.words l.labels.smallest l.labels.largest l.labels.weights l.rest;
}

abbrev pub decreases-loop-rest : goal.decreases-loop-rest
decreases-loop-rest l = l.rest
