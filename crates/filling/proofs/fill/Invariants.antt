-- `filling::fill` meets its contract: what is filled so far and what the definition gives from there on make the whole.
use Prim.Native.Nat.{◌+◌, ◌-◌}
use mathlib.Core.Path.{◌≡◌}
use Rattle.bitset.specs.Below.{count_below}
use Rattle.bitset.specs.Word.{member}
use Rattle.searches.specs.Kind.{search_of}
use Rattle.steps.specs.Steps.{Staged}
use Rattle.filling.specs.Fill.{Along}
use Rattle.filling.proofs.Tail.{Filling}
use Rattle.filling.proofs.fill.Given as goal

abbrev pub invariant-loop-i : goal.invariant-loop-i
invariant-loop-i g l =
    let kept = l.labels in
    let s = search_of l.initial.labels.kind.0 in
    record {
      same_kind : kept.kind ≡ l.initial.labels.kind;
      filling : Filling s (g.G.Graph.rows l.graph) l.tie_break l.k l.count l.initial.labels.words l.initial.moment.free l.initial.tail l.tail kept.words l.moment.free l.i;
      along : Along (g.G.Graph.rows l.graph) (l.k + l.i) kept.words kept.smallest kept.largest l.moment.set l.moment.free;
      staged : Staged s kept.words kept.weights l.moment (l.k + l.i);
      left : l.i + count_below 64 (member l.moment.free) ≡ l.count;
    }

abbrev pub decreases-loop-i : goal.decreases-loop-i
decreases-loop-i g l = l.count - l.i
