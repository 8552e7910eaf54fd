-- `wide::place::place` meets its contract: the words of the vertex's row below the counter are done.
-- Assumes nothing.
use Prim.Native.Nat.{ℕ, ◌+◌, ◌*◌, ◌<◌, ◌≤◌}
use mathlib.Core.Path.{◌≡◌, refl, ap, ◌∙◌}
use native.Mathlib.Omega.{arith}
use lib.ListN.{length, set}
use Rattle.tables.proofs.Bits.{length_with_bit, length_without_bit}
use Rattle.wide.proofs.Placing.{place_vertex, place_start_lem, place_due, place_next, place_end}
use Rattle.wide.proofs.place.place.Goals as goal
use Rattle.wide.proofs.place.place.Goals.{In-loop-i}

pub include-requires : goal.include-requires
include-requires c = place_vertex c.requires

pub exclude-requires : goal.exclude-requires
exclude-requires c = place_vertex c.requires

-- the sets are as long as they were
pub invariant_of-sets : goal.invariant_of-sets
invariant_of-sets c =
    let before = c.args.sets.now in
    record {
      sizes = (
        ap length c.include.ensures ∙ length_with_bit before.placed 0 c.args.vertex.0 ∙ before.sizes.0,
        ap length c.exclude.ensures ∙ length_without_bit before.free 0 c.args.vertex.0 ∙ before.sizes.1,
        before.sizes.2,
      );
    }

pub clear-requires : goal.clear-requires
clear-requires c = place_vertex c.requires

pub loop-i-init : goal.loop-i-init
loop-i-init c = record {
  kind = c.clear.ensures.kind;
  placed = refl;
  free = refl;
  placing = place_start_lem c.requires c.exclude.new.set (rw c.clear.ensures.kind at c.clear.new.labels.stored);
}

-- the vertex is one of the graph's, and the word one of its row
inside : (c : In-loop-i)
    → let a = c.args in
    (a.vertex.0 < 512) × (c.loop-i.i < 8) × (8 * a.vertex.0 + 8 ≤ length a.graph.now.table.now)
inside c = (place_vertex c.requires, c.loop-i-test.true, c.requires.vertex)

pub spread-requires : goal.spread-requires
spread-requires c =
    let l = c.loop-i.invariant in
    rw (l.kind, l.placed)
    (place_due c.requires c.include.ensures c.exclude.ensures c.clear.ensures.label l.placing c.loop-i-test.true refl (rw l.free at c.common-grown.ensures)
    (omega arith))

pub loop-i-preserved : goal.loop-i-preserved
loop-i-preserved c =
    let l = c.loop-i.invariant in
    let same : c.spread.new.labels.kind ≡ c.args.labels.now.kind = c.spread.ensures.kind ∙ l.kind in
    record {
      kind = same;
      placed = l.placed;
      free = l.free;
      placing = place_next c.requires c.include.ensures c.exclude.ensures c.clear.ensures.label l.placing c.loop-i-test.true refl (rw l.free at c.common-grown.ensures)
          (ap (λ (x : ℕ). set c.loop-i.sets.reached c.loop-i.i x) c.union.ensures) c.spread.ensures.raised (rw same at c.spread.new.labels.stored);
    }

pub returns : goal.returns
returns c =
    let l = c.loop-i.invariant in
    record {
      placed = rw (l.placed, l.free) (place_end c.requires c.include.ensures c.exclude.ensures c.clear.ensures.label l.placing c.loop-i-test.false);
      kind = l.kind;
    }
