-- `wide::fill::fill` meets its contract. The loop's invariant: behind every walk that has left what is kept at the start, i vertices are chosen.
-- Assumes nothing.
use Prim.Native.Nat.{◌+◌, ◌<◌}
use mathlib.Core.Path.{◌≡◌, refl, ◌∙◌}
use native.Mathlib.Omega.{arith}
use Rattle.searches.proofs.Ordering.{ordering_fits}
use Rattle.wide.proofs.Filling.{filling_start, filling_below, filling_inside, filling_choosable, filling_placeable, filling_next, filling_end}
use Rattle.wide.proofs.fill.fill.Goals as goal
use Rattle.wide.proofs.fill.fill.Goals.{After-choose-v}

pub rank-requires : goal.rank-requires
rank-requires c =
    let b = c.requires.1 in
    record {
      tie_break_len_bound = omega (arith, b.graph.small, b.tie_break.full);
      by_index = λ q h. omega (arith, b.graph.small, b.tie_break.ordering.vertices q (omega (arith, h, b.tie_break.full)));
      by_index_2 = λ p q g h. b.tie_break.ordering.distinct p q g (omega (arith, h, b.tie_break.full));
    }

pub overflow_sub-count : goal.overflow_sub-count
overflow_sub-count c =
    let b = c.requires.1 in
    omega (arith, ordering_fits _ b.ordering)

pub loop-i-init : goal.loop-i-init
loop-i-init c = record { kind = refl; filling = λ w b. filling_start _ _ _ _ _ _ _ b }

pub choose-v-requires : goal.choose-v-requires
choose-v-requires c =
    rw c.loop-i.invariant.kind
    (filling_choosable _ _ _ _ _ _ _ c.requires.1 (c.loop-i.invariant.filling c.requires.0 c.requires.1) c.loop-i-test.true c.rank.ensures)

-- the next position
below : (c : After-choose-v) → c.args.k + c.loop-i.i < 512
below c =
    omega (arith, filling_below _ _ _ _ _ _ _ c.requires.1 (c.loop-i.invariant.filling c.requires.0 c.requires.1) c.loop-i-test.true, c.requires.1.graph.small)

pub bounds-tail-i : goal.bounds-tail-i
bounds-tail-i c =
    filling_inside _ _ _ _ _ _ _ c.requires.1 (c.loop-i.invariant.filling c.requires.0 c.requires.1) c.loop-i-test.true

pub place-requires : goal.place-requires
place-requires c =
    rw c.loop-i.invariant.kind
    (filling_placeable _ _ _ _ _ _ _ c.requires.1 (c.loop-i.invariant.filling c.requires.0 c.requires.1) c.loop-i-test.true (rw c.loop-i.invariant.kind at c.choose-v.ensures))

pub loop-i-preserved : goal.loop-i-preserved
loop-i-preserved c =
    let same : c.place.new.labels.kind ≡ c.args.labels.now.kind = c.place.ensures.kind ∙ c.loop-i.invariant.kind in
    record {
      kind = same;
      filling = λ w b. filling_next _ _ _ _ _ _ _ b (c.loop-i.invariant.filling w b) c.loop-i-test.true (rw c.loop-i.invariant.kind at c.choose-v.ensures) c.place.ensures.placed (rw same at c.place.new.labels.stored);
    }

pub shape_of-tail : goal.shape_of-tail
shape_of-tail c =
    (c.loop-i.invariant.filling c.requires.0 c.requires.1).long

pub returns : goal.returns
returns c w b = filling_end _ _ _ _ _ _ _ b (c.loop-i.invariant.filling w b) c.loop-i-test.false
