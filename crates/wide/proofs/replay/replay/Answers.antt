-- `wide::replay::replay` meets its contract. The loop's invariant: j vertices are placed, none of which was beaten.
-- Assumes nothing.
use mathlib.Core.Path.{◌≡◌, refl, ◌∙◌}
use native.Mathlib.Omega.{arith}
use Rattle.bitset.proofs.Passed.{first_found}
use Rattle.wide.proofs.Replaying.{replay_start, replay_vertex, replay_told, replay_placeable, replay_next, replay_ends}
use Rattle.wide.proofs.replay.replay.Goals as goal

pub loop-j-init : goal.loop-j-init
loop-j-init c = record { kind = refl; replaying = replay_start _ _ _ _ _ c.requires }

pub is_beaten-requires : goal.is_beaten-requires
is_beaten-requires c = (
  c.loop-j.invariant.replaying.staged.covers,
  c.loop-j.invariant.replaying.staged.bare,
  omega (arith, c.requires.graph.small, replay_vertex _ _ _ _ _ c.requires.graph c.requires.ordering c.loop-j.invariant.replaying c.loop-j-test.true c.vertex_at-b.ensures),
)

pub returns-then-is_beaten : goal.returns-then-is_beaten
returns-then-is_beaten c =
    record {
      count = first_found c.loop-j.invariant.replaying.unbeaten
          (replay_told _ _ _ _ _ c.requires.graph c.requires.ordering c.loop-j.invariant.replaying c.loop-j-test.true c.vertex_at-b.ensures (rw c.loop-j.invariant.kind at c.is_beaten.ensures) c.if-is_beaten.true);
      kind = c.loop-j.invariant.kind;
      staged = c.loop-j.invariant.replaying.staged;
    }

pub place-requires : goal.place-requires
place-requires c =
    rw c.loop-j.invariant.kind
    (replay_placeable _ _ _ _ _ c.requires.graph c.requires.ordering c.loop-j.invariant.replaying c.loop-j-test.true c.vertex_at-b.ensures)

pub loop-j-preserved : goal.loop-j-preserved
loop-j-preserved c =
    let same : c.place.new.labels.kind ≡ c.args.labels.now.kind = c.place.ensures.kind ∙ c.loop-j.invariant.kind in
    record {
      kind = same;
      replaying = replay_next _ _ _ _ _ c.requires.graph c.requires.ordering c.loop-j.invariant.replaying c.loop-j-test.true c.vertex_at-b.ensures
          (replay_told _ _ _ _ _ c.requires.graph c.requires.ordering c.loop-j.invariant.replaying c.loop-j-test.true c.vertex_at-b.ensures (rw c.loop-j.invariant.kind at c.is_beaten.ensures) c.if-is_beaten.false)
          c.place.ensures.placed (rw same at c.place.new.labels.stored);
    }

pub returns : goal.returns
returns c = let whole = replay_ends _ _ _ _ _ c.loop-j.invariant.replaying c.loop-j-test.false in
    record { count = whole.0; kind = c.loop-j.invariant.kind; staged = whole.1 }
