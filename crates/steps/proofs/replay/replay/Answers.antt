-- `steps::replay::replay` meets its contract.
-- Assumes nothing.
use Prim.Native.Nat.{ℕ}
use mathlib.Core.Path.{◌≡◌, refl, sym, ap, ◌∙◌, subst}
use mathlib.Core.Bool.{Bool, true, false, not}
use lib.Dec.{T}
use lib.ListN.{length}
use native.Mathlib.Omega.{arith}
use Rattle.bitset.specs.Word.{difference, full_below}
use Rattle.bitset.proofs.Tests.{said_true, said_false}
use Rattle.searches.specs.Kind.{search_of}
use Rattle.steps.specs.Steps.{whole, labels_after, smallest_after, largest_after, placed_after, free_after, stops_at, Staged}
use Rattle.steps.proofs.Representation.{whole_inside, whole_word}
use Rattle.steps.proofs.Replaying.{asked, replay_start, replay_placeable, replay_next, replay_stop, replay_end}
use Rattle.steps.proofs.replay.replay.Goals as goal
use Rattle.steps.proofs.replay.replay.Given.{Over}
use Rattle.steps.proofs.replay.replay.Goals.{After-is_open}

pub loop-j-init : goal.loop-j-init
unfolding whole
loop-j-init g c =
    let a = c.args in
    let n = length (g.G.Graph.rows a.graph) in
    record {
      same_kind = refl;
      replaying = replay_start (search_of a.labels.now.kind.0) (g.G.Graph.rows a.graph) (whole n a.barred) a.ordering.now a.k (whole_inside c.requires.small a.barred) c.requires (whole_word n a.barred)
          (c.without-all.ensures ∙ ap (λ (x : ℕ). difference x a.barred) (c.full_below.ensures ∙ ap (λ (x : ℕ). full_below x) c.size.ensures));
    }

pub is_open-requires : goal.is_open-requires
is_open-requires g c =
    let staged = c.loop-j.invariant.replaying.staged in
    rw c.loop-j.invariant.same_kind (staged.offers, staged.covers)

-- whether the vertex is offered
answered : (g : Over) (c : After-is_open g)
    → let a = c.args in
    c.is_open.result ≡ not (stops_at (search_of a.labels.now.kind.0) (g.G.Graph.rows a.graph) (whole (length (g.G.Graph.rows a.graph)) a.barred) a.ordering.now c.loop-j.j)
answered g c =
    let a = c.args in
    asked (search_of a.labels.now.kind.0) (g.G.Graph.rows a.graph) (whole (length (g.G.Graph.rows a.graph)) a.barred) a.ordering.now a.k (whole_inside c.requires.small a.barred) c.requires c.loop-j.invariant.replaying c.loop-j-test.true c.vertex_at-b.ensures (rw c.loop-j.invariant.same_kind at c.is_open.ensures)

pub returns-then-not-is_open : goal.returns-then-not-is_open
returns-then-not-is_open g c =
    let k = search_of c.args.labels.now.kind.0 in
    let w = c.args.ordering.now in
    let r = (g.G.Graph.rows c.args.graph) in
    let all = whole (length r) c.args.barred in
    let i = c.loop-j.invariant.replaying in
    let closed = said_false (not (stops_at k r all w c.loop-j.j)) (answered g (goal.at.returns-then-not-is_open g c).After-is_open) c.if-not-is_open.true in
    record {
      count = replay_stop k r all w c.args.k i c.loop-j-test.true (stops (stops_at k r all w c.loop-j.j) closed);
      set = i.set;
      free = i.unplaced;
      kind = c.loop-j.invariant.same_kind;
      words = i.labelled;
      smallest = i.after_smallest;
      largest = i.after_largest;
      staged = i.staged;
    }
  where
    stops : (b : Bool) → (T (not b) → ⊥) → T b
    stops true out = tt
    stops false out = absurd (out tt)

pub place-stage-requires : goal.place-stage-requires
place-stage-requires g c =
    let a = c.args in
    rw c.loop-j.invariant.same_kind (replay_placeable (search_of a.labels.now.kind.0) (g.G.Graph.rows a.graph) (whole (length (g.G.Graph.rows a.graph)) a.barred) a.ordering.now a.k (whole_inside c.requires.small a.barred) c.requires c.loop-j.invariant.replaying c.loop-j-test.true c.vertex_at-b.ensures)

pub overflow_step-j : goal.overflow_step-j
overflow_step-j g c =
    omega (arith, c.loop-j-test.true, c.ranges.k.fits)

pub loop-j-preserved : goal.loop-j-preserved
loop-j-preserved g c =
    let a = c.args in
    let k = search_of a.labels.now.kind.0 in
    let w = a.ordering.now in
    let r = (g.G.Graph.rows a.graph) in
    let all = whole (length r) a.barred in
    let e = c.place-stage.ensures in
    record {
      same_kind = e.kind ∙ c.loop-j.invariant.same_kind;
      replaying = replay_next k r all w a.k (whole_inside c.requires.small a.barred) c.requires c.loop-j.invariant.replaying c.loop-j-test.true c.vertex_at-b.ensures c.place-stage.new.labels.words c.place-stage.new.labels.smallest
          c.place-stage.new.labels.largest c.place-stage.result
          (goes_on (stops_at k r all w c.loop-j.j) (said_true (not (stops_at k r all w c.loop-j.j)) (answered g (goal.at.loop-j-preserved g c).After-is_open) c.if-not-is_open.false))
          e.words e.smallest e.largest e.set e.free (rw c.loop-j.invariant.same_kind at e.staged);
    }
  where
    goes_on : (b : Bool) → T (not b) → T b → ⊥
    goes_on true t = λ _. t
    goes_on false t = λ x. x

pub returns : goal.returns
returns g c =
    let k = search_of c.args.labels.now.kind.0 in
    let w = c.args.ordering.now in
    let r = (g.G.Graph.rows c.args.graph) in
    let all = whole (length r) c.args.barred in
    let i = c.loop-j.invariant.replaying in
    let e : c.loop-j.j ≡ c.args.k = omega (arith, i.upto) in
    record {
      count = sym e ∙ replay_end k r all w c.args.k i (omega arith);
      set = i.set ∙ ap (λ (m : ℕ). placed_after w m) e;
      free = i.unplaced ∙ ap (λ (m : ℕ). free_after all w m) e;
      kind = c.loop-j.invariant.same_kind;
      words = i.labelled ∙ ap (λ (m : ℕ). labels_after r all w m) e;
      smallest = i.after_smallest ∙ ap (λ (m : ℕ). smallest_after r all w m) e;
      largest = i.after_largest ∙ ap (λ (m : ℕ). largest_after r all w m) e;
      staged = subst (Staged k c.loop-j.labels.words c.loop-j.labels.weights c.loop-j.stage) e i.staged;
    }
