-- `engine::extend` meets its contract: a start that does not pass is refused, any other is filled up from its end on.
-- Assumes nothing.
use mathlib.Core.Path.{◌≡◌, sym, ap, ◌∙◌, subst}
use mathlib.Core.Bool.{Bool, true, cond}
use mathlib.Core.List.{◌++◌}
use mathlib.Core.Option.{Option, none, some}
use Prim.Native.Nat.{ℕ, ◌-◌, ◌≤◌}
use native.Mathlib.Omega.{arith}
use lib.ListN.{length, drop, length-take, length-drop}
use Rattle.bitset.specs.Below.{count_below, first_below}
use Rattle.searches.specs.Kind.{search_of}
use Rattle.searches.specs.Ordering.{arcs}
use Rattle.searches.specs.Without.{judge_without, carry_on_without}
use Rattle.searches.specs.Answer.{unbarred, is_pass, refusal_of, number}
use Rattle.bitset.proofs.Count.{count_le}
use Rattle.steps.specs.Steps.{whole, stops_at, Staged}
use Rattle.engine.proofs.Calls.{replayable, stopped_fails, ended_passes, whole_ended, along_ended, left_ended, filled_carried}
use Rattle.engine.proofs.extend.Goals as goal
use Rattle.engine.proofs.extend.Given.{Over}
use Rattle.engine.proofs.extend.Goals.{After-replay-replayed}

pub replay-replayed-requires : goal.replay-replayed-requires
replay-replayed-requires g c =
    let a = c.args in
    rw (c.empty-labels.ensures.words, c.empty-labels.ensures.smallest, c.empty-labels.ensures.largest, c.empty-labels.ensures.weights)
    (replayable (g.G.Graph.rows a.graph) a.barred a.output.now a.k c.requires.start)

-- where the replay stops, in the search of this kind
stops : (g : Over) (c : After-replay-replayed g)
    → let a = c.args in
    c.replay-replayed.result.count ≡ first_below a.k (stops_at (search_of a.kind.0) (g.G.Graph.rows a.graph) (whole (length (g.G.Graph.rows a.graph)) a.barred) a.output.now)
stops g c = rw c.empty-labels.ensures.kind at c.replay-replayed.ensures.count

-- the labels are those of a search of this kind
of_kind : (g : Over) (c : After-replay-replayed g) → c.replay-replayed.new.labels.kind ≡ c.args.kind
of_kind g c = c.replay-replayed.ensures.kind ∙ c.empty-labels.ensures.kind

pub returns-then-replayed-k : goal.returns-then-replayed-k
unfolding refusal_of number
returns-then-replayed-k g c =
    let a = c.args in
    let k = search_of a.kind.0 in
    let r = c.replay-replayed in
    let e = stopped_fails (g.G.Graph.rows a.graph) a.barred a.output.now a.k c.requires.start k r.result.count (stops g (goal.at.returns-then-replayed-k g c).After-replay-replayed) r.new.labels.words
    r.result.stage.free (omega arith) r.ensures.words r.ensures.free
    in record {
      answer = sym (ap (λ (x : Bool). cond {A = Option ℕ} x none (some 12)) e);
      output = sym (ap (λ (x : Bool). cond x (carry_on_without k (arcs (g.G.Graph.rows a.graph)) (length (g.G.Graph.rows a.graph)) (unbarred a.barred) a.tie_break.now a.output.now a.k ++ drop (count_below (length (g.G.Graph.rows a.graph)) (unbarred a.barred)) a.output.now) a.output.now) e);
    }

pub fill-requires : goal.fill-requires
fill-requires g c =
    let a = c.args in
    let s = search_of a.kind.0 in
    let room = c.requires.room in
    let r = c.replay-replayed in
    let w = (goal.at.fill-requires g c).After-replay-replayed in
    rw (of_kind g w)
    record {
      small = c.requires.start.small;
      transpose = c.requires.start.transpose;
      names = c.requires.names;
      along =
          along_ended (g.G.Graph.rows a.graph) a.barred a.output.now a.k c.requires.start s r.result.count (stops g w) (omega arith)
          r.ensures.words r.ensures.smallest r.ensures.largest r.ensures.set r.ensures.free;
      room =
          omega (
            arith,
            room,
            length-take (length a.output.now - a.k) (drop a.k a.output.now),
            length-drop a.k a.output.now,
            count_le (length (g.G.Graph.rows a.graph)) (unbarred a.barred),
            left_ended (g.G.Graph.rows a.graph) a.barred a.output.now a.k c.requires.start s r.result.count (stops g w) (omega arith) r.ensures.free,
          );
      staged =
          subst (Staged s r.new.labels.words r.new.labels.weights r.result.stage)
          (whole_ended (g.G.Graph.rows a.graph) a.barred a.output.now a.k c.requires.start s r.result.count (stops g w) (omega arith))
          (rw c.empty-labels.ensures.kind at r.ensures.staged);
    }

pub returns : goal.returns
unfolding refusal_of is_pass
returns g c =
    let a = c.args in
    let k = search_of a.kind.0 in
    let r = c.replay-replayed in
    let w = (goal.at.returns g c).After-replay-replayed in
    let ended : a.k ≤ r.result.count = omega arith in
    let p = ended_passes (g.G.Graph.rows a.graph) a.barred a.output.now a.k c.requires.start k r.result.count (stops g w) ended in
    let e : is_pass (judge_without k (arcs (g.G.Graph.rows a.graph)) (length (g.G.Graph.rows a.graph)) (unbarred a.barred) a.output.now a.k) ≡ true = ap is_pass p in record {
      answer = sym (ap (λ (x : Bool). cond {A = Option ℕ} x none (some 12)) e);
      output = filled_carried k (g.G.Graph.rows a.graph) a.barred a.tie_break.now a.output.now a.k c.requires r.result.count r.result.stage.free r.new.labels.words
          c.fill.new.tail (stops g w) ended r.ensures.words r.ensures.free (rw (of_kind g w) at c.fill.ensures)
          ∙ sym (ap (λ (x : Bool). cond x (carry_on_without k (arcs (g.G.Graph.rows a.graph)) (length (g.G.Graph.rows a.graph)) (unbarred a.barred) a.tie_break.now a.output.now a.k ++ drop (count_below (length (g.G.Graph.rows a.graph)) (unbarred a.barred)) a.output.now) a.output.now) e);
    }
