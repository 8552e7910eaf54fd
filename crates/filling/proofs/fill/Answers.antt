-- `filling::fill` meets its contract: what is filled so far and what the definition gives from there on make the whole.
-- Assumes nothing.
use Prim.Native.Nat.{ℕ, ◌+◌, ◌<◌}
use mathlib.Core.Path.{◌≡◌, refl, ap, ◌∙◌, subst}
use mathlib.Core.List.{◌++◌}
use native.Mathlib.Omega.{arith}
use lib.ListN.{length, drop}
use Rattle.bitset.specs.Below.{count_below}
use Rattle.bitset.specs.Word.{member, inserted, removed}
use Rattle.bitset.proofs.Scan.{removed_size}
use Rattle.searches.specs.Kind.{search_of}
use Rattle.labels.specs.Words.{spread_to, smallest_to, largest_to}
use Rattle.steps.specs.Steps.{grown_by, Staged}
use Rattle.offers.specs.Open.{chosen_in}
use Rattle.filling.specs.Fill.{fill_in, Along}
use Rattle.steps.proofs.Replaying.{grown_free}
use Rattle.filling.proofs.Growing.{along_room, along_chosen, along_next, along_same, along_consistent, along_named, names_below, names_ranked}
use Rattle.filling.proofs.Tail.{filling_start, filling_next, filling_end}
use Rattle.filling.proofs.fill.Goals as goal
use Rattle.filling.proofs.fill.Given.{Over}
use Rattle.filling.proofs.fill.Goals.{After-choose-v}

pub rank-requires : goal.rank-requires
rank-requires g c =
    let t = c.args.tie_break.now in
    (omega (arith, c.requires.small, c.requires.names.full), names_below (g.G.Graph.rows c.args.graph) c.requires.small t c.requires.names, refl)

pub loop-i-init : goal.loop-i-init
loop-i-init g c =
    let a = c.args in
    record {
      same_kind = refl;
      filling = filling_start (search_of a.labels.now.kind.0) (g.G.Graph.rows a.graph) a.tie_break.now a.k c.size-count.result a.labels.now.words a.stage.free a.tail.now;
      along = subst (λ (p : ℕ). Along (g.G.Graph.rows a.graph) p a.labels.now.words a.labels.now.smallest a.labels.now.largest a.stage.set a.stage.free) (let e : a.k ≡ a.k + 0 = omega arith in e) c.requires.along;
      staged = subst (Staged (search_of a.labels.now.kind.0) a.labels.now.words a.labels.now.weights a.stage) (let e : a.k ≡ a.k + 0 = omega arith in e) c.requires.staged;
      left = omega (arith, c.size-count.ensures);
    }

pub choose-v-requires : goal.choose-v-requires
choose-v-requires g c =
    let rows = (g.G.Graph.rows c.args.graph) in
    let t = c.args.tie_break.now in
    let staged = c.loop-i.invariant.staged in
    rw c.loop-i.invariant.same_kind (
      staged.offers,
      staged.covers,
      omega (arith, c.requires.small, c.requires.names.full),
      names_ranked rows c.requires.small t c.requires.names c.rank.ensures,
      along_named rows c.requires.small t c.requires.names c.loop-i.invariant.along,
    )

pub bounds-tail-i : goal.bounds-tail-i
bounds-tail-i g c =
    omega (arith, c.loop-i.invariant.filling.long, c.requires.room, c.loop-i-test.true)

-- the vertex is the one that the labels choose
chosen : (g : Over) (c : After-choose-v g)
    → let a = c.args in
    c.choose-v.result.0 ≡ chosen_in (search_of a.labels.now.kind.0) c.loop-i.labels.words c.loop-i.moment.free a.tie_break.now
chosen g c = rw c.loop-i.invariant.same_kind at c.choose-v.ensures

-- there is a vertex to place
room : (g : Over) (c : After-choose-v g)
    → let a = c.args in
    (0 < count_below 64 (member c.loop-i.moment.free)) × (a.k + c.loop-i.i < length (g.G.Graph.rows a.graph))
room g c =
    let a = c.args in
    let some : 0 < count_below 64 (member c.loop-i.moment.free) = omega (arith, c.loop-i-test.true, c.loop-i.invariant.left) in
    (some, along_room (search_of a.labels.now.kind.0) (g.G.Graph.rows a.graph) c.requires.small a.tie_break.now c.requires.names c.loop-i.invariant.along some (chosen g c))

pub overflow_add-p : goal.overflow_add-p
overflow_add-p g c = omega (arith, (room g c).1, c.requires.small)

-- what is kept once the chosen vertex is placed
next : (g : Over) (c : After-choose-v g)
    → let a = c.args in
    let m = c.loop-i.moment in
    let v = c.choose-v.result.0 in
    let p = a.k + c.loop-i.i in
    let grown = grown_by (g.G.Graph.rows a.graph) m.free v in
    Along (g.G.Graph.rows a.graph) (p + 1) (spread_to grown p c.loop-i.labels.words) (smallest_to grown p c.loop-i.labels.smallest) (largest_to grown p c.loop-i.labels.largest) (inserted m.set v) (removed m.free v)
next g c =
    let a = c.args in
    along_next (search_of a.labels.now.kind.0) (g.G.Graph.rows a.graph) c.requires.small a.tie_break.now c.requires.names c.loop-i.invariant.along (room g c).0 (chosen g c)

pub place-moment-requires : goal.place-moment-requires
place-moment-requires g c =
    let a = c.args in
    let m = c.loop-i.moment in
    let v = c.choose-v.result.0 in
    rw c.loop-i.invariant.same_kind (record {
      bit = omega (arith, c.requires.small, (room g (goal.at.place-moment-requires g c).After-choose-v).1);
      staged = c.loop-i.invariant.staged;
      consistent =
          along_consistent (g.G.Graph.rows a.graph) c.requires.small c.requires.transpose (next g (goal.at.place-moment-requires g c).After-choose-v) (grown_by (g.G.Graph.rows a.graph) m.free v) (grown_free (g.G.Graph.rows a.graph) m.free v);
    })

pub overflow_step-i : goal.overflow_step-i
overflow_step-i g c =
    omega (arith, (room g (goal.at.overflow_step-i g c).After-choose-v).1, c.requires.small)

pub loop-i-preserved : goal.loop-i-preserved
loop-i-preserved g c =
    let a = c.args in
    let k = search_of a.labels.now.kind.0 in
    let rows = (g.G.Graph.rows a.graph) in
    let v = c.choose-v.result.0 in
    let p = a.k + c.loop-i.i in
    let e = c.place-moment.ensures in
    let stage = c.place-moment.result in
    let labels = c.place-moment.new.labels.words in
    let smallest = c.place-moment.new.labels.smallest in
    let largest = c.place-moment.new.labels.largest in
    let is = chosen g (goal.at.loop-i-preserved g c).After-choose-v in
    let one_more : p + 1 ≡ a.k + (c.loop-i.i + 1) = omega arith in
    let taken = along_chosen k rows c.requires.small a.tie_break.now c.requires.names c.loop-i.invariant.along (room g (goal.at.loop-i-preserved g c).After-choose-v).0 is in
    let less = removed_size c.loop-i.moment.free v (omega (arith, taken.0, c.requires.small)) taken.1 in
    let size : count_below 64 (member stage.free) ≡ count_below 64 (member (removed c.loop-i.moment.free v)) = ap (λ (x : ℕ). count_below 64 (member x)) e.free in
    record {
      same_kind = e.kind ∙ c.loop-i.invariant.same_kind;
      filling = filling_next k rows a.tie_break.now a.k c.size-count.result a.labels.now.words a.stage.free a.tail.now v labels stage.free c.loop-i.invariant.filling
          c.loop-i-test.true (omega (arith, c.requires.room, c.size-count.ensures)) is e.words e.free;
      along = along_same rows (next g (goal.at.loop-i-preserved g c).After-choose-v) one_more e.words e.smallest e.largest e.set e.free;
      staged = subst (Staged k labels c.place-moment.new.labels.weights stage) one_more (rw c.loop-i.invariant.same_kind at e.staged);
      left = omega (arith, size, less, c.loop-i.invariant.left);
    }

pub returns : goal.returns
returns g c =
    let a = c.args in
    let m = c.size-count.ensures in
    filling_end (search_of a.labels.now.kind.0) (g.G.Graph.rows a.graph) a.tie_break.now a.k c.size-count.result a.labels.now.words a.stage.free a.tail.now
    c.loop-i.invariant.filling (omega arith)
    ∙ ap (λ (x : ℕ). fill_in (search_of a.labels.now.kind.0) (g.G.Graph.rows a.graph) a.tie_break.now x a.k a.labels.now.words a.stage.free ++ drop x a.tail.now) m
