-- `steps::place::place` meets its contract.
-- Assumes nothing.
use Prim.Native.Nat.{ℕ}
use mathlib.Core.Path.{◌≡◌, sym, ap, ap₂, ◌∙◌, subst}
use lib.ListN.{get_or}
use Rattle.bitset.specs.Word as word
use Rattle.bitset.specs.Word.{common}
use Rattle.labels.specs.Weights.{Consistent}
use Rattle.labels.specs.Words.{spread_to, smallest_to, largest_to}
use Rattle.steps.specs.Steps.{grown_by}
use Rattle.steps.proofs.Placing.{placed_narrows, placed_covers, placed_reaches, placed_earlier, placed_leads}
use Rattle.steps.proofs.place.place.Goals as goal
use Rattle.steps.proofs.place.place.Given.{Over}
use Rattle.steps.proofs.place.place.Goals.{After-common-early, After-common-grown, After-spread, After-union-reached}

-- the unplaced ones that the vertex leads to
grown : (g : Over) (c : After-common-grown g)
    → let a = c.args in
    c.common-grown.result ≡ grown_by (g.G.Graph.rows a.graph) a.stage.free a.vertex.0
unfolding grown_by
grown g c =
    c.common-grown.ensures ∙ ap₂ (λ (x y : ℕ). common x y) c.row-row.ensures c.remove-free.ensures

pub spread-requires : goal.spread-requires
spread-requires g c =
    let a = c.args in
    let p = a.position.0 in (
      c.requires.bit,
      subst (λ (x : ℕ). Consistent (g.G.Graph.columns a.graph) x c.common-grown.result (spread_to c.common-grown.result p a.labels.now.words) (smallest_to c.common-grown.result p a.labels.now.smallest) (largest_to c.common-grown.result p a.labels.now.largest)) (sym c.insert-set.ensures)
          (subst (λ (x : ℕ). Consistent (g.G.Graph.columns a.graph) (word.inserted a.stage.set a.vertex.0) x (spread_to x p a.labels.now.words) (smallest_to x p a.labels.now.smallest) (largest_to x p a.labels.now.largest)) (sym (grown g (goal.at.spread-requires g c).After-common-grown)) c.requires.consistent),
    )

-- the labels with the position put in
spread_is : (g : Over) (c : After-spread g)
    → let a = c.args in
    (c.spread.new.self.words ≡ spread_to (grown_by (g.G.Graph.rows a.graph) a.stage.free a.vertex.0) a.position.0 a.labels.now.words)
    × (c.spread.new.self.smallest ≡ smallest_to (grown_by (g.G.Graph.rows a.graph) a.stage.free a.vertex.0) a.position.0 a.labels.now.smallest)
    × (c.spread.new.self.largest ≡ largest_to (grown_by (g.G.Graph.rows a.graph) a.stage.free a.vertex.0) a.position.0 a.labels.now.largest)
spread_is g c =
    let a = c.args in
    let p = a.position.0 in (
      c.spread.ensures.words ∙ ap (λ (x : ℕ). spread_to x p a.labels.now.words) (grown g (goal.at.After-spread g c).After-common-grown),
      c.spread.ensures.smallest ∙ ap (λ (x : ℕ). smallest_to x p a.labels.now.smallest) (grown g (goal.at.After-spread g c).After-common-grown),
      c.spread.ensures.largest ∙ ap (λ (x : ℕ). largest_to x p a.labels.now.largest) (grown g (goal.at.After-spread g c).After-common-grown),
    )

-- whom the vertex leads to is reached
reached_is : (g : Over) (c : After-union-reached g)
    → let a = c.args in
    c.union-reached.result ≡ word.united a.stage.reached (get_or (g.G.Graph.rows a.graph) a.vertex.0 0)
reached_is g c =
    let a = c.args in
    c.union-reached.ensures ∙ ap (λ (x : ℕ). word.united a.stage.reached x) c.row-row.ensures

-- who was offered and reached before
early_is : (g : Over) (c : After-common-early g)
    → let a = c.args in
    c.common-early.result ≡ common (word.removed a.stage.offered a.vertex.0) a.stage.reached
early_is g c =
    let a = c.args in
    c.common-early.ensures ∙ ap (λ (x : ℕ). common x a.stage.reached) c.remove-stay.ensures

pub offered_after-offered-requires : goal.offered_after-offered-requires
offered_after-offered-requires g c =
    let at_labels = (spread_is g c).0 in
    rw c.spread.ensures.kind (
      placed_narrows c.requires at_labels c.remove-free.ensures c.remove-stay.ensures (grown g (goal.at.offered_after-offered-requires g c).After-common-grown),
      placed_covers c.requires at_labels (reached_is g (goal.at.offered_after-offered-requires g c).After-union-reached),
      placed_reaches c.requires at_labels (reached_is g (goal.at.offered_after-offered-requires g c).After-union-reached) c.remove-free.ensures,
      placed_leads c.args.labels.now.kind.0 c.requires at_labels c.remove-free.ensures (reached_is g (goal.at.offered_after-offered-requires g c).After-union-reached) (early_is g (goal.at.offered_after-offered-requires g c).After-common-early) (grown g (goal.at.offered_after-offered-requires g c).After-common-grown),
    )

pub returns : goal.returns
returns g c =
    let is = spread_is g (goal.at.returns g c).After-spread in
    record {
      set = c.insert-set.ensures;
      free = c.remove-free.ensures;
      kind = c.spread.ensures.kind;
      words = is.0;
      smallest = is.1;
      largest = is.2;
      staged =
          record {
            earlier = placed_earlier c.requires is.0;
            weighed = rw c.spread.ensures.kind at c.spread.new.self.weighed;
            offers = rw c.spread.ensures.kind at c.offered_after-offered.ensures;
            covers = placed_covers c.requires is.0 (reached_is g (goal.at.returns g c).After-union-reached);
            reaches = placed_reaches c.requires is.0 (reached_is g (goal.at.returns g c).After-union-reached) c.remove-free.ensures;
          };
    }
