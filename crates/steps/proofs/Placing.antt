-- What a placing leaves of the stage: whoever can be offered next, and who is reached.
--   placed_narrows, placed_covers, placed_reaches, placed_earlier, placed_leads
--   before_length          the labels before it are 64
-- Assumes nothing.
use mathlib.Core.Path.{◌≡◌, sym, ◌∙◌, subst}
use mathlib.Core.Bool.{Bool}
use mathlib.Core.Logic.{◌⊎◌, ⊎_elim}
use mathlib.Core.List.{List}
use Prim.Native.Nat.{ℕ, ◌+◌, ◌<◌}
use native.Mathlib.Omega.{arith}
use lib.Dec.{T}
use lib.ListN.{length, get_or}
use Rattle.bitset.specs.Word.{member, removed, united, common}
use Rattle.bitset.proofs.Tests.{and_out}
use Rattle.bitset.proofs.Word.{member_common}
use Rattle.searches.specs.Kind.{Search, bfs, dfs, search_of}
use Rattle.labels.specs.Words.{label_with, spread_to}
use Rattle.offers.specs.Open.{Narrows, Offers, Leads, by_rule, Covers, Reaches}
use Rattle.labels.proofs.Spreading.{spread_length, spread_outside}
use Rattle.offers.proofs.Reached.{covers_spread}
use Rattle.offers.proofs.Narrowing.{narrows_next, spread_more, spread_gains, spread_only, reaches_spread}
use Rattle.offers.proofs.Rules.{generic_leads, bfs_leads, dfs_leads, rule_leads}
use Rattle.steps.specs.Steps.{grown_by, Placeable}
use Rattle.steps.specs.declared.place.Stage.{Stage}
use Rattle.steps.proofs.Replaying.{grown_free}

module _ {s : Search} {rows columns labels smallest largest weights : List ℕ} {stage : Stage} {v p : ℕ}
    (x : Placeable s rows columns labels smallest largest weights stage v p) {labels' : List ℕ} (at-labels : labels' ≡ spread_to (grown_by rows stage.free v) p labels) where
  before_length : length labels ≡ 64
  before_length = sym (spread_length (label_with p) (grown_by rows stage.free v) labels 64) ∙ x.consistent.long.0

  pub placed_narrows : {free stay grown : ℕ} → free ≡ removed stage.free v → stay ≡ removed stage.offered v → grown ≡ grown_by rows stage.free v
      → Narrows s labels' free stay grown
  unfolding grown_by
  placed_narrows {free} {stay} {grown} at-free at-stay at_grown =
      subst (λ (y : ℕ). Narrows s labels' y stay grown) (sym at-free)
      (subst (λ (y : ℕ). Narrows s labels' (removed stage.free v) y grown) (sym at-stay)
      (subst (λ (y : ℕ). Narrows s labels' (removed stage.free v) (removed stage.offered v) y) (sym at_grown)
      (subst (λ (ls : List ℕ). Narrows s ls (removed stage.free v) (removed stage.offered v) (grown_by rows stage.free v)) (sym at-labels)
      (narrows_next s labels (spread_to (grown_by rows stage.free v) p labels) stage.free stage.offered v (grown_by rows stage.free v) x.staged.offers
      (spread_more labels (grown_by rows stage.free v) p x.bit before_length)
      (λ u _ _ out. spread_outside (label_with p) (grown_by rows stage.free v) labels 64 u out) (grown_free rows stage.free v)))))

  pub placed_covers : {reached : ℕ} → reached ≡ united stage.reached (get_or rows v 0) → Covers reached labels'
  unfolding grown_by
  placed_covers at-reached =
      covers_spread labels stage.reached (get_or rows v 0) (grown_by rows stage.free v) p x.staged.covers
      (λ u t. (and_out (member (get_or rows v 0) u) (member (removed stage.free v) u) (subst (λ (b : Bool). T b) (member_common (get_or rows v 0) (removed stage.free v) u) t)).0) at-labels at-reached

  pub placed_reaches : {reached free : ℕ} → reached ≡ united stage.reached (get_or rows v 0) → free ≡ removed stage.free v → Reaches reached free labels'
  unfolding grown_by
  placed_reaches {reached} {free} at-reached at-free =
      subst (λ (y : ℕ). Reaches y free labels') (sym at-reached)
      (subst (λ (y : ℕ). Reaches (united stage.reached (get_or rows v 0)) y labels') (sym at-free)
      (subst (λ (ls : List ℕ). Reaches (united stage.reached (get_or rows v 0)) (removed stage.free v) ls) (sym at-labels)
      (reaches_spread labels stage.reached stage.free (get_or rows v 0) v p x.bit before_length x.staged.reaches)))

  -- the labels get positions below the next one
  pub placed_earlier : (u q : ℕ) → u < 64 → T (member (get_or labels' u 0) q) → q < p + 1
  placed_earlier u q l t =
      ⊎_elim (λ y. let h = x.staged.earlier u q l y in omega arith) (λ y. let e = y.0 in omega arith)
      (spread_only labels (grown_by rows stage.free v) p x.bit before_length u q l (subst (λ (ls : List ℕ). T (member (get_or ls u 0) q)) at-labels t))

-- who leads by the rule of the search
pub placed_leads : (kind : ℕ) {rows columns labels smallest largest weights : List ℕ} {stage : Stage} {v p : ℕ}
    (x : Placeable (search_of kind) rows columns labels smallest largest weights stage v p) {labels' : List ℕ} → labels' ≡ spread_to (grown_by rows stage.free v) p labels
    → {free reached early grown : ℕ} → free ≡ removed stage.free v → reached ≡ united stage.reached (get_or rows v 0)
    → early ≡ common (removed stage.offered v) stage.reached → grown ≡ grown_by rows stage.free v
    → Leads (search_of kind) labels' free (by_rule kind (common free reached) early grown)
placed_leads kind {rows} {labels = labels} {stage = stage} {v = v} {p = p} x {labels'} at-labels {free} {reached} {early} {grown} at-free at-reached at-early at_grown =
    rule_leads kind labels' free (common free reached) early grown
    (λ _. generic_leads labels' free reached (placed_covers x at-labels at-reached) (placed_reaches x at-labels at-reached at-free))
    (λ is.
    subst (λ (ls : List ℕ). Leads bfs ls free early) (sym at-labels)
    (subst (λ (y : ℕ). Leads bfs after y early) (sym at-free)
    (subst (Leads bfs after (removed stage.free v)) (sym at-early)
    (bfs_leads labels after new p x.bit x.staged.earlier keeps gains only stage.free stage.offered stage.reached v
    (subst (λ (s : Search). Offers s labels stage.free stage.offered) is x.staged.offers) x.staged.covers x.staged.reaches))))
    (λ _.
    subst (λ (ls : List ℕ). Leads dfs ls free grown) (sym at-labels)
    (subst (λ (y : ℕ). Leads dfs after y grown) (sym at-free)
    (subst (Leads dfs after (removed stage.free v)) (sym at_grown)
    (dfs_leads labels after new p x.bit x.staged.earlier keeps gains only (removed stage.free v) (grown_free rows stage.free v)))))
  where
    new : ℕ
    new = grown_by rows stage.free v

    after : List ℕ
    after = spread_to new p labels

    keeps : (u q : ℕ) → u < 64 → T (member (get_or labels u 0) q) → T (member (get_or after u 0) q)
    keeps u q l t = spread_more labels new p x.bit (before_length x at-labels) u q t

    gains : (u : ℕ) → u < 64 → T (member new u) → T (member (get_or after u 0) p)
    gains = spread_gains labels new p x.bit (before_length x at-labels)

    only : (u q : ℕ) → u < 64 → T (member (get_or after u 0) q) → T (member (get_or labels u 0) q) ⊎ ((q ≡ p) × T (member new u))
    only = spread_only labels new p x.bit (before_length x at-labels)
