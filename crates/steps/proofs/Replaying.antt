-- The replay of an ordering on words: its invariant, and how it goes on and ends.
--   Replaying s rows all w k labels smallest largest weights stage j    j vertices are placed, none of which was beaten
--   replay_placeable                              the next vertex can be placed
--   asked                                         what the code asks of it
--   replay_start, replay_next, replay_stop, replay_end
-- Assumes nothing.
use mathlib.Core.Path.{◌≡◌, refl, sym, ap, ap₂, ◌∙◌, subst}
use mathlib.Core.Bool.{Bool, not, ◌&&◌}
use mathlib.Core.Logic.{◌⊎◌, inl, inr}
use mathlib.Core.List.{List}
use Prim.Native.Nat.{ℕ, suc, ◌+◌, ◌≤◌, ◌<◌, ◌^◌}
use native.Mathlib.Omega.{arith}
use native.Mathlib.Numerals.{add-one}
use lib.Dec.{T, not_T}
use lib.ListN.{length, get_or, get_or-replicate}
use Rattle.bitset.specs.Below.{first_below}
use Rattle.bitset.specs.Word.{member, inserted, removed}
use Rattle.bitset.proofs.Tests.{and_out, is_true, below_suc}
use Rattle.bitset.proofs.Below.{first_unique}
use Rattle.bitset.proofs.Word as word
use Rattle.searches.specs.Kind.{Search}
use Rattle.searches.specs.Ordering.{at, placed, IsOrdering}
use Rattle.searches.proofs.Ordering.{ordering_unplaced}
use Rattle.labels.specs.Weights.{Consistent}
use Rattle.labels.specs.Words.{label_with, smallest_with, largest_with, spread_by, spread_to, smallest_to, largest_to}
use Rattle.offers.specs.Open.{beaten_in, open_in}
use Rattle.labels.proofs.Weights.{weighed_none}
use Rattle.offers.proofs.Narrowing.{all_offered}
use Rattle.steps.specs.Steps.{AreVertices, grown_by, kept_after, labels_after, smallest_after, largest_after, free_after, placed_after, stops_at, Staged, Placeable, Replayable}
use Rattle.steps.specs.declared.place.Stage.{Stage}
use Rattle.steps.proofs.Representation.{free_unplaced}
use Rattle.steps.proofs.Tracking.{consistent_after}

-- whose label grows is unplaced once v is placed
pub grown_free : (rows : List ℕ) (free v u : ℕ) → T (member (grown_by rows free v) u) → T (member (removed free v) u)
unfolding grown_by
grown_free rows free v u t = (and_out (member (get_or rows v 0) u) (member (removed free v) u) (subst (λ (b : Bool). T b) (word.member_common (get_or rows v 0) (removed free v) u) t)).1

module _ (s : Search) (rows : List ℕ) (all : ℕ) (w : List ℕ) (k : ℕ) where
  pub record Replaying (labels smallest largest weights : List ℕ) (stage : Stage) (j : ℕ) : Type 0 where
    pub upto : j ≤ k
    pub labelled : labels ≡ labels_after rows all w j
    pub after_smallest : smallest ≡ smallest_after rows all w j
    pub after_largest : largest ≡ largest_after rows all w j
    pub set : stage.set ≡ placed_after w j
    pub unplaced : stage.free ≡ free_after all w j
    pub staged : Staged s labels weights stage j
    pub unbeaten : (i : ℕ) → i < j → T (stops_at s rows all w i) → ⊥

  module _ {columns labels₀ smallest₀ largest₀ weights₀ : List ℕ} (inside : AreVertices (length rows) all) (x : Replayable rows columns all w k labels₀ smallest₀ largest₀ weights₀) where
    ordering : IsOrdering (length rows) w k
    ordering = record { long = x.long; vertices = x.vertices; distinct = x.distinct }

    pub replay_start : all < 2 ^ 64 → {free : ℕ} → free ≡ all → Replaying labels₀ smallest₀ largest₀ weights₀ (record { set = 0; free = free; reached = 0; offered = free }) 0
    unfolding kept_after placed_after free_after
    replay_start fits {free} e = record {
      upto = omega arith;
      labelled = x.empty;
      after_smallest = x.no_smallest;
      after_largest = x.no_largest;
      set = refl;
      unplaced = e;
      staged = record {
        earlier = λ v q l t. absurd (word.empty_back (none v l) q t);
        weighed = weighed_none s x.empty x.no_weight;
        offers = all_offered s labels₀ free (subst (λ (y : ℕ). y < 2 ^ 64) (sym e) fits) (λ v l _. none v l);
        covers = λ v l _. none v l;
        reaches = λ v l f t. absurd (word.empty_back refl v t);
      };
      unbeaten = λ i l. absurd (omega arith);
    }
      where
        none : (v : ℕ) → v < 64 → get_or labels₀ v 0 ≡ 0
        none v l = ap (λ (ls : List ℕ). get_or ls v 0) x.empty ∙ get_or-replicate 64 v 0 0 l

    module _ {labels smallest largest weights : List ℕ} {stage : Stage} {j : ℕ} (r : Replaying labels smallest largest weights stage j) (l : j < k) {b : ℕ} (h : b ≡ at w j) where
      -- the vertex whose turn it is is unplaced
      turn_free : T (member stage.free b)
      turn_free =
          subst (λ (f : ℕ). T (member f b)) (sym r.unplaced)
          (subst (λ (v : ℕ). T (member (free_after all w j) v)) (sym h)
          (subst (λ (t : Bool). T t) (sym (free_unplaced all w j (at w j) (x.stays j l))) (not_T (placed w j (at w j)) (ordering_unplaced (length rows) ordering j l))))

      -- what the code asks of it
      pub asked : {a : Bool} → a ≡ open_in s labels stage.free b → a ≡ not (stops_at s rows all w j)
      unfolding stops_at open_in
      asked e =
          e ∙ ap (λ (t : Bool). t && not (beaten_in s labels stage.free (get_or labels b 0))) (is_true (member stage.free b) turn_free)
          ∙ ap (λ (v : ℕ). not (beaten_in s labels stage.free (get_or labels v 0))) h
          ∙ ap₂ (λ (ls : List ℕ) (f : ℕ). not (beaten_in s ls f (get_or ls (at w j) 0))) r.labelled r.unplaced

      pub replay_placeable : Placeable s rows columns labels smallest largest weights stage b j
      unfolding kept_after placed_after free_after
      replay_placeable = record { bit = omega (arith, x.fits, x.small); staged = r.staged; consistent = agrees }
        where
          -- what is kept beside the labels once v is placed, of any words
          Next : ℕ → ℕ → ℕ → List ℕ → List ℕ → List ℕ → Type 0
          Next set free v ls ss gs =
              Consistent columns (inserted set v) (grown_by rows free v) (spread_to (grown_by rows free v) j ls) (smallest_to (grown_by rows free v) j ss) (largest_to (grown_by rows free v) j gs)

          agrees : Next stage.set stage.free b labels smallest largest
          agrees =
              subst (λ (v : ℕ). Next stage.set stage.free v labels smallest largest) (sym h)
              (subst (λ (y : ℕ). Next y stage.free (at w j) labels smallest largest) (sym r.set)
              (subst (λ (y : ℕ). Next (placed_after w j) y (at w j) labels smallest largest) (sym r.unplaced)
              (subst (λ (ls : List ℕ). Next (placed_after w j) (free_after all w j) (at w j) ls smallest largest) (sym r.labelled)
              (subst (λ (ss : List ℕ). Next (placed_after w j) (free_after all w j) (at w j) (labels_after rows all w j) ss largest) (sym r.after_smallest)
              (subst (λ (gs : List ℕ). Next (placed_after w j) (free_after all w j) (at w j) (labels_after rows all w j) (smallest_after rows all w j) gs) (sym r.after_largest)
              (consistent_after rows all w k x.small inside ordering x.transpose (suc j) l (grown_by rows (free_after all w j) (at w j)) (grown_free rows (free_after all w j) (at w j))))))))

      pub replay_next : (labels' smallest' largest' : List ℕ) {weights' : List ℕ} (stage' : Stage) → (T (stops_at s rows all w j) → ⊥)
          → labels' ≡ spread_to (grown_by rows stage.free b) j labels → smallest' ≡ smallest_to (grown_by rows stage.free b) j smallest
          → largest' ≡ largest_to (grown_by rows stage.free b) j largest → stage'.set ≡ inserted stage.set b → stage'.free ≡ removed stage.free b
          → Staged s labels' weights' stage' (j + 1) → Replaying labels' smallest' largest' weights' stage' (j + 1)
      unfolding kept_after placed_after free_after
      replay_next labels' smallest' largest' {weights'} stage' go_on e e-smallest e-largest i f staged =
          subst (λ (m : ℕ). Replaying labels' smallest' largest' weights' stage' m) (sym (add-one j)) (record {
            upto = l;
            labelled = grown (label_with j) e r.labelled;
            after_smallest = grown (smallest_with j) e-smallest r.after_smallest;
            after_largest = grown (largest_with j) e-largest r.after_largest;
            set = i ∙ ap₂ (λ (y v : ℕ). inserted y v) r.set h;
            unplaced = f ∙ ap₂ (λ (y v : ℕ). removed y v) r.unplaced h;
            staged = subst (Staged s labels' weights' stage') (add-one j) staged;
            unbeaten = λ i h. before i (below_suc j i h);
          })
        where
          -- what is kept, with b placed
          grown : (put : ℕ → ℕ) {kept kept' after : List ℕ} → kept' ≡ spread_by put (grown_by rows stage.free b) 64 kept → kept ≡ after
              → kept' ≡ spread_by put (grown_by rows (free_after all w j) (at w j)) 64 after
          grown put step now =
              step ∙ ap₂ (λ (row : ℕ) (ls : List ℕ). spread_by put row 64 ls) (ap₂ (λ (y v : ℕ). grown_by rows y v) r.unplaced h) now

          before : (i : ℕ) → (i < j) ⊎ (i ≡ j) → T (stops_at s rows all w i) → ⊥
          before i (inl h) t = r.unbeaten i h t
          before i (inr same) t = go_on (subst (λ (y : ℕ). T (stops_at s rows all w y)) same t)

  pub replay_stop : {labels smallest largest weights : List ℕ} {stage : Stage} {j : ℕ} → Replaying labels smallest largest weights stage j → j < k → T (stops_at s rows all w j)
      → j ≡ first_below k (stops_at s rows all w)
  replay_stop r l t = first_unique (record { within = r.upto; holds = λ _. t; least = r.unbeaten })

  pub replay_end : {labels smallest largest weights : List ℕ} {stage : Stage} {j : ℕ} → Replaying labels smallest largest weights stage j → k ≤ j → j ≡ first_below k (stops_at s rows all w)
  replay_end r l = first_unique (record { within = r.upto; holds = λ h. absurd (omega arith); least = r.unbeaten })
