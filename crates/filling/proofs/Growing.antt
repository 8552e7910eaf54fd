-- The words after an ordering that grows by one vertex, and the vertex that they choose.
--   kept_agree, labels_agree, free_agree, set_agree   the words after the first j vertices depend on no others
--   kept_grown, labels_grown, free_grown, set_grown   the words after one vertex more
--   choice_same                    the choice is the vertex that the words choose
--   along_chosen                   the chosen vertex is unplaced;   along_room   there is a position for it
--   along_start, along_next, along_same   words along an ordering, from its start on;   along_consistent   they agree with one another for unplaced vertices
--   along_named                    every unplaced vertex stands in a tie-break;   names_below, names_ranked   its vertices, and its ranks
-- Assumes nothing.
use mathlib.Core.Path.{◌≡◌, refl, sym, ap, ap₂, ◌∙◌, subst}
use mathlib.Core.Bool.{Bool}
use mathlib.Core.List.{List, [], ◌∷◌, ◌++◌}
use Prim.Native.Nat.{ℕ, zero, suc, ◌+◌, ◌≤◌, ◌<◌}
use native.Mathlib.Omega.{arith}
use native.Mathlib.Numerals.{add-one}
use lib.Dec.{T, not_T}
use lib.ListN.{length, take}
use lib.Seq.{length-take-le}
use Rattle.bitset.specs.Below.{count_below}
use Rattle.bitset.specs.Word.{member, inserted, removed}
use Rattle.bitset.proofs.Below.{last_same}
use Rattle.bitset.proofs.Count.{count_fewer, count_le}
use Rattle.searches.specs.Kind.{Search}
use Rattle.searches.specs.Ordering.{arcs, at, placed, IsOrdering, IsFullOrdering}
use Rattle.searches.specs.Without.{IsKeptOrdering}
use Rattle.searches.proofs.Ordering.{Agree, agree_sym, agree_fewer, take_agree, placed_out, ordering_agree, all_placed, length_grown, grown_agree, grown_last}
use Rattle.searches.proofs.Kept.{offered_kept, choice_kept}
use Rattle.searches.proofs.CarryOnKept.{chosen_kept, chosen_vertex, stays_more}
use Rattle.labels.specs.Weights.{Consistent}
use Rattle.labels.specs.Words.{label_with, smallest_with, largest_with, spread_by, spread_to, smallest_to, largest_to}
use Rattle.offers.specs.Open.{open_in, chosen_in}
use Rattle.choice.specs.Ranks.{ranks_below, Ranked, Named}
use Rattle.choice.proofs.Ranking.{ranked}
use Rattle.lookup.specs.Columns.{Transposed}
use Rattle.steps.specs.Steps.{AreVertices, grown_by, kept_after, labels_after, smallest_after, largest_after, free_after, placed_after}
use Rattle.filling.specs.Fill.{Along}
use Rattle.steps.proofs.Representation.{free_unplaced, free_vertex, free_size, open_offered}
use Rattle.steps.proofs.Tracking.{consistent_after}

-- ---- only the first j vertices matter

pub free_agree : (all : ℕ) (w w' : List ℕ) (j : ℕ) → Agree j w w' → free_after all w j ≡ free_after all w' j
unfolding free_after
free_agree all w w' zero a = refl
free_agree all w w' (suc j) a =
    ap₂ (λ (free v : ℕ). removed free v) (free_agree all w w' j (agree_fewer j (suc j) w w' (omega arith) a)) (a j (omega arith))

pub kept_agree : (put : ℕ → ℕ → ℕ) (start : ℕ) (rows : List ℕ) (all : ℕ) (w w' : List ℕ) (j : ℕ) → Agree j w w' → kept_after put start rows all w j ≡ kept_after put start rows all w' j
unfolding kept_after
kept_agree put start rows all w w' zero a = refl
kept_agree put start rows all w w' (suc j) a =
    let fewer = agree_fewer j (suc j) w w' (omega arith) a in
    ap₂ (λ (row : ℕ) (kept : List ℕ). spread_by (put j) row 64 kept)
    (ap₂ (λ (free v : ℕ). grown_by rows free v) (free_agree all w w' j fewer) (a j (omega arith))) (kept_agree put start rows all w w' j fewer)

pub labels_agree : (rows : List ℕ) (all : ℕ) (w w' : List ℕ) (j : ℕ) → Agree j w w' → labels_after rows all w j ≡ labels_after rows all w' j
labels_agree rows all w w' j a = kept_agree label_with 0 rows all w w' j a

pub set_agree : (w w' : List ℕ) (j : ℕ) → Agree j w w' → placed_after w j ≡ placed_after w' j
unfolding placed_after
set_agree w w' zero a = refl
set_agree w w' (suc j) a =
    ap₂ (λ (set v : ℕ). inserted set v) (set_agree w w' j (agree_fewer j (suc j) w w' (omega arith) a)) (a j (omega arith))

module _ (w : List ℕ) (v : ℕ) where
  pub kept_grown : (put : ℕ → ℕ → ℕ) (start : ℕ) (rows : List ℕ) (all : ℕ)
      → kept_after put start rows all (w ++ v ∷ []) (suc (length w))
      ≡ spread_by (put (length w)) (grown_by rows (free_after all w (length w)) v) 64 (kept_after put start rows all w (length w))
  unfolding kept_after
  kept_grown put start rows all =
      ap₂ (λ (row : ℕ) (kept : List ℕ). spread_by (put (length w)) row 64 kept)
      (ap₂ (λ (free x : ℕ). grown_by rows free x) (free_agree all (w ++ v ∷ []) w (length w) (grown_agree w v)) (grown_last w v))
      (kept_agree put start rows all (w ++ v ∷ []) w (length w) (grown_agree w v))

  pub labels_grown : (rows : List ℕ) (all : ℕ)
      → labels_after rows all (w ++ v ∷ []) (suc (length w)) ≡ spread_to (grown_by rows (free_after all w (length w)) v) (length w) (labels_after rows all w (length w))
  labels_grown rows all = kept_grown label_with 0 rows all

  pub free_grown : (all : ℕ) → free_after all (w ++ v ∷ []) (suc (length w)) ≡ removed (free_after all w (length w)) v
  unfolding free_after
  free_grown all = ap₂ (λ (free x : ℕ). removed free x) (free_agree all (w ++ v ∷ []) w (length w) (grown_agree w v)) (grown_last w v)

  pub set_grown : placed_after (w ++ v ∷ []) (suc (length w)) ≡ inserted (placed_after w (length w)) v
  unfolding placed_after
  set_grown = ap₂ (λ (set x : ℕ). inserted set x) (set_agree (w ++ v ∷ []) w (length w) (grown_agree w v)) (grown_last w v)

module _ (s : Search) (rows : List ℕ) (small : length rows ≤ 64) where
  abbrev n : ℕ
  n = length rows

  abbrev arc : ℕ → ℕ → Bool
  arc = arcs rows

  pub choice_same : (all : ℕ) → AreVertices n all → (t w : List ℕ) (k : ℕ) → IsOrdering n w k
      → choice_kept s arc n (member all) t w k ≡ chosen_in s (labels_after rows all w k) (free_after all w k) t
  unfolding choice_kept chosen_in
  choice_same all inside t w k o =
      ap (λ (q : ℕ). at t q) (last_same (length t)
      (λ q. offered_kept s arc n (member all) w k (at t q)) (λ q. open_in s (labels_after rows all w k) (free_after all w k) (at t q))
      (λ q _. sym (open_offered s rows all w k small inside o k (omega arith) (at t q))))

  -- the chosen vertex, where one is unplaced
  module _ (t : List ℕ) (names : IsFullOrdering n t) {p v set free : ℕ} {labels smallest largest : List ℕ}
      (a : Along rows p labels smallest largest set free) (some : 0 < count_below 64 (member free)) (at_v : v ≡ chosen_in s labels free t) where
    abbrev w : List ℕ
    w = a.walk

    abbrev all : ℕ
    all = a.all

    grown : ℕ
    grown = grown_by rows free v

    stands : IsKeptOrdering n (member all) w (length w)
    stands = record {
      ordering = subst (λ (m : ℕ). IsOrdering n w m) (sym a.long) a.ordering;
      stays = λ q l. a.stays q (omega (arith, l, a.long));
    }

    -- not all of them are placed
    fewer : length w < count_below n (member all)
    fewer =
        let left : count_below 64 (member free) ≡ count_below 64 (member (free_after all w p)) = ap (λ (x : ℕ). count_below 64 (member x)) a.unplaced in
        let size = free_size all w p small a.ordering a.stays p (omega arith) in
        let whole = count_fewer n 64 small (member all) (member all) (λ _ _. refl) a.inside in
        omega (arith, some, left, size, whole, a.long)

    after : {A : Type 0} {x : A} (f : ℕ → A) → x ≡ f p → x ≡ f (length w)
    after f e = e ∙ ap f (sym a.long)

    chosen : v ≡ choice_kept s arc n (member all) t w (length w)
    chosen =
        at_v ∙ ap₂ (λ (ls : List ℕ) (f : ℕ). chosen_in s ls f t) (after (λ m. labels_after rows all w m) a.labelled) (after (λ m. free_after all w m) a.unplaced)
        ∙ sym (choice_same all a.inside t w (length w) stands.ordering)

    pub along_room : p < n
    along_room = omega (arith, fewer, count_le n (member all), a.long)

    -- it is unplaced
    pub along_chosen : (v < n) × T (member free v)
    along_chosen =
        let c : ℕ = choice_kept s arc n (member all) t w (length w) in
        let vertex = chosen_vertex s arc n (member all) t names w stands fewer in
        let here : T (member (free_after all w (length w)) c) =
        subst (λ (b : Bool). T b) (sym (free_unplaced all w (length w) c (chosen_kept s arc n (member all) t names w stands fewer))) (not_T (placed w (length w) c) vertex.1)
        in
        subst (λ (u : ℕ). (u < n) × T (member free u)) (sym chosen) (vertex.0, subst (λ (f : ℕ). T (member f c)) (sym (after (λ m. free_after all w m) a.unplaced)) here)

    -- what is kept, with v placed
    with_v : (put : ℕ → ℕ → ℕ) (start : ℕ) {kept : List ℕ} → kept ≡ kept_after put start rows all w p
        → spread_by (put p) grown 64 kept ≡ kept_after put start rows all (w ++ v ∷ []) (suc (length w))
    unfolding grown
    with_v put start k =
        ap₂ (λ (m : ℕ) (ls : List ℕ). spread_by (put m) grown 64 ls) (sym a.long) (after (λ m. kept_after put start rows all w m) k)
        ∙ ap (λ (f : ℕ). spread_by (put (length w)) (grown_by rows f v) 64 (kept_after put start rows all w (length w))) (after (λ m. free_after all w m) a.unplaced)
        ∙ sym (kept_grown w v put start rows all)

    pub along_next : Along rows (p + 1) (spread_to (grown_by rows free v) p labels) (smallest_to (grown_by rows free v) p smallest) (largest_to (grown_by rows free v) p largest) (inserted set v) (removed free v)
    unfolding grown
    along_next =
        let more : IsKeptOrdering n (member all) (w ++ v ∷ []) (length (w ++ v ∷ [])) =
        subst (λ (u : ℕ). IsKeptOrdering n (member all) (w ++ u ∷ []) (length (w ++ u ∷ []))) (sym chosen) (stays_more s arc n (member all) t names w stands fewer)
        in
        let len = length_grown w v in
        subst (λ (m : ℕ). Along rows m (spread_to grown p labels) (smallest_to grown p smallest) (largest_to grown p largest) (inserted set v) (removed free v))
        (ap suc a.long ∙ sym (add-one p)) (record {
          all = all;
          inside = a.inside;
          walk = w ++ v ∷ [];
          long = len;
          ordering = subst (λ (m : ℕ). IsOrdering n (w ++ v ∷ []) m) len more.ordering;
          stays = λ q l. more.stays q (omega (arith, l, len));
          labelled = with_v label_with 0 a.labelled;
          after_smallest = with_v smallest_with 64 a.after_smallest;
          after_largest = with_v largest_with 0 a.after_largest;
          set = ap (λ (x : ℕ). inserted x v) (after (λ m. placed_after w m) a.set) ∙ sym (set_grown w v);
          unplaced = ap (λ (x : ℕ). removed x v) (after (λ m. free_after all w m) a.unplaced) ∙ sym (free_grown w v all);
        })

module _ (rows : List ℕ) where
  -- the words after the first k vertices of a list are along an ordering
  pub along_start : (all : ℕ) → AreVertices (length rows) all → (w : List ℕ) (k : ℕ) → IsOrdering (length rows) w k → ((p : ℕ) → p < k → T (member all (at w p)))
      → Along rows k (labels_after rows all w k) (smallest_after rows all w k) (largest_after rows all w k) (placed_after w k) (free_after all w k)
  along_start all inside w k o stays = record {
    all = all;
    inside = inside;
    walk = take k w;
    long = length-take-le k w o.long;
    ordering = ordering_agree (length rows) (take k w) (omega (arith, length-take-le k w o.long)) same o;
    stays = λ p l. subst (λ (v : ℕ). T (member all v)) (same p l) (stays p l);
    labelled = labels_agree rows all w (take k w) k same;
    after_smallest = kept_agree smallest_with 64 rows all w (take k w) k same;
    after_largest = kept_agree largest_with 0 rows all w (take k w) k same;
    set = set_agree w (take k w) k same;
    unplaced = free_agree all w (take k w) k same;
  }
    where
      same : Agree k w (take k w)
      same = agree_sym k (take k w) w (take_agree k w)

  -- the same of words that are those
  pub along_same : {p p' set set' free free' : ℕ} {labels labels' smallest smallest' largest largest' : List ℕ} → Along rows p labels smallest largest set free → p ≡ p'
      → labels' ≡ labels → smallest' ≡ smallest → largest' ≡ largest → set' ≡ set → free' ≡ free → Along rows p' labels' smallest' largest' set' free'
  along_same {p} {p'} {set} {set'} {free} {free'} {labels} {labels'} {smallest} {smallest'} {largest} {largest'} a e at-labels at-smallest at-largest at_set at-free =
      subst (λ (m : ℕ). Along rows m labels' smallest' largest' set' free') e (record {
        all = a.all;
        inside = a.inside;
        walk = a.walk;
        long = a.long;
        ordering = a.ordering;
        stays = a.stays;
        labelled = at-labels ∙ a.labelled;
        after_smallest = at-smallest ∙ a.after_smallest;
        after_largest = at-largest ∙ a.after_largest;
        set = at_set ∙ a.set;
        unplaced = at-free ∙ a.unplaced;
      })

  -- what is kept beside the labels of unplaced vertices agrees with them
  pub along_consistent : length rows ≤ 64 → {columns : List ℕ} → Transposed rows columns → {p set free : ℕ} {labels smallest largest : List ℕ} → Along rows p labels smallest largest set free
      → (row : ℕ) → ((v : ℕ) → T (member row v) → T (member free v)) → Consistent columns set row labels smallest largest
  along_consistent small {columns} transpose {p} {set} {free} {labels} {smallest} {largest} a row unplaced =
      subst (λ (ls : List ℕ). Consistent columns set row ls smallest largest) (sym a.labelled)
      (subst (λ (ss : List ℕ). Consistent columns set row (labels_after rows a.all a.walk p) ss largest) (sym a.after_smallest)
      (subst (λ (ls : List ℕ). Consistent columns set row (labels_after rows a.all a.walk p) (smallest_after rows a.all a.walk p) ls) (sym a.after_largest)
      (subst (λ (x : ℕ). Consistent columns x row (labels_after rows a.all a.walk p) (smallest_after rows a.all a.walk p) (largest_after rows a.all a.walk p)) (sym a.set)
      (consistent_after rows a.all a.walk p small a.inside a.ordering transpose p (omega arith) row (λ v t. subst (λ (x : ℕ). T (member x v)) a.unplaced (unplaced v t))))))

  -- every unplaced vertex stands in a tie-break
  pub along_named : length rows ≤ 64 → (t : List ℕ) → IsFullOrdering (length rows) t → {p set free : ℕ} {labels smallest largest : List ℕ} → Along rows p labels smallest largest set free
      → Named t free
  along_named small t names {p} a v f =
      let vertex = free_vertex a.all a.walk a.inside p v (subst (λ (x : ℕ). T (member x v)) a.unplaced f) in
      let x = placed_out t (length rows) v (all_placed (length rows) names.ordering v vertex) in
      record { place = x.0; inside = omega (arith, x.1, names.full); there = x.2 }

  pub names_below : length rows ≤ 64 → (t : List ℕ) → IsFullOrdering (length rows) t → (q : ℕ) → q < length t → at t q < 64
  names_below small t names q l = omega (arith, names.ordering.vertices q (omega (arith, names.full)))

  -- the ranks of a tie-break
  pub names_ranked : length rows ≤ 64 → (t : List ℕ) → IsFullOrdering (length rows) t → {ranks : List ℕ} → ranks ≡ ranks_below t (length t) → Ranked t ranks
  names_ranked small t names e =
      subst (λ (rs : List ℕ). Ranked t rs) (sym e)
      (ranked t (λ q l. names_below small t names q l) (λ p q l h. names.ordering.distinct p q l (omega (arith, names.full))))
