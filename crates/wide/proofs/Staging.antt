-- What is kept, from vertex to vertex.
--   label_next                       a label with one position more
--   staged_unplaced, staged_free     who is in `free`
--   staged_agree                     only the first j vertices of the ordering matter
--   stored_start, staged_start       nothing is kept; nothing is placed
--   staged_tallied                   once it is placed, the ones in row AND placed mask are as many as the positions in the label; on two-way graphs
--   staged_placeable                 the next vertex may be placed
--   staged_next                      it is placed
-- Assumes nothing.
use mathlib.Core.Path.{◌≡◌, refl, sym, ap, ap₂, ◌∙◌, subst}
use mathlib.Core.Bool.{Bool, true, false, not, ◌&&◌, ◌||◌, and_comm, or_comm}
use mathlib.Core.Logic.{◌⊎◌, inl, inr}
use mathlib.Core.List.{List}
use Prim.Native.Nat.{ℕ, suc, ◌≤◌, ◌<◌}
use native.Mathlib.Omega.{arith}
use lib.Dec.{T, ltb, eqb, eqb→eq, eqb_refl, ltb→lt, lt→ltb, leb-suc-zero, not_T, T_not}
use lib.ListN.{length, get_or, replicate, length-replicate, get_or-replicate}
use Rattle.bitset.specs.Below.{any_below}
use Rattle.bitset.proofs.Tests.{and_in, and_out, and_true, and_same, eqb_comm, or_out, is_true}
use Rattle.bitset.proofs.Below.{any_same}
use Rattle.bitset.proofs.Count.{count_same, count_fewer}
use Rattle.bitset.proofs.Joining.{suc_split}
use Rattle.searches.specs.Kind.{Search}
use Rattle.searches.specs.Ordering.{at, placed, IsOrdering}
use Rattle.searches.specs.Table.{arcs_wide}
use Rattle.searches.specs.Label.{label}
use Rattle.searches.specs.declared.Mark.{Mark}
use Rattle.searches.proofs.Ordering.{Agree, placed_agree, placed_out, ordering_fits}
use Rattle.steps.proofs.Representation.{cut_same, cut_below}
use Rattle.tables.specs.Rows.{in_set, row_of, with_bit}
use Rattle.wide.specs.Store.{Stored, Tallied, Placed}
use Rattle.wide.specs.Steps.{IsGraph, Staged, Placeable, Replayable}
use Rattle.tables.proofs.Bits.{in_with_bit, in_without_bit, row_with_bit, row_below, row_none}
use Rattle.wide.proofs.Clearing.{none_any, none_smallest, none_largest, none_weighs}
use Rattle.wide.proofs.Counting.{count_placed, any_joined}

pub label_next : (j q : ℕ) (f : ℕ → Bool) (b : Bool) → b ≡ f j → ((ltb q j && f q) || (eqb q j && b)) ≡ (ltb q (suc j) && f q)
label_next j q f b e =
    or_comm (ltb q j && f q) (eqb q j && b) ∙ ap₂ (λ (x y : Bool). (x && y) || (ltb q j && f q)) (eqb_comm q j) e ∙ suc_split j q f

-- ---- nothing is kept

sized : {l : List ℕ} (m x : ℕ) → l ≡ replicate m x → length l ≡ m
sized m x e = ap length e ∙ length-replicate {A = ℕ} m x

no_position : {labels : List ℕ} → labels ≡ replicate 4096 0 → (v q : ℕ) → row_of labels v q ≡ false
unfolding row_of
no_position none v q = ap (λ (ls : List ℕ). arcs_wide 8 ls v q) none ∙ row_none v q 4096

pub stored_start : (s : Search) {labels smallest largest weights : List ℕ}
    → labels ≡ replicate 4096 0 → smallest ≡ replicate 512 512 → largest ≡ replicate 512 0 → weights ≡ replicate 512 0 → Stored s labels smallest largest weights
stored_start s {labels} no_label no_smallest no_largest no_weight = record {
  weighed = record {
    size = sized 512 0 no_weight;
    room = sized 4096 0 no_label;
    is = λ v l. held 512 0 no_weight v l ∙ sym (none_weighs (row_of labels v) (no_position no_label v) s);
  };
  sizes = (sized 512 512 no_smallest, sized 512 0 no_largest);
  keeps_smallest = λ v l. held 512 512 no_smallest v l ∙ sym (none_smallest (row_of labels v) (no_position no_label v));
  keeps_largest = λ v l. held 512 0 no_largest v l ∙ sym (none_largest (row_of labels v) (no_position no_label v));
}
  where
    held : {l : List ℕ} (m x : ℕ) → l ≡ replicate m x → (v : ℕ) → v < m → get_or l v 0 ≡ x
    held m x e v h = ap (λ (ys : List ℕ). get_or ys v 0) e ∙ get_or-replicate m v x 0 h

pub staged_start : (s : Search) {mark : Mark} {table : List ℕ} {n : ℕ} {w : List ℕ} {k : ℕ} {labels smallest largest weights placed' free reached : List ℕ}
    → Replayable mark table n w k labels smallest largest weights placed' free reached → Staged s table n w 0 labels smallest largest weights placed' free reached
unfolding row_of in_set placed any_below
staged_start s {mark} {table} {n} {w} {k} {labels} {smallest} {largest} {weights} {placed'} {free} {reached} r = record {
  stored = stored_start s r.no_label r.no_smallest r.no_largest r.no_weight;
  labelled = λ v p _ _. no v p ∙ ap (λ (b : Bool). b && label (arcs_wide 8 table) w v p) (sym (leb-suc-zero p));
  earlier = λ v p _ t. absurd (subst (λ (b : Bool). T b) (no v p) t);
  placed_is = λ v _. nobody r.none_placed v;
  free_is = λ v l. r.all_free.1 v l ∙ and_true (ltb v n);
  covers = λ v _ _. nobody r.none_reached v ∙ sym (none_any (row_of labels v) (no v) 512);
  bare = λ v p _ t. absurd (subst (λ (b : Bool). T b) (no v p) t);
  sizes = (sized 8 0 r.none_placed, r.all_free.0, sized 8 0 r.none_reached);
}
  where
    no : (v q : ℕ) → row_of labels v q ≡ false
    no = no_position r.no_label

    nobody : {set : List ℕ} → set ≡ replicate 8 0 → (v : ℕ) → in_set set v ≡ false
    nobody e v = ap (λ (ls : List ℕ). arcs_wide 8 ls 0 v) e ∙ row_none 0 v 8

-- ---- after j vertices

module _ {s : Search} {table : List ℕ} {n : ℕ} {w : List ℕ} {j : ℕ} {labels smallest largest weights placed' free reached : List ℕ}
    (st : Staged s table n w j labels smallest largest weights placed' free reached) where
  abbrev arc : ℕ → ℕ → Bool
  arc = arcs_wide 8 table

  pub staged_unplaced : (v : ℕ) → T (in_set free v) → (v < n) × (T (placed w j v) → ⊥)
  unfolding in_set
  staged_unplaced v t =
      let x = and_out (ltb v n) (not (placed w j v)) (subst (λ (b : Bool). T b) (st.free_is v (row_below free 0 v t)) t) in
      (ltb→lt v n x.0, T_not (placed w j v) x.1)

  pub staged_free : (v : ℕ) → n ≤ 512 → v < n → (T (placed w j v) → ⊥) → T (in_set free v)
  staged_free v small l out =
      subst (λ (b : Bool). T b) (sym (st.free_is v (omega arith))) (and_in (ltb v n) (not (placed w j v)) (lt→ltb v n l) (not_T (placed w j v) out))

  pub staged_agree : (w' : List ℕ) → Agree j w w' → Staged s table n w' j labels smallest largest weights placed' free reached
  unfolding label
  staged_agree w' a = record {
    stored = st.stored;
    labelled = λ v p l out.
        st.labelled v p l (λ t. out (subst (λ (b : Bool). T b) (same v) t))
        ∙ and_same (ltb p j) (label arc w v p) (label arc w' v p) (λ t. ap (λ (x : ℕ). arc x v) (a p (ltb→lt p j t)));
    earlier = st.earlier;
    placed_is = λ v l. st.placed_is v l ∙ same v;
    free_is = λ v l. st.free_is v l ∙ ap (λ (b : Bool). ltb v n && not b) (same v);
    covers = st.covers;
    bare = st.bare;
    sizes = st.sizes;
  }
    where
      same : (v : ℕ) → placed w j v ≡ placed w' j v
      same v = placed_agree j v w w' a

  -- ---- the next vertex

  module _ {mark : Mark} (graph : IsGraph mark n table) (o : IsOrdering n w (suc j)) {v : ℕ} (at_v : v ≡ at w j) where
    vertex : v < n
    vertex = subst (λ (x : ℕ). x < n) (sym at_v) (o.vertices j (omega arith))

    small : n ≤ 512
    small = graph.small

    position : j < 512
    position = omega (arith, small, ordering_fits n o)

    placed_more : (u : ℕ) → u < 512 → in_set (with_bit placed' 0 v) u ≡ placed w (suc j) u
    unfolding placed any_below
    placed_more u l =
        in_with_bit placed' v u st.sizes.0 (omega (arith, vertex, small)) l ∙ ap₂ (λ (x : ℕ) (b : Bool). eqb x u || b) at_v (st.placed_is u l)

    -- of the placed vertices, as many stand in the row of u as there are positions in the label of u
    pub staged_tallied : (u : ℕ) → u < n → (T (placed w j u) → ⊥) → T (arc v u) → Tallied mark table (with_bit placed' 0 v) labels u j
    unfolding label
    staged_tallied u l out leads two-way =
        count_same 512 (λ x. arc u x && in_set (with_bit placed' 0 v) x) (λ x. arc x u && placed w (suc j) x) (λ x h. ap (λ (b : Bool). arc u x && b) (placed_more x h) ∙ turned x)
        ∙ count_placed arc small w u (suc j) o
        ∙ sym (count_fewer (suc j) 512 (omega (arith, position)) (row_of (with_bit labels u j) u) (label arc w u)
        (cut_same (suc j) (row_of (with_bit labels u j) u) (label arc w u) grown) (cut_below (suc j) (row_of (with_bit labels u j) u) (label arc w u) grown))
      where
        turned : (x : ℕ) → (arc u x && placed w (suc j) x) ≡ (arc x u && placed w (suc j) x)
        turned x =
            and_comm (arc u x) (placed w (suc j) x)
            ∙ and_same (placed w (suc j) x) (arc u x) (arc x u)
            (λ t. let p = placed_out w (suc j) x t in graph.both_ways two-way u x l (subst (λ (y : ℕ). y < n) p.2 (o.vertices p.0 p.1)))
            ∙ and_comm (placed w (suc j) x) (arc x u)

        joined : label arc w u j ≡ true
        joined = is_true (arc (at w j) u) (subst (λ (x : ℕ). T (arc x u)) at_v leads)

        grown : (q : ℕ) → row_of (with_bit labels u j) u q ≡ (ltb q (suc j) && label arc w u q)
        grown q =
            row_with_bit labels u j u q st.stored.weighed.room (omega (arith, l, small)) position (omega (arith, l, small))
            ∙ ap₂ (λ (x y : Bool). x || y) (st.labelled u q l out)
            (ap (λ (b : Bool). b && eqb j q) (is_true (eqb u u) (eqb_refl u)) ∙ eqb_comm j q ∙ and_true (eqb q j))
            ∙ label_next j q (label arc w u) true (sym joined)

    pub staged_placeable : Placeable s mark table labels smallest largest weights placed' free reached v j
    staged_placeable = record {
      position = position;
      vertex = omega (arith, vertex, graph.whole);
      graph = (n, graph);
      stored = st.stored;
      earlier = st.earlier;
      tallied = λ u t leads. let x = staged_unplaced u t in staged_tallied u x.0 x.1 leads;
      vertices = λ u l t. omega (arith, (staged_unplaced u t).0, graph.whole);
      sizes = st.sizes;
    }

    module _ {labels' placed'' free' reached' : List ℕ} (step : Placed table v j labels placed' free reached labels' placed'' free' reached') where
      free_then : (u : ℕ) → u < 512 → in_set free' u ≡ (not (eqb v u) && in_set free u)
      free_then u l = ap (λ (f : List ℕ). in_set f u) step.free_then ∙ in_without_bit free v u st.sizes.1 (omega (arith, vertex, small)) l

      free_less : (u : ℕ) → u < 512 → in_set free' u ≡ (ltb u n && not (placed w (suc j) u))
      unfolding placed any_below
      free_less u l =
          free_then u l ∙ ap₂ (λ (x : ℕ) (b : Bool). not (eqb x u) && b) at_v (st.free_is u l) ∙ neither (eqb (at w j) u) (ltb u n) (placed w j u)
        where
          neither : (a b c : Bool) → (not a && (b && not c)) ≡ (b && not (a || c))
          neither true true c = refl
          neither true false c = refl
          neither false b c = refl

      -- who is unplaced then is another vertex, and unplaced now
      stays_free : (u : ℕ) → u < 512 → T (in_set free' u) → T (not (eqb v u)) × T (in_set free u)
      stays_free u l t = and_out (not (eqb v u)) (in_set free u) (subst (λ (b : Bool). T b) (free_then u l) t)

      -- the label of an unplaced vertex
      grown_label : (u q : ℕ) → u < 512 → T (in_set free' u) → row_of labels' u q ≡ (row_of labels u q || (eqb q j && arc v u))
      grown_label u q l t =
          step.label u q l
          ∙ ap₂ (λ (x b : Bool). (x && row_of labels u q) || (eqb q j && (arc v u && b))) (is_true (not (eqb v u)) (stays_free u l t).0) (is_true (in_set free' u) t)
          ∙ ap (λ (b : Bool). row_of labels u q || (eqb q j && b)) (sym (and_true (arc v u)))

      pub staged_next : {smallest' largest' weights' : List ℕ} → Stored s labels' smallest' largest' weights' → Staged s table n w (suc j) labels' smallest' largest' weights' placed'' free' reached'
      unfolding label
      staged_next stored = record {
        stored = stored;
        labelled = λ u q l out.
            let open' : T (in_set free' u) = subst (λ (b : Bool). T b) (sym (free_less u (omega (arith, l, small)))) (and_in (ltb u n) (not (placed w (suc j) u)) (lt→ltb u n l) (not_T (placed w (suc j) u) out)) in
            let before = staged_unplaced u (stays_free u (omega (arith, l, small)) open').1 in
            grown_label u q (omega (arith, l, small)) open' ∙ ap (λ (b : Bool). b || (eqb q j && arc v u)) (st.labelled u q l before.1)
            ∙ label_next j q (label arc w u) (arc v u) (ap (λ (x : ℕ). arc x u) at_v);
        earlier = λ u q l t. latest u q l (told u q l t);
        placed_is = λ u l. ap (λ (x : List ℕ). in_set x u) step.placed_then ∙ placed_more u l;
        free_is = free_less;
        covers = λ u l t.
            step.reached_then u l ∙ ap (λ (b : Bool). b || arc v u) (st.covers u l (stays_free u l t).1) ∙ sym (any_joined 512 j (row_of labels u) position (arc v u))
            ∙ any_same 512 (λ q. row_of labels u q || (eqb q j && arc v u)) (row_of labels' u) (λ q _. sym (grown_label u q l t));
        bare = λ u q l t. unplaced u q l (told u q l t);
        sizes = step.sizes;
      }
        where
          -- a position in a label was there, or is the new one
          Told : ℕ → ℕ → Type 0
          Told u q = (T (not (eqb v u)) × T (row_of labels u q)) ⊎ ((q ≡ j) × T (in_set free' u))

          told : (u q : ℕ) → u < 512 → T (row_of labels' u q) → Told u q
          told u q l t = go (or_out (not (eqb v u) && row_of labels u q) (eqb q j && (arc v u && in_set free' u)) (subst (λ (b : Bool). T b) (step.label u q l) t))
            where
              go : T (not (eqb v u) && row_of labels u q) ⊎ T (eqb q j && (arc v u && in_set free' u)) → Told u q
              go (inl t) = inl (and_out (not (eqb v u)) (row_of labels u q) t)
              go (inr t) =
                  let x = and_out (eqb q j) (arc v u && in_set free' u) t in
                  inr (eqb→eq q j x.0, (and_out (arc v u) (in_set free' u) x.1).1)

          latest : (u q : ℕ) → u < 512 → Told u q → q < suc j
          latest u q l (inl t) = omega (arith, st.earlier u q l t.1)
          latest u q l (inr t) = omega (arith, t.0)

          unplaced : (u q : ℕ) → u < 512 → Told u q → T (in_set free' u)
          unplaced u q l (inl t) = subst (λ (b : Bool). T b) (sym (free_then u l)) (and_in (not (eqb v u)) (in_set free u) t.0 (st.bare u q l t.1))
          unplaced u q l (inr t) = t.1
