-- The test that every arc has an arc back, in one pass over the neighbour list.
--   due_start, due_copied     at the start, where what is due begins with the offsets, nothing was looked at
--   due_next                  the vertex that is due is the one whose list is looked at: its arc has an arc back
--   due_missed                it is not: some arc has none
--   due_end                   all was looked at: every arc has an arc back
-- Assumes nothing.
use Prim.Native.Nat.{ℕ, suc, ◌+◌, ◌-◌, ◌≤◌, ◌<◌}
use mathlib.Core.Path.{◌≡◌, refl, sym, ap, ◌∙◌, subst}
use mathlib.Core.Bool.{Bool, true, false, not, ◌&&◌}
use mathlib.Core.List.{List, ◌++◌}
use mathlib.Core.Logic.{◌⊎◌, inl, inr, ⊎_elim}
use native.Mathlib.Omega.{arith}
use native.Mathlib.Numerals.{add-one}
use lib.Dec.{T, eqb, eqb→eq, eqb_refl, not_T}
use lib.ListN.{length, set, take, length-set, length-append, get_or-append}
use lib.Seq.{length-take-le, get_or-take, get_or-set_same, get_or-set_other}
use Rattle.bitset.specs.Below.{any_below}
use Rattle.bitset.proofs.Tests.{and_in, and_out, decided, below_suc, three_ways}
use Rattle.bitset.proofs.Below.{any_out, any_at}
use Rattle.searches.specs.Ordering.{at}
use Rattle.adjacency.specs.Layout.{size_of, arcs_listed, one_way_in, IsLayout}
use Rattle.adjacency.specs.LeadsBack.{Looked, Met, Due}
use Rattle.adjacency.proofs.Layouts.{Stands, stands_out, stands_at, size_suc, offset_inside, offset_upto, offset_vertex, neighbours_ascend, arc_to}

module _ {offsets neighbours : List ℕ} (x : IsLayout offsets neighbours) where
  abbrev n : ℕ
  n = size_of offsets

  abbrev arc : ℕ → ℕ → Bool
  arc = arcs_listed offsets neighbours

  pub due_start : {due : List ℕ} → length due ≡ 64 → ((v : ℕ) → v < n → at due v ≡ at offsets v) → Due offsets neighbours due (at offsets 0)
  due_start full same = record {
    full = full;
    begun = λ v l. let e = same v l in omega arith;
    within = λ v l. let e = same v l in omega (arith, x.cover.rises v l);
    looked = λ y v l m. let e = same v l in absurd (omega (arith, m.begun, m.before));
    met = λ y v l m. absurd (omega (arith, m.before, x.cover.starts));
  }

  -- the offsets of the vertices, copied to the front of what is due
  pub due_copied : (copied rest : List ℕ) → copied ≡ take n offsets → length rest ≡ 64 - n → Due offsets neighbours (copied ++ rest) (at offsets 0)
  due_copied copied rest same room =
      let upto : n ≤ length offsets = omega (arith, size_suc x.cover) in
      let long : length copied ≡ n = ap (λ (l : List ℕ). length l) same ∙ length-take-le n offsets upto in
      due_start (length-append copied rest ∙ omega (arith, x.few, size_suc x.cover)) (λ v l.
      get_or-append copied rest 0 v (omega arith) ∙ ap (λ (c : List ℕ). at c v) same ∙ get_or-take n offsets v 0 l)

  arc_at : (u e : ℕ) → at offsets u ≤ e → e < at offsets (suc u) → T (arc u (at neighbours e))
  unfolding arcs_listed
  arc_at u e begun before = stands_at neighbours (at offsets u) (at offsets (suc u)) (at neighbours e) (record { position = e; begun = begun; before = before; names = refl })

  stands : (u v : ℕ) → T (arc u v) → Stands neighbours (at offsets u) (at offsets (suc u)) v
  unfolding arcs_listed
  stands u v t = stands_out neighbours (at offsets u) (at offsets (suc u)) v t

  -- every arc that starts before u was looked at where u's own list begins
  looked_before : (y v u e : ℕ) → T (arc y v) → y < u → u < n → at offsets u ≤ e → Looked offsets neighbours e y v
  looked_before y v u e t less vertex begun =
      let s = stands y v t in
      let upto = offset_upto x.cover (suc y) u less (omega arith) in
      record { position = s.position; before = omega (arith, s.before); begun = s.begun; within = s.before; names = s.names }

  -- where no arc is without an arc back
  returned : (T (one_way_in n arc) → ⊥) → (u v : ℕ) → u < n → v < n → T (arc u v) → T (arc v u)
  unfolding one_way_in
  returned out u v l h t = go (decided (arc v u))
    where
      go : T (arc v u) ⊎ (T (arc v u) → ⊥) → T (arc v u)
      go (inl y) = y
      go (inr y) = absurd (out (any_at n (λ a. any_below n (λ b. arc a b && not (arc b a))) u l (any_at n (λ b. arc u b && not (arc b u)) v h (and_in (arc u v) (not (arc v u)) t (not_T (arc v u) y)))))

  module _ {due : List ℕ} {u e : ℕ} (d : Due offsets neighbours due e) (vertex : u < n) (begun : at offsets u ≤ e) (before : e < at offsets (suc u)) where
    abbrev v : ℕ
    v = at neighbours e

    pub neighbour_vertex : v < n
    neighbour_vertex = let upto = offset_inside x.cover (suc u) vertex in x.inside e (omega arith)

    vertex_bit : v < length due
    unfolding size_of
    vertex_bit = omega (arith, neighbour_vertex, x.few, d.full)

    -- the arc from u to v was not looked at before
    fresh : Looked offsets neighbours e u v → ⊥
    fresh l = omega (arith, neighbours_ascend x u l.position e vertex l.begun l.before before, l.names)

    -- a position is of one vertex only
    owner : (a : ℕ) → at offsets a ≤ e → e < at offsets (suc a) → a < n → a ≡ u
    owner a b h l = go (three_ways a u)
      where
        go : (a < u) ⊎ ((a ≡ u) ⊎ (u < a)) → a ≡ u
        go (inl less) = absurd (let upto = offset_upto x.cover (suc a) u less (omega arith) in omega arith)
        go (inr (inl same)) = same
        go (inr (inr more)) = absurd (let upto = offset_upto x.cover (suc u) a more (omega arith) in omega arith)

    pub due_missed : (at offsets (suc v) ≤ at due v) ⊎ (at neighbours (at due v) ≡ u → ⊥) → T (one_way_in n arc)
    due_missed missed = decide (decided (one_way_in n arc))
      where
        other : (T (one_way_in n arc) → ⊥) → (q : ℕ) → at offsets v ≤ q → q < at offsets (suc v) → at neighbours q ≡ u
            → (q < at due v) ⊎ ((q ≡ at due v) ⊎ (at due v < q)) → ⊥
        other out q b h names (inl less) = fresh (d.looked u v neighbour_vertex (record { position = q; begun = b; before = less; names = names }))
        other out q b h names (inr (inl same)) =
            ⊎_elim (λ late. omega arith) (λ not_u. not_u (ap (λ (y : ℕ). at neighbours y) (sym same) ∙ names)) missed
        other out q b h names (inr (inr more)) =
            let y = at neighbours (at due v) in
            let began = d.begun v neighbour_vertex in
            let less = neighbours_ascend x v (at due v) q neighbour_vertex began more h in
            let forth = arc_at v (at due v) began (omega arith) in
            let back = returned out v y neighbour_vertex (arc_to x v y forth) forth in
            let m = d.met y v neighbour_vertex (looked_before y v u e back (omega arith) vertex begun) in
            omega (arith, neighbours_ascend x v m.position (at due v) neighbour_vertex m.begun m.before (omega arith), m.names)

        decide : T (one_way_in n arc) ⊎ (T (one_way_in n arc) → ⊥) → T (one_way_in n arc)
        decide (inl t) = t
        decide (inr out) =
            let s = stands v u (returned out u v vertex neighbour_vertex (arc_at u e begun before)) in
            absurd (other out s.position s.begun s.before s.names (three_ways s.position (at due v)))

    module _ (room : at due v < at offsets (suc v)) (names : at neighbours (at due v) ≡ u) where
      abbrev due' : List ℕ
      due' = set due v (at due v + 1)

      -- what is due moves on for v only
      changed : (y : ℕ) → (at due' y ≡ at due y) ⊎ ((y ≡ v) × (at due' y ≡ suc (at due y)))
      changed y = go (decided (eqb y v))
        where
          go : T (eqb y v) ⊎ (T (eqb y v) → ⊥) → (at due' y ≡ at due y) ⊎ ((y ≡ v) × (at due' y ≡ suc (at due y)))
          go (inl t) =
              let same = eqb→eq y v t in
              inr (same, ap (λ (z : ℕ). at due' z) same ∙ get_or-set_same due v (at due v + 1) 0 vertex_bit ∙ add-one (at due v) ∙ ap (λ (z : ℕ). suc (at due z)) (sym same))
          go (inr out) = inl (get_or-set_other due v y (at due v + 1) 0 (λ same. out (subst (λ (z : ℕ). T (eqb y z)) same (eqb_refl y))))

      moved : (y : ℕ) → at due y ≤ at due' y
      moved y = ⊎_elim (λ same. omega arith) (λ more. let s = more.1 in omega arith) (changed y)

      looked_more : {a y : ℕ} → Looked offsets neighbours e a y → Looked offsets neighbours (suc e) a y
      looked_more l = record { position = l.position; before = omega (arith, l.before); begun = l.begun; within = l.within; names = l.names }

      within_next : (y : ℕ) → y < n → at due' y ≤ at offsets (suc y)
      within_next y l =
          ⊎_elim (λ same. omega (arith, d.within y l)) (λ more. subst (λ (m : ℕ). m ≤ at offsets (suc y)) (sym more.1) (subst (λ (z : ℕ). at due z < at offsets (suc z)) (sym more.0) room))
          (changed y)

      looked_next : (a y : ℕ) → y < n → Met offsets neighbours due' a y → Looked offsets neighbours (suc e) a y
      looked_next a y l m = go (changed y)
        where
          old : m.position < at due y → Looked offsets neighbours (suc e) a y
          old h = looked_more (d.looked a y l (record { position = m.position; begun = m.begun; before = h; names = m.names }))

          go : (at due' y ≡ at due y) ⊎ ((y ≡ v) × (at due' y ≡ suc (at due y))) → Looked offsets neighbours (suc e) a y
          go (inl same) = old (omega (arith, m.before))
          go (inr more) = ⊎_elim old new (below_suc (at due y) m.position (subst (λ (z : ℕ). m.position < z) more.1 m.before))
            where
              new : m.position ≡ at due y → Looked offsets neighbours (suc e) a y
              new here =
                  let is_u : u ≡ a = sym names ∙ ap (λ (z : ℕ). at neighbours z) (ap (λ (z : ℕ). at due z) (sym more.0) ∙ sym here) ∙ m.names in
                  subst (λ (z : ℕ). Looked offsets neighbours (suc e) z y) is_u (record { position = e; before = omega arith; begun = begun; within = before; names = sym more.0 })

      met_next : (a y : ℕ) → y < n → Looked offsets neighbours (suc e) a y → Met offsets neighbours due' a y
      met_next a y l k = ⊎_elim old new (below_suc e k.position k.before)
        where
          old : k.position < e → Met offsets neighbours due' a y
          old h =
              let m = d.met a y l (record { position = k.position; before = h; begun = k.begun; within = k.within; names = k.names }) in
              record { position = m.position; begun = m.begun; before = omega (arith, m.before, moved y); names = m.names }

          new : k.position ≡ e → Met offsets neighbours due' a y
          new here =
              let is_v : v ≡ y = ap (λ (z : ℕ). at neighbours z) (sym here) ∙ k.names in
              let is_u : u ≡ a = sym (owner a (omega (arith, k.begun)) (omega (arith, k.within)) (of a (omega (arith, k.within)))) in
              subst (λ (z : ℕ). Met offsets neighbours due' a z) is_v (record {
                position = at due v;
                begun = d.begun v neighbour_vertex;
                before = let s : at due' v ≡ at due v + 1 = get_or-set_same due v (at due v + 1) 0 vertex_bit in omega arith;
                names = names ∙ is_u;
              })
            where
              of : (b : ℕ) → e < at offsets (suc b) → b < n
              of b h = offset_vertex x.cover b e h

      pub due_next : Due offsets neighbours due' (e + 1)
      due_next =
          subst (λ (m : ℕ). Due offsets neighbours due' m) (sym (add-one e)) (record {
            full = length-set due v (at due v + 1) ∙ d.full;
            begun = λ y l. omega (arith, d.begun y l, moved y);
            within = within_next;
            looked = looked_next;
            met = met_next;
          })

  -- a vertex that was met leads back
  leads : {due : List ℕ} {e a b : ℕ} → Due offsets neighbours due e → b < n → Met offsets neighbours due a b → T (arc b a)
  leads {a = a} {b = b} d l m = subst (λ (z : ℕ). T (arc b z)) {x = at neighbours m.position} m.names (arc_at b m.position m.begun (omega (arith, m.before, d.within b l)))

  pub due_end : {due : List ℕ} → Due offsets neighbours due (at offsets n) → T (one_way_in n arc) → ⊥
  unfolding one_way_in
  due_end d t =
      let a = any_out n (λ u. any_below n (λ w. arc u w && not (arc w u))) t in
      let b = any_out n (λ w. arc a.at w && not (arc w a.at)) a.holds in
      let both = and_out (arc a.at b.at) (not (arc b.at a.at)) b.holds in
      let s = stands a.at b.at both.0 in
      let upto = offset_upto x.cover (suc a.at) n a.below (omega arith) in
      let m = d.met a.at b.at b.below (record { position = s.position; before = omega (arith, s.before); begun = s.begun; within = s.before; names = s.names }) in
      refuted (arc b.at a.at) both.1 (leads d b.below m)
    where
      refuted : (b : Bool) → T (not b) → T b → ⊥
      refuted true t y = t
      refuted false t y = y
