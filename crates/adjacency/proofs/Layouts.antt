-- Laws of a layout.
--   layout_of                       lists to which 2 and 26 do not apply are a layout;   cover_of   their offsets cover the neighbour list
--   size_suc                        there is one offset more than there are vertices
--   offsets_rise, offset_upto, offset_inside, offset_vertex   offsets do not fall, each is a position of the neighbour list or its end, and there are no others
--   neighbours_rise, neighbours_ascend   the neighbours of a vertex are strictly ascending
--   part_length, part_at, part_any   a part of a list, and whether a number stands in it
--   Stands, stands_out, stands_at   where a number stands in a list
--   arc_from, arc_to                an arc leads from a vertex to a vertex
--   arcs_listed_lem, arcs_same          the rows of a layout have its arcs;   rows_length   as many rows as vertices
--   fall_told, unsorted_told         what is said of offsets, and of a part of a list, by each number and the next one
--   gather_start, gather_next, gather_end   a row, put together neighbour by neighbour
--   own_end, own_inside, own_at, own_any   the list of a vertex, as a part of the neighbour list
-- Assumes nothing.
use Prim.Native.Nat.{ℕ, zero, suc, ◌+◌, ◌-◌, ◌≤◌, ◌<◌, ◌^◌}
use mathlib.Core.Path.{◌≡◌, sym, ap, ap₂, ◌∙◌, subst, fun_ext}
use mathlib.Core.Bool.{Bool, true, false, not, ◌&&◌, ◌||◌}
use mathlib.Core.List.{List}
use mathlib.Core.Logic.{◌⊎◌, inl, inr}
use native.Mathlib.Omega.{arith}
use native.Mathlib.Numerals.{add-one}
use lib.Dec.{T, ltb, leb, eqb, lt→ltb, ltb→lt, le→leb, leb→le, eqb→eq, eqb_refl, not_T}
use lib.ListN.{length, get_or, drop, length-drop, get_or-eq_default}
use lib.Seq.{length-take-le, get_or-take, get_or-drop}
use Rattle.std.specs.Prelude.{slice_range}
use Rattle.std.specs.List.{list_any, IsAllAdjacentAnswer}
use Rattle.bitset.specs.Below.{any_below}
use Rattle.bitset.specs.Word.{member, inserted}
use Rattle.bitset.proofs.Tests.{and_in, and_out, not_not, same_test, is_true, is_false, below_or}
use Rattle.bitset.proofs.Below.{any_out, any_at}
use Rattle.bitset.proofs.Chains.{items_any}
use Rattle.bitset.proofs.Word.{member_zero, member_inserted, inserted_word, equal_members}
use Rattle.searches.specs.Ordering.{arcs, at}
use Rattle.searches.specs.Answer.{Accepts}
use Rattle.searches.proofs.Refusals.{vertex_outside_in}
use Rattle.adjacency.specs.Layout.{size_of, stands_in, arcs_listed, falls_at, unsorted_in, unsorted_at, form_tests, rows_listed, IsCover, IsLayout}
use Rattle.adjacency.proofs.Rows.{rows_of_length, rows_of_words, arcs_rows_of}

-- ---- a part of a list, from `begin` up to `end`

module _ (list : List ℕ) {begin end : ℕ} (rises : begin ≤ end) (inside : end ≤ length list) where
  pub part_length : length (slice_range list begin end) ≡ end - begin
  part_length = length-take-le (end - begin) (drop begin list) (omega (arith, length-drop begin list))

  pub part_at : (i : ℕ) → i < end - begin → at (slice_range list begin end) i ≡ at list (begin + i)
  part_at i l = get_or-take (end - begin) (drop begin list) i 0 l ∙ get_or-drop begin list i 0

-- ---- where a number stands in a list

pub record Stands (list : List ℕ) (begin end v : ℕ) : Type 0 where
  pub position : ℕ
  pub begun : begin ≤ position
  pub before : position < end
  pub names : at list position ≡ v

pub stands_out : (list : List ℕ) (begin end v : ℕ) → T (stands_in list begin end v) → Stands list begin end v
unfolding stands_in
stands_out list begin end v t =
    let x = any_out end (λ e. leb begin e && eqb (at list e) v) t in
    let both = and_out (leb begin x.at) (eqb (at list x.at) v) x.holds in
    record { position = x.at; begun = leb→le begin x.at both.0; before = x.below; names = eqb→eq (at list x.at) v both.1 }

same_eqb : {m n : ℕ} → m ≡ n → T (eqb m n)
same_eqb {m} e = subst (λ (x : ℕ). T (eqb m x)) e (eqb_refl m)

pub stands_at : (list : List ℕ) (begin end v : ℕ) → Stands list begin end v → T (stands_in list begin end v)
unfolding stands_in
stands_at list begin end v x =
    any_at end (λ e. leb begin e && eqb (at list e) v) x.position x.before
    (and_in (leb begin x.position) (eqb (at list x.position) v) (le→leb begin x.position x.begun) (same_eqb x.names))

-- ---- whether a number stands in a part of a list

module _ (list : List ℕ) {begin end : ℕ} (rises : begin ≤ end) (inside : end ≤ length list) (v : ℕ) where
  part_stands : any_below (end - begin) (λ i. eqb (at list (begin + i)) v) ≡ stands_in list begin end v
  part_stands =
      same_test (any_below (end - begin) (λ i. eqb (at list (begin + i)) v)) (stands_in list begin end v)
      (λ t.
      let s = any_out (end - begin) (λ i. eqb (at list (begin + i)) v) t in
      stands_at list begin end v (record { position = begin + s.at; begun = omega arith; before = omega (arith, s.below); names = eqb→eq (at list (begin + s.at)) v s.holds }))
      (λ t.
      let s = stands_out list begin end v t in
      let here : begin + (s.position - begin) ≡ s.position = omega (arith, s.begun) in
      any_at (end - begin) (λ i. eqb (at list (begin + i)) v) (s.position - begin) (omega (arith, s.begun, s.before))
      (same_eqb (ap (λ (e : ℕ). at list e) here ∙ s.names)))

  pub part_any : list_any (λ x. eqb x v) (slice_range list begin end) ≡ stands_in list begin end v
  part_any =
      items_any (λ x. eqb x v) 0 (slice_range list begin end) (λ i. eqb (at list (begin + i)) v)
      (λ i l. ap (λ (x : ℕ). eqb x v) (part_at list rises inside i (omega (arith, part_length list rises inside))))
      ∙ ap (λ (n : ℕ). any_below n (λ i. eqb (at list (begin + i)) v)) (part_length list rises inside) ∙ part_stands

-- ---- whether a list is in order, asked of each number and the next one

greater : (a b : ℕ) → false ≡ leb a b → b < a
greater a b e = go (below_or b a)
  where
    go : (b < a) ⊎ (a ≤ b) → b < a
    go (inl h) = h
    go (inr h) = absurd (subst (λ (x : Bool). T x) (sym e) (le→leb a b h))

at_most : (a b : ℕ) → false ≡ ltb a b → b ≤ a
at_most a b e = go (below_or a b)
  where
    go : (a < b) ⊎ (b ≤ a) → b ≤ a
    go (inl h) = absurd (subst (λ (x : Bool). T x) (sym e) (lt→ltb a b h))
    go (inr h) = h

pub fall_told : (offsets : List ℕ) (r : Bool) → IsAllAdjacentAnswer (λ x y b. b ≡ leb x y) offsets r → not r ≡ any_below (size_of offsets) (falls_at offsets)
unfolding size_of falls_at
fall_told offsets true each =
    sym (is_false (any_below (length offsets - 1) (falls_at offsets)) (λ t.
    let s = any_out (length offsets - 1) (falls_at offsets) t in
    let less : at offsets (suc s.at) < at offsets s.at = ltb→lt _ _ s.holds in
    let more : at offsets s.at ≤ at offsets (s.at + 1) = leb→le _ _ (subst (λ (b : Bool). T b) (each s.at 0 (omega (arith, s.below))) tt) in
    omega (arith, ap (λ (u : ℕ). at offsets u) (add-one s.at))))
fall_told offsets false some =
    let k : ℕ = some.0 in
    let less : at offsets (k + 1) < at offsets k = greater _ _ (some.2 0) in
    sym (is_true (any_below (length offsets - 1) (falls_at offsets)) (any_at (length offsets - 1) (falls_at offsets) k (omega (arith, some.1))
    (lt→ltb (at offsets (suc k)) (at offsets k) (omega (arith, ap (λ (u : ℕ). at offsets u) (add-one k))))))

module _ (list : List ℕ) {begin end : ℕ} (rises : begin ≤ end) (inside : end ≤ length list) where
  abbrev part : List ℕ
  part = slice_range list begin end

  pub unsorted_told : (r : Bool) → IsAllAdjacentAnswer (λ x y b. b ≡ ltb x y) (slice_range list begin end) r → not r ≡ unsorted_in list begin end
  unfolding unsorted_in
  unsorted_told true each =
      sym (is_false (unsorted_in list begin end) (λ t.
      let s = any_out end (λ e. ltb begin e && leb (at list e) (at list (e - 1))) t in
      let both = and_out (ltb begin s.at) (leb (at list s.at) (at list (s.at - 1))) s.holds in
      let up : begin < s.at = ltb→lt begin s.at both.0 in
      let k : ℕ = s.at - 1 - begin in
      let most : at list s.at ≤ at list (s.at - 1) = leb→le _ _ both.1 in
      let less : at part k < at part (k + 1) = ltb→lt _ _ (subst (λ (b : Bool). T b) (each k 0 (omega (arith, part_length list rises inside, s.below))) tt) in
      let before : begin + k ≡ s.at - 1 = omega arith in
      let here : begin + (k + 1) ≡ s.at = omega arith in
      omega (arith, part_at list rises inside k (omega (arith, s.below)), part_at list rises inside (k + 1) (omega (arith, s.below)), ap (λ (e : ℕ). at list e) before, ap (λ (e : ℕ). at list e) here)))
  unsorted_told false some =
      let k : ℕ = some.0 in
      let last : k + 1 < end - begin = omega (arith, some.1, part_length list rises inside) in
      let less : at part (k + 1) ≤ at part k = at_most _ _ (some.2 0) in
      let before : begin + (k + 1) - 1 ≡ begin + k = omega arith in
      let most : at list (begin + (k + 1)) ≤ at list (begin + (k + 1) - 1) =
      omega (arith, part_at list rises inside k (omega arith), part_at list rises inside (k + 1) last, ap (λ (e : ℕ). at list e) before)
      in
      sym (is_true (unsorted_in list begin end) (any_at end (λ e. ltb begin e && leb (at list e) (at list (e - 1))) (begin + (k + 1)) (omega arith)
      (and_in (ltb begin (begin + (k + 1))) (leb (at list (begin + (k + 1))) (at list (begin + (k + 1) - 1))) (lt→ltb begin (begin + (k + 1)) (omega arith)) (le→leb _ _ most))))

-- ---- what the tests say

equal_unless : (m n : ℕ) → (T (not (eqb m n)) → ⊥) → m ≡ n
equal_unless m n out = eqb→eq m n (not_not (eqb m n) (not_T (not (eqb m n)) out))

module _ (offsets neighbours : List ℕ) where
  abbrev n : ℕ
  n = size_of offsets

  pub cover_of : (T (eqb (length offsets) 0) → ⊥) → (T (not (eqb (at offsets 0) 0)) → ⊥) → (T (any_below n (falls_at offsets)) → ⊥)
      → (T (not (eqb (at offsets n) (length neighbours))) → ⊥) → IsCover offsets neighbours
  unfolding falls_at
  cover_of some starts rises ends = record {
    some = filled (below_or 0 (length offsets));
    starts = equal_unless (at offsets 0) 0 starts;
    rises = λ u l. rise u l (below_or (at offsets (suc u)) (at offsets u));
    ends = equal_unless (at offsets n) (length neighbours) ends;
  }
    where
      filled : (0 < length offsets) ⊎ (length offsets ≤ 0) → 0 < length offsets
      filled (inl l) = l
      filled (inr l) = absurd (some (same_eqb (let e : length offsets ≡ 0 = omega arith in e)))

      rise : (u : ℕ) → u < n → (at offsets (suc u) < at offsets u) ⊎ (at offsets u ≤ at offsets (suc u)) → at offsets u ≤ at offsets (suc u)
      rise u l (inl h) = absurd (rises (any_at n (falls_at offsets) u l (lt→ltb (at offsets (suc u)) (at offsets u) h)))
      rise u l (inr h) = h

  pub layout_of : length offsets ≤ 65 → Accepts (form_tests offsets neighbours) → IsLayout offsets neighbours
  unfolding form_tests unsorted_at unsorted_in
  layout_of few a = record {
    few = few;
    cover = cover_of a.0 a.1.0 a.1.1.0 a.1.1.1.0;
    ascends = λ u e l begun before. ascend u e l begun before (below_or (at neighbours e) (at neighbours (suc e)));
    inside = λ e l. below e l (below_or (at neighbours e) n);
  }
    where
      ascend : (u e : ℕ) → u < n → at offsets u ≤ e → suc e < at offsets (suc u) → (at neighbours e < at neighbours (suc e)) ⊎ (at neighbours (suc e) ≤ at neighbours e)
          → at neighbours e < at neighbours (suc e)
      ascend u e l begun before (inl h) = h
      ascend u e l begun before (inr h) =
          let previous : suc e - 1 ≡ e = omega arith in
          absurd (a.1.1.1.1.0
          (any_at n (unsorted_at offsets neighbours) u l
          (any_at (at offsets (suc u)) (λ d. ltb (at offsets u) d && leb (at neighbours d) (at neighbours (d - 1))) (suc e) before
          (and_in (ltb (at offsets u) (suc e)) (leb (at neighbours (suc e)) (at neighbours (suc e - 1))) (lt→ltb (at offsets u) (suc e) (omega arith))
          (subst (λ (d : ℕ). T (leb (at neighbours (suc e)) (at neighbours d))) (sym previous) (le→leb (at neighbours (suc e)) (at neighbours e) h))))))

      below : (e : ℕ) → e < length neighbours → (at neighbours e < n) ⊎ (n ≤ at neighbours e) → at neighbours e < n
      below e l (inl h) = h
      below e l (inr h) = absurd (a.1.1.1.1.1.0 (vertex_outside_in neighbours (length neighbours) n e l h))

module _ {offsets neighbours : List ℕ} (x : IsCover offsets neighbours) where
  pub size_suc : suc (size_of offsets) ≡ length offsets
  unfolding size_of
  size_suc = omega (arith, x.some)

  -- a step at a time
  pub offsets_rise : (u m : ℕ) → u + m ≤ size_of offsets → at offsets u ≤ at offsets (u + m)
  offsets_rise u zero l = let e : u ≡ u + 0 = omega arith in subst (λ (y : ℕ). at offsets u ≤ at offsets y) e (let h : at offsets u ≤ at offsets u = omega arith in h)
  offsets_rise u (suc m) l =
      let e : suc (u + m) ≡ u + suc m = omega arith in
      let rest = offsets_rise u m (omega arith) in
      let step = x.rises (u + m) (omega arith) in
      subst (λ (y : ℕ). at offsets u ≤ at offsets y) e (let h : at offsets u ≤ at offsets (suc (u + m)) = omega arith in h)

  pub offset_inside : (u : ℕ) → u ≤ size_of offsets → at offsets u ≤ length neighbours
  offset_inside u l =
      let e : u + (size_of offsets - u) ≡ size_of offsets = omega arith in
      subst (λ (m : ℕ). at offsets u ≤ m) x.ends (subst (λ (y : ℕ). at offsets u ≤ at offsets y) e (offsets_rise u (size_of offsets - u) (omega arith)))

  pub offset_upto : (u v : ℕ) → u ≤ v → v ≤ size_of offsets → at offsets u ≤ at offsets v
  offset_upto u v l h = let e : u + (v - u) ≡ v = omega arith in subst (λ (y : ℕ). at offsets u ≤ at offsets y) e (offsets_rise u (v - u) (omega arith))

  -- behind the offsets there is none
  pub offset_vertex : (u e : ℕ) → e < at offsets (suc u) → u < size_of offsets
  unfolding size_of
  offset_vertex u e l = go (below_or (suc u) (length offsets))
    where
      go : (suc u < length offsets) ⊎ (length offsets ≤ suc u) → u < length offsets - 1
      go (inl h) = omega arith
      go (inr h) = absurd (let z = get_or-eq_default offsets 0 {n = suc u} h in omega arith)

module _ {offsets neighbours : List ℕ} (x : IsLayout offsets neighbours) where
  pub neighbours_rise : (u d m : ℕ) → u < size_of offsets → at offsets u ≤ d → suc d + m < at offsets (suc u) → at neighbours d < at neighbours (suc d + m)
  neighbours_rise u d zero l begun before =
      let e : suc d ≡ suc d + 0 = omega arith in
      subst (λ (y : ℕ). at neighbours d < at neighbours y) e (x.ascends u d l begun (omega arith))
  neighbours_rise u d (suc m) l begun before =
      let e : suc (suc d + m) ≡ suc d + suc m = omega arith in
      let rest = neighbours_rise u d m l begun (omega arith) in
      let step = x.ascends u (suc d + m) l (omega arith) (omega arith) in
      subst (λ (y : ℕ). at neighbours d < at neighbours y) e (let h : at neighbours d < at neighbours (suc (suc d + m)) = omega arith in h)

  pub neighbours_ascend : (u d e : ℕ) → u < size_of offsets → at offsets u ≤ d → d < e → e < at offsets (suc u) → at neighbours d < at neighbours e
  neighbours_ascend u d e l begun less before =
      let same : suc d + (e - suc d) ≡ e = omega arith in
      subst (λ (y : ℕ). at neighbours d < at neighbours y) same (neighbours_rise u d (e - suc d) l begun (omega arith))

  pub arc_from : (u v : ℕ) → T (arcs_listed offsets neighbours u v) → u < size_of offsets
  unfolding arcs_listed
  arc_from u v t = let s = stands_out neighbours (at offsets u) (at offsets (suc u)) v t in offset_vertex x.cover u s.position s.before

  pub arc_to : (u v : ℕ) → T (arcs_listed offsets neighbours u v) → v < size_of offsets
  unfolding arcs_listed
  arc_to u v t =
      let s = stands_out neighbours (at offsets u) (at offsets (suc u)) v t in
      let upto = offset_inside x.cover (suc u) (arc_from u v t) in
      subst (λ (y : ℕ). y < size_of offsets) s.names (x.inside s.position (omega (arith, s.before)))

  small : size_of offsets ≤ 64
  unfolding size_of
  small = omega (arith, x.few)

  pub arcs_listed_lem : (u v : ℕ) → arcs (rows_listed offsets neighbours) u v ≡ arcs_listed offsets neighbours u v
  unfolding rows_listed
  arcs_listed_lem u v =
      arcs_rows_of (size_of offsets) (arcs_listed offsets neighbours) small u v
      ∙ same_test (ltb u (size_of offsets) && (ltb v (size_of offsets) && arcs_listed offsets neighbours u v)) (arcs_listed offsets neighbours u v)
      (λ t. (and_out (ltb v (size_of offsets)) (arcs_listed offsets neighbours u v) (and_out (ltb u (size_of offsets)) (ltb v (size_of offsets) && arcs_listed offsets neighbours u v) t).1).1)
      (λ t. and_in (ltb u (size_of offsets)) (ltb v (size_of offsets) && arcs_listed offsets neighbours u v) (lt→ltb u (size_of offsets) (arc_from u v t))
      (and_in (ltb v (size_of offsets)) (arcs_listed offsets neighbours u v) (lt→ltb v (size_of offsets) (arc_to u v t)) t))

  pub arcs_same : arcs (rows_listed offsets neighbours) ≡ arcs_listed offsets neighbours
  arcs_same = fun_ext (λ u. fun_ext (λ v. arcs_listed_lem u v))

pub rows_length : (offsets neighbours : List ℕ) → length (rows_listed offsets neighbours) ≡ size_of offsets
unfolding rows_listed
rows_length offsets neighbours = rows_of_length (size_of offsets) (arcs_listed offsets neighbours)

-- ---- a row, put together neighbour by neighbour

-- the set of the neighbours at the positions from `begin` up to `e`
pub record Gathered (neighbours : List ℕ) (begin e row : ℕ) : Type 0 where
  pub upto : begin ≤ e
  pub word : row < 2 ^ 64
  pub members : (v : ℕ) → member row v ≡ stands_in neighbours begin e v

pub gather_start : (neighbours : List ℕ) (begin : ℕ) → Gathered neighbours begin begin 0
gather_start neighbours begin = record {
  upto = omega arith;
  word = omega arith;
  members = λ v. member_zero v ∙ sym (is_false (stands_in neighbours begin begin v) (λ t. let s = stands_out neighbours begin begin v t in omega (arith, s.begun, s.before)));
}

pub gather_next : {neighbours : List ℕ} {begin e row : ℕ} → Gathered neighbours begin e row → at neighbours e < 64
    → Gathered neighbours begin (e + 1) (inserted row (at neighbours e))
unfolding stands_in any_below
gather_next {neighbours} {begin} {e} {row} g l =
    subst (λ (m : ℕ). Gathered neighbours begin m (inserted row (at neighbours e))) (sym (add-one e)) (record {
      upto = omega (arith, g.upto);
      word = inserted_word g.word (at neighbours e);
      members = λ v.
          member_inserted row l v
          ∙ ap₂ (λ (a b : Bool). (a && eqb (at neighbours e) v) || b) (sym (is_true (leb begin e) (le→leb begin e g.upto))) (g.members v);
    })

pub gather_end : {offsets neighbours : List ℕ} (x : IsLayout offsets neighbours) {u : ℕ} → u < size_of offsets → {row : ℕ}
    → Gathered neighbours (at offsets u) (at offsets (suc u)) row → row ≡ get_or (rows_listed offsets neighbours) u 0
unfolding arcs arcs_listed rows_listed
gather_end {offsets} {neighbours} x {u} l {row} g =
    equal_members 64 g.word (rows_of_words (size_of offsets) (arcs_listed offsets neighbours) u) (λ v _. g.members v ∙ sym (arcs_listed_lem x u v))

-- ---- the list of a vertex, a part of the neighbour list

module _ {offsets neighbours : List ℕ} (x : IsLayout offsets neighbours) {u : ℕ} (vertex : u < size_of offsets) {list : List ℕ}
    (own : list ≡ slice_range neighbours (at offsets u) (at offsets (suc u))) where
  within : at offsets (suc u) ≤ length neighbours
  within = offset_inside x.cover (suc u) vertex

  -- it ends where the next one begins
  pub own_end : at offsets u + length list ≡ at offsets (suc u)
  own_end = omega (arith, ap length own, part_length neighbours (x.cover.rises u vertex) within, x.cover.rises u vertex)

  pub own_inside : (i : ℕ) → i < length list → at offsets u + i < length neighbours
  own_inside i l = omega (arith, own_end, within)

  pub own_at : (i : ℕ) → i < length list → at list i ≡ at neighbours (at offsets u + i)
  own_at i l = ap (λ (y : List ℕ). at y i) own ∙ part_at neighbours (x.cover.rises u vertex) within i (omega (arith, own_end))

  -- the vertices that stand in it are those that u leads to
  pub own_any : (v : ℕ) → list_any (λ y. eqb y v) list ≡ arcs_listed offsets neighbours u v
  unfolding arcs_listed
  own_any v = ap (list_any (λ y. eqb y v)) own ∙ part_any neighbours (x.cover.rises u vertex) within v
