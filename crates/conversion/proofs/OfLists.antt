-- The rows of a layout lead back to the layout.
--   slice_more           a part of a list with one entry more
--   numbers_slice        the numbers that stand in an ascending part of a list, ascending, are that part
--   own_slice            the neighbours of a vertex are its part of the neighbour list
--   neighbours_taken     those of the first u vertices are the front of the neighbour list, up to the offset of u
--   offsets_back, neighbours_back   the layout of its rows is the layout itself
-- Assumes nothing.
use Prim.Native.Nat.{ℕ, zero, suc, ◌+◌, ◌-◌, ◌≤◌, ◌<◌}
use mathlib.Core.Path.{◌≡◌, sym, ap, ap₂, ◌∙◌, subst}
use mathlib.Core.Bool.{Bool, ◌&&◌, ◌||◌}
use mathlib.Core.List.{List, [], ◌∷◌, ◌++◌}
use native.Mathlib.Omega.{arith}
use lib.Dec.{T, leb, eqb, le→leb, eqb→eq, eqb_refl}
use lib.ListN.{length, take, drop, take-append-drop}
use lib.Seq.{slice, slice_empty, take-suc, take-take, take-length, length-take-le, drop-append-le, ext_get_or}
use Rattle.bitset.specs.Below.{any_below}
use Rattle.bitset.proofs.Tests.{and_in, or_inl, is_true, is_false}
use Rattle.searches.specs.Ordering.{arcs, at}
use Rattle.adjacency.specs.Layout.{size_of, stands_in, arcs_listed, rows_listed, IsLayout}
use Rattle.adjacency.proofs.Layouts.{stands_out, offset_inside, neighbours_ascend, arcs_listed_lem, rows_length}
use Rattle.conversion.specs.Conversion.{numbers_below, neighbours_below, neighbours_of, offsets_of}
use Rattle.conversion.proofs.Numbers.{numbers_same, numbers_none, numbers_last}
use Rattle.conversion.proofs.Neighbours.{offsets_length, offsets_at}

slice_more : (begin e : ℕ) (list : List ℕ) → begin ≤ e → e < length list → slice begin (suc e) list ≡ slice begin e list ++ at list e ∷ []
slice_more begin e list l h =
    ap (λ (front : List ℕ). drop begin front) (take-suc list e 0 h)
    ∙ drop-append-le begin (take e list) (at list e ∷ []) (omega (arith, length-take-le e list (omega arith)))

-- the part from `begin` on has m entries; they ascend, and are below 64
numbers_slice : (list : List ℕ) (begin m : ℕ) → begin + m ≤ length list → ((e : ℕ) → e < length list → at list e < 64)
    → ((d e : ℕ) → begin ≤ d → d < e → e < begin + m → at list d < at list e)
    → numbers_below 64 (stands_in list begin (begin + m)) ≡ slice begin (begin + m) list
unfolding stands_in any_below
numbers_slice list begin zero l below ascend =
    let end : begin + 0 ≡ begin = omega arith in
    subst (λ (e : ℕ). numbers_below 64 (stands_in list begin e) ≡ slice begin e list) (sym end)
    (numbers_none 64 (stands_in list begin begin) (λ v _ t. let s = stands_out list begin begin v t in omega (arith, s.begun, s.before)) ∙ sym (slice_empty begin list))
numbers_slice list begin (suc m) l below ascend =
    let end : begin + suc m ≡ suc (begin + m) = omega arith in
    subst (λ (e : ℕ). numbers_below 64 (stands_in list begin e) ≡ slice begin e list) (sym end)
    (one_more (begin + m) (omega arith) (omega arith) (λ d h i. ascend d (begin + m) h i (omega arith))
    (numbers_slice list begin m (omega arith) below (λ d e h i j. ascend d e h i (omega arith))))
  where
    one_more : (e : ℕ) → begin ≤ e → e < length list → ((d : ℕ) → begin ≤ d → d < e → at list d < at list e)
        → numbers_below 64 (stands_in list begin e) ≡ slice begin e list
        → numbers_below 64 (stands_in list begin (suc e)) ≡ slice begin (suc e) list
    one_more e begun inside greatest rest =
        numbers_last 64 (stands_in list begin e) (stands_in list begin (suc e)) (at list e) (below e inside) here
        (λ v t. let s = stands_out list begin e v t in omega (arith, s.names, greatest s.position s.begun s.before))
        other
        ∙ ap (λ (part : List ℕ). part ++ at list e ∷ []) rest ∙ sym (slice_more begin e list begun inside)
      where
        here : T (stands_in list begin (suc e) (at list e))
        here =
            or_inl (leb begin e && eqb (at list e) (at list e)) (stands_in list begin e (at list e))
            (and_in (leb begin e) (eqb (at list e) (at list e)) (le→leb begin e begun) (eqb_refl (at list e)))

        other : (v : ℕ) → (at list e ≡ v → ⊥) → stands_in list begin (suc e) v ≡ stands_in list begin e v
        other v ne =
            ap₂ (λ (a b : Bool). (a && b) || stands_in list begin e v) (is_true (leb begin e) (le→leb begin e begun)) (is_false (eqb (at list e) v) (λ t. ne (eqb→eq (at list e) v t)))

module _ {offsets neighbours : List ℕ} (x : IsLayout offsets neighbours) where
  abbrev n : ℕ
  n = size_of offsets

  abbrev rows : List ℕ
  rows = rows_listed offsets neighbours

  small : n ≤ 64
  unfolding size_of
  small = omega (arith, x.few)

  own_slice : (u : ℕ) → u < n → numbers_below 64 (arcs rows u) ≡ slice (at offsets u) (at offsets (suc u)) neighbours
  unfolding arcs_listed
  own_slice u l =
      let rise = x.cover.rises u l in
      let end : at offsets u + (at offsets (suc u) - at offsets u) ≡ at offsets (suc u) = omega arith in
      numbers_same 64 (arcs rows u) (arcs_listed offsets neighbours u) (λ v _. arcs_listed_lem x u v)
      ∙ subst (λ (e : ℕ). numbers_below 64 (stands_in neighbours (at offsets u) e) ≡ slice (at offsets u) e neighbours) end
      (numbers_slice neighbours (at offsets u) (at offsets (suc u) - at offsets u) (omega (arith, offset_inside x.cover (suc u) l)) (λ e h. omega (arith, small, x.inside e h))
      (λ d e begun less last. neighbours_ascend x u d e l begun less (omega arith)))

  neighbours_taken : (u : ℕ) → u ≤ n → neighbours_below rows u ≡ take (at offsets u) neighbours
  unfolding neighbours_below
  neighbours_taken zero l = ap (λ (m : ℕ). take m neighbours) (sym x.cover.starts)
  neighbours_taken (suc u) l =
      ap₂ (λ (front part : List ℕ). front ++ part) (neighbours_taken u (omega arith) ∙ sym (take-take (at offsets u) (at offsets (suc u)) neighbours (x.cover.rises u l))) (own_slice u l)
      ∙ take-append-drop (at offsets u) (take (at offsets (suc u)) neighbours)

  pub offsets_back : offsets_of (rows_listed offsets neighbours) ≡ offsets
  unfolding size_of
  offsets_back = ext_get_or 0 (offsets_of rows) offsets long same
    where
      long : length (offsets_of rows) ≡ length offsets
      long = offsets_length rows ∙ omega (arith, rows_length offsets neighbours, x.cover.some)

      same : (u : ℕ) → u < length (offsets_of rows) → at (offsets_of rows) u ≡ at offsets u
      same u l =
          let upto : u ≤ length rows = omega (arith, offsets_length rows) in
          let last : u ≤ n = omega (arith, rows_length offsets neighbours) in
          offsets_at rows u upto ∙ ap length (neighbours_taken u last) ∙ length-take-le (at offsets u) neighbours (offset_inside x.cover u last)

  pub neighbours_back : neighbours_of (rows_listed offsets neighbours) ≡ neighbours
  unfolding neighbours_of
  neighbours_back =
      ap (neighbours_below rows) (rows_length offsets neighbours) ∙ neighbours_taken n (omega arith) ∙ ap (λ (m : ℕ). take m neighbours) x.cover.ends ∙ take-length neighbours
