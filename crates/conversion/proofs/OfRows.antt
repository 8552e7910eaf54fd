-- The layout of rows is a layout, with the arcs of the rows, and it leads back to the rows.
--   arcs_laid          its arcs are those of the rows
--   rows_layout        it is a layout
--   rows_back          its rows are the rows that it was made of
-- Assumes nothing.
use Prim.Native.Nat.{ℕ, suc, ◌+◌, ◌-◌, ◌≤◌, ◌<◌}
use mathlib.Core.Path.{◌≡◌, sym, ap, ap₂, ◌∙◌, subst}
use mathlib.Core.List.{List}
use native.Mathlib.Omega.{arith}
use lib.Dec.{T}
use lib.ListN.{length, get_or}
use lib.Seq.{ext_get_or}
use Rattle.bitset.specs.Word.{member}
use Rattle.bitset.specs.Matrix.{AreWords, Within}
use Rattle.bitset.proofs.Tests.{same_test}
use Rattle.bitset.proofs.Word.{equal_members}
use Rattle.searches.specs.Ordering.{arcs, at}
use Rattle.adjacency.specs.Layout.{size_of, stands_in, arcs_listed, rows_listed, IsCover, IsLayout}
use Rattle.adjacency.proofs.Rows.{rows_of_words}
use Rattle.adjacency.proofs.Layouts.{stands_out, stands_at, arcs_listed_lem, rows_length}
use Rattle.conversion.specs.Conversion.{numbers_below, neighbours_below, neighbours_of, offsets_of}
use Rattle.conversion.proofs.Numbers.{numbers_sound, numbers_ascend, numbers_listed}
use Rattle.conversion.proofs.Neighbours.{offsets_length, offsets_at, size_rows, neighbours_more, neighbours_grow, neighbours_at, neighbours_inside}

module _ (rows : List ℕ) where
  abbrev offsets : List ℕ
  offsets = offsets_of rows

  abbrev neighbours : List ℕ
  neighbours = neighbours_of rows

  abbrev own : ℕ → List ℕ
  own u = numbers_below 64 (arcs rows u)

  abbrev before : ℕ → ℕ
  before u = length (neighbours_below rows u)

  pub arcs_laid : (u v : ℕ) → u < length rows → v < 64 → arcs_listed (offsets_of rows) (neighbours_of rows) u v ≡ arcs rows u v
  unfolding arcs_listed
  arcs_laid u v l h =
      ap₂ (λ (a b : ℕ). stands_in neighbours a b v) (offsets_at rows u (omega arith)) (offsets_at rows (suc u) l)
      ∙ same_test (stands_in neighbours (before u) (before (suc u)) v) (arcs rows u v) forth back
    where
      forth : T (stands_in neighbours (before u) (before (suc u)) v) → T (arcs rows u v)
      forth t =
          let s = stands_out neighbours (before u) (before (suc u)) v t in
          let i : ℕ = s.position - before u in
          let here : before u + i ≡ s.position = omega (arith, s.begun) in
          let inside : i < length (own u) = omega (arith, s.begun, s.before, neighbours_more rows u) in
          subst (λ (x : ℕ). T (arcs rows u x)) (sym (neighbours_at rows u i l inside) ∙ ap (λ (p : ℕ). at neighbours p) here ∙ s.names)
          (numbers_sound 64 (arcs rows u) i inside).1

      back : T (arcs rows u v) → T (stands_in neighbours (before u) (before (suc u)) v)
      back t =
          let x = numbers_listed 64 (arcs rows u) v h t in
          stands_at neighbours (before u) (before (suc u)) v (record {
            position = before u + x.place;
            begun = omega arith;
            before = omega (arith, x.inside, neighbours_more rows u);
            names = neighbours_at rows u x.place l x.inside ∙ x.names;
          })

  module _ (within : Within rows) where
    covers : IsCover (offsets_of rows) (neighbours_of rows)
    unfolding neighbours_of neighbours_below
    covers = record {
      some = omega (arith, offsets_length rows);
      starts = offsets_at rows 0 (omega arith);
      rises = λ u l.
          let h : suc u ≤ length rows = omega (arith, size_rows rows) in
          omega (arith, offsets_at rows u (omega arith), offsets_at rows (suc u) h, neighbours_grow rows u (suc u) (omega arith));
      ends = ap (λ (u : ℕ). at offsets u) (size_rows rows) ∙ offsets_at rows (length rows) (omega arith);
    }

    ascend : (u e : ℕ) → u < length rows → before u ≤ e → suc e < before (suc u) → at neighbours e < at neighbours (suc e)
    ascend u e l begun last =
        let i : ℕ = e - before u in
        let here : before u + i ≡ e = omega arith in
        let next : before u + suc i ≡ suc e = omega arith in
        let inside : suc i < length (own u) = omega (arith, neighbours_more rows u) in
        let one = neighbours_at rows u i l (omega arith) in
        let two = neighbours_at rows u (suc i) l inside in
        let less : at neighbours (before u + i) < at neighbours (before u + suc i) = omega (arith, one, two, numbers_ascend 64 (arcs rows u) i inside) in
        subst (λ (p : ℕ). at neighbours p < at neighbours (suc e)) here (subst (λ (q : ℕ). at neighbours (before u + i) < at neighbours q) next less)

    pub rows_layout : IsLayout (offsets_of rows) (neighbours_of rows)
    rows_layout = record {
      few = omega (arith, offsets_length rows, within.small);
      cover = covers;
      ascends = λ u e l begun last.
          let h : u < length rows = omega (arith, size_rows rows) in
          ascend u e h (omega (arith, offsets_at rows u (omega arith))) (omega (arith, offsets_at rows (suc u) h));
      inside = λ e l. subst (λ (m : ℕ). at neighbours e < m) (sym (size_rows rows)) (neighbours_inside rows within e l);
    }

    -- every bit of the rows is that of the rows that the layout stands for
    bit_back : (u v : ℕ) → u < length rows → v < 64 → member (get_or (rows_listed (offsets_of rows) (neighbours_of rows)) u 0) v ≡ member (get_or rows u 0) v
    unfolding arcs
    bit_back u v l h = arcs_listed_lem rows_layout u v ∙ arcs_laid u v l h

    listed_words : AreWords (rows_listed (offsets_of rows) (neighbours_of rows))
    unfolding rows_listed
    listed_words = rows_of_words (size_of offsets) (arcs_listed offsets neighbours)

    pub rows_back : AreWords rows → rows_listed (offsets_of rows) (neighbours_of rows) ≡ rows
    rows_back words =
        let long : length (rows_listed offsets neighbours) ≡ length rows = rows_length offsets neighbours ∙ size_rows rows in
        ext_get_or 0 (rows_listed offsets neighbours) rows long (λ u l. equal_members 64 (listed_words u) (words u) (λ v h. bit_back u v (omega (arith, long)) h))
