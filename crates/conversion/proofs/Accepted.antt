-- What the tests of one layout accept, those of the other accept: the same graph is refused in neither.
--   form_accepted      no case of refusal 26 applies to a layout
--   rows_within        rows that are accepted have no bit outside
--   same_tests         refusals 4 and 5 are the same of equal arcs
--   lists_accepted     the layout of rows that are accepted is accepted
--   accepted_formed, accepted_layout, listed_layout   lists that are accepted are a layout
--   rows_accepted      the rows of a layout that is accepted are accepted
-- Assumes nothing.
use Prim.Native.Nat.{ℕ, suc, ◌-◌, ◌≤◌, ◌<◌}
use mathlib.Core.Path.{◌≡◌, sym, ap, ap₂, ◌∙◌, subst}
use mathlib.Core.Bool.{Bool, not, ◌&&◌}
use mathlib.Core.List.{List, ◌∷◌}
use mathlib.Core.Logic.{◌⊎◌, inl, inr}
use mathlib.Core.Option.{none}
use native.Mathlib.Omega.{arith}
use lib.Dec.{T, ltb, leb, eqb, ltb→lt, leb→le, eqb→eq, eqb_refl, nltb→le, not_T, T_not}
use lib.ListN.{length, get_or-eq_default}
use Rattle.bitset.specs.Below.{any_below}
use Rattle.bitset.specs.Matrix.{Within}
use Rattle.bitset.proofs.Tests.{and_out, below_or}
use Rattle.bitset.proofs.Below.{any_out, any_same}
use Rattle.bitset.proofs.Word.{empty_back}
use Rattle.searches.specs.Ordering.{arcs, at}
use Rattle.searches.specs.Answer.{bit_outside, self_loop, one_way, is_two_way, vertex_outside, first_refusal, Accepts}
use Rattle.searches.specs.declared.Mark.{Mark}
use Rattle.searches.proofs.Refusals.{none_accepts, bit_outside_out, bit_outside_in, vertex_outside_out}
use Rattle.searches.proofs.Answers.{accepts_both, both_accept}
use Rattle.adjacency.specs.Layout.{size_of, arcs_listed, falls_at, unsorted_at, unsorted_in, form_tests, self_loop_in, one_way_in, listed_tests, rows_listed, IsLayout}
use Rattle.adjacency.proofs.Layouts.{layout_of, arc_to, arcs_listed_lem, rows_length}
use Rattle.conversion.specs.Conversion.{neighbours_of, offsets_of, rows_tests}
use Rattle.conversion.proofs.Neighbours.{offsets_length, size_rows}
use Rattle.conversion.proofs.OfRows.{arcs_laid, rows_layout}

-- two numbers that are equal do not differ
not_other : {m n : ℕ} → m ≡ n → T (not (eqb m n)) → ⊥
not_other {m} {n} e t = T_not (eqb m n) t (subst (λ (x : ℕ). T (eqb m x)) e (eqb_refl m))

pub form_accepted : {offsets neighbours : List ℕ} → IsLayout offsets neighbours → Accepts (form_tests offsets neighbours)
unfolding form_tests falls_at unsorted_at unsorted_in
form_accepted {offsets} {neighbours} x = (some, (not_other x.cover.starts, (falls, (not_other x.cover.ends, (unsorted, (outside, tt))))))
  where
    some : T (eqb (length offsets) 0) → ⊥
    some t = let none : length offsets ≡ 0 = eqb→eq (length offsets) 0 t in omega (arith, x.cover.some)

    falls : T (any_below (size_of offsets) (falls_at offsets)) → ⊥
    falls t =
        let s = any_out (size_of offsets) (falls_at offsets) t in
        let less : at offsets (suc s.at) < at offsets s.at = ltb→lt _ _ s.holds in
        omega (arith, x.cover.rises s.at s.below)

    unsorted : T (any_below (size_of offsets) (unsorted_at offsets neighbours)) → ⊥
    unsorted t =
        let s = any_out (size_of offsets) (unsorted_at offsets neighbours) t in
        let u : ℕ = s.at in
        let y = any_out (at offsets (suc u)) (λ e. ltb (at offsets u) e && leb (at neighbours e) (at neighbours (e - 1))) s.holds in
        let both = and_out (ltb (at offsets u) y.at) (leb (at neighbours y.at) (at neighbours (y.at - 1))) y.holds in
        let begun : at offsets u < y.at = ltb→lt _ _ both.0 in
        let here : suc (y.at - 1) ≡ y.at = omega arith in
        let more = x.ascends u (y.at - 1) s.below (omega arith) (omega (arith, y.below)) in
        let same : at neighbours (suc (y.at - 1)) ≡ at neighbours y.at = ap (λ (p : ℕ). at neighbours p) here in
        let most : at neighbours y.at ≤ at neighbours (y.at - 1) = leb→le _ _ both.1 in
        omega arith

    outside : T (vertex_outside (size_of offsets) neighbours (length neighbours)) → ⊥
    outside t = let s = vertex_outside_out neighbours (length neighbours) (size_of offsets) t in omega (arith, s.2, x.inside s.0 s.1)

-- ---- the tests on the arcs

module _ (arc : ℕ → ℕ → Bool) (rows : List ℕ) (same : (u v : ℕ) → u < length rows → v < length rows → arc u v ≡ arcs rows u v) where
  pub same_tests : (self_loop_in (length rows) arc ≡ self_loop rows) × (one_way_in (length rows) arc ≡ one_way rows)
  unfolding self_loop_in self_loop one_way_in one_way
  same_tests = (
    any_same (length rows) (λ u. arc u u) (λ u. arcs rows u u) (λ u l. same u u l l),
    any_same (length rows) (λ u. any_below (length rows) (λ v. arc u v && not (arc v u))) (λ u. any_below (length rows) (λ v. arcs rows u v && not (arcs rows v u))) (λ u l.
        any_same (length rows) (λ v. arc u v && not (arc v u)) (λ v. arcs rows u v && not (arcs rows v u)) (λ v h.
        ap₂ (λ (a b : Bool). a && not b) (same u v l h) (same v u h l))),
  )

module _ (mark : Mark) (rows : List ℕ) (accepted : Accepts (rows_tests mark rows)) where
  pub rows_within : Within rows
  unfolding rows_tests arcs
  rows_within = record {
    small = nltb→le 64 (length rows) (not_T (ltb 64 (length rows)) accepted.0);
    within = λ u v h t. go u v h t (below_or u (length rows)) (below_or v (length rows));
  }
    where
      go : (u v : ℕ) → v < 64 → T (arcs rows u v) → (u < length rows) ⊎ (length rows ≤ u) → (v < length rows) ⊎ (length rows ≤ v) → v < length rows
      go u v h t a (inl l) = l
      go u v h t (inl l) (inr g) = absurd (accepted.1.0 (bit_outside_in rows u v l h g t))
      go u v h t (inr l) (inr g) = absurd (empty_back (get_or-eq_default rows 0 l) v t)

  pub lists_accepted : Accepts (listed_tests mark (offsets_of rows) (neighbours_of rows))
  unfolding rows_tests listed_tests
  lists_accepted =
      let x = rows_layout rows rows_within in
      let small = rows_within.small in
      let size = size_rows rows in
      let arc : ℕ → ℕ → Bool = arcs_listed (offsets_of rows) (neighbours_of rows) in
      let tests = same_tests arc rows (λ u v l h. arcs_laid rows u v l (omega arith)) in
      let loops = ap (λ (m : ℕ). self_loop_in m arc) size ∙ tests.0 in
      let ways = ap (λ (b : Bool). is_two_way mark && b) (ap (λ (m : ℕ). one_way_in m arc) size ∙ tests.1) in
      both_accept ((2, ltb 65 (length (offsets_of rows))) ∷ form_tests (offsets_of rows) (neighbours_of rows)) _
      (λ t. let many : 65 < length (offsets_of rows) = ltb→lt _ _ t in omega (arith, offsets_length rows), form_accepted x)
      (λ t. accepted.1.1.0 (subst (λ (b : Bool). T b) loops t), (λ t. accepted.1.1.1.0 (subst (λ (b : Bool). T b) ways t), tt))

module _ (mark : Mark) (offsets neighbours : List ℕ) (accepted : Accepts (listed_tests mark offsets neighbours)) where
  -- 2 and 26, which come first
  first_accepted : Accepts ((2, ltb 65 (length offsets)) ∷ form_tests offsets neighbours)
  unfolding listed_tests
  first_accepted = (accepts_both ((2, ltb 65 (length offsets)) ∷ form_tests offsets neighbours) _ accepted).0

  pub accepted_formed : Accepts (form_tests offsets neighbours)
  accepted_formed = first_accepted.1

  pub accepted_layout : IsLayout offsets neighbours
  accepted_layout = layout_of offsets neighbours (nltb→le 65 (length offsets) (not_T (ltb 65 (length offsets)) first_accepted.0)) accepted_formed

  abbrev rows : List ℕ
  rows = rows_listed offsets neighbours

  outside : T (bit_outside (rows_listed offsets neighbours)) → ⊥
  outside t =
      let y = bit_outside_out rows t in
      let arc = subst (λ (b : Bool). T b) (arcs_listed_lem accepted_layout y.0 y.1) y.5 in
      omega (arith, y.4, rows_length offsets neighbours, arc_to accepted_layout y.0 y.1 arc)

  pub rows_accepted : Accepts (rows_tests mark (rows_listed offsets neighbours))
  unfolding rows_tests listed_tests size_of
  rows_accepted =
      let a = (accepts_both ((2, ltb 65 (length offsets)) ∷ form_tests offsets neighbours) _ accepted).1 in
      let size = rows_length offsets neighbours in
      let tests = same_tests (arcs_listed offsets neighbours) rows (λ u v l h. sym (arcs_listed_lem accepted_layout u v)) in
      let loops = sym tests.0 ∙ ap (λ (m : ℕ). self_loop_in m (arcs_listed offsets neighbours)) size in
      let ways = ap (λ (b : Bool). is_two_way mark && b) (sym tests.1 ∙ ap (λ (m : ℕ). one_way_in m (arcs_listed offsets neighbours)) size) in (
        λ t. let many : 64 < length rows = ltb→lt _ _ t in omega (arith, size, accepted_layout.few),
        (outside, (λ t. a.0 (subst (λ (b : Bool). T b) loops t), (λ t. a.1.0 (subst (λ (b : Bool). T b) ways t), tt))),
      )

pub listed_layout : (mark : Mark) (offsets neighbours : List ℕ) → none ≡ first_refusal (listed_tests mark offsets neighbours) → IsLayout offsets neighbours
listed_layout mark offsets neighbours e = accepted_layout mark offsets neighbours (none_accepts (listed_tests mark offsets neighbours) (sym e))
