-- The test for the middle position of a gap, on words: among the vertices before it, those that are linked to the one at the top must all be linked to it.
--   middle_told      what the words say where the set holds the vertices before
-- Assumes nothing.
use Prim.Native.Nat.{ℕ, ◌<◌}
use mathlib.Core.Path.{◌≡◌, refl, sym, ap, ◌∙◌, subst}
use mathlib.Core.Bool.{Bool, not, ◌&&◌}
use mathlib.Core.List.{List}
use native.Mathlib.Omega.{arith}
use lib.Dec.{T, T_not, not_T}
use lib.ListN.{length, get_or}
use Rattle.bitset.specs.Below.{within}
use Rattle.bitset.specs.Word.{member, common}
use Rattle.bitset.proofs.Tests.{and_in, and_out, same_test}
use Rattle.bitset.proofs.Below.{any_out, any_at}
use Rattle.bitset.proofs.Sets.{within_out, not_within}
use Rattle.bitset.proofs.Word.{member_common}
use Rattle.searches.specs.Ordering.{arcs, at}
use Rattle.searches.proofs.Ordering.{placed_in, placed_out}
use Rattle.lookup.proofs.Seen.{Seen}
use Rattle.chordal.specs.Descent.{joined, is_gap, is_middle}
use Rattle.chordal.specs.Lists.{Ordered}

module _ (rows w : List ℕ) (ordered : Ordered rows w) (l j before : ℕ) (below : j < l) (inside : l < length rows) (seen : Seen w before j) where
  abbrev row : ℕ → ℕ
  row p = get_or rows (at w p) 0

  abbrev filled : Bool
  filled = within 64 (member (common (row l) before)) (member (row j))

  -- the row of either of two vertices tells whether they are linked
  turned : (p q : ℕ) → p < length rows → q < length rows → member (row p) (at w q) ≡ joined (arcs rows) w q p
  unfolding arcs
  turned p q h k = ordered.both_ways (at w p) (at w q) (ordered.all.vertices p h) (ordered.all.vertices q k)

  gap_told : T (member (row l) (at w j) && not filled) → T (is_middle (arcs rows) w l j)
  unfolding is_middle is_gap
  gap_told t =
      let x = and_out (member (row l) (at w j)) (not filled) t in
      let v = not_within 64 (member (common (row l) before)) (member (row j)) (T_not filled x.1) in
      let both = and_out (member (row l) v.0) (member before v.0) (subst (λ (b : Bool). T b) (member_common (row l) before v.0) v.2) in
      let p = placed_out w j v.0 (subst (λ (b : Bool). T b) (seen.members v.0) both.1) in
      let i = p.0 in
      let linked = subst (λ (b : Bool). T b) (ap (member (row l)) (sym p.2) ∙ turned l i inside (omega (arith, p.1))) both.0 in
      any_at j (is_gap (arcs rows) w l j) i p.1
      (and_in (joined (arcs rows) w j l) (joined (arcs rows) w i l && not (joined (arcs rows) w i j))
      (subst (λ (b : Bool). T b) (turned l j inside (omega arith)) x.0)
      (and_in (joined (arcs rows) w i l) (not (joined (arcs rows) w i j)) linked
      (not_T (joined (arcs rows) w i j) (λ t. v.3 (subst (λ (b : Bool). T b) (sym (ap (member (row j)) (sym p.2) ∙ turned j i (omega arith) (omega (arith, p.1)))) t)))))

  told_gap : T (is_middle (arcs rows) w l j) → T (member (row l) (at w j) && not filled)
  unfolding is_middle is_gap
  told_gap t =
      let s = any_out j (is_gap (arcs rows) w l j) t in
      let i = s.at in
      let x = and_out (joined (arcs rows) w j l) (joined (arcs rows) w i l && not (joined (arcs rows) w i j)) s.holds in
      let y = and_out (joined (arcs rows) w i l) (not (joined (arcs rows) w i j)) x.1 in
      let small : at w i < 64 = omega (arith, ordered.small, ordered.all.vertices i (omega (arith, s.below))) in
      and_in (member (row l) (at w j)) (not filled)
      (subst (λ (b : Bool). T b) (sym (turned l j inside (omega arith))) x.0)
      (not_T filled (λ f.
      T_not (joined (arcs rows) w i j) y.1
      (subst (λ (b : Bool). T b) (turned j i (omega arith) (omega (arith, s.below)))
      (within_out 64 (member (common (row l) before)) (member (row j)) f (at w i) small
      (subst (λ (b : Bool). T b) (sym (member_common (row l) before (at w i)))
      (and_in (member (row l) (at w i)) (member before (at w i))
      (subst (λ (b : Bool). T b) (sym (turned l i inside (omega (arith, s.below)))) y.0)
      (subst (λ (b : Bool). T b) (sym (seen.members (at w i))) (placed_in w j (at w i) i s.below refl))))))))

  pub middle_told : (member (row l) (at w j) && not filled) ≡ is_middle (arcs rows) w l j
  middle_told = same_test (member (row l) (at w j) && not filled) (is_middle (arcs rows) w l j) gap_told told_gap
