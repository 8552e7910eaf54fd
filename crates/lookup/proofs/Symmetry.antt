-- Rows that are their own transpose: no vertex leads to one that does not lead back.
--   rows_within                    rows without a bit outside fit into a square
--   Gathered rows columns set u    the set holds the numbers in which the first u rows and columns differ
--   gathered_none, gathered_more, gathered_all
--   Comparing rows columns set u rest others    the same, and the two lists are what is left behind the first u rows and columns
--   comparing_none, comparing_more, comparing_all
--   differs_one_way                rows differ from their transpose where refusal 5 applies
-- Assumes nothing.
use mathlib.Core.Path.{◌≡◌, sym, ap, ap₂, ◌∙◌, subst}
use mathlib.Core.Bool.{Bool, false, not, ◌&&◌, ◌||◌, or_comm}
use mathlib.Core.List.{List, ◌∷◌}
use mathlib.Core.Logic.{◌⊎◌, inl, inr}
use Prim.Native.Nat.{ℕ, ◌+◌, ◌^◌, ◌≤◌, ◌<◌}
use native.Mathlib.Nat.{div-one}
use native.Mathlib.Numerals.{add-one}
use native.Mathlib.Omega.{arith}
use lib.Dec.{T, eqb, leb-zero}
use lib.Bits.{bit_or, bit_xor, or_lt, xor_lt}
use lib.ListN.{length, get_or, take, drop, length-drop, get_or-eq_default}
use lib.Seq.{get_or-take}
use Rattle.bitset.specs.Below.{any_below, differ}
use Rattle.bitset.specs.Word.{member, from_up}
use Rattle.bitset.specs.Matrix.{bit, Within, Columns}
use Rattle.bitset.proofs.Tests.{same_test, below_or}
use Rattle.bitset.proofs.Below.{any_out, any_at, any_same}
use Rattle.bitset.proofs.Sets.{differ_in, differ_one}
use Rattle.bitset.proofs.Word.{member_zero, member_or, member_xor, empty_back}
use Rattle.bitset.proofs.Chains.{rest_item}
use Rattle.bitset.proofs.WordOrder.{some_from}
use Rattle.searches.specs.Ordering.{arcs}
use Rattle.searches.specs.Answer.{bit_outside, one_way}
use Rattle.searches.proofs.Refusals.{bit_outside_in, one_way-out, one_way-in}
use Rattle.lookup.specs.Row.{differs_in}

module _ (rows : List ℕ) (small : length rows ≤ 64) (fits : bit_outside rows ≡ false) where
  -- a link is one of the vertices
  below_both : (u v : ℕ) → v < 64 → T (arcs rows u v) → (u < length rows) × (v < length rows)
  unfolding arcs
  below_both u v h t = go (below_or u (length rows)) (below_or v (length rows))
    where
      go : (u < length rows) ⊎ (length rows ≤ u) → (v < length rows) ⊎ (length rows ≤ v) → (u < length rows) × (v < length rows)
      go (inl l) (inl g) = (l, g)
      go (inl l) (inr g) = absurd (subst (λ (b : Bool). T b) fits (bit_outside_in rows u v l h g t))
      go (inr l) g = absurd (empty_back (get_or-eq_default rows 0 l) v t)

  pub rows_within : Within rows
  unfolding arcs
  rows_within = record { small = small; within = λ u v h t. (below_both u v h t).1 }

  -- ---- the rows compared with their transpose

  module _ {turned : List ℕ} (made : Columns rows turned) where
    abbrev columns : List ℕ
    columns = take (length rows) turned

    column_bit : (u p : ℕ) → u < length rows → p < 64 → bit columns u p ≡ arcs rows p u
    unfolding arcs
    column_bit u p l h = ap (λ (w : ℕ). member w p) (get_or-take (length rows) turned u 0 l) ∙ made.column p u h (omega arith)

    pub differs_one_way : any_below 64 (differs_in rows columns) ≡ one_way rows
    unfolding differs_in arcs
    differs_one_way = same_test (any_below 64 (differs_in rows columns)) (one_way rows) forth back
      where
        at_row : ℕ → ℕ → Bool
        at_row p u = differ (member (get_or rows u 0)) (member (get_or columns u 0)) p

        forth : T (any_below 64 (differs_in rows columns)) → T (one_way rows)
        forth t =
            let x = any_out 64 (differs_in rows columns) t in
            let y = any_out (length rows) (at_row x.at) x.holds in
            go x.at y.at x.below y.below (differ_one (member (get_or rows y.at 0)) (member (get_or columns y.at 0)) x.at y.holds)
          where
            go : (p u : ℕ) → p < 64 → u < length rows
                → (T (arcs rows u p) × (T (bit columns u p) → ⊥)) ⊎ (T (bit columns u p) × (T (arcs rows u p) → ⊥)) → T (one_way rows)
            go p u h l (inl d) =
                one_way-in rows u p l (below_both u p h d.0).1 d.0 (λ t. d.1 (subst (λ (b : Bool). T b) (sym (column_bit u p l h)) t))
            go p u h l (inr d) =
                let t = subst (λ (b : Bool). T b) (column_bit u p l h) d.0 in
                one_way-in rows p u (below_both p u (omega arith) t).0 l t d.1

        back : T (one_way rows) → T (any_below 64 (differs_in rows columns))
        back t =
            let x = one_way-out rows t in
            let u = x.0 in
            let v = x.1 in
            any_at 64 (differs_in rows columns) v (omega arith)
            (any_at (length rows) (at_row v) u x.2
            (differ_in (member (get_or rows u 0)) (member (get_or columns u 0)) v x.4 (λ t. x.5 (subst (λ (b : Bool). T b) (column_bit u v x.2 (omega arith)) t))))

-- ---- what differs, gathered in one word

pub record Gathered (rows columns : List ℕ) (set u : ℕ) : Type 0 where
  pub upto : u ≤ length rows
  pub word : set < 2 ^ 64
  pub members : (p : ℕ) → member set p ≡ any_below u (λ i. differ (member (get_or rows i 0)) (member (get_or columns i 0)) p)

pub gathered_none : (rows columns : List ℕ) → Gathered rows columns 0 0
unfolding any_below
gathered_none rows columns = record { upto = omega arith; word = omega arith; members = member_zero }

module _ {rows columns : List ℕ} {set u : ℕ} (g : Gathered rows columns set u) where
  pub gathered_more : u < length rows → get_or rows u 0 < 2 ^ 64 → get_or columns u 0 < 2 ^ 64 → Gathered rows columns (bit_or set (bit_xor (get_or rows u 0) (get_or columns u 0))) (u + 1)
  unfolding any_below
  gathered_more l row column = record {
    upto = omega arith;
    word = or_lt 64 set (bit_xor x y) g.word (xor_lt 64 x y row column);
    members = λ p.
        member_or set (bit_xor x y) p ∙ or_comm (member set p) (member (bit_xor x y) p) ∙ ap₂ (λ (a b : Bool). a || b) (member_xor x y p) (g.members p)
        ∙ ap (λ (m : ℕ). any_below m (λ i. differ (member (get_or rows i 0)) (member (get_or columns i 0)) p)) (sym (add-one u));
  }
    where
      x : ℕ
      x = get_or rows u 0

      y : ℕ
      y = get_or columns u 0

  pub gathered_all : length rows ≤ u → not (eqb set 0) ≡ any_below 64 (differs_in rows columns)
  unfolding differs_in from_up
  gathered_all over =
      let all : u ≡ length rows = omega (arith, g.upto) in
      ap (λ (x : ℕ). not (eqb x 0)) (sym (div-one set)) ∙ some_from 64 g.word 0
      ∙ any_same 64 (from_up 0 set) (differs_in rows columns)
      (λ p l.
      ap (λ (b : Bool). b && member set p) (leb-zero p) ∙ g.members p
      ∙ ap (λ (m : ℕ). any_below m (λ i. differ (member (get_or rows i 0)) (member (get_or columns i 0)) p)) all)

-- ---- the rows and columns gone through together

pub record Comparing (rows columns : List ℕ) (set u : ℕ) (rest others : List ℕ) : Type 0 where
  pub gathered : Gathered rows columns set u
  pub rows_left : rest ≡ drop u rows
  pub columns_left : others ≡ drop u columns

pub comparing_none : (rows columns : List ℕ) {rest others : List ℕ} → rest ≡ rows → others ≡ columns → Comparing rows columns 0 0 rest others
comparing_none rows columns a b = record { gathered = gathered_none rows columns; rows_left = a; columns_left = b }

module _ {rows columns : List ℕ} {set u : ℕ} {rest others : List ℕ} (g : Comparing rows columns set u rest others) where
  pub comparing_more : {x y m : ℕ} {left right : List ℕ} → rest ≡ x ∷ left → others ≡ y ∷ right → m ≡ u + 1
      → get_or rows u 0 < 2 ^ 64 → get_or columns u 0 < 2 ^ 64 → Comparing rows columns (bit_or set (bit_xor x y)) m left right
  comparing_more {x} {y} {m} {left} {right} first second onward row column =
      let a = rest_item rows 0 u (sym first ∙ g.rows_left) in
      let b = rest_item columns 0 u (sym second ∙ g.columns_left) in
      record {
        gathered =
            subst (λ (w : ℕ). Gathered rows columns (bit_or set w) m) (sym (ap₂ bit_xor a.1 b.1))
            (subst (λ (n : ℕ). Gathered rows columns (bit_or set (bit_xor (get_or rows u 0) (get_or columns u 0))) n) (sym onward) (gathered_more g.gathered a.0 row column));
        rows_left = a.2 ∙ ap (λ (n : ℕ). drop n rows) (sym onward);
        columns_left = b.2 ∙ ap (λ (n : ℕ). drop n columns) (sym onward);
      }

  pub comparing_all : length columns ≡ length rows → (length rest ≡ 0) ⊎ (length others ≡ 0) → not (eqb set 0) ≡ any_below 64 (differs_in rows columns)
  comparing_all as_many end = gathered_all g.gathered (go end)
    where
      go : (length rest ≡ 0) ⊎ (length others ≡ 0) → length rows ≤ u
      go (inl e) = omega (arith, ap length g.rows_left, length-drop u rows)
      go (inr e) = omega (arith, ap length g.columns_left, length-drop u columns)
