-- Rows copied to the front of an empty square and transposed there.
--   copied_bit         the square has the rows' bits
--   copied_inside      they stand in its first rows and columns
--   turned_columns     transposed, it holds the columns
-- Assumes nothing.
use Prim.Native.Nat.{ℕ, ◌+◌, ◌-◌, ◌≤◌, ◌<◌}
use mathlib.Core.Path.{◌≡◌, sym, ap, ◌∙◌, subst}
use mathlib.Core.Bool.{Bool}
use mathlib.Core.List.{List, ◌++◌}
use mathlib.Core.Logic.{◌⊎◌, inl, inr}
use native.Mathlib.Omega.{arith}
use lib.Dec.{T}
use lib.ListN.{length, get_or, drop, replicate, length-append, length-drop, length-replicate, get_or-replicate, get_or-append, get_or-eq_default}
use lib.Seq.{get_or-append-add, get_or-drop}
use Rattle.bitset.specs.Word.{member}
use Rattle.bitset.specs.Matrix.{bit, Inside, Within, Columns, Transpose}
use Rattle.bitset.proofs.Tests.{below_or}
use Rattle.bitset.proofs.Word.{empty_back}

module _ (rows : List ℕ) (within : Within rows) where
  abbrev square : List ℕ
  square = rows ++ drop (length rows) (replicate 64 0)

  square_length : length square ≡ 64
  square_length =
      omega (arith, within.small, length-append rows (drop (length rows) (replicate 64 0)), length-drop (length rows) (replicate {A = ℕ} 64 0), length-replicate {A = ℕ} 64 0)

  pub copied_bit : (u v : ℕ) → u < 64 → bit square u v ≡ bit rows u v
  copied_bit u v h = ap (λ (w : ℕ). member w v) (go (below_or u (length rows)))
    where
      go : (u < length rows) ⊎ (length rows ≤ u) → get_or square u 0 ≡ get_or rows u 0
      go (inl l) = get_or-append rows (drop (length rows) (replicate 64 0)) 0 u l
      go (inr l) =
          let behind : length rows + (u - length rows) ≡ u = omega arith in
          subst (λ (x : ℕ). get_or square x 0 ≡ 0) behind
          (get_or-append-add rows (drop (length rows) (replicate 64 0)) (u - length rows) 0
          ∙ get_or-drop (length rows) (replicate 64 0) (u - length rows) 0
          ∙ get_or-replicate 64 (length rows + (u - length rows)) 0 0 (omega arith))
          ∙ sym (get_or-eq_default rows 0 l)

  -- a row that is not there has no bit
  row_there : (u v : ℕ) → T (bit rows u v) → u < length rows
  row_there u v t = go (below_or u (length rows))
    where
      go : (u < length rows) ⊎ (length rows ≤ u) → u < length rows
      go (inl l) = l
      go (inr l) = absurd (empty_back (get_or-eq_default rows 0 l) v t)

  pub copied_inside : Inside (length rows) square
  copied_inside = record {
    full = square_length;
    inside = λ u v l h t. let there = subst (λ (b : Bool). T b) (copied_bit u v l) t in (row_there u v there, within.within u v h there);
  }

  pub turned_columns : {columns : List ℕ} → Transpose square columns → Columns rows columns
  turned_columns turned = record {
    full = turned.as_many ∙ square_length;
    column = λ u v l h. turned.swapped u v l h ∙ copied_bit u v l;
  }
