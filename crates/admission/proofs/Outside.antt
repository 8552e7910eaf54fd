-- The tests on a table, row by row and word by word.
--   none_below                   a search that finds nothing finds nothing at each number
--   word_outside n table u i      word i of the row of u has a bit at or above n
--   word_outside_lem                 it is asked of the word itself, from n - 64 * i up
--   outside_by_words             a row has such a bit where one of its eight words has
--   word_inside                  where a row has no such bit, a bit of one of its words is one of the n vertices
--   one_sided_word               the vertices of a word that do not have u in their own rows
--   one_sided_inside             where the row of u has no bit outside they are among the n vertices
--   outside_table, loop_table, one_way_table    refusals 3, 4 and 5 are asked row by row
-- Assumes nothing.
use mathlib.Core.Path.{◌≡◌, refl, sym, ap, ap₂, subst}
use mathlib.Core.Bool.{Bool, false, not, ◌&&◌}
use mathlib.Core.List.{List}
use mathlib.Core.Logic.{◌⊎◌, inl, inr}
use Prim.Native.Nat.{ℕ, ◌+◌, ◌*◌, ◌-◌, ◌/◌, ◌≤◌, ◌<◌}
use native.Mathlib.Omega.{arith}
use lib.Dec.{T, leb, leb→le, le→leb}
use lib.ListN.{length, get_or}
use Rattle.bitset.specs.Below.{any_below}
use Rattle.bitset.specs.Word.{member, from_up}
use Rattle.bitset.proofs.Tests.{and_in, and_out, same_test, is_false, below_or}
use Rattle.bitset.proofs.Below.{any_at, any_same, any_fewer}
use Rattle.searches.specs.Table.{arcs_wide, size_wide}
use Rattle.searches.specs.Wide.{bit_outside_wide, self_loop_wide, one_way_wide}
use Rattle.admission.specs.Checked.{outside_in, one_sided_in}
use Rattle.tables.specs.Rows.{row_of}
use Rattle.tables.proofs.Bits.{row_word_at, row_below, any_words}

pub none_below : (n : ℕ) (f : ℕ → Bool) → any_below n f ≡ false → (i : ℕ) → i < n → f i ≡ false
none_below n f none i l = is_false (f i) (λ t. subst (λ (b : Bool). T b) none (any_at n f i l t))

-- bit q of word i of a row
word_bit : (table : List ℕ) (u i q : ℕ) → i < 8 → q < 64 → arcs_wide 8 table u (64 * i + q) ≡ member (get_or table (8 * u + i) 0) q
unfolding row_of
word_bit = row_word_at

-- ---- bits at or above n

abbrev pub word_outside : ℕ → List ℕ → ℕ → ℕ → Bool
word_outside n table u i = any_below 64 (λ q. leb n (64 * i + q) && arcs_wide 8 table u (64 * i + q))

pub word_outside_lem : (n : ℕ) (table : List ℕ) (u i : ℕ) {from : ℕ} → i < 8 → from ≡ n - 64 * i
    → any_below 64 (from_up from (get_or table (8 * u + i) 0)) ≡ word_outside n table u i
unfolding from_up
word_outside_lem n table u i {from} l e =
    any_same 64 (from_up from (get_or table (8 * u + i) 0)) (λ q. leb n (64 * i + q) && arcs_wide 8 table u (64 * i + q))
    (λ q h. ap₂ (λ (a b : Bool). a && b) (from_there q) (sym (word_bit table u i q l h)))
  where
    from_there : (q : ℕ) → leb from q ≡ leb n (64 * i + q)
    from_there q =
        same_test (leb from q) (leb n (64 * i + q)) (λ t. le→leb n (64 * i + q) (omega (arith, e, leb→le from q t)))
        (λ t. le→leb from q (omega (arith, e, leb→le n (64 * i + q) t)))

pub outside_by_words : (n : ℕ) (table : List ℕ) (u : ℕ) → outside_in n table u ≡ any_below 8 (word_outside n table u)
unfolding outside_in
outside_by_words n table u = any_words (λ v. leb n v && arcs_wide 8 table u v)

-- where the row of u has none
module _ (n : ℕ) (table : List ℕ) (u : ℕ) (none : outside_in n table u ≡ false) where
  row_inside : (v : ℕ) → T (arcs_wide 8 table u v) → v < n
  unfolding outside_in
  row_inside v t = go (below_or v n)
    where
      go : (v < n) ⊎ (n ≤ v) → v < n
      go (inl l) = l
      go (inr l) =
          absurd (subst (λ (b : Bool). T b) none
          (any_at 512 (λ v. leb n v && arcs_wide 8 table u v) v (row_below table u v t) (and_in (leb n v) (arcs_wide 8 table u v) (le→leb n v l) t)))

  pub word_inside : (i q : ℕ) → i < 8 → q < 64 → T (member (get_or table (8 * u + i) 0) q) → 64 * i + q < n
  word_inside i q l h t = row_inside (64 * i + q) (subst (λ (b : Bool). T b) (sym (word_bit table u i q l h)) t)

  pub one_sided_inside : n ≤ 512 → any_below 512 (one_sided_in table u) ≡ any_below n (one_sided_in table u)
  unfolding one_sided_in
  one_sided_inside l =
      any_fewer n 512 l (one_sided_in table u) (one_sided_in table u) (λ v _. refl)
      (λ v t. row_inside v (and_out (arcs_wide 8 table u v) (not (arcs_wide 8 table v u)) t).0)

-- ---- links in one row only

pub one_sided_word : (table : List ℕ) (u i : ℕ) → i < 8
    → any_below 64 (λ q. member (get_or table (8 * u + i) 0) q && not (arcs_wide 8 table (64 * i + q) u)) ≡ any_below 64 (λ q. one_sided_in table u (64 * i + q))
unfolding one_sided_in
one_sided_word table u i l =
    any_same 64 (λ q. member (get_or table (8 * u + i) 0) q && not (arcs_wide 8 table (64 * i + q) u)) (λ q. one_sided_in table u (64 * i + q))
    (λ q h. ap (λ (b : Bool). b && not (arcs_wide 8 table (64 * i + q) u)) (sym (word_bit table u i q l h)))

-- ---- the tests on the whole table

module _ (table : List ℕ) where
  pub outside_table : bit_outside_wide 8 table ≡ any_below (length table / 8) (outside_in (length table / 8) table)
  unfolding bit_outside_wide size_wide outside_in
  outside_table = refl

  pub loop_table : self_loop_wide 8 table ≡ any_below (length table / 8) (λ u. arcs_wide 8 table u u)
  unfolding self_loop_wide size_wide
  loop_table = refl

  pub one_way_table : one_way_wide 8 table ≡ any_below (length table / 8) (λ u. any_below (length table / 8) (one_sided_in table u))
  unfolding one_way_wide size_wide one_sided_in
  one_way_table = refl
