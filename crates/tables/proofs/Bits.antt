-- Rows and sets of eight words: what a change of one bit makes of them, and words put together. What does not depend on the eight is said for m words a row.
--   arc_word, arc_word_at            a vertex in a row of m words, by word and bit;   arc_below, arc_none   a row has vertices below 64 * m only; empty rows
--   any_of_words                     a search below 64 * m goes word by word
--   in_word_lem, in_word_at_lem, row_word_at, in_word-at   a vertex of a set, a position of a row, by word and bit
--   arc_changed                      a table in which one bit was changed: the argument behind the next ones
--   arc_with_bit, arc_without_bit      a table with one bit set, and with one cleared
--   in_with_bit, in_without_bit        a set with one vertex more, and with one less
--   row_with_bit                      the labels with one position more in one of them
--   first_row                        one word changed in a set, as in a table of one row
--   length_with_bit, length_without_bit
--   row_below                        a row has positions below 512 only
--   any_words                        a search below 512 goes word by word
--   row_none                         empty rows
-- Assumes nothing.
use mathlib.Core.Path.{◌≡◌, refl, sym, ap, ap₂, ◌∙◌, subst}
use mathlib.Core.Bool.{Bool, false, not, ◌&&◌, ◌||◌, and-false, or_comm}
use mathlib.Core.Logic.{◌⊎◌, inl, inr}
use mathlib.Core.List.{List}
use Prim.Native.Nat.{ℕ, zero, suc, ◌+◌, ◌*◌, ◌/◌, ◌%◌, ◌≤◌, ◌<◌}
use native.Mathlib.Omega.{arith}
use lib.Dec.{T, eqb, ltb, eqb→eq, eqb_refl, ltb→lt, lt→ltb}
use lib.ListN.{length, get_or, set, replicate, length-set}
use lib.Seq.{get_or-set_same, get_or-set_other}
use Rattle.bitset.specs.Below.{any_below}
use Rattle.bitset.specs.Word.{member, inserted, removed}
use Rattle.bitset.proofs.Tests.{and_in, and_out, decided, same_test, is_true, is_false, below_or}
use Rattle.bitset.proofs.Below.{any_out, any_at}
use Rattle.bitset.proofs.Word.{member_zero, member_inserted, member_removed}
use Rattle.searches.specs.Table.{arcs_wide}
use Rattle.tables.specs.Rows.{in_set, row_of, in_word, with_bit, without_bit}

eq→eqb : (x y : ℕ) → x ≡ y → T (eqb x y)
eq→eqb x y e = subst (λ (z : ℕ). T (eqb x z)) e (eqb_refl x)

-- ---- m words a row

module _ (m : ℕ) (table : List ℕ) (u : ℕ) where
  pub arc_word : (v : ℕ) → v < 64 * m → arcs_wide m table u v ≡ member (get_or table (m * u + v / 64) 0) (v % 64)
  unfolding arcs_wide
  arc_word v l = ap (λ (b : Bool). b && member (get_or table (m * u + v / 64) 0) (v % 64)) (is_true (ltb v (64 * m)) (lt→ltb v (64 * m) l))

  pub arc_word_at : (i q : ℕ) → i < m → q < 64 → arcs_wide m table u (64 * i + q) ≡ member (get_or table (m * u + i) 0) q
  arc_word_at i q l h =
      let word : (64 * i + q) / 64 ≡ i = omega arith in
      let bit : (64 * i + q) % 64 ≡ q = omega arith in
      arc_word (64 * i + q) (omega arith) ∙ ap₂ (λ (j p : ℕ). member (get_or table (m * u + j) 0) p) word bit

  pub arc_below : (v : ℕ) → T (arcs_wide m table u v) → v < 64 * m
  unfolding arcs_wide
  arc_below v t = ltb→lt v (64 * m) (and_out (ltb v (64 * m)) (member (get_or table (m * u + v / 64) 0) (v % 64)) t).0

zero_at : (n i : ℕ) → get_or {A = ℕ} (replicate n 0) i 0 ≡ 0
zero_at zero i = refl
zero_at (suc n) zero = refl
zero_at (suc n) (suc i) = zero_at n i

pub arc_none : (m u v n : ℕ) → arcs_wide m (replicate n 0) u v ≡ false
unfolding arcs_wide
arc_none m u v n =
    ap (λ (x : ℕ). ltb v (64 * m) && member x (v % 64)) (zero_at n (m * u + v / 64)) ∙ ap (λ (b : Bool). ltb v (64 * m) && b) (member_zero (v % 64))
    ∙ and-false (ltb v (64 * m))

pub any_of_words : (m : ℕ) (f : ℕ → Bool) → any_below (64 * m) f ≡ any_below m (λ i. any_below 64 (λ q. f (64 * i + q)))
any_of_words m f = same_test (any_below (64 * m) f) (any_below m (λ i. any_below 64 (λ q. f (64 * i + q)))) forth back
  where
    forth : T (any_below (64 * m) f) → T (any_below m (λ i. any_below 64 (λ q. f (64 * i + q))))
    forth t =
        let x = any_out (64 * m) f t in
        let v : ℕ = x.at in
        let split : v ≡ 64 * (v / 64) + v % 64 = omega arith in
        any_at m (λ i. any_below 64 (λ q. f (64 * i + q))) (v / 64) (omega (arith, x.below))
        (any_at 64 (λ q. f (64 * (v / 64) + q)) (v % 64) (omega arith) (subst (λ (y : ℕ). T (f y)) split x.holds))

    back : T (any_below m (λ i. any_below 64 (λ q. f (64 * i + q)))) → T (any_below (64 * m) f)
    back t =
        let x = any_out m (λ i. any_below 64 (λ q. f (64 * i + q))) t in
        let y = any_out 64 (λ q. f (64 * x.at + q)) x.holds in
        any_at (64 * m) f (64 * x.at + y.at) (omega (arith, x.below, y.below)) y.holds

-- ---- eight words a row, read

pub row_word_at : (labels : List ℕ) (v i q : ℕ) → i < 8 → q < 64 → row_of labels v (64 * i + q) ≡ member (get_or labels (8 * v + i) 0) q
unfolding row_of
row_word_at labels v i q l h = arc_word_at 8 labels v i q l h

pub in_word_lem : (words : List ℕ) (v : ℕ) → v < 512 → in_set words v ≡ member (get_or words (v / 64) 0) (v % 64)
unfolding in_set
in_word_lem words v l =
    let first : 8 * 0 + v / 64 ≡ v / 64 = omega arith in
    arc_word 8 words 0 v l ∙ ap (λ (i : ℕ). member (get_or words i 0) (v % 64)) first

pub in_word_at_lem : (words : List ℕ) (i q : ℕ) → i < 8 → q < 64 → in_set words (64 * i + q) ≡ member (get_or words i 0) q
unfolding in_set
in_word_at_lem words i q l h =
    let first : 8 * 0 + i ≡ i = omega arith in
    arc_word_at 8 words 0 i q l h ∙ ap (λ (j : ℕ). member (get_or words j 0) q) first

pub in_word-at : (word i q : ℕ) → q < 64 → in_word word i (64 * i + q) ≡ member word q
unfolding in_word
in_word-at word i q l =
    let at_word : (64 * i + q) / 64 ≡ i = omega arith in
    let at_bit : (64 * i + q) % 64 ≡ q = omega arith in
    ap₂ (λ (b : Bool) (p : ℕ). b && member word p) (is_true (eqb ((64 * i + q) / 64) i) (eq→eqb ((64 * i + q) / 64) i at_word)) at_bit

pub row_below : (table : List ℕ) (u v : ℕ) → T (arcs_wide 8 table u v) → v < 512
row_below table u v t = arc_below 8 table u v t

pub row_none : (u q n : ℕ) → arcs_wide 8 (replicate n 0) u q ≡ false
row_none u q n = arc_none 8 u q n

pub any_words : (f : ℕ → Bool) → any_below 512 f ≡ any_below 8 (λ i. any_below 64 (λ q. f (64 * i + q)))
any_words f = any_of_words 8 f

-- ---- one bit changed

-- a change that makes of a word what t says of the changed number and of what was in the word, and nothing of the others
module _ (change : ℕ → ℕ → ℕ) (t : Bool → Bool → Bool) (changed : (x e : ℕ) → e < 64 → (p : ℕ) → member (change x e) p ≡ t (eqb e p) (member x p))
    (kept : (b : Bool) → t false b ≡ b) (table : List ℕ) (v p : ℕ) (inside : 8 * v + 8 ≤ length table) (small : p < 512) (u q : ℕ) where
  abbrev place : ℕ
  place = 8 * v + p / 64

  abbrev after : List ℕ
  after = set table place (change (get_or table place 0) (p % 64))

  pub arc_changed : arcs_wide 8 after u q ≡ t (eqb v u && eqb p q) (arcs_wide 8 table u q)
  unfolding arcs_wide
  arc_changed = go (below_or q 512) (decided (eqb place (8 * u + q / 64)))
    where
      elsewhere : (T (eqb v u && eqb p q) → ⊥) → arcs_wide 8 after u q ≡ arcs_wide 8 table u q → arcs_wide 8 after u q ≡ t (eqb v u && eqb p q) (arcs_wide 8 table u q)
      elsewhere out e = e ∙ sym (kept (arcs_wide 8 table u q)) ∙ ap (λ (b : Bool). t b (arcs_wide 8 table u q)) (sym (is_false (eqb v u && eqb p q) out))

      both_same : T (eqb v u && eqb p q) → (v ≡ u) × (p ≡ q)
      both_same s = let both = and_out (eqb v u) (eqb p q) s in (eqb→eq v u both.0, eqb→eq p q both.1)

      go : (q < 512) ⊎ (512 ≤ q) → T (eqb place (8 * u + q / 64)) ⊎ (T (eqb place (8 * u + q / 64)) → ⊥)
          → arcs_wide 8 after u q ≡ t (eqb v u && eqb p q) (arcs_wide 8 table u q)
      go (inr far) s =
          elsewhere (λ both. let same : p ≡ q = (both_same both).1 in omega arith)
          (is_false (arcs_wide 8 after u q) (λ x. let l = arc_below 8 after u q x in omega arith)
          ∙ sym (is_false (arcs_wide 8 table u q) (λ x. let l = arc_below 8 table u q x in omega arith)))
      go (inl near) (inr apart) =
          elsewhere (λ both.
          let one : v ≡ u = (both_same both).0 in
          let two : p ≡ q = (both_same both).1 in
          apart (eq→eqb place (8 * u + q / 64) (omega arith)))
          (ap (λ (x : ℕ). ltb q 512 && member x (q % 64)) (get_or-set_other table place (8 * u + q / 64) (change (get_or table place 0) (p % 64)) 0
          (λ e. apart (eq→eqb place (8 * u + q / 64) (sym e)))))
      go (inl near) (inl s) =
          let e : place ≡ 8 * u + q / 64 = eqb→eq place (8 * u + q / 64) s in
          arc_word 8 after u q near
          ∙ ap (λ (x : ℕ). member x (q % 64)) (ap (λ (i : ℕ). get_or after i 0) (sym e) ∙ get_or-set_same table place (change (get_or table place 0) (p % 64)) 0 (omega arith))
          ∙ changed (get_or table place 0) (p % 64) (omega arith) (q % 64)
          ∙ ap₂ t (same_bit e) (ap (λ (i : ℕ). member (get_or table i 0) (q % 64)) e ∙ sym (arc_word 8 table u q near))
        where
          same_bit : place ≡ 8 * u + q / 64 → eqb (p % 64) (q % 64) ≡ (eqb v u && eqb p q)
          same_bit e = same_test (eqb (p % 64) (q % 64)) (eqb v u && eqb p q)
              (λ s. let bit : p % 64 ≡ q % 64 = eqb→eq (p % 64) (q % 64) s in and_in (eqb v u) (eqb p q) (eq→eqb v u (omega arith)) (eq→eqb p q (omega arith)))
              (λ both. let same : p ≡ q = (both_same both).1 in eq→eqb (p % 64) (q % 64) (ap (λ (x : ℕ). x % 64) same))

pub arc_with_bit : (table : List ℕ) (v p u q : ℕ) → 8 * v + 8 ≤ length table → p < 512 → arcs_wide 8 (with_bit table v p) u q ≡ ((eqb v u && eqb p q) || arcs_wide 8 table u q)
unfolding with_bit
arc_with_bit table v p u q inside l = arc_changed inserted (λ a b. a || b) (λ x e h i. member_inserted x h i) (λ b. refl) table v p inside l u q

pub arc_without_bit : (table : List ℕ) (v p u q : ℕ) → 8 * v + 8 ≤ length table → p < 512
    → arcs_wide 8 (without_bit table v p) u q ≡ (not (eqb v u && eqb p q) && arcs_wide 8 table u q)
unfolding without_bit
arc_without_bit table v p u q inside l = arc_changed removed (λ a b. not a && b) (λ x e h i. member_removed x e i) (λ b. refl) table v p inside l u q

pub first_row : (change : ℕ → ℕ → ℕ) (words : List ℕ) (v : ℕ) {r : ℕ} → r ≡ change (get_or words (v / 64) 0) (v % 64)
    → set words (v / 64) r ≡ set words (8 * 0 + v / 64) (change (get_or words (8 * 0 + v / 64) 0) (v % 64))
first_row change words v e =
    let place : v / 64 ≡ 8 * 0 + v / 64 = omega arith in
    ap (λ (x : ℕ). set words (v / 64) x) e ∙ ap (λ (i : ℕ). set words i (change (get_or words i 0) (v % 64))) place

pub in_with_bit : (words : List ℕ) (v u : ℕ) → length words ≡ 8 → v < 512 → u < 512 → in_set (with_bit words 0 v) u ≡ (eqb v u || in_set words u)
unfolding in_set
in_with_bit words v u size l h = arc_with_bit words 0 v 0 u (omega arith) l

pub in_without_bit : (words : List ℕ) (v u : ℕ) → length words ≡ 8 → v < 512 → u < 512 → in_set (without_bit words 0 v) u ≡ (not (eqb v u) && in_set words u)
unfolding in_set
in_without_bit words v u size l h = arc_without_bit words 0 v 0 u (omega arith) l

pub row_with_bit : (labels : List ℕ) (v p u q : ℕ) → length labels ≡ 4096 → v < 512 → p < 512 → u < 512
    → row_of (with_bit labels v p) u q ≡ (row_of labels u q || (eqb v u && eqb p q))
unfolding row_of
row_with_bit labels v p u q size l h m = arc_with_bit labels v p u q (omega arith) h ∙ or_comm (eqb v u && eqb p q) (arcs_wide 8 labels u q)

pub length_with_bit : (table : List ℕ) (u v : ℕ) → length (with_bit table u v) ≡ length table
unfolding with_bit
length_with_bit table u v = length-set table (8 * u + v / 64) (inserted (get_or table (8 * u + v / 64) 0) (v % 64))

pub length_without_bit : (table : List ℕ) (u v : ℕ) → length (without_bit table u v) ≡ length table
unfolding without_bit
length_without_bit table u v = length-set table (8 * u + v / 64) (removed (get_or table (8 * u + v / 64) 0) (v % 64))
