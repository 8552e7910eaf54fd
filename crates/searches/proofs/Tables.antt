-- Tables of several words a row: with one word a row they are rows, and rows widened give the same graph.
--   Words rows                     every row is a word: below 2 ^ 64
--   same_arcs                      arcs that agree on all vertices are the same
--   size_whole                     a table of n whole rows has n vertices
--   widened_length, widened_arcs   rows with any number of empty words behind each: as many vertices, the same arcs
--   one_word                       with one word a row arcs_wide is arcs
-- Assumes nothing.
use mathlib.Core.Path.{◌≡◌, refl, sym, ap, ap₂, ◌∙◌}
use mathlib.Core.Bool.{Bool, true, false, cond, ◌&&◌}
use mathlib.Core.Logic.{◌⊎◌, inl, inr}
use mathlib.Core.List.{List, [], ◌∷◌, ◌++◌}
use Prim.Native.Nat.{ℕ, zero, suc, ◌+◌, ◌*◌, ◌/◌, ◌%◌, ◌^◌, ◌≤◌, ◌<◌}
use native.Mathlib.Nat.{mul-suc, div-eq_of_eq-mul_right}
use native.Mathlib.Omega.{arith}
use lib.Dec.{ltb, eqb, ltb→lt, lt→ltb, eqb→eq}
use lib.ListN.{length, get_or, replicate, length-append, length-replicate}
use Rattle.bitset.specs.Word.{member}
use Rattle.bitset.proofs.Tests.{is_true, is_false, below_or}
use Rattle.bitset.proofs.Word as word
use Rattle.searches.specs.Ordering.{arcs}
use Rattle.searches.specs.Table.{arcs_wide, size_wide, widened}

abbrev pub Words : List ℕ → Type 0
Words rows = (u : ℕ) → get_or rows u 0 < 2 ^ 64

-- functions that agree everywhere are equal
pub same_arcs : {f g : ℕ → ℕ → Bool} → ((u v : ℕ) → f u v ≡ g u v) → f ≡ g
same_arcs h = λ i. λ u v. h u v i

pub size_whole : (m : ℕ) (table : List ℕ) (n : ℕ) → 0 < m → length table ≡ m * n → size_wide m table ≡ n
unfolding size_wide
size_whole m table n some whole = div-eq_of_eq-mul_right some whole

-- ---- widened rows

-- the words behind the first are empty
empty_words : (m q : ℕ) (rest : List ℕ) → q < m → get_or (replicate m 0 ++ rest) q 0 ≡ 0
empty_words zero q rest l = absurd (omega arith)
empty_words (suc m) zero rest l = refl
empty_words (suc m) (suc q) rest l = empty_words m q rest (omega arith)

past_words : (m x i : ℕ) (rest : List ℕ) → i ≡ m + x → get_or (replicate m 0 ++ rest) i 0 ≡ get_or rest x 0
past_words zero x i rest e = ap (λ (y : ℕ). get_or rest y 0) (omega arith)
past_words (suc m) x zero rest e = absurd (omega arith)
past_words (suc m) x (suc i) rest e = past_words m x i rest (omega arith)

module _ (m : ℕ) where
  -- word q of row u: the row where q is 0, else empty; i is its place in the table
  row_word : (rows : List ℕ) (u q i : ℕ) → q ≤ m → i ≡ suc m * u + q → get_or (widened m rows) i 0 ≡ cond (eqb q 0) (get_or rows u 0) 0
  unfolding widened
  row_word [] u q i l e = either (eqb q 0) 0
    where
      either : (b : Bool) (x : ℕ) → x ≡ cond b x x
      either true x = refl
      either false x = refl
  row_word (row ∷ rows) zero zero i l e =
      let start : i ≡ 0 = omega arith in
      ap (λ (x : ℕ). get_or (row ∷ (replicate m 0 ++ widened m rows)) x 0) start
  row_word (row ∷ rows) zero (suc q) zero l e = absurd (omega arith)
  row_word (row ∷ rows) zero (suc q) (suc i) l e =
      ap (λ (x : ℕ). get_or (replicate m 0 ++ widened m rows) x 0) (same i e) ∙ empty_words m q (widened m rows) (omega arith)
      ∙ ap (λ (b : Bool). cond b row 0) (sym (is_false (eqb (suc q) 0) (λ t. omega (arith, eqb→eq (suc q) 0 t))))
    where
      same : (i : ℕ) → suc i ≡ suc m * 0 + suc q → i ≡ q
      same i e = omega arith
  row_word (row ∷ rows) (suc u) q zero l e = absurd (omega (arith, mul-suc (suc m) u))
  row_word (row ∷ rows) (suc u) q (suc i) l e =
      past_words m (suc m * u + q) i (widened m rows) (omega (arith, mul-suc (suc m) u)) ∙ row_word rows u q (suc m * u + q) l refl

pub widened_length : (m : ℕ) (rows : List ℕ) → length (widened m rows) ≡ suc m * length rows
unfolding widened
widened_length m [] = omega arith
widened_length m (row ∷ rows) =
    let gap : List ℕ = replicate m 0 in
    let rest : length (widened m rows) ≡ suc m * length rows = widened_length m rows in
    omega (arith, length-append gap (widened m rows), length-replicate {A = ℕ} m 0, rest, mul-suc (suc m) (length rows))

-- no vertex from 64 up is in a word
beyond : (rows : List ℕ) → Words rows → (u v : ℕ) → 64 ≤ v → false ≡ arcs rows u v
unfolding arcs
beyond rows words u v l = sym (word.member_beyond 64 (words u) v l)

pub widened_arcs : (m : ℕ) (rows : List ℕ) → Words rows → (u v : ℕ) → arcs_wide (suc m) (widened m rows) u v ≡ arcs rows u v
unfolding arcs_wide arcs
widened_arcs m rows words u v = go (below_or v 64) (below_or v (64 * suc m))
  where
    place : ℕ
    place = suc m * u + v / 64

    go : (v < 64) ⊎ (64 ≤ v) → (v < 64 * suc m) ⊎ (64 * suc m ≤ v) → (ltb v (64 * suc m) && member (get_or (widened m rows) place 0) (v % 64)) ≡ arcs rows u v
    go (inl l) wide =
        let small : v % 64 ≡ v = omega arith in
        ap₂ (λ (b : Bool) (x : ℕ). b && member x (v % 64)) (is_true (ltb v (64 * suc m)) (lt→ltb v (64 * suc m) (omega (arith, mul-suc 64 m))))
        (row_word m rows u 0 place (omega arith) (omega arith)) ∙ ap (λ (x : ℕ). member (get_or rows u 0) x) small
    go (inr h) (inl l) =
        ap₂ (λ (b : Bool) (x : ℕ). b && member x (v % 64)) (is_true (ltb v (64 * suc m)) (lt→ltb v (64 * suc m) l))
        (row_word m rows u (v / 64) place (omega (arith, mul-suc 64 m)) refl
        ∙ ap (λ (b : Bool). cond b (get_or rows u 0) 0) (is_false (eqb (v / 64) 0) (λ t. omega (arith, eqb→eq (v / 64) 0 t))))
        ∙ word.member_zero (v % 64) ∙ beyond rows words u v h
    go (inr h) (inr l) =
        ap (λ (b : Bool). b && member (get_or (widened m rows) place 0) (v % 64)) (is_false (ltb v (64 * suc m)) (λ t. omega (arith, ltb→lt v (64 * suc m) t)))
        ∙ beyond rows words u v h

-- with one word a row there is nothing to widen
widened_none : (rows : List ℕ) → widened 0 rows ≡ rows
unfolding widened
widened_none [] = refl
widened_none (row ∷ rows) = ap (λ (rest : List ℕ). row ∷ rest) (widened_none rows)

pub one_word : (rows : List ℕ) → Words rows → (u v : ℕ) → arcs_wide 1 rows u v ≡ arcs rows u v
one_word rows words u v = ap (λ (table : List ℕ). arcs_wide 1 table u v) (sym (widened_none rows)) ∙ widened_arcs 0 rows words u v
