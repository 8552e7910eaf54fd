-- The set of the vertices below n, made word by word.
--   full_member n q        what is in the word that has the numbers below n
--   Upto n words i         the first i words have the vertices below n, and no others
--   upto_start, upto_next  before the first word, and one word more
-- Assumes nothing.
use mathlib.Core.Path.{◌≡◌, sym, ap, ◌∙◌}
use mathlib.Core.Logic.{◌⊎◌, inl, inr}
use mathlib.Core.List.{List}
use Prim.Native.Nat.{ℕ, ◌+◌, ◌*◌, ◌-◌, ◌/◌, ◌%◌, ◌^◌, ◌≤◌, ◌<◌}
use native.Mathlib.Nat.{min-eq_right}
use native.Mathlib.Omega.{arith}
use lib.Dec.{ltb, ltb→lt, lt→ltb}
use lib.ListN.{length, get_or, set, length-set}
use lib.Seq.{get_or-set_same, get_or-set_other}
use Rattle.bitset.specs.Word.{member, full_below}
use Rattle.bitset.proofs.Tests.{same_test, is_true, below_or}
use Rattle.bitset.proofs.Word.{member_ones, member_full_below}
use Rattle.tables.specs.Rows.{in_set}
use Rattle.tables.proofs.Bits.{in_word_lem}

pub full_member : (n q : ℕ) → q < 64 → member (full_below n) q ≡ ltb q n
unfolding full_below
full_member n q l = go (below_or n 64)
  where
    go : (n < 64) ⊎ (64 ≤ n) → member (full_below n) q ≡ ltb q n
    go (inl h) = member_full_below (omega arith) q
    go (inr h) =
        ap (λ (m : ℕ). member (2 ^ m - 1) q) (min-eq_right h) ∙ member_ones 64 q ∙ is_true (ltb q 64) (lt→ltb q 64 l) ∙ sym (is_true (ltb q n) (lt→ltb q n (omega arith)))

pub record Upto (n : ℕ) (words : List ℕ) (i : ℕ) : Type 0 where
  pub size : length words ≡ 8
  pub within : i ≤ 8
  pub filled : (v : ℕ) → v < 64 * i → in_set words v ≡ ltb v n

pub upto_start : (n : ℕ) {words : List ℕ} → length words ≡ 8 → Upto n words 0
upto_start n size = record { size = size; within = omega arith; filled = λ v l. absurd (omega arith) }

pub upto_next : {n : ℕ} {words : List ℕ} (i : ℕ) {count r : ℕ} → Upto n words i → i < 8 → count ≡ n - 64 * i → r ≡ full_below count → Upto n (set words i r) (i + 1)
upto_next {n} {words} i {count} {r} u l left e = record {
  size = length-set words i r ∙ u.size;
  within = omega arith;
  filled = λ v h. go v h (below_or v (64 * i));
}
  where
    after : List ℕ
    after = set words i r

    go : (v : ℕ) → v < 64 * (i + 1) → (v < 64 * i) ⊎ (64 * i ≤ v) → in_set after v ≡ ltb v n
    go v h (inl b) =
        in_word_lem after v (omega arith) ∙ ap (λ (x : ℕ). member x (v % 64)) (get_or-set_other words i (v / 64) r 0 (λ same. omega arith)) ∙ sym (in_word_lem words v (omega arith))
        ∙ u.filled v b
    go v h (inr b) =
        let here : v / 64 ≡ i = omega arith in
        in_word_lem after v (omega arith)
        ∙ ap (λ (x : ℕ). member x (v % 64)) (ap (λ (j : ℕ). get_or after j 0) here ∙ get_or-set_same words i r 0 (omega (arith, u.size)) ∙ e ∙ ap full_below left)
        ∙ full_member (n - 64 * i) (v % 64) (omega arith)
        ∙ same_test (ltb (v % 64) (n - 64 * i)) (ltb v n)
        (λ t. lt→ltb v n (omega (arith, ltb→lt (v % 64) (n - 64 * i) t)))
        (λ t. lt→ltb (v % 64) (n - 64 * i) (omega (arith, ltb→lt v n t)))
