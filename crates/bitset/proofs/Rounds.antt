-- The rounds: their loops, and what they make of the square.
--   between_out, between_in            what `between` says
--   block_start, block_next            the pairs of a block, one after the other
--   round_next, round_end              the blocks, one after the other; those that are left out are empty
--   round_skipped                      a stride of n or more moves no bit
--   stride                             a stride and its mask, by computation
--   Turned m start words               the words after the rounds down to blocks of m: a bit came from the block on the other side of the diagonal,
--                                      and has the place in its block that it had at the start
--   turned_start, turned_next, turned_end     no round, one more, and after all of them the transpose
--   turned_confined                    where the bits of the start are among the first n rows and columns
-- Assumes nothing.
use mathlib.Core.Path.{◌≡◌, refl, sym, ap₂, ◌∙◌, subst}
use mathlib.Core.Bool.{Bool, false, cond}
use mathlib.Core.Logic.{◌⊎◌, inl, inr}
use mathlib.Core.List.{List}
use Prim.Native.Nat.{ℕ, ◌+◌, ◌*◌, ◌/◌, ◌%◌, ◌≤◌, ◌<◌}
use native.Mathlib.Omega.{arith}
use lib.ListN.{length}
use lib.Dec.{T, eqb, ltb, leb, eqb→eq, eqb_refl, ltb→lt, lt→ltb, leb→le, le→leb}
use Rattle.bitset.specs.Below.{any_below, differ}
use Rattle.bitset.specs.Word.{member}
use Rattle.bitset.specs.Matrix.{bit, AreWords, Inside, Transpose, Stride, low_of, crossed, Exchanged, between, every, mixed, Confined}
use Rattle.bitset.proofs.Tests.{and_in, and_out, is_false, cond_yes, cond_no, below_or}
use Rattle.bitset.proofs.Below.{any_at}
use Rattle.bitset.proofs.Sets.{differ_same}
use Rattle.bitset.proofs.Halves.{halves, first_half, later_block, lower_half, crossed_same, crossed_half, crossed_block, crossed_below, halves_whole, mixed_crossed, mixed_below}
use Rattle.bitset.proofs.Exchange.{exchanged_none, exchanged_both}

-- ---- the pairs of a block

between_out : (a b k : ℕ) → T (between a b k) → (a ≤ k) × (k < b)
unfolding between
between_out a b k t = let both = and_out (leb a k) (ltb k b) t in (leb→le a k both.0, ltb→lt k b both.1)

between_in : (a b k : ℕ) → a ≤ k → k < b → T (between a b k)
unfolding between
between_in a b k l h = and_in (leb a k) (ltb k b) (le→leb a k l) (lt→ltb k b h)

pub block_start : (s begin : ℕ) (words : List ℕ) → Exchanged s (between begin begin) words words
block_start s begin words = exchanged_none s words (λ k. is_false (between begin begin k) (λ t. let b = between_out begin begin k t in omega arith))

module _ {s mask : ℕ} (stride : Stride s mask) {before words after : List ℕ} where
  pub block_next : {begin low : ℕ} → begin ≤ low → Exchanged s (between begin low) before words → Exchanged s (eqb low) words after → Exchanged s (between begin (low + 1)) before after
  block_next {begin} {low} l done pair =
      exchanged_both stride (between begin (low + 1)) done pair
      (λ k t u. let e : low ≡ k = eqb→eq low k t in let b = between_out begin low k u in omega arith)
      (λ k t. let e : low ≡ k = eqb→eq low k t in between_in begin (low + 1) k (omega arith) (omega arith))
      (λ k t. let b = between_out begin low k t in between_in begin (low + 1) k (omega arith) (omega arith))
      (λ r t. last (low_of s r) (between_out begin (low + 1) (low_of s r) t))
    where
      last : (k : ℕ) → (begin ≤ k) × (k < low + 1) → T (eqb low k) ⊎ T (between begin low k)
      last k b = go (below_or k low)
        where
          go : (k < low) ⊎ (low ≤ k) → T (eqb low k) ⊎ T (between begin low k)
          go (inl h) = inr (between_in begin low k b.0 h)
          go (inr h) = let e : low ≡ k = omega arith in inl (subst (λ (x : ℕ). T (eqb low x)) e (eqb_refl low))

  -- ---- the blocks of a round

  pub round_next : (begin : ℕ) → begin % (2 * s) ≡ 0 → Exchanged s (between 0 begin) before words → Exchanged s (between begin (begin + s)) words after
      → Exchanged s (between 0 (begin + 2 * s)) before after
  round_next begin first done block =
      exchanged_both stride (between 0 (begin + 2 * s)) done block
      (λ k t u. let b = between_out begin (begin + s) k t in let a = between_out 0 begin k u in omega arith)
      (λ k t. let b = between_out begin (begin + s) k t in between_in 0 (begin + 2 * s) k (omega arith) (omega arith))
      (λ k t. let b = between_out 0 begin k t in between_in 0 (begin + 2 * s) k (omega arith) (omega arith))
      (λ r t. last r (between_out 0 (begin + 2 * s) (low_of s r) t).1)
    where
      last : (r : ℕ) → low_of s r < begin + 2 * s → T (between begin (begin + s) (low_of s r)) ⊎ T (between 0 begin (low_of s r))
      last r l = go (below_or (low_of s r) begin)
        where
          go : (low_of s r < begin) ⊎ (begin ≤ low_of s r) → T (between begin (begin + s) (low_of s r)) ⊎ T (between 0 begin (low_of s r))
          go (inl h) = inr (between_in 0 begin (low_of s r) (omega arith) h)
          go (inr h) = inl (between_in begin (begin + s) (low_of s r) h (first_half s stride.positive begin first r l))

-- what is left out: two places that have no bit
module _ {s mask : ℕ} (stride : Stride s mask) {n : ℕ} {before : List ℕ} (confined : Confined (2 * s) n before) where
  abbrev CrossedSame : ℕ → ℕ → Type 0
  CrossedSame r c = bit before r c ≡ bit before (crossed s r c) (crossed s c r)

  both_empty : (r c : ℕ) → (T (bit before r c) → ⊥) → (T (bit before (crossed s r c) (crossed s c r)) → ⊥) → CrossedSame r c
  both_empty r c here there = is_false (bit before r c) here ∙ sym (is_false (bit before (crossed s r c) (crossed s c r)) there)

  below : (r c : ℕ) → r < 64 → crossed s r c < 64
  below = crossed_below s stride.positive stride.whole

  -- a block that begins at n or above is empty
  empty_block : (r c : ℕ) → r < 64 → c < 64 → n ≤ r / (2 * s) * (2 * s) → T (bit before r c) → ⊥
  unfolding mixed
  empty_block r c l h beyond t = omega (arith, (confined.inside r c l h t).1)

  pub round_end : (begin : ℕ) {after : List ℕ} → begin % (2 * s) ≡ 0 → n ≤ begin → Exchanged s (between 0 begin) before after → Exchanged s every before after
  unfolding every
  round_end begin first over done = record {
    as_many = done.as_many;
    still_words = done.still_words;
    cell = λ r c l h. done.cell r c l h ∙ go r c l h (below_or (low_of s r) begin);
  }
    where
      go : (r c : ℕ) → r < 64 → c < 64 → (low_of s r < begin) ⊎ (begin ≤ low_of s r)
          → cond (between 0 begin (low_of s r)) (bit before (crossed s r c) (crossed s c r)) (bit before r c) ≡ bit before (crossed s r c) (crossed s c r)
      go r c l h (inl passed) = cond_yes (between 0 begin (low_of s r)) _ _ (between_in 0 begin (low_of s r) (omega arith) passed)
      go r c l h (inr later) =
          let beyond : n ≤ r / (2 * s) * (2 * s) = omega (arith, later_block s stride.positive begin first r later) in
          cond_no (between 0 begin (low_of s r)) _ _ (λ t. let b = between_out 0 begin (low_of s r) t in omega arith)
          ∙ both_empty r c (empty_block r c l h beyond)
          (empty_block (crossed s r c) (crossed s c r) (below r c l) (below c r h) (subst (λ (k : ℕ). n ≤ k * (2 * s)) (sym (crossed_block s stride.positive r c)) beyond))

  -- where the stride is not below n, a bit stands in lower halves
  lower_halves : n ≤ s → (r c : ℕ) → r < 64 → c < 64 → T (bit before r c) → (r / s % 2 ≡ 0) × (c / s % 2 ≡ 0)
  unfolding mixed
  lower_halves small r c l h t =
      let b = confined.inside r c l h t in
      (lower_half s stride.positive r (omega arith), lower_half s stride.positive c (omega arith))

  pub round_skipped : n ≤ s → Exchanged s every before before
  unfolding every
  round_skipped small = record { as_many = refl; still_words = λ are. are; cell = λ r c l h. go r c l h (halves s r) (halves s c) }
    where
      apart : (r c : ℕ) → r < 64 → c < 64 → (r / s % 2 ≡ c / s % 2 → ⊥) → CrossedSame r c
      apart r c l h other =
          both_empty r c (λ t. let both = lower_halves small r c l h t in other (both.0 ∙ sym both.1))
          (λ t.
          let both = lower_halves small (crossed s r c) (crossed s c r) (below r c l) (below c r h) t in
          other (sym (crossed_half s stride.positive c r) ∙ both.1 ∙ sym both.0 ∙ crossed_half s stride.positive r c))

      together : (r c : ℕ) → r / s % 2 ≡ c / s % 2 → CrossedSame r c
      together r c e = sym (ap₂ (bit before) (crossed_same s stride.positive r c e) (crossed_same s stride.positive c r (sym e)))

      go : (r c : ℕ) → r < 64 → c < 64 → (r / s % 2 ≡ 0) ⊎ (r / s % 2 ≡ 1) → (c / s % 2 ≡ 0) ⊎ (c / s % 2 ≡ 1) → CrossedSame r c
      go r c l h (inl a) (inl b) = together r c (a ∙ sym b)
      go r c l h (inl a) (inr b) = apart r c l h (λ e. omega arith)
      go r c l h (inr a) (inl b) = apart r c l h (λ e. omega arith)
      go r c l h (inr a) (inr b) = together r c (a ∙ sym b)

-- ---- round after round

-- a stride and its mask, by computation
pub stride : (s mask : ℕ) → 0 < s → s ≤ 32 → 64 / (2 * s) * (2 * s) ≡ 64 → any_below 64 (differ (member mask) (λ c. eqb (c / s % 2) 0)) ≡ false → Stride s mask
stride s mask pos small whole agree = record {
  positive = pos;
  small = small;
  whole = whole;
  masked = λ c l.
      differ_same (member mask) (λ c. eqb (c / s % 2) 0) c
      (λ d. subst (λ (b : Bool). T b) agree (any_at 64 (differ (member mask) (λ c. eqb (c / s % 2) 0)) c l d));
}

pub record Turned (m : ℕ) (start words : List ℕ) : Type 0 where
  pub positive : 0 < m
  pub whole : 64 / m * m ≡ 64
  pub as_many : length words ≡ length start
  pub still_words : AreWords start → AreWords words
  pub cell : (r c : ℕ) → r < 64 → c < 64 → bit words r c ≡ bit start (mixed m c r) (mixed m r c)

pub turned_start : (start : List ℕ) → Turned 64 start start
unfolding mixed
turned_start start = record {
  positive = omega arith;
  whole = refl;
  as_many = refl;
  still_words = λ are. are;
  cell = λ r c l h. ap₂ (bit start) (let e : r ≡ c / 64 * 64 + r % 64 = omega arith in e) (let e : c ≡ r / 64 * 64 + c % 64 = omega arith in e);
}

pub turned_next : {s mask : ℕ} → Stride s mask → {start before after : List ℕ} → Turned (2 * s) start before → Exchanged s every before after → Turned s start after
unfolding every
turned_next {s} stride {start} turned round = record {
  positive = stride.positive;
  whole = halves_whole s stride.positive stride.whole;
  as_many = round.as_many ∙ turned.as_many;
  still_words = λ are. round.still_words (turned.still_words are);
  cell = λ r c l h.
      round.cell r c l h
      ∙ turned.cell (crossed s r c) (crossed s c r) (crossed_below s stride.positive stride.whole r c l) (crossed_below s stride.positive stride.whole c r h)
      ∙ ap₂ (bit start) (mixed_crossed s stride.positive r c) (mixed_crossed s stride.positive c r);
}

pub turned_confined : {m n : ℕ} {start words : List ℕ} → Turned m start words → Inside n start → Confined m n words
turned_confined {m} {n} {start} {words} turned known = record {
  full = turned.as_many ∙ known.full;
  inside = λ r c l h t.
      known.inside (mixed m c r) (mixed m r c) (mixed_below turned.positive turned.whole c r h) (mixed_below turned.positive turned.whole r c l)
      (subst (λ (b : Bool). T b) (turned.cell r c l h) t);
}

pub turned_end : {start words : List ℕ} → Turned 1 start words → Transpose start words
unfolding mixed
turned_end {start} turned = record {
  as_many = turned.as_many;
  still_words = turned.still_words;
  swapped = λ u v l h.
      turned.cell v u h l
      ∙ ap₂ (bit start) (let e : u / 1 * 1 + v % 1 ≡ u = omega arith in e) (let e : v / 1 * 1 + u % 1 ≡ v = omega arith in e);
}
