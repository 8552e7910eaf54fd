-- Rows read out of a plan's bytes.
--   word_lower      one byte more below a word
--   Reading         the upper bytes of the row of u, from place b on, are read;   reading_*   one after the other, down to its lowest
--   row_of_word     the word of u, of eight bytes each, is its row
--   Decoding        the loop of `decode`: the rows below u are written
--   rows_count      a plan of m bytes holds m / 8 rows
--   part_*          so many stand at the front of the array
-- Assumes nothing.
use Prim.Native.Nat.{ℕ, zero, suc, ◌+◌, ◌-◌, ◌*◌, ◌/◌, ◌^◌, ◌≤◌, ◌<◌}
use mathlib.Core.Path.{◌≡◌, refl, sym, ap, ◌∙◌}
use mathlib.Core.List.{List}
use native.Mathlib.Nat.{add-zero, pow-suc, pow-le-pow_right, mul_assoc}
use native.Mathlib.Numerals.{add-one}
use native.Mathlib.Omega.{arith}
use lib.Arith.{digits_lt}
use lib.Dec.{lit<}
use lib.ListN.{length, get_or, take, drop, set, length-append, length-take, length-set}
use lib.Seq.{take-suc-set, get_or-take, get_or-drop, drop-drop}
use Rattle.std.specs.Simd.{first_chunks}
use Rattle.std.specs.Int.{w64, from_le_bytes}
use Rattle.firmware.specs.Plan.{byte_at, word_at, row_at, rows_below, plan_rows}

pub word_lower : (m : ℕ) (plan : List ℕ) (i : ℕ) → word_at (suc m) plan i ≡ word_at m plan (suc i) * 256 + byte_at plan i
unfolding word_at
word_lower zero plan i = rw add-zero (omega arith)
word_lower (suc m) plan i =
    let place : i + suc m ≡ suc i + m = omega arith in
    let weight : byte_at plan (i + suc m) * 256 ^ suc m ≡ byte_at plan (suc i + m) * 256 ^ m * 256 = rw (place, pow-suc, mul_assoc) in
    omega (arith, word_lower m plan i, weight)

pub record Reading (plan : List ℕ) (u row b : ℕ) : Type 0 where
  pub upto : b ≤ 8
  pub small : row < 256 ^ (8 - b)
  pub read : row ≡ word_at (8 - b) plan (8 * u + b)

module _ (plan : List ℕ) (u : ℕ) where
  pub reading_start : Reading plan u 0 8
  unfolding word_at
  reading_start = record { upto = omega arith; small = lit< tt; read = refl }

  pub reading_end : {row b : ℕ} → Reading plan u row b → b ≤ 0 → row ≡ row_at plan u
  unfolding row_at
  reading_end {row} {b} r l =
      let none : b ≡ 0 = omega arith in
      r.read ∙ (rw (none, add-zero))

  -- the row has room for another byte
  pub reading_fits : {row b : ℕ} → Reading plan u row b → 0 < b → row * 256 + 255 < 2 ^ 64
  reading_fits {row} {b} r l =
      let most : 256 ^ (8 - b) ≤ 256 ^ 7 = pow-le-pow_right (lit< tt) {i = 8 - b} {j = 7} (omega arith) in
      omega (arith, r.small)

  pub reading_next : {row b : ℕ} → Reading plan u row b → 0 < b → byte_at plan (8 * u + (b - 1)) < 256
      → Reading plan u (row * 256 + byte_at plan (8 * u + (b - 1))) (b - 1)
  reading_next {row} {b} r l byte =
      let more : 8 - (b - 1) ≡ suc (8 - b) = omega (arith, r.upto) in
      let above : suc (8 * u + (b - 1)) ≡ 8 * u + b = omega arith in
      record {
        upto = omega (arith, r.upto);
        small = rw (more, pow-suc) (digits_lt r.small byte);
        read = rw (more, word_lower (8 - b) plan (8 * u + (b - 1)), above, ← r.read);
      }

-- ---- the words of the bytes, eight bytes each

word_of : (n k u : ℕ) (bytes none : List ℕ) → u < k → get_or (first_chunks n k bytes) u none ≡ take n (drop (n * u) bytes)
word_of n zero u bytes none l = absurd (omega arith)
word_of n (suc k) zero bytes none l = let front : 0 ≡ n * 0 = omega arith in ap (λ (i : ℕ). take n (drop i bytes)) front
word_of n (suc k) (suc u) bytes none l =
    let next : n + n * u ≡ n * suc u = omega arith in
    word_of n k u (drop n bytes) none (omega arith) ∙ ap (λ (b : List ℕ). take n b) (drop-drop (n * u) n bytes) ∙ ap (λ (i : ℕ). take n (drop i bytes)) next

byte_of : (plan : List ℕ) (u b : ℕ) → b < 8 → get_or (take 8 (drop (8 * u) plan)) b 0 ≡ byte_at plan (8 * u + b)
byte_of plan u b l = get_or-take 8 (drop (8 * u) plan) b 0 l ∙ get_or-drop (8 * u) plan b 0

pub row_of_word : (plan : List ℕ) {words : List (List ℕ)} (u : ℕ) (none : List ℕ) → words ≡ first_chunks 8 (length plan / 8) plan → u < length plan / 8
    → from_le_bytes w64 (get_or words u none) ≡ row_at plan u
unfolding row_at word_at
row_of_word plan u none e l =
    ap (λ (all : List (List ℕ)). from_le_bytes w64 (get_or all u none)) e
    ∙ ap (λ (word : List ℕ). from_le_bytes w64 word) (word_of 8 (length plan / 8) u plan none l)
    ∙ (let b0 = byte_of plan u 0 (lit< tt) in
    let b1 = byte_of plan u 1 (lit< tt) in
    let b2 = byte_of plan u 2 (lit< tt) in
    let b3 = byte_of plan u 3 (lit< tt) in
    let b4 = byte_of plan u 4 (lit< tt) in
    let b5 = byte_of plan u 5 (lit< tt) in
    let b6 = byte_of plan u 6 (lit< tt) in
    let b7 = byte_of plan u 7 (lit< tt) in
    omega arith)

pub record Decoding (plan rows : List ℕ) (u : ℕ) : Type 0 where
  pub upto : u ≤ length plan / 8
  pub room : length rows ≡ 64
  pub decoded : take u rows ≡ rows_below plan u

module _ (plan : List ℕ) where
  pub decoding_start : (rows : List ℕ) → length rows ≡ 64 → Decoding plan rows 0
  unfolding rows_below
  decoding_start rows e = record { upto = omega arith; room = e; decoded = refl }

  pub decoding_next : {rows : List ℕ} {u : ℕ} (row : ℕ) → Decoding plan rows u → u < length plan / 8 → length plan ≤ 512 → row ≡ row_at plan u
      → Decoding plan (set rows u row) (u + 1)
  unfolding rows_below
  decoding_next {rows} {u} row d l few e = record {
    upto = omega arith;
    room = length-set rows u row ∙ d.room;
    decoded = rw (add-one, take-suc-set rows u row (omega (arith, d.room)), d.decoded, e);
  }

  pub decoding_end : {rows : List ℕ} {u : ℕ} → Decoding plan rows u → length plan / 8 ≤ u → take (length plan / 8) rows ≡ plan_rows plan
  unfolding plan_rows
  decoding_end {rows} {u} d l = let all : length plan / 8 ≡ u = omega (arith, d.upto) in rw (all, d.decoded)

-- ---- the rows as a list

below_count : (plan : List ℕ) (n : ℕ) → length (rows_below plan n) ≡ n
unfolding rows_below
below_count plan zero = refl
below_count plan (suc n) = rw (length-append, below_count plan n) (omega arith)

pub rows_count : (plan : List ℕ) → length (plan_rows plan) ≡ length plan / 8
unfolding plan_rows
rows_count plan = below_count plan (length plan / 8)

-- the part of the array that is passed on
module _ (plan rows : List ℕ) (decoded : take (length plan / 8) rows ≡ plan_rows plan) where
  pub part_length : length plan / 8 ≡ length (take (length plan / 8) rows)
  part_length = sym (ap length decoded ∙ rows_count plan)

  pub part_within : length plan / 8 ≤ length rows
  part_within = omega (arith, part_length, length-take (length plan / 8) rows)
