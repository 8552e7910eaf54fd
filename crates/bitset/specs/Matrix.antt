-- Words as a square of bits: bit c of word r stands in row r and column c, for r and c below 64.
--   bit words r c                the bit in row r and column c
--   AreWords words               each is a number of 64 bits
--   Inside n words               there are 64 words, and a bit that is set stands in one of the first n rows and columns
--   Within rows                  there are at most 64 rows, and none has a bit at or above their number
--   Columns rows columns         there are 64 columns, and bit u of column v is bit v of row u
--   Transpose before after       there are as many words, of 64 bits as before, and what stood in row u and column v stands in row v and column u
-- Rounds of exchanges. A stride s cuts the numbers into blocks of 2 * s, and each block into a lower and an upper half.
--   Stride s mask                blocks of 2 * s fill the square, and the mask has the numbers of the lower halves
--   IsLow s r, IsBegin s r       r is in a lower half; a block begins with r
--   low_of s r                    the number at the place of r in the lower half of its block
--   crossed s r c                the number at the place of r in the half of its block that is lower or upper as c's is
--   Exchanged s p before after   in each pair of rows whose lower one p holds for, row and column of every bit are crossed; the other rows are the same
--   between a b, every           the tests that a number is a or more and below b, and that hold always
--   mixed m h l                  the number in the block of m that h is in, at the place that l has in its own
--   Confined m n words           as Inside, after the rounds down to blocks of m: a bit that is set came from one of the first n rows and columns
use Rattle.std.specs.Prelude.{ℕ, ◌+◌, ◌*◌, ◌/◌, ◌%◌, ◌^◌, ◌≤◌, ◌<◌, ◌≡◌, Bool, true, cond, ◌&&◌, List, T, eqb, ltb, leb, length, get_or}
use Rattle.bitset.specs.Word.{member}

abbrev pub bit : List ℕ → ℕ → ℕ → Bool
bit words r c = member (get_or words r 0) c

abbrev pub AreWords : List ℕ → Type 0
AreWords words = (r : ℕ) → get_or words r 0 < 2 ^ 64

pub record Inside (n : ℕ) (words : List ℕ) : Type 0 where
  pub full : length words ≡ 64
  pub inside : (r c : ℕ) → r < 64 → c < 64 → T (bit words r c) → (r < n) × (c < n)

pub record Transpose (before after : List ℕ) : Type 0 where
  pub as_many : length after ≡ length before
  pub still_words : AreWords before → AreWords after
  pub swapped : (u v : ℕ) → u < 64 → v < 64 → bit after v u ≡ bit before u v

pub record Within (rows : List ℕ) : Type 0 where
  pub small : length rows ≤ 64
  pub within : (u v : ℕ) → v < 64 → T (bit rows u v) → v < length rows

pub record Columns (rows columns : List ℕ) : Type 0 where
  pub full : length columns ≡ 64
  pub column : (u v : ℕ) → u < 64 → v < 64 → bit columns v u ≡ bit rows u v

-- ---- rounds of exchanges

pub record Stride (s mask : ℕ) : Type 0 where
  pub positive : 0 < s
  pub small : s ≤ 32
  pub whole : 64 / (2 * s) * (2 * s) ≡ 64
  pub masked : (c : ℕ) → c < 64 → member mask c ≡ eqb (c / s % 2) 0

pub record IsLow (s r : ℕ) : Type 0 where
  pub below : r < 64
  pub lower : r / s % 2 ≡ 0

pub record IsBegin (s r : ℕ) : Type 0 where
  pub below : r < 64
  pub first : r % (2 * s) ≡ 0

unfoldable pub low_of : ℕ → ℕ → ℕ
low_of s r = r / (2 * s) * (2 * s) + r % s

unfoldable pub crossed : ℕ → ℕ → ℕ → ℕ
crossed s r c = r / (2 * s) * (2 * s) + (c / s % 2 * s + r % s)

pub record Exchanged (s : ℕ) (p : ℕ → Bool) (before after : List ℕ) : Type 0 where
  pub as_many : length after ≡ length before
  pub still_words : AreWords before → AreWords after
  pub cell : (r c : ℕ) → r < 64 → c < 64 → bit after r c ≡ cond (p (low_of s r)) (bit before (crossed s r c) (crossed s c r)) (bit before r c)

unfoldable pub between : ℕ → ℕ → ℕ → Bool
between a b r = leb a r && ltb r b

unfoldable pub every : ℕ → Bool
every r = true

unfoldable pub mixed : ℕ → ℕ → ℕ → ℕ
mixed m h l = h / m * m + l % m

pub record Confined (m n : ℕ) (words : List ℕ) : Type 0 where
  pub full : length words ≡ 64
  pub inside : (r c : ℕ) → r < 64 → c < 64 → T (bit words r c) → (mixed m c r < n) × (mixed m r c < n)
