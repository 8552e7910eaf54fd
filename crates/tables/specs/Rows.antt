-- Rows and sets of eight words, read and changed. A set of vertices is a table of one row.
--   in_set set v                 v is in the set
--   row_of table u               the row of u: a test on the vertices, or of labels on the positions
--   in_word word i v             v stands in word i of a set, and that word has it
--   with_bit table u v           the table with the bit of v set in row u
--   without_bit table u v        the table with that bit cleared
--   EmptiedRow v before after   the row of v is empty then, and the others are as they were
use Rattle.std.specs.Prelude.{ℕ, ◌+◌, ◌*◌, ◌/◌, ◌%◌, ◌<◌, ◌≡◌, Bool, not, ◌&&◌, List, eqb, length, get_or, set}
use Rattle.bitset.specs.Word.{member, inserted, removed}
use Rattle.searches.specs.Table.{arcs_wide}

unfoldable pub in_set : List ℕ → ℕ → Bool
in_set words v = arcs_wide 8 words 0 v

unfoldable pub row_of : List ℕ → ℕ → ℕ → Bool
row_of table u = arcs_wide 8 table u

unfoldable pub in_word : ℕ → ℕ → ℕ → Bool
in_word word i v = eqb (v / 64) i && member word (v % 64)

unfoldable pub with_bit : List ℕ → ℕ → ℕ → List ℕ
with_bit table u v = set table (8 * u + v / 64) (inserted (get_or table (8 * u + v / 64) 0) (v % 64))

unfoldable pub without_bit : List ℕ → ℕ → ℕ → List ℕ
without_bit table u v = set table (8 * u + v / 64) (removed (get_or table (8 * u + v / 64) 0) (v % 64))

pub record EmptiedRow (v : ℕ) (before after : List ℕ) : Type 0 where
  pub same_length : length after ≡ length before
  pub row : (u q : ℕ) → u < 512 → arcs_wide 8 after u q ≡ (not (eqb v u) && arcs_wide 8 before u q)
