-- Graphs given by tables: the row of a vertex is m words, one behind the other, with vertex v in word v div 64 at bit v mod 64. With one word a row a table
-- is a list of rows.
--   arcs_wide m table u v     u leads to v: with m words a row, bit v mod 64 of word v div 64 of row u is set     [02, K12]
--   size_wide m table         how many rows the table has
--   widened m rows           rows of one word each as a table of m + 1 words a row
use Rattle.std.specs.Prelude.{ℕ, ◌+◌, ◌*◌, ◌/◌, ◌%◌, Bool, ◌&&◌, List, [], ◌∷◌, ◌++◌, ltb, length, get_or, replicate}
use Rattle.bitset.specs.Word.{member}

-- no vertex from 64 * m up is in a row, so that a number beyond a row reads no other row
unfoldable pub arcs_wide : ℕ → List ℕ → ℕ → ℕ → Bool
arcs_wide m table u v = ltb v (64 * m) && member (get_or table (m * u + v / 64) 0) (v % 64)

unfoldable pub size_wide : ℕ → List ℕ → ℕ
size_wide m table = length table / m

unfoldable pub widened : ℕ → List ℕ → List ℕ
widened m [] = []
widened m (row ∷ rows) = row ∷ (replicate m 0 ++ widened m rows)
