-- A plan: the rows of a graph as bytes, eight to a row.
--   byte_at plan i          the byte at i; behind the end 0
--   word_at m plan i        the m bytes from i on as one number, lowest first: the byte b places on counts 256 ^ b
--   row_at plan u           the u-th row: eight bytes from 8 u on                                 [01: eight bytes a row, lowest first]
--   rows_below plan n       the first n rows
--   plan_rows plan          the rows that the plan's bytes hold
use Rattle.std.specs.Prelude.{ℕ, zero, suc, ◌+◌, ◌*◌, ◌/◌, ◌^◌, List, [], ◌∷◌, ◌++◌, length, get_or}

abbrev pub byte_at : List ℕ → ℕ → ℕ
byte_at plan i = get_or plan i 0

unfoldable pub word_at : ℕ → List ℕ → ℕ → ℕ
word_at zero plan i = 0
word_at (suc m) plan i = word_at m plan i + byte_at plan (i + m) * 256 ^ m

unfoldable pub row_at : List ℕ → ℕ → ℕ
row_at plan u = word_at 8 plan (8 * u)

unfoldable pub rows_below : List ℕ → ℕ → List ℕ
rows_below plan zero = []
rows_below plan (suc n) = rows_below plan n ++ row_at plan n ∷ []

unfoldable pub plan_rows : List ℕ → List ℕ
plan_rows plan = rows_below plan (length plan / 8)
