-- The columns of a graph hold those that lead to each vertex.
--   own_transpose            the rows of a two-way graph are their own transpose
--   columns_within            columns that are the first words of an array fit into it
--   first_columns            the first words of a transposed square are the columns;   first_rows   those of a two-way graph's copy are, too
-- Assumes nothing.
use mathlib.Core.Path.{◌≡◌, refl, sym, ap, ◌∙◌, subst}
use mathlib.Core.List.{List, ◌++◌}
use Prim.Native.Nat.{ℕ, ◌≤◌}
use native.Mathlib.Omega.{arith}
use lib.ListN.{length, take, length-take}
use lib.Seq.{length-take-le, get_or-take, take_at}
use Rattle.bitset.specs.Word.{member}
use Rattle.bitset.specs.Matrix.{Columns}
use Rattle.searches.specs.Ordering.{arcs}
use Rattle.searches.specs.Answer.{BothWays}
use Rattle.lookup.specs.Columns.{Transposed}

-- 02: K4, a two-way graph's rows need no transposing
pub own_transpose : (rows : List ℕ) → BothWays rows → Transposed rows rows
own_transpose rows both = record { as_many = refl; swapped = λ u v l h. both v u h l }

-- there are at least so many words
pub columns_within : (rows columns : List ℕ) → Transposed rows (take (length rows) columns) → length rows ≤ length columns
columns_within rows columns transpose = omega (arith, transpose.as_many, length-take (length rows) columns)

-- words that are the transposed rows, as many as there are rows
pub first_columns : (rows : List ℕ) → length rows ≤ 64 → {columns : List ℕ} → Columns rows columns → Transposed rows (take (length rows) columns)
unfolding arcs
first_columns rows small {columns} made = record {
  as_many = length-take-le (length rows) columns (omega (arith, made.full));
  swapped = λ u v l h. ap (λ (column : ℕ). member column u) (get_or-take (length rows) columns v 0 h) ∙ made.column u v (omega arith) (omega arith);
}

-- the rows of a two-way graph at the front of an array
pub first_rows : (rows : List ℕ) → BothWays rows → (rest : List ℕ) {columns : List ℕ} → columns ≡ rows ++ rest → Transposed rows (take (length rows) columns)
first_rows rows both rest e =
    subst (λ (columns : List ℕ). Transposed rows columns) (sym (ap (take (length rows)) e ∙ take_at rows rest (length rows) refl)) (own_transpose rows both)
