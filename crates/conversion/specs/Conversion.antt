-- From rows to adjacency lists and back, on lists that the caller owns, for every input: refusals first.               [02, K10: a conversion each way]
--   numbers_below k f                the numbers below k at which f holds, ascending
--   neighbours_below rows u          the neighbours of vertex 0, then those of vertex 1, and so on, up to those of u - 1
--   offsets_of, neighbours_of rows    the layout of rows
--   rows_tests mark rows             what is refused of rows: 2 to 5
--   to_lists_tests, to_lists_answer     what is refused of rows and two output lists, and what is answered
--   offsets_left, neighbours_left     what the output lists then hold
--   to_rows_tests, to_rows_answer, rows_left   likewise of a layout and an output list for rows
use Rattle.std.specs.Prelude.{ℕ, zero, suc, Bool, cond, ◌&&◌, ◌||◌, List, [], ◌∷◌, ◌++◌, ltb, length, drop}
use Rattle.std.proofs.Math.Option.{Option, none, some}
use Rattle.searches.specs.Ordering.{arcs}
use Rattle.searches.specs.Answer.{bit_outside, self_loop, one_way, is_two_way, first_refusal}
use Rattle.searches.specs.declared.Mark.{Mark}
use Rattle.adjacency.specs.Layout.{size_of, list_of, rows_listed, listed_tests}

unfoldable pub numbers_below : ℕ → (ℕ → Bool) → List ℕ
numbers_below zero f = []
numbers_below (suc v) f = numbers_below v f ++ cond (f v) (v ∷ []) []

unfoldable pub neighbours_below : List ℕ → ℕ → List ℕ
neighbours_below rows zero = []
neighbours_below rows (suc u) = neighbours_below rows u ++ numbers_below 64 (arcs rows u)

unfoldable pub neighbours_of : List ℕ → List ℕ
neighbours_of rows = neighbours_below rows (length rows)

-- the offset of u: how many neighbours stand before its own
unfoldable pub offsets_of : List ℕ → List ℕ
offsets_of rows = list_of (suc (length rows)) (λ u. length (neighbours_below rows u))

-- ---- from rows

unfoldable pub rows_tests : Mark → List ℕ → List (ℕ × Bool)
rows_tests mark rows =
    (2, ltb 64 (length rows))
    ∷ (3, bit_outside rows)
    ∷ (4, self_loop rows)
    ∷ (5, is_two_way mark && one_way rows)
    ∷ []

module _ (mark : Mark) (rows offsets neighbours : List ℕ) where
  unfoldable pub to_lists_tests : List (ℕ × Bool)
  to_lists_tests = rows_tests mark rows ++ (10, ltb (length offsets) (suc (length rows)) || ltb (length neighbours) (length (neighbours_of rows))) ∷ []

  unfoldable pub to_lists_answer : Option ℕ
  to_lists_answer = first_refusal to_lists_tests

  -- on success the layout, and behind it the entries that stood there; on refusal what it was
  unfoldable pub offsets_left : List ℕ
  offsets_left =
      elim (first_refusal to_lists_tests) [
        | none ↦ offsets_of rows ++ drop (suc (length rows)) offsets
        | some r ↦ offsets
      ]

  unfoldable pub neighbours_left : List ℕ
  neighbours_left =
      elim (first_refusal to_lists_tests) [
        | none ↦ neighbours_of rows ++ drop (length (neighbours_of rows)) neighbours
        | some r ↦ neighbours
      ]

-- ---- from lists

module _ (mark : Mark) (offsets neighbours rows : List ℕ) where
  unfoldable pub to_rows_tests : List (ℕ × Bool)
  to_rows_tests = listed_tests mark offsets neighbours ++ (10, ltb (length rows) (size_of offsets)) ∷ []

  unfoldable pub to_rows_answer : Option ℕ
  to_rows_answer = first_refusal to_rows_tests

  unfoldable pub rows_left : List ℕ
  rows_left =
      elim (first_refusal to_rows_tests) [
        | none ↦ rows_listed offsets neighbours ++ drop (size_of offsets) rows
        | some r ↦ rows
      ]
