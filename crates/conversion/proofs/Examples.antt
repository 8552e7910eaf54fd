-- The definitions, run: plans with their layouts, there and back, and lists with what is answered of them, each case of refusal 26 among them.
--   Plan, plans, plans_right             the layout of rows, and the rows of that layout
--   Answered, answered, answered_right   what `to_rows` answers of lists
-- Assumes nothing.
use Prim.Native.Nat.{ℕ}
use mathlib.Core.Path.{◌≡◌, refl}
use mathlib.Core.List.{List, [], ◌∷◌, map}
use mathlib.Core.Option.{Option, none, some}
use lib.ListN.{replicate}
use Rattle.bitset.specs.Below.{any_below}
use Rattle.bitset.specs.Word.{member, inserted, set_below}
use Rattle.searches.specs.Ordering.{arcs}
use Rattle.searches.specs.Answer.{is_two_way, vertex_outside, first_refusal}
use Rattle.searches.specs.declared.Mark.{Mark}
use Rattle.adjacency.specs.Layout.{size_of, stands_in, arcs_listed, falls_at, unsorted_in, unsorted_at, form_tests, self_loop_in, one_way_in, listed_tests, list_of, rows_of, rows_listed}
use Rattle.conversion.specs.Conversion.{numbers_below, neighbours_below, neighbours_of, offsets_of, to_rows_tests, to_rows_answer}

-- ---- plans and their layouts

pub record Plan : Type 0 where
  pub rows : List ℕ
  pub offsets : List ℕ
  pub neighbours : List ℕ

abbrev plan : List ℕ → List ℕ → List ℕ → Plan
plan rows offsets neighbours = record { rows = rows; offsets = offsets; neighbours = neighbours }

abbrev pub plans : List Plan
plans =
    -- no point
    plan [] (0 ∷ []) []
    -- one point
    ∷ plan (0 ∷ []) (0 ∷ 0 ∷ []) []
    -- the links 0-1, 0-2, 2-3
    ∷ plan (6 ∷ 1 ∷ 9 ∷ 4 ∷ []) (0 ∷ 2 ∷ 3 ∷ 5 ∷ 6 ∷ []) (1 ∷ 2 ∷ 0 ∷ 0 ∷ 3 ∷ 2 ∷ [])
    -- two pieces, 0-2 and 3-4, and 1 by itself
    ∷ plan (4 ∷ 0 ∷ 1 ∷ 16 ∷ 8 ∷ []) (0 ∷ 1 ∷ 1 ∷ 2 ∷ 3 ∷ 4 ∷ []) (2 ∷ 0 ∷ 4 ∷ 3 ∷ [])
    -- one-way: 0 to 2, 1 to 0, 1 to 2
    ∷ plan (4 ∷ 5 ∷ 0 ∷ []) (0 ∷ 1 ∷ 3 ∷ 3 ∷ []) (2 ∷ 0 ∷ 2 ∷ [])
    -- all links of four points
    ∷ plan (14 ∷ 13 ∷ 11 ∷ 7 ∷ []) (0 ∷ 3 ∷ 6 ∷ 9 ∷ 12 ∷ []) (1 ∷ 2 ∷ 3 ∷ 0 ∷ 2 ∷ 3 ∷ 0 ∷ 1 ∷ 3 ∷ 0 ∷ 1 ∷ 2 ∷ [])
    ∷ []

pub plans_right : (map (λ (p : Plan). offsets_of p.rows) plans ≡ map (λ (p : Plan). p.offsets) plans)
    × (map (λ (p : Plan). neighbours_of p.rows) plans ≡ map (λ (p : Plan). p.neighbours) plans)
    × (map (λ (p : Plan). rows_listed p.offsets p.neighbours) plans ≡ map (λ (p : Plan). p.rows) plans)
unfolding member inserted set_below any_below arcs size_of stands_in arcs_listed list_of rows_of rows_listed numbers_below neighbours_below neighbours_of offsets_of
plans_right = (refl, refl, refl)

-- ---- lists and what is answered of them

pub record Answered : Type 0 where
  pub mark : Mark
  pub offsets : List ℕ
  pub neighbours : List ℕ
  -- how many entries the output list has
  pub room : ℕ
  pub answer : Option ℕ

abbrev ask : Mark → List ℕ → List ℕ → ℕ → Option ℕ → Answered
ask mark offsets neighbours room answer = record { mark = mark; offsets = offsets; neighbours = neighbours; room = room; answer = answer }

abbrev pub answered : List Answered
answered =
    ask Mark.TwoWay (0 ∷ []) [] 0 none
    ∷ ask Mark.TwoWay (0 ∷ 1 ∷ 2 ∷ []) (1 ∷ 0 ∷ []) 2 none
    ∷ ask Mark.OneWay (0 ∷ 1 ∷ 1 ∷ []) (1 ∷ []) 5 none
    -- more than 65 offsets, which fall
    ∷ ask Mark.TwoWay (1 ∷ replicate 65 0) [] 0 (some 2)
    -- 26: no offset; the first is not 0; they fall; the last is less or more than the list is long
    ∷ ask Mark.TwoWay [] [] 0 (some 26)
    ∷ ask Mark.TwoWay (1 ∷ 1 ∷ 2 ∷ []) (1 ∷ 0 ∷ []) 2 (some 26)
    ∷ ask Mark.OneWay (0 ∷ 2 ∷ 1 ∷ 2 ∷ []) (1 ∷ 2 ∷ []) 3 (some 26)
    ∷ ask Mark.OneWay (0 ∷ 1 ∷ 1 ∷ []) (1 ∷ 0 ∷ []) 2 (some 26)
    ∷ ask Mark.OneWay (0 ∷ 1 ∷ 3 ∷ []) (1 ∷ 0 ∷ []) 2 (some 26)
    -- 26: two neighbours equal, falling; a neighbour that is no point
    ∷ ask Mark.OneWay (0 ∷ 2 ∷ 2 ∷ 2 ∷ []) (1 ∷ 1 ∷ []) 3 (some 26)
    ∷ ask Mark.OneWay (0 ∷ 2 ∷ 2 ∷ 2 ∷ []) (2 ∷ 1 ∷ []) 3 (some 26)
    ∷ ask Mark.OneWay (0 ∷ 1 ∷ 1 ∷ []) (2 ∷ []) 2 (some 26)
    -- 26 before 4, 4 before 5, 5 before 10
    ∷ ask Mark.TwoWay (0 ∷ 1 ∷ 2 ∷ []) (0 ∷ 2 ∷ []) 2 (some 26)
    ∷ ask Mark.TwoWay (0 ∷ 1 ∷ 2 ∷ []) (1 ∷ 1 ∷ []) 2 (some 4)
    ∷ ask Mark.TwoWay (0 ∷ 1 ∷ 1 ∷ []) (1 ∷ []) 1 (some 5)
    ∷ ask Mark.OneWay (0 ∷ 1 ∷ 1 ∷ []) (1 ∷ []) 1 (some 10)
    -- the end of one list and the start of the next need not ascend
    ∷ ask Mark.OneWay (0 ∷ 2 ∷ 3 ∷ 3 ∷ []) (1 ∷ 2 ∷ 0 ∷ []) 3 none
    ∷ []

pub answered_right : map (λ (a : Answered). to_rows_answer a.mark a.offsets a.neighbours (replicate a.room 7)) answered ≡ map (λ (a : Answered). a.answer) answered
unfolding any_below size_of stands_in arcs_listed falls_at unsorted_in unsorted_at form_tests self_loop_in one_way_in listed_tests is_two_way vertex_outside first_refusal to_rows_tests to_rows_answer
answered_right = refl
