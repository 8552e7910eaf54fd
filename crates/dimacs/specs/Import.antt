-- Import: a DIMACS edge file read into the rows of a two-way graph, for every file and output list there can be.                  [02: K13]
-- ls are what the lines of a file say, comments left out.
--   is_comment l, uncommented ls   l is a comment; the lines that are none
--   content b                     what the lines of the file b say, comments left out
--   headed ls                     the first of them is the p line;   points ls, announced ls   its n and m;   following ls   the lines behind it;
--                                 is_problem l, points_in l, announced_in l   the same of one line
--   is_point n u                   u is a point: it is from 1 to n
--   is_edge n l, is_loop l          l is a link between points; it links a point with itself;   every, any   of all lines, of one of them
--   formed ls                     the lines behind the p line are links between points, as many as it announces
--   looped ls                     one of them links a point with itself
--   with_link rows l, with_links rows ls     the rows with a link more, with all of them (`joined`: both rows get their bit)
--   drawn_rows ls                  the rows of the plan
--   import_tests b out             what is refused: numbers and tests in 02's order
--   Imports                       read n: a plan of n points; refused r: the refusal with number r
--   import_answer, import_output    what is answered, and what the output list then holds
--   imported_of                    an answer of the code as 02's number and value
use Rattle.std.specs.Prelude.{ℕ, ◌-◌, Bool, true, false, cond, not, ◌&&◌, ◌||◌, List, [], ◌∷◌, ◌++◌, ltb, leb, eqb, length, take, drop, replicate, Result, Ok, Err}
use Rattle.std.proofs.Math.Option.{none, some}
use Rattle.searches.specs.Answer.{first_refusal, number}
use Rattle.searches.specs.declared.Refusal.{Refusal}
use Rattle.lines.specs.Line.{joined}
use Rattle.edge_lines.specs.Reading.{told}
use Rattle.edge_lines.specs.declared.Line.{Line}

unfoldable pub is_comment : Line → Bool
is_comment Line.Comment = true
is_comment (Line.Problem n m) = false
is_comment (Line.Edge u v) = false
is_comment Line.Other = false

unfoldable pub uncommented : List Line → List Line
uncommented [] = []
uncommented (l ∷ ls) = let rest = uncommented ls in cond (is_comment l) rest (l ∷ rest)

unfoldable pub content : List ℕ → List Line
content b = uncommented (told b)

-- ---- the p line

unfoldable pub is_problem : Line → Bool
is_problem Line.Comment = false
is_problem (Line.Problem n m) = true
is_problem (Line.Edge u v) = false
is_problem Line.Other = false

unfoldable pub points_in : Line → ℕ
points_in Line.Comment = 0
points_in (Line.Problem n m) = n
points_in (Line.Edge u v) = 0
points_in Line.Other = 0

unfoldable pub announced_in : Line → ℕ
announced_in Line.Comment = 0
announced_in (Line.Problem n m) = m
announced_in (Line.Edge u v) = 0
announced_in Line.Other = 0

unfoldable pub headed : List Line → Bool
headed [] = false
headed (l ∷ ls) = is_problem l

unfoldable pub points : List Line → ℕ
points [] = 0
points (l ∷ ls) = points_in l

unfoldable pub announced : List Line → ℕ
announced [] = 0
announced (l ∷ ls) = announced_in l

unfoldable pub following : List Line → List Line
following [] = []
following (l ∷ ls) = ls

-- ---- the links

unfoldable pub is_point : ℕ → ℕ → Bool
is_point n u = leb 1 u && leb u n

unfoldable pub is_edge : ℕ → Line → Bool
is_edge n Line.Comment = false
is_edge n (Line.Problem n' m) = false
is_edge n (Line.Edge u v) = is_point n u && is_point n v
is_edge n Line.Other = false

unfoldable pub is_loop : Line → Bool
is_loop Line.Comment = false
is_loop (Line.Problem n m) = false
is_loop (Line.Edge u v) = eqb u v
is_loop Line.Other = false

module _ (test : Line → Bool) where
  unfoldable pub every : List Line → Bool
  every [] = true
  every (l ∷ ls) = let rest = every ls in test l && rest

  unfoldable pub any : List Line → Bool
  any [] = false
  any (l ∷ ls) = let rest = any ls in test l || rest

unfoldable pub formed : List Line → Bool
formed ls = every (is_edge (points ls)) (following ls) && eqb (length (following ls)) (announced ls)

unfoldable pub looped : List Line → Bool
looped ls = any is_loop (following ls)

-- vertices are counted from 0
unfoldable pub with_link : List ℕ → Line → List ℕ
with_link rows Line.Comment = rows
with_link rows (Line.Problem n m) = rows
with_link rows (Line.Edge u v) = joined (u - 1) (v - 1) rows
with_link rows Line.Other = rows

unfoldable pub with_links : List ℕ → List Line → List ℕ
with_links rows [] = rows
with_links rows (l ∷ ls) = with_links (with_link rows l) ls

unfoldable pub drawn_rows : List Line → List ℕ
drawn_rows ls = take (points ls) (with_links (replicate 64 0) (following ls))

-- ---- the call

pub data Imports : Type 0 where
  read : ℕ → Imports
  refused : ℕ → Imports

module _ (b out : List ℕ) where
  unfoldable pub import_tests : List (ℕ × Bool)
  import_tests =
      (27, not (headed (content b)))
      ∷ (2, ltb 64 (points (content b)))
      ∷ (27, not (formed (content b)))
      ∷ (4, looped (content b))
      ∷ (10, ltb (length out) (points (content b)))
      ∷ []

  unfoldable pub import_answer : Imports
  import_answer =
      elim (first_refusal import_tests) [
        | none ↦ read (points (content b))
        | some r ↦ refused r
      ]

  -- on success the rows, and behind them the entries that stood there; on refusal what it was
  unfoldable pub import_output : List ℕ
  import_output =
      elim (first_refusal import_tests) [
        | none ↦ drawn_rows (content b) ++ drop (points (content b)) out
        | some r ↦ out
      ]

unfoldable pub imported_of : Result ℕ Refusal → Imports
imported_of (Ok n) = read n
imported_of (Err r) = refused (number r)
