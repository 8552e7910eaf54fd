-- A two-way graph written as text: a line with its size, then a line for each link, smaller vertex first, ascending.
--   head_text format n m     the first line, for n vertices and m links
--   link_text format c       the line of the link with number c, 64 u + v (`link_list` of `sheet`)
--   plan_text format rows    the whole text: as a DIMACS edge file [02: K13, export], or as a sheet with an empty walk [01: the sheet]
--   shown y                 the last digit of y, and nothing where y is 0: a digit before the last one of a number
--   room                    as many bytes as such a text can have: 15 for the first line, 9 for each of 2016 links
use Rattle.std.specs.Prelude.{ℕ, suc, ◌/◌, ◌%◌, cond, List, [], ◌∷◌, ◌++◌, eqb, length}
use Rattle.fields.specs.Field.{ones}
use Rattle.sheet.specs.Written.{link_list, first_line, link_line, lines}
use Rattle.edge_lines.specs.Writing.{problem_text, edge_text}
use Rattle.plan_text.specs.declared.Format.{Format}

unfoldable pub head_text : Format → ℕ → ℕ → List ℕ
head_text Format.Edges n m = problem_text n m ++ 10 ∷ []
head_text Format.Sheet n m = first_line n m 0

-- in an edge file vertices are counted from 1
unfoldable pub link_text : Format → ℕ → List ℕ
link_text Format.Edges c = edge_text (suc (c / 64)) (suc (c % 64)) ++ 10 ∷ []
link_text Format.Sheet c = link_line c

unfoldable pub plan_text : Format → List ℕ → List ℕ
plan_text format rows = head_text format (length rows) (length (link_list rows)) ++ lines (link_text format) (link_list rows)

unfoldable pub shown : ℕ → List ℕ
shown y = cond (eqb y 0) [] (ones y ∷ [])

abbrev pub room : ℕ
room = 18159
