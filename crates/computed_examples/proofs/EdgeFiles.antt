-- DIMACS edge files, computed from the definitions: what import answers of some, and what export writes.
--   file_of lines                     the bytes of these lines, each with its line end
--   Imported, imports, imports_right files with what is answered, and left in a list of five entries
--   exports_right                    the text of some plans
-- Assumes nothing.
use Prim.Native.Nat.{ℕ}
use Prim.Native.String.{String}
use mathlib.Core.Path.{◌≡◌, refl}
use mathlib.Core.List.{List, [], ◌∷◌, ◌++◌, map}
use lib.ListN.{replicate}
use Rattle.bitset.specs.Word.{member, inserted}
use Rattle.searches.specs.Ordering.{arcs}
use Rattle.searches.specs.Answer.{first_refusal}
use Rattle.fields.specs.Field.{ones, digit_value}
use Rattle.lines.specs.Line.{joined}
use Rattle.wording.specs.Text.{bytes}
use Rattle.wording.specs.Decimal.{digits, decimal, is_digit, value_from, value}
use Rattle.wording.specs.Reading.{is_other, front, behind}
use Rattle.sheet.specs.Written.{list_below, is_link, link_list, lines}
use Rattle.edge_lines.specs.Writing.{pair_text, problem_text, edge_text}
use Rattle.edge_lines.specs.Reading.{begins, is_numeral, first_digits, behind_first, second_digits, behind_second, is_pair, said, told_from, told}
use Rattle.plan_text.specs.Text.{head_text, link_text, plan_text}
use Rattle.dimacs.specs.Import.{is_comment, uncommented, content, is_problem, points_in, announced_in, headed, points, announced, following, is_point, is_edge, is_loop, every, any}
use Rattle.dimacs.specs.Import.{formed, looped, with_link, with_links, drawn_rows, Imports, read, refused, import_tests, import_answer, import_output}
use Rattle.dimacs.specs.Export.{edge_file}

abbrev file_of : List String → List ℕ
file_of [] = []
file_of (l ∷ ls) = bytes l ++ 10 ∷ file_of ls

-- ---- import

pub record Imported : Type 0 where
  pub file : List ℕ
  pub answer : Imports
  -- what is left in the list 7 7 7 7 7
  pub left : List ℕ

abbrev sevens : List ℕ
sevens = replicate 5 7

abbrev accepted : List ℕ → ℕ → List ℕ → Imported
accepted file n left = record { file = file; answer = read n; left = left }

abbrev rejected : List ℕ → ℕ → Imported
rejected file r = record { file = file; answer = refused r; left = replicate 5 7 }

abbrev pub imports : List Imported
imports =
    -- the links 0-1, 0-2, 1-3; again with comments, and with links that come again, either way round
    accepted (file_of ("p edge 4 3" ∷ "e 1 2" ∷ "e 1 3" ∷ "e 2 4" ∷ [])) 4 (6 ∷ 9 ∷ 1 ∷ 2 ∷ 7 ∷ [])
    ∷ accepted (file_of ("c a" ∷ "cat" ∷ "p edge 4 3" ∷ "c" ∷ "e 1 2" ∷ "e 1 3" ∷ "e 2 4" ∷ "c e 1 1" ∷ [])) 4 (6 ∷ 9 ∷ 1 ∷ 2 ∷ 7 ∷ [])
    ∷ accepted (file_of ("p edge 4 5" ∷ "e 2 1" ∷ "e 1 3" ∷ "e 1 2" ∷ "e 2 4" ∷ "e 2 4" ∷ [])) 4 (6 ∷ 9 ∷ 1 ∷ 2 ∷ 7 ∷ [])
    -- no points; two pieces, and a point by itself
    ∷ accepted (file_of ("p edge 0 0" ∷ [])) 0 (7 ∷ 7 ∷ 7 ∷ 7 ∷ 7 ∷ [])
    ∷ accepted (file_of ("p edge 5 2" ∷ "e 1 3" ∷ "e 4 5" ∷ [])) 5 (4 ∷ 0 ∷ 1 ∷ 16 ∷ 8 ∷ [])
    -- 27 up to the p line: an empty file, comments alone, a link first, another word, too few numbers, a leading zero, no line end
    ∷ rejected [] 27
    ∷ rejected (file_of ("c" ∷ [])) 27
    ∷ rejected (file_of ("e 1 2" ∷ "p edge 2 1" ∷ [])) 27
    ∷ rejected (file_of ("p col 2 0" ∷ [])) 27
    ∷ rejected (file_of ("p edge 2" ∷ [])) 27
    ∷ rejected (file_of ("p edge 02 0" ∷ [])) 27
    ∷ rejected (bytes "p edge 2 0") 27
    -- 2: also for a number that no machine word holds, and before the other lines
    ∷ rejected (file_of ("p edge 65 0" ∷ [])) 2
    ∷ rejected (file_of ("p edge 18446744073709551618 0" ∷ "x" ∷ [])) 2
    -- 27 for the other lines: a second p line, two spaces, points that there are not, m too small, too large and much too large, bytes without a line end
    ∷ rejected (file_of ("p edge 2 0" ∷ "p edge 2 0" ∷ [])) 27
    ∷ rejected (file_of ("p edge 2 1" ∷ "e 1  2" ∷ [])) 27
    ∷ rejected (file_of ("p edge 2 1" ∷ "e 0 1" ∷ [])) 27
    ∷ rejected (file_of ("p edge 2 1" ∷ "e 1 3" ∷ [])) 27
    ∷ rejected (file_of ("p edge 2 1" ∷ "e 1 18446744073709551618" ∷ [])) 27
    ∷ rejected (file_of ("p edge 2 0" ∷ "e 1 2" ∷ [])) 27
    ∷ rejected (file_of ("p edge 2 2" ∷ "e 1 2" ∷ [])) 27
    ∷ rejected (file_of ("p edge 2 18446744073709551617" ∷ "e 1 2" ∷ [])) 27
    ∷ rejected (file_of ("p edge 2 1" ∷ "e 1 2" ∷ []) ++ bytes "c") 27
    -- 27 before 4, 4 before 10, 10
    ∷ rejected (file_of ("p edge 6 1" ∷ "e 1 1" ∷ "e" ∷ [])) 27
    ∷ rejected (file_of ("p edge 6 1" ∷ "e 1 1" ∷ [])) 4
    ∷ rejected (file_of ("p edge 6 0" ∷ [])) 10
    ∷ []

pub imports_right : (map (λ (i : Imported). import_answer i.file sevens) imports ≡ map (λ (i : Imported). i.answer) imports)
    × (map (λ (i : Imported). import_output i.file sevens) imports ≡ map (λ (i : Imported). i.left) imports)
unfolding bytes is_digit digit_value value_from value is_other front behind begins is_numeral first_digits behind_first second_digits behind_second is_pair said told_from told is_comment uncommented content is_problem points_in announced_in headed points announced following is_point is_edge is_loop every any formed looped inserted joined with_link with_links drawn_rows first_refusal import_tests import_answer import_output
imports_right = (refl, refl)

-- ---- export

pub exports_right : map edge_file ([] ∷ (0 ∷ []) ∷ (6 ∷ 9 ∷ 1 ∷ 2 ∷ []) ∷ (4 ∷ 0 ∷ 1 ∷ 16 ∷ 8 ∷ []) ∷ [])
    ≡ file_of ("p edge 0 0" ∷ [])
    ∷ file_of ("p edge 1 0" ∷ [])
    ∷ file_of ("p edge 4 3" ∷ "e 1 2" ∷ "e 1 3" ∷ "e 2 4" ∷ [])
    ∷ file_of ("p edge 5 2" ∷ "e 1 3" ∷ "e 4 5" ∷ [])
    ∷ []
unfolding bytes ones digits decimal member arcs list_below is_link link_list lines pair_text problem_text edge_text head_text link_text plan_text edge_file
exports_right = refl
