-- A sheet: a line with n, m and k, then m lines with a link each, then k lines with a point each. b is the list of its bytes.
--   points_of b, links_of b, places_of b     n, m and k of line 1
--   headed b                  line 1 has the form
--   link_start j, place_start b j           where the line of link j, of place j begins
--   from_of b j, to_of b j      the two points of link j;   before_from b j, before_to b j   of the link before it, 0 and 0 for the first
--   link_fits b j              the line of link j has the form, its points are points, smaller first, and it comes after the one before it (`link_fits_at` in `Line`
--                             of `lines`)
--   place_at b j               the number in the line of place j;   place_fits b j   the line has the form
--   formed b                  all lines after the first have the form, and nothing follows
--   joined_rows b j            the rows with the first j links (`joined` there)
--   tabulate k f              the list of f 0 to f (k - 1)
--   walk_of b, rows_of b        the walk and the rows that the sheet holds
--   sheet_tests b              what is refused: numbers and tests in 01's order                      [01: the sheet, checks]
--   read_answer b              the number of the first test that holds
--   line_fits b l              the line after l others has the form: line 1, then the links, then the places
--   stops_in b                 the first line, counted from 1, that has not the form; where all have it, the one after the last
--   stopped_in b               that line where the sheet is refused with 11, else 0;   stopped_with   the same by the answer
use Rattle.std.specs.Prelude.{ℕ, zero, suc, ◌+◌, ◌-◌, ◌*◌, Bool, cond, not, ◌&&◌, List, [], ◌∷◌, ◌++◌, ltb, eqb, length, take, replicate}
use Rattle.std.proofs.Math.Option.{Option, none, some}
use Rattle.bitset.specs.Below.{all_below, first_below}
use Rattle.searches.specs.Ordering.{at}
use Rattle.searches.specs.Answer.{vertex_outside, repeated, first_refusal}
use Rattle.fields.specs.Field.{field_at}
use Rattle.lines.specs.Line.{link_fits_at, joined}

unfoldable pub points_of : List ℕ → ℕ
points_of b = field_at b 0

unfoldable pub links_of : List ℕ → ℕ
links_of b = field_at b 4

unfoldable pub places_of : List ℕ → ℕ
places_of b = field_at b 8

unfoldable pub headed : List ℕ → Bool
headed b = ((ltb (points_of b) 10000 && ltb (links_of b) 10000) && ltb (places_of b) 10000) && eqb (at b 12) 10

-- ---- links

-- where the line of link j begins
unfoldable pub link_start : ℕ → ℕ
link_start j = 13 + 9 * j

unfoldable pub from_of : List ℕ → ℕ → ℕ
from_of b j = field_at b (link_start j)

unfoldable pub to_of : List ℕ → ℕ → ℕ
to_of b j = field_at b (link_start j + 4)

unfoldable pub before_from : List ℕ → ℕ → ℕ
before_from b zero = 0
before_from b (suc j) = from_of b j

unfoldable pub before_to : List ℕ → ℕ → ℕ
before_to b zero = 0
before_to b (suc j) = to_of b j

unfoldable pub link_fits : List ℕ → ℕ → Bool
link_fits b j = link_fits_at b (link_start j) (points_of b) (before_from b j) (before_to b j)

unfoldable pub joined_rows : List ℕ → ℕ → List ℕ
joined_rows b zero = replicate 64 0
joined_rows b (suc j) = joined (from_of b j) (to_of b j) (joined_rows b j)

-- ---- places

unfoldable pub place_start : List ℕ → ℕ → ℕ
place_start b j = link_start (links_of b) + 5 * j

unfoldable pub place_at : List ℕ → ℕ → ℕ
place_at b j = field_at b (place_start b j)

unfoldable pub place_fits : List ℕ → ℕ → Bool
place_fits b j = ltb (place_at b j) 10000 && eqb (at b (place_start b j + 4)) 10

unfoldable pub tabulate : ℕ → (ℕ → ℕ) → List ℕ
tabulate zero f = []
tabulate (suc k) f = tabulate k f ++ f k ∷ []

-- ---- the whole sheet

unfoldable pub formed : List ℕ → Bool
formed b = (all_below (links_of b) (link_fits b) && all_below (places_of b) (place_fits b)) && eqb (length b) (place_start b (places_of b))

unfoldable pub walk_of : List ℕ → List ℕ
walk_of b = tabulate (places_of b) (place_at b)

unfoldable pub rows_of : List ℕ → List ℕ
rows_of b = take (points_of b) (joined_rows b (links_of b))

unfoldable pub sheet_tests : List ℕ → List (ℕ × Bool)
sheet_tests b =
    (11, not (headed b))
    ∷ (2, ltb 64 (points_of b))
    ∷ (6, ltb (points_of b) (places_of b))
    ∷ (11, not (formed b))
    ∷ (8, vertex_outside (points_of b) (walk_of b) (places_of b))
    ∷ (9, repeated (walk_of b) (places_of b))
    ∷ []

unfoldable pub read_answer : List ℕ → Option ℕ
read_answer b = first_refusal (sheet_tests b)

-- ---- where a sheet stops having the form

unfoldable pub line_fits : List ℕ → ℕ → Bool
line_fits b zero = headed b
line_fits b (suc j) = cond (ltb j (links_of b)) (link_fits b j) (place_fits b (j - links_of b))

unfoldable pub stops_in : List ℕ → ℕ
stops_in b = suc (first_below (suc (links_of b + places_of b)) (λ l. not (line_fits b l)))

unfoldable pub stopped_with : Option ℕ → List ℕ → ℕ
stopped_with none b = 0
stopped_with (some r) b = cond (eqb r 11) (stops_in b) 0

unfoldable pub stopped_in : List ℕ → ℕ
stopped_in b = stopped_with (read_answer b) b
