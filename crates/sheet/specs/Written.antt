-- The sheet of a graph and a walk, as it is written: the one sheet that is read as them.
--   list_below k f              the numbers below k at which f holds, ascending
--   is_link rows c              c stands for a link: it is 64 u + v, u is less than v, and u leads to v
--   link_list rows              the links, each by its number: ascending by number is ascending by pair
--   first_line n m k            line 1                                                                  [01: the sheet]
--   link_line c, place_line v    the line of a link, and of a place
--   lines line l               a line for each entry of l
--   sheet_of rows w             the sheet of the graph that the rows give and the walk w
--   longest                    as many bytes as the longest valid sheet has: 64 points, 2016 links, 64 places    [01: no valid sheet is longer]
use Rattle.std.specs.Prelude.{ℕ, zero, suc, ◌*◌, ◌/◌, ◌%◌, Bool, cond, ◌&&◌, List, [], ◌∷◌, ◌++◌, ltb, length}
use Rattle.searches.specs.Ordering.{arcs}
use Rattle.fields.specs.Field.{field}

unfoldable pub list_below : ℕ → (ℕ → Bool) → List ℕ
list_below zero f = []
list_below (suc k) f = let rest = list_below k f in cond (f k) (rest ++ k ∷ []) rest

unfoldable pub is_link : List ℕ → ℕ → Bool
is_link rows c = ltb (c / 64) (c % 64) && arcs rows (c / 64) (c % 64)

unfoldable pub link_list : List ℕ → List ℕ
link_list rows = list_below (64 * length rows) (is_link rows)

unfoldable pub first_line : ℕ → ℕ → ℕ → List ℕ
first_line n m k = field n ++ (field m ++ (field k ++ 10 ∷ []))

unfoldable pub link_line : ℕ → List ℕ
link_line c = field (c / 64) ++ (field (c % 64) ++ 10 ∷ [])

unfoldable pub place_line : ℕ → List ℕ
place_line v = field v ++ 10 ∷ []

unfoldable pub lines : (ℕ → List ℕ) → List ℕ → List ℕ
lines line [] = []
lines line (x ∷ l) = line x ++ lines line l

unfoldable pub sheet_of : List ℕ → List ℕ → List ℕ
sheet_of rows w = first_line (length rows) (length (link_list rows)) (length w) ++ (lines link_line (link_list rows) ++ lines place_line w)

abbrev pub longest : ℕ
longest = 18477
