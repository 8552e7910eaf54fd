-- Fields: decimal numbers in four columns, right-justified with spaces, without leading zeros; zero is one 0.
--   ones x              the last column: the last digit of x
--   lead y              a column before it, with the number y from there to the left: its last digit, or a space where y is 0
--   field x             the four columns of x                                                          [01: field]
--   fields xs, line xs  the fields of these numbers; a line with them                                 [01: line]
--   is_field_at b i x     the field of x stands in b from i on
--   field_at b i         the number whose field stands there; 10000 where no number's does
--   digit_value c        what the byte c counts as a digit; 0 where it is none
--   digits_at b i        what the four bytes from i on count
use Rattle.std.specs.Prelude.{ℕ, ◌+◌, ◌-◌, ◌*◌, ◌/◌, ◌%◌, Bool, cond, ◌&&◌, List, [], ◌∷◌, ◌++◌, ltb, eqb}
use Rattle.bitset.specs.Below.{first_below}
use Rattle.searches.specs.Ordering.{at}

unfoldable pub ones : ℕ → ℕ
ones x = 48 + x % 10

unfoldable pub lead : ℕ → ℕ
lead y = cond (eqb y 0) 32 (48 + y % 10)

unfoldable pub field : ℕ → List ℕ
field x = lead (x / 10 / 10 / 10) ∷ lead (x / 10 / 10) ∷ lead (x / 10) ∷ ones x ∷ []

unfoldable pub fields : List ℕ → List ℕ
fields [] = []
fields (x ∷ xs) = field x ++ fields xs

unfoldable pub line : List ℕ → List ℕ
line xs = fields xs ++ 10 ∷ []

unfoldable pub is_field_at : List ℕ → ℕ → ℕ → Bool
is_field_at b i x =
    (eqb (at b i) (lead (x / 10 / 10 / 10)) && eqb (at b (i + 1)) (lead (x / 10 / 10)))
    && (eqb (at b (i + 2)) (lead (x / 10)) && eqb (at b (i + 3)) (ones x))

unfoldable pub field_at : List ℕ → ℕ → ℕ
field_at b i = first_below 10000 (is_field_at b i)

unfoldable pub digit_value : ℕ → ℕ
digit_value c = cond (ltb 47 c && ltb c 58) (c - 48) 0

unfoldable pub digits_at : List ℕ → ℕ → ℕ
digits_at b i = 1000 * digit_value (at b i) + 100 * digit_value (at b (i + 1)) + 10 * digit_value (at b (i + 2)) + digit_value (at b (i + 3))
