-- A line of a DIMACS edge file, without its line end, as it is read; and one line after the other.                [02: K13]
--   begins words b            b begins with these bytes
--   is_numeral d               the digits d are a number as it is written: there are some, and no 0 stands in front of another one
--   first_digits, second_digits words b     the digits behind the words, and those behind the next byte;   behind_first, behind_second   what follows them
--   is_pair words b            b is words, a number, one space, a number
--   said b                    what the line b says
--   told b                    what the lines of a file say, one after the other;   told_from line b   where the bytes `line` of the first line were read already
--   next_said b, behind_line b  what the first line of b says, and what is left behind its line end
--   most, capped x            10^19, and x or, where that is more, 10^19;   appended x c   the same of a number with one digit more
--   capped_line l              the line l with its numbers capped
--   NumberOf d x              the digits d are a number as it is written, and x is it, capped
--   NumbersOf words b pair     b is words, a number, one space, a number, and the pair is these numbers, capped
use Rattle.std.specs.Prelude.{ℕ, ◌+◌, ◌*◌, ◌≡◌, Bool, true, false, cond, not, ◌&&◌, ◌||◌, List, [], ◌∷◌, ◌++◌, ltb, eqb, length, drop}
use Rattle.searches.specs.Ordering.{at}
use Rattle.fields.specs.Field.{digit_value}
use Rattle.wording.specs.Text.{bytes}
use Rattle.wording.specs.Decimal.{is_digit, value}
use Rattle.wording.specs.Reading.{is_other, front, behind}
use Rattle.edge_lines.specs.declared.Line.{Line}

unfoldable pub begins : List ℕ → List ℕ → Bool
begins [] b = true
begins (c ∷ words) [] = false
begins (c ∷ words) (d ∷ b) = eqb d c && begins words b

unfoldable pub is_numeral : List ℕ → Bool
is_numeral d = ltb 0 (length d) && (not (eqb (at d 0) 48) || eqb (length d) 1)

-- ---- words and two numbers

module _ (words b : List ℕ) where
  unfoldable pub first_digits : List ℕ
  first_digits = front is_digit (drop (length words) b)

  unfoldable pub behind_first : List ℕ
  behind_first = behind is_digit (drop (length words) b)

  unfoldable pub second_digits : List ℕ
  second_digits = front is_digit (drop 1 behind_first)

  unfoldable pub behind_second : List ℕ
  behind_second = behind is_digit (drop 1 behind_first)

  unfoldable pub is_pair : Bool
  is_pair = (((begins words b && is_numeral first_digits) && eqb (at behind_first 0) 32) && is_numeral second_digits) && eqb (length behind_second) 0

unfoldable pub said : List ℕ → Line
said b =
    cond (begins (bytes "c") b) Line.Comment
    (cond (is_pair (bytes "e ") b) (Line.Edge (value (first_digits (bytes "e ") b)) (value (second_digits (bytes "e ") b)))
    (cond (is_pair (bytes "p edge ") b) (Line.Problem (value (first_digits (bytes "p edge ") b)) (value (second_digits (bytes "p edge ") b))) Line.Other))

-- ---- line by line

-- bytes behind the last line end are a line that has none of the forms
unfoldable pub told_from : List ℕ → List ℕ → List Line
told_from line [] = cond (eqb (length line) 0) [] (Line.Other ∷ [])
told_from line (c ∷ b) = cond (eqb c 10) (said line ∷ told_from [] b) (told_from (line ++ c ∷ []) b)

unfoldable pub told : List ℕ → List Line
told b = told_from [] b

unfoldable pub next_said : List ℕ → Line
next_said b = cond (eqb (length (behind (is_other 10) b)) 0) Line.Other (said (front (is_other 10) b))

unfoldable pub behind_line : List ℕ → List ℕ
behind_line b = drop 1 (behind (is_other 10) b)

-- ---- numbers of any length, as far as they matter

abbrev pub most : ℕ
most = 10000000000000000000

unfoldable pub capped : ℕ → ℕ
capped x = cond (ltb x most) x most

unfoldable pub appended : ℕ → ℕ → ℕ
appended x c = cond (ltb x 1000000000000000000) (10 * x + digit_value c) most

unfoldable pub capped_line : Line → Line
capped_line Line.Comment = Line.Comment
capped_line (Line.Problem n m) = Line.Problem (capped n) (capped m)
capped_line (Line.Edge u v) = Line.Edge (capped u) (capped v)
capped_line Line.Other = Line.Other

abbrev pub NumberOf : List ℕ → ℕ → Type 0
NumberOf d x = (is_numeral d ≡ true) × (x ≡ capped (value d))

abbrev pub NumbersOf : List ℕ → List ℕ → ℕ × ℕ → Type 0
NumbersOf words b pair = (is_pair words b ≡ true) × (pair.0 ≡ capped (value (first_digits words b))) × (pair.1 ≡ capped (value (second_digits words b)))
