-- Labels of algorithms 3 and 5 of document 001: lists of digits, compared lexicographically.
--   lex_larger xs ys          xs is larger: at the first digit in which they differ, or as the longer where there is none
--   digit_labels first put    blank is the empty list, the start vertex begins with one digit
use Rattle.std.specs.Prelude.{ℕ, Bool, true, false, ◌&&◌, ◌||◌, List, [], ◌∷◌, ltb, eqb}
use Rattle.algorithms.specs.Labelling.{Labels}

unfoldable pub lex_larger : List ℕ → List ℕ → Bool
lex_larger [] ys = false
lex_larger (x ∷ xs) [] = true
lex_larger (x ∷ xs) (y ∷ ys) = let rest = lex_larger xs ys in ltb y x || (eqb x y && rest)

abbrev pub digit_labels : ℕ → (ℕ → List ℕ → List ℕ) → Labels
digit_labels first put = record { Label = List ℕ; blank = []; first = first ∷ []; put = put; larger = lex_larger }
