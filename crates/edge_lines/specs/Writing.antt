-- A line of a DIMACS edge file, without its line end, as it is written.                                        [02: K13]
--   pair_text words x y     words, and behind them two numbers with one space between them
--   problem_text n m        the p line of a file with n points and m links
--   edge_text u v           the line of the link between the points u and v, counted from 1
--   Unbroken b             no byte of b is a line end
--   Says l b               b is a text of the line l; a comment has any text that begins with c
--   IsFile ls b            b is these lines, one behind the other, each with its line end
--   AllSay ls              each of these lines has one of the forms
--   Ended b                b is empty or ends in a line end
use Rattle.std.specs.Prelude.{ℕ, ◌≡◌, ◌⊎◌, List, [], ◌∷◌, ◌++◌, T}
use Rattle.wording.specs.Text.{bytes}
use Rattle.wording.specs.Decimal.{decimal}
use Rattle.wording.specs.Reading.{is_other}
use Rattle.edge_lines.specs.declared.Line.{Line}

unfoldable pub pair_text : List ℕ → ℕ → ℕ → List ℕ
pair_text words x y = words ++ (decimal x ++ 32 ∷ decimal y)

unfoldable pub problem_text : ℕ → ℕ → List ℕ
problem_text n m = pair_text (bytes "p edge ") n m

unfoldable pub edge_text : ℕ → ℕ → List ℕ
edge_text u v = pair_text (bytes "e ") u v

abbrev pub Unbroken : List ℕ → Type 0
Unbroken [] = Unit {0}
Unbroken (c ∷ b) = T (is_other 10 c) × Unbroken b

abbrev pub Says : Line → List ℕ → Type 0
Says Line.Comment b = (text : List ℕ) × (b ≡ 99 ∷ text) × Unbroken text
Says (Line.Problem n m) b = b ≡ problem_text n m
Says (Line.Edge u v) b = b ≡ edge_text u v
Says Line.Other b = ⊥

abbrev pub IsFile : List Line → List ℕ → Type 0
IsFile [] b = b ≡ []
IsFile (l ∷ ls) b = (line : List ℕ) × (rest : List ℕ) × Says l line × (b ≡ line ++ 10 ∷ rest) × IsFile ls rest

abbrev pub AllSay : List Line → Type 0
AllSay [] = Unit {0}
AllSay (Line.Comment ∷ ls) = AllSay ls
AllSay (Line.Problem n m ∷ ls) = AllSay ls
AllSay (Line.Edge u v ∷ ls) = AllSay ls
AllSay (Line.Other ∷ ls) = ⊥

abbrev pub Ended : List ℕ → Type 0
Ended b = (b ≡ []) ⊎ ((front : List ℕ) × (b ≡ front ++ 10 ∷ []))
