-- Decimal numbers, unpadded.
--   digits m x     the last m digits of x, without leading zeros
--   decimal x      the digits of x, as many as it has; zero is one 0                               [02: K11, an unpadded decimal number]
--   is_digit c      the byte c is a digit
--   value b        what the digits b count;   value_from x b   behind those of x
use Rattle.std.specs.Prelude.{ℕ, zero, suc, ◌+◌, ◌*◌, ◌/◌, Bool, cond, ◌&&◌, List, [], ◌∷◌, ◌++◌, ltb}
use Rattle.fields.specs.Field.{ones, digit_value}

unfoldable pub digits : ℕ → ℕ → List ℕ
digits zero x = []
digits (suc m) x = let before = digits m (x / 10) in cond (ltb x 10) (ones x ∷ []) (before ++ ones x ∷ [])

-- x has at most x + 1 digits
unfoldable pub decimal : ℕ → List ℕ
decimal x = digits (suc x) x

unfoldable pub is_digit : ℕ → Bool
is_digit c = ltb 47 c && ltb c 58

unfoldable pub value_from : ℕ → List ℕ → ℕ
value_from x [] = x
value_from x (c ∷ b) = value_from (10 * x + digit_value c) b

unfoldable pub value : List ℕ → ℕ
value b = value_from 0 b
