-- Rounding x / d to a whole number.
--   distance a b           how far two numbers are apart
--   Rule                   the rule for halves: where x / d is halfway between p and p + 1, it is rounded up if the rule holds at p, else down
--   halves_up               up always                                                                             [02: K2, halves up]
--   Even q                 q is even
--   halves_to_even           up where p + 1 is even                                                                [02: K7, halves to the even cent]
--   Rounds rule d x q      q is x / d, rounded: no multiple of d is nearer to x than d · q, and of two equally near ones it is the rule's
--   RoundsToEven d x q     q is x / d, rounded to the nearest, and of two nearest to the even one; in these words, without a rule    [02: K7]
--   halfway d x q          x / d is halfway between q - 1 and q; all is doubled, to stay whole
--   rounded rule d x       the formula: (x + half of d) / d; 1 less where x / d is halfway and the rule rounds down
use Rattle.std.specs.Prelude.{ℕ, suc, ◌+◌, ◌-◌, ◌*◌, ◌/◌, ◌%◌, ◌≤◌, ◌≡◌, Bool, true, cond, not, ◌&&◌, T, eqb}

unfoldable pub distance : ℕ → ℕ → ℕ
distance a b = (a - b) + (b - a)

abbrev pub Rule : Type 0
Rule = ℕ → Bool

unfoldable pub halves_up : Rule
halves_up p = true

abbrev pub Even : ℕ → Type 0
Even q = q % 2 ≡ 0

unfoldable pub halves_to_even : Rule
halves_to_even p = eqb (suc p % 2) 0

pub record Rounds (rule : Rule) (d x q : ℕ) : Type 0 where
  -- no other multiple of d is nearer to x
  pub nearest : (p : ℕ) → distance (d * q) x ≤ distance (d * p) x
  -- where the one before is as near, the rule rounds up
  pub up : (p : ℕ) → suc p ≡ q → distance (d * p) x ≡ distance (d * q) x → T (rule p)
  -- where the one after is as near, the rule rounds down
  pub down : distance (d * suc q) x ≡ distance (d * q) x → T (rule q) → ⊥

pub record RoundsToEven (d x q : ℕ) : Type 0 where
  -- no other multiple of d is nearer to x
  pub nearest : (p : ℕ) → distance (d * q) x ≤ distance (d * p) x
  -- where another one is as near, q is the even one
  pub even : (p : ℕ) → (p ≡ q → ⊥) → distance (d * p) x ≡ distance (d * q) x → Even q

unfoldable pub halfway : ℕ → ℕ → ℕ → Bool
halfway d x q = eqb (2 * x + d) (2 * (d * q))

unfoldable pub rounded : Rule → ℕ → ℕ → ℕ
rounded rule d x =
    let q = (x + d / 2) / d in
    cond (not (rule (q - 1)) && halfway d x q) (q - 1) q
