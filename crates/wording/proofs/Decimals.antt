-- Decimal numbers: their digits count the number again, so no two numbers have the same.
--   decimal_one, decimal_two, decimal_three   the digits of a number below 10, below 100, below 1000
--   decimal_count                             what the digits of x count is x
--   decimal_digits                            they are digits
--   decimal_unpadded                          the first one is not 0, but of 0 itself
--   short_two, short_three                    at most two below 100, at most three below 1000
-- Assumes nothing.
use mathlib.Core.Path.{◌≡◌, refl, ap, ◌∙◌, subst, sym}
use mathlib.Core.Logic.{◌⊎◌, inl, inr}
use mathlib.Core.List.{List, [], ◌∷◌, ◌++◌}
use Prim.Native.Nat.{ℕ, zero, suc, ◌+◌, ◌*◌, ◌/◌, ◌%◌, ◌≤◌, ◌<◌}
use native.Mathlib.Omega.{arith}
use lib.Dec.{T, ltb, lt→ltb, ltb→lt}
use lib.ListN.{length}
use Rattle.bitset.proofs.Tests.{and_in, cond_yes, cond_no, below_or}
use Rattle.fields.specs.Field.{ones, digit_value}
use Rattle.fields.proofs.Fields.{digit_ones}
use Rattle.wording.specs.Decimal.{digits, decimal, is_digit, value_from, value}
use Rattle.wording.proofs.Spans.{Every, every_both}

-- ---- digit by digit

module _ (m x : ℕ) where
  digits_one : x < 10 → digits (suc m) x ≡ ones x ∷ []
  unfolding digits
  digits_one l = cond_yes (ltb x 10) _ _ (lt→ltb x 10 l)

  digits_more : 10 ≤ x → digits (suc m) x ≡ digits m (x / 10) ++ ones x ∷ []
  unfolding digits
  digits_more h = cond_no (ltb x 10) _ _ (λ t. let l = ltb→lt x 10 t in omega arith)

pub decimal_one : (x : ℕ) → x < 10 → decimal x ≡ ones x ∷ []
unfolding decimal
decimal_one x l = digits_one x x l

pub decimal_two : (x : ℕ) → 10 ≤ x → x < 100 → decimal x ≡ ones (x / 10) ∷ ones x ∷ []
unfolding decimal
decimal_two zero h l = absurd (omega arith)
decimal_two (suc m) h l =
    digits_more (suc m) (suc m) h ∙ ap (λ (b : List ℕ). b ++ ones (suc m) ∷ []) (digits_one m (suc m / 10) (omega arith))

pub decimal_three : (x : ℕ) → 100 ≤ x → x < 1000 → decimal x ≡ ones (x / 10 / 10) ∷ ones (x / 10) ∷ ones x ∷ []
unfolding decimal
decimal_three zero h l = absurd (omega arith)
decimal_three (suc zero) h l = absurd (omega arith)
decimal_three (suc (suc m)) h l =
    let x = suc (suc m) in
    digits_more x x (omega arith)
    ∙ ap (λ (b : List ℕ). b ++ ones x ∷ []) (digits_more (suc m) (x / 10) (omega arith) ∙ ap (λ (b : List ℕ). b ++ ones (x / 10) ∷ []) (digits_one m (x / 10 / 10) (omega arith)))

-- ---- what they count

value_more : (x : ℕ) (b : List ℕ) (c : ℕ) → value_from x (b ++ c ∷ []) ≡ 10 * value_from x b + digit_value c
unfolding value_from
value_more x [] c = refl
value_more x (d ∷ b) c = value_more (10 * x + digit_value d) b c

digits_count : (m x : ℕ) → x < m → value (digits m x) ≡ x
unfolding value value_from
digits_count zero x l = absurd (omega arith)
digits_count (suc m) x l = go (below_or x 10) (digits_count m (x / 10))
  where
    go : (x < 10) ⊎ (10 ≤ x) → (x / 10 < m → value (digits m (x / 10)) ≡ x / 10) → value (digits (suc m) x) ≡ x
    go (inl s) rest = ap value (digits_one m x s) ∙ omega (arith, digit_ones x)
    go (inr h) rest = ap value (digits_more m x h) ∙ value_more 0 (digits m (x / 10)) (ones x) ∙ omega (arith, digit_ones x, rest (omega arith))

pub decimal_count : (x : ℕ) → value (decimal x) ≡ x
unfolding decimal
decimal_count x = digits_count (suc x) x (omega arith)

-- ---- no 0 in front

digits_unpadded : (m x : ℕ) (b : List ℕ) → x < m → 0 < x → digits m x ≡ 48 ∷ b → ⊥
unfolding ones value value_from
digits_unpadded zero x b l some e = absurd (omega arith)
digits_unpadded (suc m) x b l some e = go (below_or x 10) (digits_unpadded m (x / 10))
  where
    -- the digits before the last one
    more : (front : List ℕ) → digits m (x / 10) ≡ front → 0 < x / 10 → x / 10 < m → front ++ ones x ∷ [] ≡ 48 ∷ b → ((d : List ℕ) → digits m (x / 10) ≡ 48 ∷ d → ⊥) → ⊥
    more [] q h k r rest = omega (arith, digits_count m (x / 10) k, ap value q)
    more (c ∷ d) q h k r rest = let zeros : c ≡ 48 = cc in rest d (q ∙ ap (λ (y : ℕ). y ∷ d) zeros)

    go : (x < 10) ⊎ (10 ≤ x) → ((d : List ℕ) → x / 10 < m → 0 < x / 10 → digits m (x / 10) ≡ 48 ∷ d → ⊥) → ⊥
    go (inl s) rest = let last : ones x ≡ 48 = cc (digits_one m x s) in omega arith
    go (inr h) rest =
        let k : x / 10 < m = omega arith in
        let g : 0 < x / 10 = omega arith in
        more (digits m (x / 10)) refl g k (sym (digits_more m x h) ∙ e) (λ d. rest d k g)

pub decimal_unpadded : (x : ℕ) (b : List ℕ) → 0 < x → decimal x ≡ 48 ∷ b → ⊥
unfolding decimal
decimal_unpadded x b some e = digits_unpadded (suc x) x b (omega arith) some e

-- ---- digits, and how many

ones_digit : (x : ℕ) → T (is_digit (ones x))
unfolding is_digit ones
ones_digit x = and_in (ltb 47 (48 + x % 10)) (ltb (48 + x % 10) 58) (lt→ltb 47 (48 + x % 10) (omega arith)) (lt→ltb (48 + x % 10) 58 (omega arith))

digits_digits : (m x : ℕ) → Every is_digit (digits m x)
unfolding digits
digits_digits zero x = tt
digits_digits (suc m) x = go (below_or x 10) (digits_digits m (x / 10))
  where
    go : (x < 10) ⊎ (10 ≤ x) → Every is_digit (digits m (x / 10)) → Every is_digit (digits (suc m) x)
    go (inl s) rest = subst (λ (b : List ℕ). Every is_digit b) (sym (digits_one m x s)) (ones_digit x, tt)
    go (inr h) rest = subst (λ (b : List ℕ). Every is_digit b) (sym (digits_more m x h)) (every_both is_digit (digits m (x / 10)) (ones x ∷ []) rest (ones_digit x, tt))

pub decimal_digits : (x : ℕ) → Every is_digit (decimal x)
unfolding decimal
decimal_digits x = digits_digits (suc x) x

pub short_two : (x : ℕ) → x < 100 → length (decimal x) ≤ 2
short_two x l = go (below_or x 10)
  where
    go : (x < 10) ⊎ (10 ≤ x) → length (decimal x) ≤ 2
    go (inl s) = omega (arith, ap length (decimal_one x s))
    go (inr h) = omega (arith, ap length (decimal_two x h l))

pub short_three : (x : ℕ) → x < 1000 → length (decimal x) ≤ 3
short_three x l = go (below_or x 100)
  where
    go : (x < 100) ⊎ (100 ≤ x) → length (decimal x) ≤ 3
    go (inl s) = omega (arith, short_two x s)
    go (inr h) = omega (arith, ap length (decimal_three x h l))
