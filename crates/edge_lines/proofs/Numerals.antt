-- Numerals: the digits of a number, digit by digit, and numbers with a cap.
--   decimal_more                   the digits of x are those of x / 10, and the last one
--   decimal_appended               one digit more behind the digits of a number
--   numeral_decimal                digits that are a numeral are those of the number that they count
--   decimal_numeral                the digits of a number are a numeral
--   capped_from y d                 the digits d appended to y one by one, with the cap
--   capped_small, capped_large     the cap of a number below 10^19, and of one from there on
--   appended_capped, capped_value  one digit appended to a capped number, and many: the cap of what they count
-- Assumes nothing.
use mathlib.Core.Path.{◌≡◌, refl, sym, ap, ap₂, ◌∙◌, subst}
use mathlib.Core.Bool.{not, ◌||◌}
use mathlib.Core.Logic.{◌⊎◌, inl, inr}
use mathlib.Core.List.{List, [], ◌∷◌, ◌++◌, append-nil}
use Prim.Native.Nat.{ℕ, zero, suc, ◌+◌, ◌-◌, ◌*◌, ◌/◌, ◌≤◌, ◌<◌}
use native.Mathlib.Omega.{arith}
use lib.Dec.{T, ltb, eqb, T_not, not_T, lt→ltb, ltb→lt, nltb→le, eqb→eq}
use lib.ListN.{length}
use lib.Seq.{append_snoc}
use Rattle.bitset.proofs.Tests.{and_in, and_out, or_inl, or_out, cond_yes, cond_no, cond_else, below_or}
use Rattle.fields.specs.Field.{ones, digit_value}
use Rattle.fields.proofs.Fields.{digit_is, digit_small}
use Rattle.wording.specs.Decimal.{digits, decimal, is_digit, value_from, value}
use Rattle.wording.proofs.Spans.{Every}
use Rattle.wording.proofs.Decimals.{decimal_one, decimal_count, decimal_unpadded}
use Rattle.edge_lines.specs.Reading.{is_numeral, most, capped, appended}

-- ---- the last digit

-- how many digits are asked for does not matter, if they are enough
digits_enough : (m k x : ℕ) → x < m → x < k → digits m x ≡ digits k x
unfolding digits
digits_enough zero k x l h = absurd (omega arith)
digits_enough (suc m) zero x l h = absurd (omega arith)
digits_enough (suc m) (suc k) x l h =
    cond_else (ltb x 10) (ones x ∷ []) (λ large.
    let ten : 10 ≤ x = nltb→le x 10 (not_T (ltb x 10) large) in
    ap (λ (b : List ℕ). b ++ ones x ∷ []) (digits_enough m k (x / 10) (omega arith) (omega arith)))

pub decimal_more : (x : ℕ) → 10 ≤ x → decimal x ≡ decimal (x / 10) ++ ones x ∷ []
unfolding decimal digits
decimal_more x h =
    cond_no (ltb x 10) _ _ (λ t. let l = ltb→lt x 10 t in omega arith)
    ∙ ap (λ (b : List ℕ). b ++ ones x ∷ []) (digits_enough x (suc (x / 10)) (x / 10) (omega arith) (omega arith))

-- ---- numerals

module _ (c : ℕ) (digit : T (is_digit c)) where
  digit_value_lem : (48 ≤ c) × (digit_value c ≡ c - 48)
  unfolding is_digit
  digit_value_lem =
      let both = and_out (ltb 47 c) (ltb c 58) digit in
      let low : 47 < c = ltb→lt 47 c both.0 in
      let high : c < 58 = ltb→lt c 58 both.1 in
      (omega arith, digit_is c (omega arith) high)

  digit_counts : (c ≡ 48 → ⊥) → 0 < digit_value c
  digit_counts other = go (below_or 48 c) digit_value_lem
    where
      go : (48 < c) ⊎ (c ≤ 48) → (48 ≤ c) × (digit_value c ≡ c - 48) → 0 < digit_value c
      go (inl l) counts = omega arith
      go (inr l) counts = absurd (other (omega arith))

  pub decimal_appended : (x : ℕ) → 0 < x → decimal (10 * x + digit_value c) ≡ decimal x ++ c ∷ []
  unfolding ones
  decimal_appended x some =
      let small = digit_small c in
      let counts = digit_value_lem in
      decimal_more (10 * x + digit_value c) (omega arith)
      ∙ ap₂ (λ (y z : ℕ). decimal y ++ z ∷ []) (omega arith) (omega arith)

  decimal_digit : decimal (digit_value c) ≡ c ∷ []
  unfolding ones
  decimal_digit =
      let small = digit_small c in
      let counts = digit_value_lem in
      decimal_one (digit_value c) (omega arith) ∙ ap (λ (z : ℕ). z ∷ []) (omega arith)

decimal_value_from : (x : ℕ) (d : List ℕ) → 0 < x → Every is_digit d → decimal (value_from x d) ≡ decimal x ++ d
unfolding value_from
decimal_value_from x [] some p = sym (append-nil (decimal x))
decimal_value_from x (c ∷ d) some p =
    decimal_value_from (10 * x + digit_value c) d (omega arith) p.1
    ∙ ap (λ (b : List ℕ). b ++ d) (decimal_appended c p.0 x some) ∙ append_snoc (decimal x) c d

-- of two digits and more the first one is not 0
numeral_unpadded : (c e : ℕ) (d : List ℕ) → T (is_numeral (c ∷ e ∷ d)) → c ≡ 48 → ⊥
unfolding is_numeral
numeral_unpadded c e d t zeros =
    go (or_out (not (eqb c 48)) (eqb (length (c ∷ e ∷ d)) 1) (and_out (ltb 0 (length (c ∷ e ∷ d))) (not (eqb c 48) || eqb (length (c ∷ e ∷ d)) 1) t).1)
  where
    go : T (not (eqb c 48)) ⊎ T (eqb (length (c ∷ e ∷ d)) 1) → ⊥
    go (inl other) = T_not (eqb c 48) other (subst (λ (y : ℕ). T (eqb y 48)) (sym zeros) tt)
    go (inr one) = let short : length (c ∷ e ∷ d) ≡ 1 = eqb→eq (length (c ∷ e ∷ d)) 1 one in omega arith

pub numeral_decimal : (d : List ℕ) → Every is_digit d → T (is_numeral d) → decimal (value d) ≡ d
unfolding value value_from is_numeral
numeral_decimal [] p t = absurd t
numeral_decimal (c ∷ []) p t = ap decimal (omega arith) ∙ decimal_digit c p.0
numeral_decimal (c ∷ e ∷ d) p t =
    ap (λ (x : ℕ). decimal (value_from x (e ∷ d))) (omega arith)
    ∙ decimal_value_from (digit_value c) (e ∷ d) (digit_counts c p.0 (numeral_unpadded c e d t)) p.1
    ∙ ap (λ (b : List ℕ). b ++ e ∷ d) (decimal_digit c p.0)

pub decimal_numeral : (x : ℕ) → T (is_numeral (decimal x))
unfolding is_numeral value value_from ones
decimal_numeral x = go (below_or 0 x)
  where
    unpadded : 0 < x → (b : List ℕ) → decimal x ≡ b → T (is_numeral b)
    unpadded some [] e = absurd (omega (arith, decimal_count x, ap value e))
    unpadded some (c ∷ b) e =
        and_in (ltb 0 (length (c ∷ b))) (not (eqb c 48) || eqb (length (c ∷ b)) 1) (lt→ltb 0 (length (c ∷ b)) (omega arith))
        (or_inl (not (eqb c 48)) (eqb (length (c ∷ b)) 1) (not_T (eqb c 48) (λ t. decimal_unpadded x b some (e ∙ ap (λ (y : ℕ). y ∷ b) (eqb→eq c 48 t)))))

    go : (0 < x) ⊎ (x ≤ 0) → T (is_numeral (decimal x))
    go (inl some) = unpadded some (decimal x) refl
    go (inr l) = subst (λ (y : ℕ). T (is_numeral (decimal y))) (omega arith) (subst (λ (b : List ℕ). T (is_numeral b)) (sym (decimal_one 0 (omega arith))) tt)

-- ---- with a cap

unfoldable pub capped_from : ℕ → List ℕ → ℕ
capped_from y [] = y
capped_from y (c ∷ d) = capped_from (appended y c) d

pub capped_small : (x : ℕ) → x < most → capped x ≡ x
unfolding capped
capped_small x l = cond_yes (ltb x most) x most (lt→ltb x most l)

pub capped_large : (x : ℕ) → most ≤ x → capped x ≡ most
unfolding capped
capped_large x l = cond_no (ltb x most) x most (λ t. let below = ltb→lt x most t in omega arith)

abbrev tenth : ℕ
tenth = 1000000000000000000

pub appended_capped : (x c : ℕ) → appended (capped x) c ≡ capped (10 * x + digit_value c)
unfolding appended
appended_capped x c = go (below_or x tenth) (below_or x most)
  where
    -- a digit behind a number from 10^18 on
    full : (y : ℕ) → tenth ≤ y → tenth ≤ x → appended y c ≡ capped (10 * x + digit_value c)
    full y h l =
        cond_no (ltb y tenth) (10 * y + digit_value c) most (λ t. let below = ltb→lt y tenth t in omega arith)
        ∙ sym (capped_large (10 * x + digit_value c) (omega arith))

    go : (x < tenth) ⊎ (tenth ≤ x) → (x < most) ⊎ (most ≤ x) → appended (capped x) c ≡ capped (10 * x + digit_value c)
    go (inl l) _ =
        let small = digit_small c in
        ap (λ (y : ℕ). appended y c) (capped_small x (omega arith))
        ∙ cond_yes (ltb x tenth) (10 * x + digit_value c) most (lt→ltb x tenth l)
        ∙ sym (capped_small (10 * x + digit_value c) (omega arith))
    go (inr l) (inl h) = ap (λ (y : ℕ). appended y c) (capped_small x h) ∙ full x l l
    go (inr l) (inr h) = ap (λ (y : ℕ). appended y c) (capped_large x h) ∙ full most (omega arith) l

pub capped_value : (d : List ℕ) (x : ℕ) → capped_from (capped x) d ≡ capped (value_from x d)
unfolding capped_from value_from
capped_value [] x = refl
capped_value (c ∷ d) x = ap (λ (y : ℕ). capped_from y d) (appended_capped x c) ∙ capped_value d (10 * x + digit_value c)
