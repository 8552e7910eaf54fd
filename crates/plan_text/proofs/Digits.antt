-- Decimal numbers below 10000, digit by digit.
--   shown_none, shown_some, shown_short   a digit that is left out, one that is written, and at most one
--   decimal_shown                         the digits of a number below 10000: each before the last one is left out where nothing but zeros stands to its left
--   short_four                            at most four below 10000
-- Assumes nothing.
use mathlib.Core.Path.{◌≡◌, refl, sym, ap, ◌∙◌}
use mathlib.Core.Bool.{cond}
use mathlib.Core.Logic.{◌⊎◌, inl, inr}
use mathlib.Core.List.{List, [], ◌∷◌, ◌++◌}
use Prim.Native.Nat.{ℕ, zero, suc, ◌/◌, ◌≤◌, ◌<◌}
use native.Mathlib.Omega.{arith}
use lib.Dec.{eqb, eqb→eq}
use lib.ListN.{length, length-append}
use Rattle.bitset.proofs.Tests.{cond_no, below_or}
use Rattle.fields.specs.Field.{ones}
use Rattle.wording.specs.Decimal.{decimal}
use Rattle.wording.proofs.Decimals.{decimal_one}
use Rattle.edge_lines.proofs.Numerals.{decimal_more}
use Rattle.plan_text.specs.Text.{shown}

-- ---- a digit before the last one

pub shown_none : (y : ℕ) → y ≡ 0 → shown y ≡ []
unfolding shown
shown_none y e = ap (λ (z : ℕ). cond (eqb z 0) [] (ones z ∷ [])) e

pub shown_some : (y : ℕ) → (y ≡ 0 → ⊥) → shown y ≡ ones y ∷ []
unfolding shown
shown_some y other = cond_no (eqb y 0) _ _ (λ t. other (eqb→eq y 0 t))

pub shown_short : (y : ℕ) → length (shown y) ≤ 1
shown_short zero = omega (arith, ap length (shown_none 0 refl))
shown_short (suc y) = omega (arith, ap length (shown_some (suc y) (λ e. omega arith)))

-- ---- digit by digit

-- the digits before the last one; none where there are none but zeros
leading : ℕ → List ℕ
leading y = cond (eqb y 0) [] (decimal y)

decimal_leading : (x : ℕ) → decimal x ≡ leading (x / 10) ++ ones x ∷ []
unfolding leading
decimal_leading x = go (below_or x 10)
  where
    go : (x < 10) ⊎ (10 ≤ x) → decimal x ≡ leading (x / 10) ++ ones x ∷ []
    go (inl l) =
        let nothing : x / 10 ≡ 0 = omega arith in
        decimal_one x l ∙ ap (λ (y : ℕ). leading y ++ ones x ∷ []) (sym nothing)
    go (inr h) =
        let some : x / 10 ≡ 0 → ⊥ = λ e. omega arith in
        decimal_more x h ∙ ap (λ (b : List ℕ). b ++ ones x ∷ []) (sym (cond_no (eqb (x / 10) 0) _ _ (λ t. some (eqb→eq (x / 10) 0 t))))

leading_shown : (y : ℕ) → leading y ≡ leading (y / 10) ++ shown y
unfolding leading
leading_shown zero = ap (λ (b : List ℕ). [] ++ b) (sym (shown_none 0 refl))
leading_shown (suc y) =
    cond_no (eqb (suc y) 0) _ _ (λ t. let e = eqb→eq (suc y) 0 t in omega arith) ∙ decimal_leading (suc y)
    ∙ ap (λ (b : List ℕ). leading (suc y / 10) ++ b) (sym (shown_some (suc y) (λ e. omega arith)))

pub decimal_shown : (x : ℕ) → x < 10000 → decimal x ≡ shown (x / 10 / 10 / 10) ++ shown (x / 10 / 10) ++ shown (x / 10) ++ ones x ∷ []
unfolding leading
decimal_shown x l =
    let nothing : x / 10 / 10 / 10 / 10 ≡ 0 = omega arith in
    decimal_leading x
    ∙ ap (λ (b : List ℕ). b ++ ones x ∷ []) (leading_shown (x / 10)
    ∙ ap (λ (b : List ℕ). b ++ shown (x / 10)) (leading_shown (x / 10 / 10)
    ∙ ap (λ (b : List ℕ). b ++ shown (x / 10 / 10)) (leading_shown (x / 10 / 10 / 10) ∙ ap (λ (y : ℕ). leading y ++ shown (x / 10 / 10 / 10)) nothing)))

pub short_four : (x : ℕ) → x < 10000 → length (decimal x) ≤ 4
short_four x l =
    let a = shown (x / 10 / 10 / 10) in
    let b = shown (x / 10 / 10) in
    let c = shown (x / 10) in
    let all = ap length (decimal_shown x l) ∙ length-append (a ++ b ++ c) (ones x ∷ []) in
    omega (arith, all, length-append (a ++ b) c, length-append a b, shown_short (x / 10 / 10 / 10), shown_short (x / 10 / 10), shown_short (x / 10))
