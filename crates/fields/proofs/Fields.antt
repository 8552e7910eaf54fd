-- Fields: the digits of a field give its number, so no two numbers have one field.
--   digit_small            a digit is at most 9;   digits_small   four make a number below 10000
--   digit_ones, digit_lead what is read in the last column, and in one before it
--   decoded                where the field of x stands, the digits there count x
--   field_found, field_missing      what the search for the number comes to
-- Assumes nothing.
use Prim.Native.Nat.{ℕ, zero, suc, ◌+◌, ◌-◌, ◌/◌, ◌%◌, ◌≤◌, ◌<◌}
use mathlib.Core.Path.{◌≡◌, refl, sym, ap, ap₂, ◌∙◌, subst}
use mathlib.Core.Bool.{Bool, cond, ◌&&◌}
use mathlib.Core.Logic.{◌⊎◌, inl, inr}
use mathlib.Core.List.{List}
use native.Mathlib.Omega.{arith}
use borrow.Author.Tests.{ne_eqb, lt-ltb, le-ltb}
use lib.Dec.{T, ltb, eqb, eqb→eq}
use Rattle.bitset.proofs.Tests.{and_out, below_or}
use Rattle.bitset.proofs.Below.{first_unique}
use Rattle.searches.specs.Ordering.{at}
use Rattle.fields.specs.Field.{ones, lead, digit_value, digits_at, is_field_at, field_at}

-- what a byte from 48 to 57 counts
pub digit_is : (c : ℕ) → 48 ≤ c → c < 58 → digit_value c ≡ c - 48
unfolding digit_value
digit_is c l h = ap₂ (λ (a b : Bool). cond (a && b) (c - 48) 0) (lt-ltb 47 c (omega arith)) (lt-ltb c 58 h)

digit_at : (d : ℕ) → d < 10 → digit_value (48 + d) ≡ d
digit_at d l = digit_is (48 + d) (omega arith) (omega arith) ∙ omega arith

pub digit_ones : (x : ℕ) → digit_value (ones x) ≡ x % 10
unfolding ones
digit_ones x = digit_at (x % 10) (omega arith)

pub digit_lead : (y : ℕ) → digit_value (lead y) ≡ y % 10
unfolding lead digit_value
digit_lead zero = refl
digit_lead (suc y) =
    ap (λ (b : Bool). digit_value (cond b 32 (48 + suc y % 10))) (ne_eqb (suc y) 0 (λ e. omega arith)) ∙ digit_at (suc y % 10) (omega arith)

-- any other byte counts 0
pub digit_low : (c : ℕ) → c < 48 → 0 ≡ digit_value c
unfolding digit_value
digit_low c l = sym (ap (λ (a : Bool). cond (a && ltb c 58) (c - 48) 0) (le-ltb 47 c (omega arith)))

pub digit_high : (c : ℕ) → 57 < c → 0 ≡ digit_value c
unfolding digit_value
digit_high c l = sym (ap₂ (λ (a b : Bool). cond (a && b) (c - 48) 0) (lt-ltb 47 c (omega arith)) (le-ltb c 58 (omega arith)))

pub digit_small : (c : ℕ) → digit_value c ≤ 9
digit_small c = go (below_or c 48) (below_or c 58)
  where
    go : (c < 48) ⊎ (48 ≤ c) → (c < 58) ⊎ (58 ≤ c) → digit_value c ≤ 9
    go (inl l) _ = omega (arith, digit_low c l)
    go (inr l) (inl h) = omega (arith, digit_is c l h)
    go (inr l) (inr h) = omega (arith, digit_high c (omega arith))

module _ (b : List ℕ) (i : ℕ) where
  pub digits_small : digits_at b i < 10000
  unfolding digits_at
  digits_small = omega (arith, digit_small (at b i), digit_small (at b (i + 1)), digit_small (at b (i + 2)), digit_small (at b (i + 3)))

  pub columns : (x : ℕ) {c d e f l m n o : ℕ} → c ≡ at b i → d ≡ at b (i + 1) → e ≡ at b (i + 2) → f ≡ at b (i + 3)
      → l ≡ lead (x / 10 / 10 / 10) → m ≡ lead (x / 10 / 10) → n ≡ lead (x / 10) → o ≡ ones x
      → ((eqb c l && eqb d m) && (eqb e n && eqb f o)) ≡ is_field_at b i x
  unfolding is_field_at
  columns x p q r s t u v w =
      ap₂ (λ (y z : Bool). y && z) (ap₂ (λ (y z : Bool). y && z) (ap₂ (λ (y z : ℕ). eqb y z) p t) (ap₂ (λ (y z : ℕ). eqb y z) q u))
      (ap₂ (λ (y z : Bool). y && z) (ap₂ (λ (y z : ℕ). eqb y z) r v) (ap₂ (λ (y z : ℕ). eqb y z) s w))

  pub decoded : (x : ℕ) → x < 10000 → T (is_field_at b i x) → digits_at b i ≡ x
  unfolding is_field_at digits_at
  decoded x l t =
      let e1 = eqb (at b i) (lead (x / 10 / 10 / 10)) in
      let e2 = eqb (at b (i + 1)) (lead (x / 10 / 10)) in
      let e3 = eqb (at b (i + 2)) (lead (x / 10)) in
      let e4 = eqb (at b (i + 3)) (ones x) in
      let halves = and_out (e1 && e2) (e3 && e4) t in
      let left = and_out e1 e2 halves.0 in
      let right = and_out e3 e4 halves.1 in
      let a : digit_value (at b i) ≡ x / 10 / 10 / 10 % 10 = ap digit_value (eqb→eq (at b i) (lead (x / 10 / 10 / 10)) left.0) ∙ digit_lead (x / 10 / 10 / 10) in
      let c : digit_value (at b (i + 1)) ≡ x / 10 / 10 % 10 = ap digit_value (eqb→eq (at b (i + 1)) (lead (x / 10 / 10)) left.1) ∙ digit_lead (x / 10 / 10) in
      let d : digit_value (at b (i + 2)) ≡ x / 10 % 10 = ap digit_value (eqb→eq (at b (i + 2)) (lead (x / 10)) right.0) ∙ digit_lead (x / 10) in
      let e : digit_value (at b (i + 3)) ≡ x % 10 = ap digit_value (eqb→eq (at b (i + 3)) (ones x) right.1) ∙ digit_ones x in
      omega arith

  pub field_found : {x : ℕ} → x ≡ digits_at b i → T (is_field_at b i x) → x ≡ field_at b i
  unfolding field_at
  field_found {x} e t = first_unique (record {
    within = omega (arith, digits_small);
    holds = λ _. t;
    least = λ y l u. omega (arith, decoded y (omega (arith, digits_small)) u);
  })

  pub field_missing : {x : ℕ} → x ≡ digits_at b i → (T (is_field_at b i x) → ⊥) → 10000 ≡ field_at b i
  unfolding field_at
  field_missing {x} e out = first_unique (record {
    within = omega arith;
    holds = λ l. absurd (omega arith);
    least = λ y l u. out (subst (λ (z : ℕ). T (is_field_at b i z)) (sym (e ∙ decoded y l u)) u);
  })
