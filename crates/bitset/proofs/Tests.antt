-- Tests and what they say: a test that is true is a fact.
--   and_in, and_out, or_inl, or_inr, or_out    a test of two tests;   or_false   what it says where it fails
--   not_not b                                  a test that does not fail holds
--   decided b                                  a test holds or does not
--   same_test                                  two tests that follow from each other are equal
--   and_same, eqb_comm                         equal tests under `and`; two numbers compared either way round
--   is_true, is_false                          what a test is worth
--   not_true, not_false                        what the answer turned round says
--   said_true, said_false                      what an answer that equals a test says of it
--   cond_yes, cond_no, cond_else               what a choice by a test is worth
--   below_or, below_suc, three_ways            two numbers are in one order or the other
-- Assumes nothing.
use mathlib.Core.Path.{◌≡◌, refl, sym, ◌∙◌, subst}
use mathlib.Core.Bool.{Bool, true, false, cond, not, ◌&&◌, ◌||◌}
use mathlib.Core.Logic.{◌⊎◌, inl, inr}
use Prim.Native.Nat.{ℕ, suc, ◌≤◌, ◌<◌}
use native.Mathlib.Omega.{arith}
use lib.Dec.{T, ltb, eqb, not_T, ltb→lt, nltb→le, eqb→eq, eqb_refl}

pub and_in : (a b : Bool) → T a → T b → T (a && b)
and_in true b p q = q
and_in false b p q = p

pub and_out : (a b : Bool) → T (a && b) → T a × T b
and_out true b p = (tt, p)
and_out false b p = absurd p

pub or_inl : (a b : Bool) → T a → T (a || b)
or_inl true b p = tt
or_inl false b p = absurd p

pub or_inr : (a b : Bool) → T b → T (a || b)
or_inr true b q = tt
or_inr false b q = q

pub or_out : (a b : Bool) → T (a || b) → T a ⊎ T b
or_out true b p = inl tt
or_out false b p = inr p

pub or_false : (a b : Bool) → (a || b) ≡ false → (a ≡ false) × (b ≡ false)
or_false true true e = (e, e)
or_false true false e = (e, refl)
or_false false b e = (refl, e)

pub and_true : (b : Bool) → b ≡ (b && true)
and_true true = refl
and_true false = refl

pub not_not : (b : Bool) → T (not (not b)) → T b
not_not true t = tt
not_not false t = t

pub decided : (b : Bool) → T b ⊎ (T b → ⊥)
decided true = inl tt
decided false = inr (λ p. p)

pub same_test : (a b : Bool) → (T a → T b) → (T b → T a) → a ≡ b
same_test true true f g = refl
same_test true false f g = absurd (f tt)
same_test false true f g = absurd (g tt)
same_test false false f g = refl

-- where the first of two tests fails, the second does not matter
pub and_same : (a b c : Bool) → (T a → b ≡ c) → (a && b) ≡ (a && c)
and_same true b c e = e tt
and_same false b c e = refl

pub eqb_comm : (m n : ℕ) → eqb m n ≡ eqb n m
eqb_comm m n = same_test (eqb m n) (eqb n m) (turn m n) (turn n m)
  where
    turn : (x y : ℕ) → T (eqb x y) → T (eqb y x)
    turn x y t = subst (λ (z : ℕ). T (eqb z x)) (eqb→eq x y t) (eqb_refl x)

pub is_true : (b : Bool) → T b → b ≡ true
is_true true t = refl
is_true false t = absurd t

pub is_false : (b : Bool) → (T b → ⊥) → b ≡ false
is_false true f = absurd (f tt)
is_false false f = refl

pub not_true : (b : Bool) → not b ≡ true → b ≡ false
not_true true e = sym e
not_true false e = refl

pub not_false : (b : Bool) → not b ≡ false → b ≡ true
not_false true e = refl
not_false false e = sym e

pub said_true : {r : Bool} (t : Bool) → r ≡ t → r ≡ true → T t
said_true t e y = subst (λ (b : Bool). T b) (sym y ∙ e) tt

pub said_false : {r : Bool} (t : Bool) → r ≡ t → r ≡ false → T t → ⊥
said_false t e n x = subst (λ (b : Bool). T b) (sym e ∙ n) x

pub cond_yes : {A : Type 0} (b : Bool) (x y : A) → T b → cond b x y ≡ x
cond_yes true x y t = refl
cond_yes false x y t = absurd t

pub cond_no : {A : Type 0} (b : Bool) (x y : A) → (T b → ⊥) → cond b x y ≡ y
cond_no true x y f = absurd (f tt)
cond_no false x y f = refl

-- what is chosen where the test does not hold may be put another way
pub cond_else : {A : Type 0} (b : Bool) (x : A) {y z : A} → ((T b → ⊥) → y ≡ z) → cond b x y ≡ cond b x z
cond_else true x e = refl
cond_else false x e = e (λ t. t)

pub below_or : (i j : ℕ) → (i < j) ⊎ (j ≤ i)
below_or i j = go (decided (ltb i j))
  where
    go : T (ltb i j) ⊎ (T (ltb i j) → ⊥) → (i < j) ⊎ (j ≤ i)
    go (inl t) = inl (ltb→lt i j t)
    go (inr f) = inr (nltb→le i j (not_T (ltb i j) f))

-- a number below n + 1 is below n or n itself
pub below_suc : (n i : ℕ) → i < suc n → (i < n) ⊎ (i ≡ n)
below_suc n i h = go (below_or i n)
  where
    go : (i < n) ⊎ (n ≤ i) → (i < n) ⊎ (i ≡ n)
    go (inl l) = inl l
    go (inr l) = inr (omega arith)

pub three_ways : (i j : ℕ) → (i < j) ⊎ ((i ≡ j) ⊎ (j < i))
three_ways i j = go (below_or i j) (below_or j i)
  where
    go : (i < j) ⊎ (j ≤ i) → (j < i) ⊎ (i ≤ j) → (i < j) ⊎ ((i ≡ j) ⊎ (j < i))
    go (inl l) b = inl l
    go (inr l) (inl h) = inr (inr h)
    go (inr l) (inr h) = inr (inl (omega arith))
