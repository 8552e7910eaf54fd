-- How many numbers below a bound there are at which a test holds.
--   count_same       equal tests, equal counts;   count_fewer   a test that holds only below a smaller bound is counted there
--   count_bottom     the count with the lowest number taken apart
--   count_none       none;   count_le, count_missing, count_all   fewer than n where one is missing, n where none is
--   count_added      one number more
--   count_extra      the larger of two sets has a number that the other has not
--   count_proper     a part of a set that lacks a number of it is smaller
-- Assumes nothing.
use mathlib.Core.Path.{◌≡◌, refl, sym, ap, ap₂, ◌∙◌, subst}
use mathlib.Core.Bool.{Bool, true, false, cond, not, ◌&&◌, ◌||◌}
use mathlib.Core.Logic.{◌⊎◌, inl, inr}
use Prim.Native.Nat.{ℕ, zero, suc, ◌≤◌, ◌<◌, ◌+◌}
use native.Mathlib.Nat.{add-zero}
use native.Mathlib.Omega.{arith}
use lib.Dec.{T, eqb, eqb→eq, eqb_refl, not_T}
use Rattle.bitset.specs.Below.{count_below}
use Rattle.bitset.proofs.Tests.{or_out, is_true, is_false, cond_no, below_or, below_suc}
use Rattle.bitset.proofs.Below.{Some}

pub count_same : (n : ℕ) (f g : ℕ → Bool) → ((i : ℕ) → i < n → f i ≡ g i) → count_below n f ≡ count_below n g
unfolding count_below
count_same zero f g e = refl
count_same (suc n) f g e = ap₂ (λ (b : Bool) (r : ℕ). cond b (suc r) r) (e n (omega arith)) (count_same n f g (λ i l. e i (omega arith)))

-- a test that holds only below j is counted below j
pub count_fewer : (j m : ℕ) → j ≤ m → (f g : ℕ → Bool) → ((p : ℕ) → p < j → f p ≡ g p) → ((p : ℕ) → T (f p) → p < j) → count_below m f ≡ count_below j g
unfolding count_below
count_fewer zero zero l f g same below = refl
count_fewer (suc j) zero l f g same below = absurd (omega arith)
count_fewer j (suc m) l f g same below = go (below_or m j) (λ h. count_fewer j m h f g same below)
  where
    go : (m < j) ⊎ (j ≤ m) → (j ≤ m → count_below m f ≡ count_below j g) → count_below (suc m) f ≡ count_below j g
    go (inl h) rest = let e : j ≡ suc m = omega arith in subst (λ (i : ℕ). count_below i f ≡ count_below j g) e (count_same j f g same)
    go (inr h) rest = cond_no (f m) (suc (count_below m f)) (count_below m f) (λ t. let b = below m t in omega arith) ∙ rest h

-- the lowest number apart
pub count_bottom : (n : ℕ) (f : ℕ → Bool) → count_below (suc n) f ≡ cond (f 0) 1 0 + count_below n (λ i. f (suc i))
unfolding count_below
count_bottom zero f = sym (add-zero (cond (f 0) 1 0))
count_bottom (suc n) f = go (f (suc n)) (cond (f 0) 1 0) (count_below n (λ i. f (suc i))) (count_bottom n f)
  where
    go : (b : Bool) {r : ℕ} (c s : ℕ) → r ≡ c + s → cond b (suc r) r ≡ c + cond b (suc s) s
    go true c s e = omega arith
    go false c s e = e

pub count_le : (n : ℕ) (f : ℕ → Bool) → count_below n f ≤ n
unfolding count_below
count_le zero f = omega arith
count_le (suc n) f = go (f n) (count_le n f)
  where
    go : (b : Bool) → count_below n f ≤ n → cond b (suc (count_below n f)) (count_below n f) ≤ suc n
    go true l = omega arith
    go false l = omega arith

pub count_none : (n : ℕ) (f : ℕ → Bool) → ((i : ℕ) → i < n → T (f i) → ⊥) → count_below n f ≡ 0
unfolding count_below
count_none zero f h = refl
count_none (suc n) f h = go (f n) (h n (omega arith)) (count_none n f (λ i l. h i (omega arith)))
  where
    go : (b : Bool) → (T b → ⊥) → count_below n f ≡ 0 → cond b (suc (count_below n f)) (count_below n f) ≡ 0
    go true no_top e = absurd (no_top tt)
    go false no_top e = e

-- where fewer than n are counted, one is left out
pub count_missing : (n : ℕ) (f : ℕ → Bool) → count_below n f < n → Some n (λ i. not (f i))
unfolding count_below
count_missing zero f l = absurd (omega arith)
count_missing (suc n) f l = go (count_missing n f) (f n) (λ t. t) l
  where
    go : (count_below n f < n → Some n (λ i. not (f i))) → (b : Bool) → (T (f n) → T b)
        → cond b (suc (count_below n f)) (count_below n f) < suc n → Some (suc n) (λ i. not (f i))
    go rest true only l = let s = rest (omega arith) in record { at = s.at; below = omega (arith, s.below); holds = s.holds }
    go rest false only l = record { at = n; below = omega arith; holds = not_T (f n) only }

-- where n are counted, none is left out
pub count_all : (n : ℕ) (f : ℕ → Bool) → count_below n f ≡ n → (i : ℕ) → i < n → T (f i)
unfolding count_below
count_all zero f e i h = absurd (omega arith)
count_all (suc n) f e i h = go (count_all n f) (count_le n f) (f n) (λ t. t) e (below_suc n i h)
  where
    go : (count_below n f ≡ n → (i : ℕ) → i < n → T (f i)) → count_below n f ≤ n → (b : Bool) → (T b → T (f n))
        → cond b (suc (count_below n f)) (count_below n f) ≡ suc n → (i < n) ⊎ (i ≡ n) → T (f i)
    go rest l true top e (inl h) = rest (omega arith) i h
    go rest l true top e (inr same) = subst (λ (x : ℕ). T (f x)) (sym same) (top tt)
    go rest l false top e h = absurd (omega arith)

-- a number that was not counted adds one
pub count_added : (n : ℕ) (f : ℕ → Bool) (a : ℕ) → a < n → (T (f a) → ⊥) → count_below n (λ i. eqb a i || f i) ≡ suc (count_below n f)
unfolding count_below
count_added zero f a h out = absurd (omega arith)
count_added (suc n) f a h out = go (λ l. count_added n f a l out) (below_suc n a h)
  where
    -- at a number other than a nothing changes
    other : (i : ℕ) → (a ≡ i → ⊥) → (eqb a i || f i) ≡ f i
    other i ne = ap (λ (b : Bool). b || f i) (is_false (eqb a i) (λ t. ne (eqb→eq a i t)))

    step : (b : Bool) {r s : ℕ} → r ≡ suc s → cond b (suc r) r ≡ suc (cond b (suc s) s)
    step true e = ap suc e
    step false e = e

    at_top : (b c : Bool) → b ≡ true → c ≡ false → {r s : ℕ} → r ≡ s → cond (b || c) (suc r) r ≡ suc (cond c (suc s) s)
    at_top true true p q e = absurd (subst (λ (x : Bool). T x) q tt)
    at_top true false p q e = ap suc e
    at_top false c p q e = absurd (subst (λ (x : Bool). T (not x)) p tt)

    go : (a < n → count_below n (λ i. eqb a i || f i) ≡ suc (count_below n f)) → (a < n) ⊎ (a ≡ n)
        → cond (eqb a n || f n) (suc (count_below n (λ i. eqb a i || f i))) (count_below n (λ i. eqb a i || f i)) ≡ suc (cond (f n) (suc (count_below n f)) (count_below n f))
    go rest (inl l) =
        ap (λ (b : Bool). cond b (suc (count_below n (λ i. eqb a i || f i))) (count_below n (λ i. eqb a i || f i))) (other n (λ e. omega arith))
        ∙ step (f n) (rest l)
    go rest (inr e) =
        at_top (eqb a n) (f n) (is_true (eqb a n) (subst (λ (x : ℕ). T (eqb a x)) e (eqb_refl a))) (is_false (f n) (λ t. out (subst (λ (x : ℕ). T (f x)) (sym e) t)))
        (count_same n (λ i. eqb a i || f i) f (λ i l. other i (λ d. omega arith)))

-- of two sets the larger one has a number that the other has not
pub count_extra : (n : ℕ) (f g : ℕ → Bool) → count_below n g < count_below n f → Some n (λ i. f i && not (g i))
unfolding count_below
count_extra zero f g l = absurd (omega arith)
count_extra (suc n) f g l = go (count_extra n f g) (f n) (g n) (λ t. t) l
  where
    wider : Some n (λ i. f i && not (g i)) → Some (suc n) (λ i. f i && not (g i))
    wider s = record { at = s.at; below = omega (arith, s.below); holds = s.holds }

    go : (count_below n g < count_below n f → Some n (λ i. f i && not (g i))) → (b c : Bool) → (T (b && not c) → T (f n && not (g n)))
        → cond c (suc (count_below n g)) (count_below n g) < cond b (suc (count_below n f)) (count_below n f) → Some (suc n) (λ i. f i && not (g i))
    go rest true false top l = record { at = n; below = omega arith; holds = top tt }
    go rest true true top l = wider (rest (omega arith))
    go rest false true top l = wider (rest (omega arith))
    go rest false false top l = wider (rest l)

-- a part of a set is not larger
count_part : (n : ℕ) (f g : ℕ → Bool) → ((i : ℕ) → i < n → T (f i) → T (g i)) → count_below n f ≤ count_below n g
unfolding count_below
count_part zero f g part = omega arith
count_part (suc n) f g part = go (count_part n f g (λ i l. part i (omega arith))) (f n) (g n) (part n (omega arith))
  where
    go : count_below n f ≤ count_below n g → (b c : Bool) → (T b → T c)
        → cond b (suc (count_below n f)) (count_below n f) ≤ cond c (suc (count_below n g)) (count_below n g)
    go rest true true both = omega arith
    go rest true false both = absurd (both tt)
    go rest false true both = omega arith
    go rest false false both = rest

-- and it is smaller where it lacks a number
pub count_proper : (n : ℕ) (f g : ℕ → Bool) → ((i : ℕ) → i < n → T (f i) → T (g i)) → (a : ℕ) → a < n → T (g a) → (T (f a) → ⊥)
    → count_below n f < count_below n g
count_proper n f g part a l inside out =
    omega (arith, count_added n f a l out, count_part n (λ i. eqb a i || f i) g (λ i h t. go i h (or_out (eqb a i) (f i) t)))
  where
    go : (i : ℕ) → i < n → T (eqb a i) ⊎ T (f i) → T (g i)
    go i h (inl e) = subst (λ (x : ℕ). T (g x)) (eqb→eq a i e) inside
    go i h (inr t) = part i h t
