-- What the searches below a bound mean.
--   Some n f               a number below n at which f holds
--   any_out, any_in        any_below: there is one;      all_out, all_in   all_below: at every number
--   first_*                first_below: f holds there, and nowhere below;   last_*   last_below likewise from the other end
--   first_bottom           the search with the lowest number taken apart
-- Assumes nothing.
use mathlib.Core.Path.{◌≡◌, refl, sym, ap, ap₂, ◌∙◌, subst}
use mathlib.Core.Bool.{Bool, true, false, cond, not, ◌||◌}
use mathlib.Core.Logic.{◌⊎◌, inl, inr}
use Prim.Native.Nat.{ℕ, zero, suc, ◌≤◌, ◌<◌}
use native.Mathlib.Omega.{arith}
use lib.Dec.{T, ltb, ltb→lt, nltb→le, not_T}
use Rattle.bitset.specs.Below.{any_below, all_below, first_below, last_below}
use Rattle.bitset.proofs.Tests.{and_in, and_out, or_inl, or_inr, or_out, not_not, decided, same_test, is_false, below_or, below_suc, three_ways}

pub record Some (n : ℕ) (f : ℕ → Bool) : Type 0 where
  pub at : ℕ
  pub below : at < n
  pub holds : T (f at)

pub any_out : (n : ℕ) (f : ℕ → Bool) → T (any_below n f) → Some n f
unfolding any_below
any_out zero f t = absurd t
any_out (suc n) f t = go (λ u. any_out n f u) (or_out (f n) (any_below n f) t)
  where
    go : (T (any_below n f) → Some n f) → T (f n) ⊎ T (any_below n f) → Some (suc n) f
    go rest (inl p) = record { at = n; below = omega arith; holds = p }
    go rest (inr u) = let s = rest u in record { at = s.at; below = omega arith; holds = s.holds }

pub any_at : (n : ℕ) (f : ℕ → Bool) (i : ℕ) → i < n → T (f i) → T (any_below n f)
unfolding any_below
any_at zero f i h p = absurd (omega arith)
any_at (suc n) f i h p = go (λ l. any_at n f i l p) (below_suc n i h)
  where
    go : (i < n → T (any_below n f)) → (i < n) ⊎ (i ≡ n) → T (f n || any_below n f)
    go rest (inl l) = or_inr (f n) (any_below n f) (rest l)
    go rest (inr e) = or_inl (f n) (any_below n f) (subst (λ (x : ℕ). T (f x)) e p)

pub any_in : {n : ℕ} {f : ℕ → Bool} → Some n f → T (any_below n f)
any_in {n} {f} s = any_at n f s.at s.below s.holds

pub all_out : (n : ℕ) (f : ℕ → Bool) → T (all_below n f) → (i : ℕ) → i < n → T (f i)
unfolding all_below
all_out zero f t i h = absurd (omega arith)
all_out (suc n) f t i h =
    let both = and_out (f n) (all_below n f) t in
    go (all_out n f both.1 i) both.0 (below_suc n i h)
  where
    go : (i < n → T (f i)) → T (f n) → (i < n) ⊎ (i ≡ n) → T (f i)
    go rest top (inl l) = rest l
    go rest top (inr e) = subst (λ (x : ℕ). T (f x)) (sym e) top

pub all_in : (n : ℕ) (f : ℕ → Bool) → ((i : ℕ) → i < n → T (f i)) → T (all_below n f)
unfolding all_below
all_in zero f h = tt
all_in (suc n) f h = and_in (f n) (all_below n f) (h n (omega arith)) (all_in n f (λ i l. h i (omega arith)))

-- where a test does not hold at every number, it fails at some
pub not_all : (n : ℕ) (f : ℕ → Bool) → (T (all_below n f) → ⊥) → Some n (λ i. not (f i))
not_all n f no_all = any_out n (λ i. not (f i)) (go (decided (any_below n (λ i. not (f i)))))
  where
    go : T (any_below n (λ i. not (f i))) ⊎ (T (any_below n (λ i. not (f i))) → ⊥) → T (any_below n (λ i. not (f i)))
    go (inl t) = t
    go (inr none) = absurd (no_all (all_in n f (λ i l. not_not (f i) (not_T (not (f i)) (λ t. none (any_at n (λ i. not (f i)) i l t))))))

pub any_same : (n : ℕ) (f g : ℕ → Bool) → ((i : ℕ) → i < n → f i ≡ g i) → any_below n f ≡ any_below n g
unfolding any_below
any_same zero f g e = refl
any_same (suc n) f g e = ap₂ (λ (a b : Bool). a || b) (e n (omega arith)) (any_same n f g (λ i l. e i (omega arith)))

-- a test that holds only below j is searched for below j
pub any_fewer : (j m : ℕ) → j ≤ m → (f g : ℕ → Bool) → ((p : ℕ) → p < j → f p ≡ g p) → ((p : ℕ) → T (f p) → p < j) → any_below m f ≡ any_below j g
any_fewer j m l f g same below =
    same_test (any_below m f) (any_below j g)
    (λ t.
    let x = any_out m f t in
    let h = below x.at x.holds in
    any_at j g x.at h (subst (λ (b : Bool). T b) (same x.at h) x.holds))
    (λ t.
    let x = any_out j g t in
    any_at m f x.at (omega (arith, x.below)) (subst (λ (b : Bool). T b) (sym (same x.at x.below)) x.holds))

-- ---- the first one

-- m is the least number below n at which f holds, or n
pub record IsFirst (n : ℕ) (f : ℕ → Bool) (m : ℕ) : Type 0 where
  pub within : m ≤ n
  pub holds : m < n → T (f m)
  pub least : (i : ℕ) → i < m → T (f i) → ⊥

pub first : (n : ℕ) (f : ℕ → Bool) → IsFirst n f (first_below n f)
unfolding first_below
first zero f = record { within = omega arith; holds = λ l. absurd (omega arith); least = λ i l. absurd (omega arith) }
first (suc n) f = go (first n f) (ltb (first_below n f) n) (f n) (ltb→lt (first_below n f) n) (λ no. nltb→le (first_below n f) n (not_T (ltb (first_below n f) n) no)) (λ t. t) (λ t. t)
  where
    go : {m : ℕ} → IsFirst n f m → (a b : Bool) → (T a → m < n) → ((T a → ⊥) → n ≤ m) → (T b → T (f n)) → (T (f n) → T b)
        → IsFirst (suc n) f (cond a m (cond b n (suc n)))
    go {m} r true b found none yes-top only-top =
        let l : m < n = found tt in
        record { within = omega arith; holds = λ _. r.holds l; least = r.least }
    go {m} r false true found none yes-top only-top =
        let l : n ≤ m = none (λ t. t) in
        record { within = omega arith; holds = λ _. yes-top tt; least = λ i h. r.least i (omega arith) }
    go {m} r false false found none yes-top only-top =
        let l : n ≤ m = none (λ t. t) in
        record {
          within = omega arith;
          holds = λ h. absurd (omega arith);
          least = λ i h p. least_of (below_suc n i h) l p;
        }
      where
        least_of : {i : ℕ} → (i < n) ⊎ (i ≡ n) → n ≤ m → T (f i) → ⊥
        least_of {i} (inl h) l p = r.least i (omega arith) p
        least_of (inr e) l p = only-top (subst (λ (x : ℕ). T (f x)) e p)

-- a number at which f holds is no earlier than the first
pub first_earliest : (n : ℕ) (f : ℕ → Bool) (i : ℕ) → T (f i) → first_below n f ≤ i
first_earliest n f i p = go (below_or i (first_below n f))
  where
    go : (i < first_below n f) ⊎ (first_below n f ≤ i) → first_below n f ≤ i
    go (inl l) = absurd ((first n f).least i l p)
    go (inr l) = l

pub first_found : {n : ℕ} {f : ℕ → Bool} → Some n f → first_below n f < n
first_found {n} {f} s = let l = first_earliest n f s.at s.holds in omega (arith, s.below)

-- only one number is the first
pub first_unique : {n : ℕ} {f : ℕ → Bool} {m : ℕ} → IsFirst n f m → m ≡ first_below n f
first_unique {n} {f} {m} r = go (three_ways m (first_below n f))
  where
    go : (m < first_below n f) ⊎ ((m ≡ first_below n f) ⊎ (first_below n f < m)) → m ≡ first_below n f
    go (inl l) = absurd ((first n f).least m l (r.holds (omega (arith, (first n f).within))))
    go (inr (inl e)) = e
    go (inr (inr l)) = absurd (r.least (first_below n f) l ((first n f).holds (omega (arith, r.within))))

-- two tests that agree up to the first number at which the one holds
pub first_upto : (n : ℕ) (f g : ℕ → Bool) → ((i : ℕ) → i ≤ first_below n f → i < n → f i ≡ g i) → first_below n f ≡ first_below n g
first_upto n f g e = first_unique (record {
  within = (first n f).within;
  holds = λ l. subst (λ (b : Bool). T b) (e (first_below n f) (omega arith) l) ((first n f).holds l);
  least = λ i l p. (first n f).least i l (subst (λ (b : Bool). T b) (sym (e i (omega arith) (omega (arith, (first n f).within)))) p);
})

pub first_same : (n : ℕ) (f g : ℕ → Bool) → ((i : ℕ) → i < n → f i ≡ g i) → first_below n f ≡ first_below n g
first_same n f g e = first_upto n f g (λ i _ l. e i l)

-- the lowest number apart: 0 is the first, or the first is one above the first of what is left
pub first_bottom : (n : ℕ) (f : ℕ → Bool) → first_below (suc n) f ≡ cond (f 0) 0 (suc (first_below n (λ i. f (suc i))))
first_bottom n f = sym (first_unique (go (first n (λ i. f (suc i))) (f 0) (λ t. t) (λ t. t)))
  where
    go : {m : ℕ} → IsFirst n (λ i. f (suc i)) m → (b : Bool) → (T b → T (f 0)) → (T (f 0) → T b) → IsFirst (suc n) f (cond b 0 (suc m))
    go {m} r true lowest only = record { within = omega arith; holds = λ _. lowest tt; least = λ i l. absurd (omega arith) }
    go {m} r false lowest only = record { within = omega (arith, r.within); holds = λ l. r.holds (omega arith); least = under }
      where
        under : (i : ℕ) → i < suc m → T (f i) → ⊥
        under zero l p = only p
        under (suc i) l p = r.least i (omega arith) p

-- ---- the last one

-- m is the greatest number below n at which f holds
pub record IsLast (n : ℕ) (f : ℕ → Bool) (m : ℕ) : Type 0 where
  pub below : m < n
  pub holds : T (f m)
  pub greatest : (i : ℕ) → i < n → T (f i) → i ≤ m

last_at : (n : ℕ) (f : ℕ → Bool) (i : ℕ) → i < n → T (f i) → IsLast n f (last_below n f)
unfolding last_below
last_at zero f i h p = absurd (omega arith)
last_at (suc n) f i h p = go (last_at n f) (f n) (λ t. t) (λ t. t)
  where
    go : ((j : ℕ) → j < n → T (f j) → IsLast n f (last_below n f)) → (b : Bool) → (T b → T (f n)) → (T (f n) → T b)
        → IsLast (suc n) f (cond b n (last_below n f))
    go rest true top only = record { below = omega arith; holds = top tt; greatest = λ j l q. omega arith }
    go rest false top only = record { below = omega (arith, found.below); holds = found.holds; greatest = λ j l q. found.greatest j (under j l q) q }
      where
        under : (j : ℕ) → j < suc n → T (f j) → j < n
        under j l q = pick (below_suc n j l)
          where
            pick : (j < n) ⊎ (j ≡ n) → j < n
            pick (inl k) = k
            pick (inr e) = absurd (only (subst (λ (x : ℕ). T (f x)) e q))

        found : IsLast n f (last_below n f)
        found = rest i (under i h p) p

pub last : {n : ℕ} {f : ℕ → Bool} → Some n f → IsLast n f (last_below n f)
last {n} {f} s = last_at n f s.at s.below s.holds

-- only one number is the last
pub last_unique : {n : ℕ} {f : ℕ → Bool} {m : ℕ} → IsLast n f m → m ≡ last_below n f
last_unique {n} {f} {m} r =
    let found = last_at n f m r.below r.holds in
    let up : m ≤ last_below n f = found.greatest m r.below r.holds in
    let down : last_below n f ≤ m = r.greatest (last_below n f) found.below found.holds in
    omega arith

pub last_none : (n : ℕ) (f : ℕ → Bool) → ((i : ℕ) → i < n → T (f i) → ⊥) → last_below n f ≡ 0
unfolding last_below
last_none zero f h = refl
last_none (suc n) f h = ap (λ (b : Bool). cond b n (last_below n f)) (is_false (f n) (h n (omega arith))) ∙ last_none n f (λ i l. h i (omega arith))

pub last_same : (n : ℕ) (f g : ℕ → Bool) → ((i : ℕ) → i < n → f i ≡ g i) → last_below n f ≡ last_below n g
unfolding last_below
last_same zero f g e = refl
last_same (suc n) f g e = ap₂ (λ (b : Bool) (rest : ℕ). cond b n rest) (e n (omega arith)) (last_same n f g (λ i l. e i (omega arith)))
