-- The numbers below a bound at which a test holds, as an ascending list.
--   numbers_same      equal tests, equal lists;   numbers_fewer   a test that holds only below a smaller bound is listed there
--   numbers_none      none
--   numbers_length    there are as many as are counted
--   numbers_sound     each is below the bound, and the test holds at it
--   numbers_ascend    they ascend
--   Listed list v     the list has v;   numbers_listed   each number below the bound at which the test holds is in the list
--   numbers_first     the least one taken out;   numbers_last   one put in above all others
-- Assumes nothing.
use Prim.Native.Nat.{ℕ, zero, suc, ◌≤◌, ◌<◌}
use mathlib.Core.Path.{◌≡◌, refl, sym, ap, ap₂, ◌∙◌, subst}
use mathlib.Core.Bool.{Bool, true, false, cond}
use mathlib.Core.List.{List, [], ◌∷◌, ◌++◌, append-nil}
use mathlib.Core.Logic.{◌⊎◌, inl, inr}
use native.Mathlib.Omega.{arith}
use lib.Dec.{T}
use lib.ListN.{length, length-append, get_or-append}
use lib.Seq.{get_or_at}
use Rattle.bitset.specs.Below.{count_below}
use Rattle.bitset.proofs.Tests.{is_true, is_false, below_or, below_suc}
use Rattle.searches.specs.Ordering.{at}
use Rattle.conversion.specs.Conversion.{numbers_below}

-- v, if the test holds
abbrev pub alone : Bool → ℕ → List ℕ
alone b v = cond b (v ∷ []) []

pub numbers_same : (k : ℕ) (f g : ℕ → Bool) → ((v : ℕ) → v < k → f v ≡ g v) → numbers_below k f ≡ numbers_below k g
unfolding numbers_below
numbers_same zero f g e = refl
numbers_same (suc k) f g e = ap₂ (λ (l : List ℕ) (b : Bool). l ++ alone b k) (numbers_same k f g (λ v l. e v (omega arith))) (e k (omega arith))

pub numbers_fewer : (k m : ℕ) → k ≤ m → (f : ℕ → Bool) → ((v : ℕ) → k ≤ v → v < m → T (f v) → ⊥) → numbers_below m f ≡ numbers_below k f
unfolding numbers_below
numbers_fewer zero zero l f none = refl
numbers_fewer (suc k) zero l f none = absurd (omega arith)
numbers_fewer k (suc m) l f none = go (below_or m k) (λ h. numbers_fewer k m h f (λ v a b. none v a (omega arith)))
  where
    go : (m < k) ⊎ (k ≤ m) → (k ≤ m → numbers_below m f ≡ numbers_below k f) → numbers_below (suc m) f ≡ numbers_below k f
    go (inl h) rest = let e : suc m ≡ k = omega arith in ap (λ (i : ℕ). numbers_below i f) e
    go (inr h) rest =
        ap (λ (b : Bool). numbers_below m f ++ alone b m) (is_false (f m) (none m h (omega arith))) ∙ append-nil (numbers_below m f) ∙ rest h

pub numbers_none : (k : ℕ) (f : ℕ → Bool) → ((v : ℕ) → v < k → T (f v) → ⊥) → numbers_below k f ≡ []
unfolding numbers_below
numbers_none k f none = numbers_fewer 0 k (omega arith) f (λ v _ l. none v l)

pub numbers_length : (k : ℕ) (f : ℕ → Bool) → length (numbers_below k f) ≡ count_below k f
unfolding numbers_below count_below
numbers_length zero f = refl
numbers_length (suc k) f = go (f k) (numbers_length k f)
  where
    go : (b : Bool) → length (numbers_below k f) ≡ count_below k f → length (numbers_below k f ++ alone b k) ≡ cond b (suc (count_below k f)) (count_below k f)
    go true e = length-append (numbers_below k f) (k ∷ []) ∙ omega arith
    go false e = length-append (numbers_below k f) [] ∙ omega arith

-- ---- a list with one number more at its end, if a test holds

module _ (list : List ℕ) (b : Bool) (v : ℕ) where
  -- an entry of it is one of the list, or v itself
  pub alone_at : (e : ℕ) → e < length (list ++ alone b v)
      → ((e < length list) × (at (list ++ alone b v) e ≡ at list e)) ⊎ ((e ≡ length list) × (at (list ++ alone b v) e ≡ v) × T b)
  alone_at e l = go (below_or e (length list)) b l
    where
      go : (e < length list) ⊎ (length list ≤ e) → (c : Bool) → e < length (list ++ alone c v)
          → ((e < length list) × (at (list ++ alone c v) e ≡ at list e)) ⊎ ((e ≡ length list) × (at (list ++ alone c v) e ≡ v) × T c)
      go (inl h) c l = inl (h, get_or-append list (alone c v) 0 e h)
      go (inr h) true l =
          let same : length list ≡ e = omega (arith, length-append list (v ∷ [])) in
          inr (sym same, get_or_at list v [] 0 e same, tt)
      go (inr h) false l = absurd (omega (arith, length-append list []))

-- ---- what stands in the list

pub numbers_sound : (k : ℕ) (f : ℕ → Bool) (e : ℕ) → e < length (numbers_below k f) → (at (numbers_below k f) e < k) × T (f (at (numbers_below k f) e))
unfolding numbers_below
numbers_sound zero f e l = absurd (omega arith)
numbers_sound (suc k) f e l = go (numbers_sound k f e) (alone_at (numbers_below k f) (f k) k e l)
  where
    now : ℕ
    now = at (numbers_below k f ++ alone (f k) k) e

    go : (e < length (numbers_below k f) → (at (numbers_below k f) e < k) × T (f (at (numbers_below k f) e)))
        → ((e < length (numbers_below k f)) × (now ≡ at (numbers_below k f) e)) ⊎ ((e ≡ length (numbers_below k f)) × (now ≡ k) × T (f k))
        → (now < suc k) × T (f now)
    go rest (inl x) = let r = rest x.0 in (omega (arith, x.1, r.0), subst (λ (v : ℕ). T (f v)) (sym x.1) r.1)
    go rest (inr x) = (omega (arith, x.1), subst (λ (v : ℕ). T (f v)) (sym x.1) x.2)

pub numbers_ascend : (k : ℕ) (f : ℕ → Bool) (e : ℕ) → suc e < length (numbers_below k f) → at (numbers_below k f) e < at (numbers_below k f) (suc e)
unfolding numbers_below
numbers_ascend zero f e l = absurd (omega arith)
numbers_ascend (suc k) f e l = go (numbers_ascend k f e) (alone_at below (f k) k e (omega arith)) (alone_at below (f k) k (suc e) l)
  where
    below : List ℕ
    below = numbers_below k f

    more : List ℕ
    more = below ++ alone (f k) k

    go : (suc e < length below → at below e < at below (suc e))
        → ((e < length below) × (at more e ≡ at below e)) ⊎ ((e ≡ length below) × (at more e ≡ k) × T (f k))
        → ((suc e < length below) × (at more (suc e) ≡ at below (suc e))) ⊎ ((suc e ≡ length below) × (at more (suc e) ≡ k) × T (f k))
        → at more e < at more (suc e)
    go rest (inl x) (inl y) = omega (arith, x.1, y.1, rest y.0)
    go rest (inl x) (inr y) = omega (arith, x.1, y.1, (numbers_sound k f e x.0).0)
    go rest (inr x) (inl y) = absurd (omega (arith, x.0, y.0))
    go rest (inr x) (inr y) = absurd (omega (arith, x.0, y.0))

pub record Listed (list : List ℕ) (v : ℕ) : Type 0 where
  pub place : ℕ
  pub inside : place < length list
  pub names : at list place ≡ v

pub numbers_listed : (k : ℕ) (f : ℕ → Bool) (v : ℕ) → v < k → T (f v) → Listed (numbers_below k f) v
unfolding numbers_below
numbers_listed zero f v l t = absurd (omega arith)
numbers_listed (suc k) f v l t = go (λ h. numbers_listed k f v h t) (below_suc k v l)
  where
    wider : Listed (numbers_below k f) v → Listed (numbers_below k f ++ alone (f k) k) v
    wider x = record {
      place = x.place;
      inside = omega (arith, x.inside, length-append (numbers_below k f) (alone (f k) k));
      names = get_or-append (numbers_below k f) (alone (f k) k) 0 x.place x.inside ∙ x.names;
    }

    top : (b : Bool) → T b → Listed (numbers_below k f ++ alone b k) k
    top true _ = record {
      place = length (numbers_below k f);
      inside = omega (arith, length-append (numbers_below k f) (k ∷ []));
      names = get_or_at (numbers_below k f) k [] 0 (length (numbers_below k f)) refl;
    }
    top false t = absurd t

    go : (v < k → Listed (numbers_below k f) v) → (v < k) ⊎ (v ≡ k) → Listed (numbers_below k f ++ alone (f k) k) v
    go rest (inl h) = wider (rest h)
    go rest (inr e) = subst (λ (x : ℕ). Listed (numbers_below k f ++ alone (f k) k) x) (sym e) (top (f k) (subst (λ (x : ℕ). T (f x)) e t))

-- ---- one number taken out or put in

-- g is f without v, the least number at which f holds
pub numbers_first : (k : ℕ) (f g : ℕ → Bool) (v : ℕ) → v < k → T (f v) → ((u : ℕ) → u < v → T (f u) → ⊥)
    → (T (g v) → ⊥) → ((u : ℕ) → (v ≡ u → ⊥) → f u ≡ g u) → numbers_below k f ≡ v ∷ numbers_below k g
unfolding numbers_below
numbers_first zero f g v l t least out same = absurd (omega arith)
numbers_first (suc k) f g v l t least out same = go (λ h. numbers_first k f g v h t least out same) (below_suc k v l)
  where
    go : (v < k → numbers_below k f ≡ v ∷ numbers_below k g) → (v < k) ⊎ (v ≡ k) → numbers_below k f ++ alone (f k) k ≡ v ∷ (numbers_below k g ++ alone (g k) k)
    go rest (inl h) =
        ap₂ (λ (l : List ℕ) (b : Bool). l ++ alone b k) (rest h) (same k (λ e. omega arith))
    go rest (inr e) =
        let none : (u : ℕ) → u < k → T (f u) → ⊥ = λ u h. least u (omega arith) in
        ap₂ (λ (l : List ℕ) (b : Bool). l ++ alone b k) (numbers_none k f none) (is_true (f k) (subst (λ (x : ℕ). T (f x)) e t)) ∙ ap (λ (x : ℕ). x ∷ []) (sym e)
        ∙ ap (λ (l : List ℕ). v ∷ l)
        (sym (ap₂ (λ (l : List ℕ) (b : Bool). l ++ alone b k)
        (numbers_none k g (λ u h x. none u h (subst (λ (b : Bool). T b) (sym (same u (λ d. omega arith))) x)))
        (is_false (g k) (λ x. out (subst (λ (u : ℕ). T (g u)) (sym e) x)))))

-- g is f and v, which is greater than all numbers at which f holds
pub numbers_last : (k : ℕ) (f g : ℕ → Bool) (v : ℕ) → v < k → T (g v) → ((u : ℕ) → T (f u) → u < v)
    → ((u : ℕ) → (v ≡ u → ⊥) → g u ≡ f u) → numbers_below k g ≡ numbers_below k f ++ v ∷ []
unfolding numbers_below
numbers_last k f g v l t below same =
    numbers_fewer (suc v) k l g (λ u h _ x. let b : u < v = below u (subst (λ (c : Bool). T c) (same u (λ e. omega arith)) x) in omega arith)
    ∙ ap₂ (λ (list : List ℕ) (b : Bool). list ++ alone b v)
    (numbers_same v g f (λ u h. same u (λ e. omega arith)) ∙ sym (numbers_fewer v k (omega arith) f (λ u h _ x. let b = below u x in omega arith)))
    (is_true (g v) t)
