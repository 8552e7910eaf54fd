-- The numbers below a bound at which a test holds, in ascending order.
--   Lists m g k f     g 0 to g (m - 1) are, ascending, the numbers below k at which f holds
--   listed            list_below lists them;   listed_few   they are at most k
--   lists_one_way     no other list does
-- Assumes nothing.
use Prim.Native.Nat.{ℕ, zero, suc, ◌≤◌, ◌<◌}
use mathlib.Core.Path.{◌≡◌, refl, sym, ap, ap₂, ◌∙◌, subst}
use mathlib.Core.Bool.{Bool, true, false, cond}
use mathlib.Core.Logic.{◌⊎◌, inl, inr}
use mathlib.Core.List.{List, [], ◌∷◌, ◌++◌}
use native.Mathlib.Omega.{arith}
use lib.Dec.{T}
use lib.ListN.{length}
use Rattle.bitset.proofs.Tests.{below_suc, below_or}
use Rattle.searches.specs.Ordering.{at}
use Rattle.searches.proofs.Ordering.{length_grown, grown_agree, grown_last}
use Rattle.sheet.specs.Sheet.{tabulate}
use Rattle.sheet.specs.Written.{list_below}

pub record Lists (m : ℕ) (g : ℕ → ℕ) (k : ℕ) (f : ℕ → Bool) : Type 0 where
  pub below : (j : ℕ) → j < m → g j < k
  pub holds : (j : ℕ) → j < m → T (f (g j))
  pub all : (c : ℕ) → c < k → T (f c) → (j : ℕ) × (j < m) × (g j ≡ c)
  pub ascending : (i j : ℕ) → i < j → j < m → g i < g j

-- ---- the list has them

module _ (f : ℕ → Bool) where
  -- the test fails at k: nothing is added
  skipped : {k m : ℕ} {g : ℕ → ℕ} → (T (f k) → ⊥) → Lists m g k f → Lists m g (suc k) f
  skipped {k} {m} {g} out x = record {
    below = λ j l. omega (arith, x.below j l);
    holds = x.holds;
    all = λ c l t. go c t (below_suc k c l);
    ascending = x.ascending;
  }
    where
      go : (c : ℕ) → T (f c) → (c < k) ⊎ (c ≡ k) → (j : ℕ) × (j < m) × (g j ≡ c)
      go c t (inl l) = x.all c l t
      go c t (inr e) = absurd (out (subst (λ (y : ℕ). T (f y)) e t))

  -- the test holds at k: k is added
  added : {k : ℕ} (l : List ℕ) → T (f k) → Lists (length l) (at l) k f → Lists (suc (length l)) (at (l ++ k ∷ [])) (suc k) f
  added {k} l t x = record {
    below = λ j h. under j (below_suc (length l) j h);
    holds = λ j h. holds_at j (below_suc (length l) j h);
    all = λ c h s. place c s (below_suc k c h);
    ascending = λ i j h h'. rising i j h (below_suc (length l) j h');
  }
    where
      old : (j : ℕ) → j < length l → at (l ++ k ∷ []) j ≡ at l j
      old j h = grown_agree l k j h

      last : (j : ℕ) → j ≡ length l → at (l ++ k ∷ []) j ≡ k
      last j e = ap (λ (y : ℕ). at (l ++ k ∷ []) y) e ∙ grown_last l k

      under : (j : ℕ) → (j < length l) ⊎ (j ≡ length l) → at (l ++ k ∷ []) j < suc k
      under j (inl h) = omega (arith, old j h, x.below j h)
      under j (inr e) = omega (arith, last j e)

      holds_at : (j : ℕ) → (j < length l) ⊎ (j ≡ length l) → T (f (at (l ++ k ∷ []) j))
      holds_at j (inl h) = subst (λ (y : ℕ). T (f y)) (sym (old j h)) (x.holds j h)
      holds_at j (inr e) = subst (λ (y : ℕ). T (f y)) (sym (last j e)) t

      place : (c : ℕ) → T (f c) → (c < k) ⊎ (c ≡ k) → (j : ℕ) × (j < suc (length l)) × (at (l ++ k ∷ []) j ≡ c)
      place c s (inl h) = let y = x.all c h s in (y.0, omega (arith, y.1), old y.0 y.1 ∙ y.2)
      place c s (inr e) = (length l, omega arith, last (length l) refl ∙ sym e)

      rising : (i j : ℕ) → i < j → (j < length l) ⊎ (j ≡ length l) → at (l ++ k ∷ []) i < at (l ++ k ∷ []) j
      rising i j h (inl h') = omega (arith, old i (omega arith), old j h', x.ascending i j h h')
      rising i j h (inr e) = omega (arith, old i (omega arith), last j e, x.below i (omega arith))

  pub listed : (k : ℕ) → Lists (length (list_below k f)) (at (list_below k f)) k f
  unfolding list_below
  listed zero = record {
    below = λ j l. absurd (omega arith);
    holds = λ j l. absurd (omega arith);
    all = λ c l t. absurd (omega arith);
    ascending = λ i j h l. absurd (omega arith);
  }
  listed (suc k) = go (f k) (λ t. t) (λ t. t) (listed k)
    where
      go : (t : Bool) → (T t → T (f k)) → (T (f k) → T t) → Lists (length (list_below k f)) (at (list_below k f)) k f
          → Lists (length (cond t (list_below k f ++ k ∷ []) (list_below k f))) (at (cond t (list_below k f ++ k ∷ []) (list_below k f))) (suc k) f
      go true here only x =
          subst (λ (m : ℕ). Lists m (at (list_below k f ++ k ∷ [])) (suc k) f) (sym (length_grown (list_below k f) k)) (added (list_below k f) (here tt) x)
      go false here only x = skipped only x

  pub listed_few : (k : ℕ) → length (list_below k f) ≤ k
  unfolding list_below
  listed_few zero = omega arith
  listed_few (suc k) = go (f k) (listed_few k)
    where
      go : (t : Bool) → length (list_below k f) ≤ k → length (cond t (list_below k f ++ k ∷ []) (list_below k f)) ≤ suc k
      go true l = omega (arith, length_grown (list_below k f) k)
      go false l = omega arith

  -- ---- and is the only one

  -- the test fails at k: what lists the numbers up to k lists those below k
  kept : {k m : ℕ} {g : ℕ → ℕ} → (T (f k) → ⊥) → Lists m g (suc k) f → Lists m g k f
  kept {k} {m} {g} out x = record {
    below = λ j l. go j l (below_suc k (g j) (x.below j l));
    holds = x.holds;
    all = λ c l t. x.all c (omega arith) t;
    ascending = x.ascending;
  }
    where
      go : (j : ℕ) → j < m → (g j < k) ⊎ (g j ≡ k) → g j < k
      go j l (inl h) = h
      go j l (inr e) = absurd (out (subst (λ (y : ℕ). T (f y)) e (x.holds j l)))

  -- the last number apart
  fewer : {k m : ℕ} {g : ℕ → ℕ} → g m ≡ k → Lists (suc m) g (suc k) f → Lists m g k f
  fewer {k} {m} {g} top x = record {
    below = λ j l. omega (arith, x.ascending j m l (omega arith));
    holds = λ j l. x.holds j (omega arith);
    all = λ c l t. let y = x.all c (omega arith) t in go c l y.2 (below_suc m y.0 y.1);
    ascending = λ i j h l. x.ascending i j h (omega arith);
  }
    where
      go : {j : ℕ} (c : ℕ) → c < k → g j ≡ c → (j < m) ⊎ (j ≡ m) → (i : ℕ) × (i < m) × (g i ≡ c)
      go {j} c l e (inl h) = (j, h, e)
      go c l e (inr same) = absurd (let clash : k ≡ c = sym top ∙ ap g (sym same) ∙ e in omega arith)

  -- the number at which k stands is the last one
  top_last : {k m j : ℕ} {g : ℕ → ℕ} → Lists m g (suc k) f → j < m → g j ≡ k → m ≡ suc j
  top_last {k} {m} {j} {g} x l e = go (below_or (suc j) m)
    where
      go : (suc j < m) ⊎ (m ≤ suc j) → m ≡ suc j
      go (inl h) = absurd (omega (arith, x.ascending j (suc j) (omega arith) h, x.below (suc j) h))
      go (inr h) = omega arith

  pub lists_one_way : (k m : ℕ) (g : ℕ → ℕ) → Lists m g k f → tabulate m g ≡ list_below k f
  unfolding list_below tabulate
  lists_one_way zero zero g x = refl
  lists_one_way zero (suc m) g x = absurd (omega (arith, x.below 0 (omega arith)))
  lists_one_way (suc k) m g x = go (f k) (λ t. t) (λ t. t) (lists_one_way k)
    where
      go : (t : Bool) → (T t → T (f k)) → (T (f k) → T t) → ((i : ℕ) (h : ℕ → ℕ) → Lists i h k f → tabulate i h ≡ list_below k f)
          → tabulate m g ≡ cond t (list_below k f ++ k ∷ []) (list_below k f)
      go false here only rest = rest m g (kept only x)
      go true here only rest =
          let y = x.all k (omega arith) (here tt) in
          let e : m ≡ suc y.0 = top_last x y.1 y.2 in
          ap (λ (i : ℕ). tabulate i g) e
          ∙ ap₂ (λ (l : List ℕ) (c : ℕ). l ++ c ∷ []) (rest y.0 g (fewer y.2 (subst (λ (i : ℕ). Lists i g (suc k) f) e x))) y.2
