-- The last entry of a list at which a test holds, with some entries passed over.
--   any_bottom, last_bottom      the searches with the lowest number taken apart
--   last_of f t d                 the last entry of t at which f holds, d where there is none;   last_of_lem   it is where last_below finds it
--   last_numbered                it is the same in the list without the others
-- Assumes nothing.
use mathlib.Core.Path.{◌≡◌, refl, sym, ap, ap₂, ◌∙◌, subst}
use mathlib.Core.Bool.{Bool, true, false, cond, ◌&&◌, ◌||◌}
use mathlib.Core.List.{List, [], ◌∷◌}
use Prim.Native.Nat.{ℕ, zero, suc}
use lib.Dec.{T}
use lib.ListN.{length}
use Rattle.bitset.specs.Below.{any_below, last_below}
use Rattle.bitset.proofs.Tests.{cond_yes}
use Rattle.searches.specs.Ordering.{at}
use Rattle.searches.specs.Without.{number_of, numbered}

any_bottom : (n : ℕ) (f : ℕ → Bool) → any_below (suc n) f ≡ (f 0 || any_below n (λ i. f (suc i)))
unfolding any_below
any_bottom zero f = refl
any_bottom (suc n) f = ap (λ (b : Bool). f (suc n) || b) (any_bottom n f) ∙ go (f (suc n)) (f 0) (any_below n (λ i. f (suc i)))
  where
    go : (a b c : Bool) → (a || (b || c)) ≡ (b || (a || c))
    go true true c = refl
    go true false c = refl
    go false b c = refl

last_bottom : (n : ℕ) (f : ℕ → Bool) → last_below (suc n) f ≡ cond (any_below n (λ i. f (suc i))) (suc (last_below n (λ i. f (suc i)))) 0
unfolding last_below any_below
last_bottom zero f = go (f 0)
  where
    go : (b : Bool) → cond {A = ℕ} b 0 0 ≡ 0
    go true = refl
    go false = refl
last_bottom (suc n) f = go (f (suc n)) (last_bottom n f)
  where
    go : (b : Bool) → last_below (suc n) f ≡ cond (any_below n (λ i. f (suc i))) (suc (last_below n (λ i. f (suc i)))) 0
        → cond b (suc n) (last_below (suc n) f) ≡ cond (b || any_below n (λ i. f (suc i))) (suc (cond b n (last_below n (λ i. f (suc i))))) 0
    go true e = refl
    go false e = e

unfoldable last_of : (ℕ → Bool) → List ℕ → ℕ → ℕ
last_of f [] d = d
last_of f (v ∷ t) d = last_of f t (cond (f v) v d)

module _ (f : ℕ → Bool) where
  abbrev some : List ℕ → Bool
  some t = any_below (length t) (λ q. f (at t q))

  abbrev position : List ℕ → ℕ
  position t = last_below (length t) (λ q. f (at t q))

  last_of_lem : (t : List ℕ) (d : ℕ) → cond (some t) (at t (position t)) d ≡ last_of f t d
  unfolding last_of any_below
  last_of_lem [] d = refl
  last_of_lem (v ∷ t) d =
      ap₂ (λ (b : Bool) (p : ℕ). cond b (at (v ∷ t) p) d) (any_bottom (length t) (λ q. f (at (v ∷ t) q))) (last_bottom (length t) (λ q. f (at (v ∷ t) q)))
      ∙ go (f v) (some t) ∙ last_of_lem t (cond (f v) v d)
    where
      go : (a b : Bool) → cond (a || b) (at (v ∷ t) (cond b (suc (position t)) 0)) d ≡ cond b (at t (position t)) (cond a v d)
      go true true = refl
      go true false = refl
      go false true = refl
      go false false = refl

-- f holds at kept vertices only, and there as f' does at their numbers
module _ (kept f f' : ℕ → Bool) (same : (v : ℕ) → f v ≡ (kept v && f' (number_of kept v))) where
  last_of_numbered : (t : List ℕ) (d : ℕ) → last_of f' (numbered kept t) (number_of kept d) ≡ number_of kept (last_of f t d)
  unfolding last_of numbered
  last_of_numbered [] d = refl
  last_of_numbered (v ∷ t) d =
      go (kept v) (last_of_numbered t) ∙ ap (λ (b : Bool). number_of kept (last_of f t (cond b v d))) (sym (same v))
    where
      inner : (b : Bool) → cond b (number_of kept v) (number_of kept d) ≡ number_of kept (cond b v d)
      inner true = refl
      inner false = refl

      go : (a : Bool) → ((x : ℕ) → last_of f' (numbered kept t) (number_of kept x) ≡ number_of kept (last_of f t x))
          → last_of f' (cond a (number_of kept v ∷ numbered kept t) (numbered kept t)) (number_of kept d)
          ≡ number_of kept (last_of f t (cond (a && f' (number_of kept v)) v d))
      go true rest = ap (last_of f' (numbered kept t)) (inner (f' (number_of kept v))) ∙ rest (cond (f' (number_of kept v)) v d)
      go false rest = rest d

  any_numbered : (t : List ℕ) → some f t ≡ some f' (numbered kept t)
  unfolding numbered any_below
  any_numbered [] = refl
  any_numbered (v ∷ t) =
      any_bottom (length t) (λ q. f (at (v ∷ t) q)) ∙ ap₂ (λ (a b : Bool). a || b) (same v) (any_numbered t) ∙ go (kept v)
    where
      go : (a : Bool) → ((a && f' (number_of kept v)) || some f' (numbered kept t)) ≡ some f' (cond a (number_of kept v ∷ numbered kept t) (numbered kept t))
      go true = sym (any_bottom (length (numbered kept t)) (λ q. f' (at (number_of kept v ∷ numbered kept t) q)))
      go false = refl

  pub last_numbered : (t : List ℕ) → T (some f t) → at (numbered kept t) (position f' (numbered kept t)) ≡ number_of kept (at t (position f t))
  last_numbered t x =
      sym (cond_yes (some f' (numbered kept t)) (at (numbered kept t) (position f' (numbered kept t))) (number_of kept 0) (subst (λ (b : Bool). T b) (any_numbered t) x))
      ∙ last_of_lem f' (numbered kept t) (number_of kept 0) ∙ last_of_numbered t 0
      ∙ ap (λ (v : ℕ). number_of kept v) (sym (last_of_lem f t 0) ∙ cond_yes (some f t) (at t (position f t)) 0 x)
