-- Placed vertices counted.
--   count_placed     of the placed vertices, as many lead to v as there are positions in the label of v
--   any_joined       a set that a number may join has a member where it had one, or where the number joins
-- Assumes nothing.
use mathlib.Core.Path.{◌≡◌, refl, sym, ap, ◌∙◌, subst}
use mathlib.Core.Bool.{Bool, true, false, cond, ◌&&◌, ◌||◌}
use mathlib.Core.Logic.{◌⊎◌, inl, inr}
use mathlib.Core.List.{List}
use Prim.Native.Nat.{ℕ, zero, suc, ◌≤◌, ◌<◌}
use native.Mathlib.Omega.{arith}
use lib.Dec.{T, eqb, eqb→eq, eqb_refl}
use Rattle.bitset.specs.Below.{any_below, count_below}
use Rattle.bitset.proofs.Tests.{and_in, and_out, or_inl, or_inr, or_out, same_test}
use Rattle.bitset.proofs.Below.{any_out, any_at}
use Rattle.bitset.proofs.Count.{count_same, count_none}
use Rattle.searches.specs.Ordering.{at, placed, IsOrdering}
use Rattle.searches.specs.Label.{label}
use Rattle.searches.proofs.Ordering.{ordering_prefix, ordering_unplaced}
use Rattle.steps.proofs.Tallying.{count_joined}

-- one number more in the second of two sets
joins : (f g : ℕ → Bool) (a p : ℕ) → (f p && (eqb a p || g p)) ≡ ((eqb a p && f a) || (f p && g p))
joins f g a p = mixed (eqb a p) (f p) (f a) (g p) (λ t. ap f (sym (eqb→eq a p t)))
  where
    self : (x z : Bool) → (x && true) ≡ (x || (x && z))
    self true z = refl
    self false z = refl

    mixed : (b x y z : Bool) → (T b → x ≡ y) → (x && (b || z)) ≡ ((b && y) || (x && z))
    mixed true x y z e = subst (λ (r : Bool). (x && true) ≡ (r || (x && z))) (e tt) (self x z)
    mixed false x y z e = refl

module _ (arc : ℕ → ℕ → Bool) {n m : ℕ} (small : n ≤ m) (w : List ℕ) (v : ℕ) where
  pub count_placed : (j : ℕ) → IsOrdering n w j → count_below m (λ u. arc u v && placed w j u) ≡ count_below j (label arc w v)
  unfolding placed any_below count_below label
  count_placed zero o = count_none m (λ u. arc u v && false) (λ u _ t. (and_out (arc u v) false t).1)
  count_placed (suc j) o =
      count_same m (λ u. arc u v && (eqb (at w j) u || placed w j u)) (λ u. (eqb (at w j) u && arc (at w j) v) || (arc u v && placed w j u))
      (λ u _. joins (λ x. arc x v) (placed w j) (at w j) u)
      ∙ count_joined m (at w j) (λ u. arc u v && placed w j u) (omega (arith, o.vertices j (omega arith)))
      (λ t. ordering_unplaced n o j (omega arith) (and_out (arc (at w j) v) (placed w j (at w j)) t).1) (arc (at w j) v)
      ∙ ap (λ (x : ℕ). cond (arc (at w j) v) (suc x) x) (count_placed j (ordering_prefix n j (omega arith) o))

pub any_joined : (m a : ℕ) (f : ℕ → Bool) → a < m → (b : Bool) → any_below m (λ q. f q || (eqb q a && b)) ≡ (any_below m f || b)
any_joined m a f l b = same_test (any_below m (λ q. f q || (eqb q a && b))) (any_below m f || b) forth (λ t. back (or_out (any_below m f) b t))
  where
    forth : T (any_below m (λ q. f q || (eqb q a && b))) → T (any_below m f || b)
    forth t = let x = any_out m (λ q. f q || (eqb q a && b)) t in go x.at x.below (or_out (f x.at) (eqb x.at a && b) x.holds)
      where
        go : (q : ℕ) → q < m → T (f q) ⊎ T (eqb q a && b) → T (any_below m f || b)
        go q h (inl i) = or_inl (any_below m f) b (any_at m f q h i)
        go q h (inr i) = or_inr (any_below m f) b (and_out (eqb q a) b i).1

    back : T (any_below m f) ⊎ T b → T (any_below m (λ q. f q || (eqb q a && b)))
    back (inl t) =
        let x = any_out m f t in
        any_at m (λ q. f q || (eqb q a && b)) x.at x.below (or_inl (f x.at) (eqb x.at a && b) x.holds)
    back (inr t) = any_at m (λ q. f q || (eqb q a && b)) a l (or_inr (f a) (eqb a a && b) (and_in (eqb a a) b (eqb_refl a) t))
