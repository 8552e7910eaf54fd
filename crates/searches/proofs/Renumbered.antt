-- An ordering of kept vertices by their new numbers.
--   numbered_at, named_at       at each position the number, named back the vertex
--   numbered_ordering           it is an ordering
--   placed_same                 who is placed
-- Assumes nothing.
use mathlib.Core.Path.{◌≡◌, refl, sym, ap, ◌∙◌, subst}
use mathlib.Core.Bool.{Bool, cond}
use mathlib.Core.List.{List, [], ◌∷◌}
use Prim.Native.Nat.{ℕ, zero, suc, ◌≤◌, ◌<◌}
use native.Mathlib.Omega.{arith}
use lib.Dec.{T, eqb, eqb→eq, eqb_refl}
use lib.ListN.{length}
use Rattle.bitset.specs.Below.{count_below}
use Rattle.bitset.proofs.Tests.{same_test, cond_yes}
use Rattle.bitset.proofs.Below.{any_same}
use Rattle.searches.specs.Ordering.{at, placed, IsOrdering}
use Rattle.searches.specs.Without.{number_of, name_of, numbered}
use Rattle.searches.proofs.Naming.{number_below, number_same, number_name, name_number}

module _ (kept : ℕ → Bool) where
  pub numbered_at : (w : List ℕ) (k : ℕ) → k ≤ length w → ((p : ℕ) → p < k → T (kept (at w p)))
      → (k ≤ length (numbered kept w)) × ((p : ℕ) → p < k → at (numbered kept w) p ≡ number_of kept (at w p))
  unfolding numbered
  numbered_at w zero l stays = (omega arith, λ p h. absurd (omega arith))
  numbered_at [] (suc k) l stays = absurd (omega arith)
  numbered_at (v ∷ w) (suc k) l stays = go (numbered_at w k (omega arith) (λ p h. stays (suc p) (omega arith)))
    where
      here : List ℕ
      here = cond (kept v) (number_of kept v ∷ numbered kept w) (numbered kept w)

      is : here ≡ number_of kept v ∷ numbered kept w
      is = cond_yes (kept v) (number_of kept v ∷ numbered kept w) (numbered kept w) (stays 0 (omega arith))

      go : (k ≤ length (numbered kept w)) × ((p : ℕ) → p < k → at (numbered kept w) p ≡ number_of kept (at w p))
          → (suc k ≤ length here) × ((p : ℕ) → p < suc k → at here p ≡ number_of kept (at (v ∷ w) p))
      go rest = (
        subst (λ (x : List ℕ). suc k ≤ length x) (sym is) (omega (arith, rest.0)),
        subst (λ (x : List ℕ). (p : ℕ) → p < suc k → at x p ≡ number_of kept (at (v ∷ w) p)) (sym is) step,
      )
        where
          step : (p : ℕ) → p < suc k → at (number_of kept v ∷ numbered kept w) p ≡ number_of kept (at (v ∷ w) p)
          step zero h = refl
          step (suc p) h = rest.1 p (omega arith)

-- the first k vertices of w are distinct kept ones
module _ (n : ℕ) (kept : ℕ → Bool) (w : List ℕ) (k : ℕ) (o : IsOrdering n w k) (stays : (p : ℕ) → p < k → T (kept (at w p))) where
  abbrev w' : List ℕ
  w' = numbered kept w

  number_at : (p : ℕ) → p < k → at w' p ≡ number_of kept (at w p)
  number_at = (numbered_at kept w k o.long stays).1

  pub named_at : (p : ℕ) → p < k → name_of n kept (at w' p) ≡ at w p
  named_at p l = ap (λ (i : ℕ). name_of n kept i) (number_at p l) ∙ name_number kept n (at w p) (o.vertices p l) (stays p l)

  pub numbered_ordering : IsOrdering (count_below n kept) w' k
  numbered_ordering = record {
    long = (numbered_at kept w k o.long stays).0;
    vertices = λ p l. subst (λ (v : ℕ). v < count_below n kept) (sym (number_at p l)) (number_below kept n (at w p) (o.vertices p l) (stays p l));
    distinct = λ p q h l e.
        o.distinct p q h l (number_same kept (at w p) (at w q) (stays p (omega arith)) (stays q l) (sym (number_at p (omega arith)) ∙ e ∙ number_at q l));
  }

  pub placed_same : (j : ℕ) → j ≤ k → (c : ℕ) → c < count_below n kept → placed w' j c ≡ placed w j (name_of n kept c)
  unfolding placed
  placed_same j h c l =
      any_same j (λ p. eqb (at w' p) c) (λ p. eqb (at w p) (name_of n kept c)) (λ p g.
      let name = named_at p (omega arith) in
      let number = number_at p (omega arith) in
      same_test (eqb (at w' p) c) (eqb (at w p) (name_of n kept c))
      (λ t. equal (at w p) (name_of n kept c) (sym name ∙ ap (λ (i : ℕ). name_of n kept i) (eqb→eq (at w' p) c t)))
      (λ t. equal (at w' p) c (number ∙ ap (λ (v : ℕ). number_of kept v) (eqb→eq (at w p) (name_of n kept c) t) ∙ number_name kept n c l)))
    where
      equal : (x y : ℕ) → x ≡ y → T (eqb x y)
      equal x y e = subst (λ (z : ℕ). T (eqb x z)) e (eqb_refl x)
