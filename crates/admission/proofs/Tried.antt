-- The tests of a call, tried one after the other.
--   refused, accepted                 what is answered where one test is the first that holds, and where none holds
--   refused_before, refused_behind, accepted_behind    the same of two lists of tests, one behind the other, where the first list was tried
--   neither                           two tests that do not hold
--   five_dropped, five_tried, five_passed    the test on the mark goes first: where the graph is one-way the second is not asked
--   uneven, too_many, sized           the test on the length of a table
--   entries_fit                       entries that name vertices fit a set
-- Assumes nothing.
use mathlib.Core.Path.{◌≡◌, sym, subst}
use mathlib.Core.Bool.{Bool, not, ◌&&◌, ◌||◌}
use mathlib.Core.List.{List, [], ◌∷◌, ◌++◌}
use mathlib.Core.Logic.{◌⊎◌, inl, inr, ⊎_elim}
use mathlib.Core.Option.{none, some}
use Prim.Native.Nat.{ℕ, ◌*◌, ◌/◌, ◌%◌, ◌≤◌, ◌<◌}
use native.Mathlib.Omega.{arith}
use lib.Dec.{T, eqb, ltb, eqb→eq, ltb→lt, lt→ltb, not_T, T_not}
use lib.ListN.{length}
use Rattle.bitset.proofs.Tests.{and_out, or_inl, or_inr, or_out, below_or}
use Rattle.searches.specs.Ordering.{at}
use Rattle.searches.specs.Table.{size_wide}
use Rattle.searches.specs.Answer.{Accepts, Refuses, first_refusal, is_two_way, vertex_outside}
use Rattle.searches.specs.declared.Mark.{Mark}
use Rattle.searches.proofs.Refusals.{refuses_first, first_refuses, accepts_none, vertex_outside_in}
use Rattle.searches.proofs.Forms.{both_accept}

-- ---- what is answered

pub refused : (tests : List (ℕ × Bool)) (r : ℕ) → Refuses r tests → some r ≡ first_refusal tests
refused tests r x = sym (refuses_first tests r x)

pub accepted : (tests : List (ℕ × Bool)) → Accepts tests → none ≡ first_refusal tests
accepted tests x = sym (accepts_none tests x)

module _ (a b : List (ℕ × Bool)) where
  pub refused_before : {r : ℕ} → some r ≡ first_refusal a → some r ≡ first_refusal (a ++ b)
  refused_before {r} e = refused (a ++ b) r (front a (first_refuses a r (sym e)))
    where
      front : (a : List (ℕ × Bool)) → Refuses r a → Refuses r (a ++ b)
      front [] x = absurd x
      front (test ∷ a) (inl here) = inl here
      front (test ∷ a) (inr later) = inr (later.0, front a later.1)

  pub refused_behind : (r : ℕ) → Accepts a → Refuses r b → some r ≡ first_refusal (a ++ b)
  refused_behind r x y = refused (a ++ b) r (back a x)
    where
      back : (a : List (ℕ × Bool)) → Accepts a → Refuses r (a ++ b)
      back [] x = y
      back (test ∷ a) x = inr (x.0, back a x.1)

  pub accepted_behind : Accepts a → Accepts b → none ≡ first_refusal (a ++ b)
  accepted_behind x y = accepted (a ++ b) (both_accept a b x y)

-- ---- tests of two parts

pub neither : (a b : Bool) → (T a → ⊥) → (T b → ⊥) → T (a || b) → ⊥
neither a b x y t = ⊎_elim x y (or_out a b t)

pub five_dropped : (mark : Mark) (b : Bool) → mark ≡ Mark.OneWay → T (is_two_way mark && b) → ⊥
unfolding is_two_way
five_dropped mark b e t = subst (λ (m : Mark). T (is_two_way m && b)) e t

pub five_tried : (mark : Mark) (b : Bool) → mark ≡ Mark.TwoWay → T b → T (is_two_way mark && b)
unfolding is_two_way
five_tried mark b e t = subst (λ (m : Mark). T (is_two_way m && b)) (sym e) t

pub five_passed : (mark : Mark) (b : Bool) → (T b → ⊥) → T (is_two_way mark && b) → ⊥
five_passed mark b back t = back (and_out (is_two_way mark) b t).1

-- ---- what the tests ask

module _ (table : List ℕ) where
  pub uneven : (length table % 8 ≡ 0 → ⊥) → T (not (eqb (length table % 8) 0) || ltb (64 * 8) (size_wide 8 table))
  uneven odd =
      or_inl (not (eqb (length table % 8) 0)) (ltb (64 * 8) (size_wide 8 table))
      (not_T (eqb (length table % 8) 0) (λ t. odd (eqb→eq (length table % 8) 0 t)))

  pub too_many : 512 < length table / 8 → T (not (eqb (length table % 8) 0) || ltb (64 * 8) (size_wide 8 table))
  unfolding size_wide
  too_many l = or_inr (not (eqb (length table % 8) 0)) (ltb (64 * 8) (size_wide 8 table)) (lt→ltb 512 (length table / 8) l)

  pub sized : length table % 8 ≡ 0 → length table / 8 ≤ 512 → T (not (eqb (length table % 8) 0) || ltb (64 * 8) (size_wide 8 table)) → ⊥
  unfolding size_wide
  sized even l =
      neither (not (eqb (length table % 8) 0)) (ltb (64 * 8) (length table / 8))
      (λ t. T_not (eqb (length table % 8) 0) t (subst (λ (x : ℕ). T (eqb x 0)) (sym even) tt)) (λ t. omega (arith, ltb→lt 512 (length table / 8) t))

pub entries_fit : {n : ℕ} (w : List ℕ) {k : ℕ} → n ≤ 512 → (T (vertex_outside n w k) → ⊥) → (p : ℕ) → p < k → at w p < 512
entries_fit {n} w {k} l inside p h = go (below_or (at w p) n)
  where
    go : (at w p < n) ⊎ (n ≤ at w p) → at w p < 512
    go (inl i) = omega arith
    go (inr i) = absurd (inside (vertex_outside_in w k n p h i))
