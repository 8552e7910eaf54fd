-- The third vertex of the first violation, looked for by position and, where none is found, by number.
--   not_placed_third              no vertex up to position j is the third one
--   thirds_passed                 so the search by position may start behind j
--   third_by_position             the first by position is the first candidate
--   third_by_number               where there is none by position, the first by number is it
--   number_there                  and there is one by number
-- Assumes nothing.
use mathlib.Core.Path.{◌≡◌, refl, sym, ap, ◌∙◌, subst}
use mathlib.Core.Logic.{◌⊎◌, inl, inr}
use mathlib.Core.Bool.{Bool}
use mathlib.Core.List.{List}
use Prim.Native.Nat.{ℕ, suc, ◌+◌, ◌-◌, ◌≤◌, ◌<◌}
use native.Mathlib.Omega.{arith}
use lib.Dec.{T}
use Rattle.bitset.specs.Below.{any_below, first_below}
use Rattle.bitset.proofs.Tests.{below_or}
use Rattle.bitset.proofs.Below.{IsFirst, first, first_unique, any_out, any_at}
use Rattle.bitset.proofs.Passed.{Passed}
use Rattle.searches.specs.Kind.{Search}
use Rattle.searches.specs.Ordering.{at}
use Rattle.searches.specs.Table.{arcs_wide}
use Rattle.searches.specs.Violation.{violates, third, is_last, is_first}
use Rattle.searches.proofs.Ordering.{placed_in}
use Rattle.searches.proofs.Judge.{third_placed, third_other}
use Rattle.searches.proofs.Violations.{violates_out}
use Rattle.wide.specs.Fault.{Faulty}

module _ {s : Search} {table : List ℕ} {n : ℕ} {w : List ℕ} {k : ℕ} {labels weights free : List ℕ} {j : ℕ} (x : Faulty s table n w k labels weights free j)
    (i : ℕ) (l : i < j) where
  not_placed_third : (p : ℕ) → p < suc j → T (violates s (arcs_wide 8 table) w i j (at w p)) → ⊥
  not_placed_third p h t =
      (violates_out s (arcs_wide 8 table) w i j (at w p) n k l x.turn (x.ordering.vertices p (omega (arith, x.turn))) t).later
      (placed_in w (suc j) (at w p) p h refl)

  pub thirds_passed : Passed k (λ p. violates s (arcs_wide 8 table) w i j (at w p)) (j + 1)
  thirds_passed = record { within = omega (arith, x.turn); none = λ p h. not_placed_third p (omega arith) }

module _ (s : Search) (arc : ℕ → ℕ → Bool) (n : ℕ) (w : List ℕ) (k j i : ℕ) where
  abbrev third_is : ℕ → Bool
  third_is = violates s arc w i j

  abbrev placed_is : ℕ → Bool
  placed_is p = third_is (at w p)

  abbrev found : ℕ
  found = first_below (k + n) (is_last s arc n w k j i)

  last_placed : (e : ℕ) → e < k → is_last s arc n w k j i e ≡ placed_is e
  unfolding is_last
  last_placed e l = ap third_is (third_placed w k e l)

  last_other : (e c : ℕ) → e ≡ k + c → is_last s arc n w k j i e ≡ third_is c
  unfolding is_last
  last_other e c at_c = ap third_is (third_other w k e (omega arith) ∙ omega arith)

  -- the first by position
  module _ (p : ℕ) (first-p : p ≡ first_below k placed_is) where
    none_before : (e : ℕ) → e < p → T (is_last s arc n w k j i e) → ⊥
    none_before e l t =
        let under = first k placed_is in
        under.least e (omega arith) (subst (λ (b : Bool). T b) (last_placed e (omega (arith, under.within))) t)

    pub third_by_position : p < k → at w p ≡ third w k found
    third_by_position l =
        sym (third_placed w k p l) ∙ ap (λ (e : ℕ). third w k e) (first_unique (record {
          within = omega arith;
          holds = λ _. subst (λ (b : Bool). T b) (sym (last_placed p l)) (subst (λ (q : ℕ). T (placed_is q)) (sym first-p) ((first k placed_is).holds (omega arith)));
          least = none_before;
        }))

    pub third_by_number : k ≤ p → (c : ℕ) → c ≡ first_below n third_is → c ≡ third w k found
    third_by_number l c first-c =
        sym (third_other w k (k + c) (omega arith) ∙ omega arith) ∙ ap (λ (e : ℕ). third w k e) (first_unique (record {
          within = omega (arith, under.within);
          holds = λ h. subst (λ (b : Bool). T b) (sym (last_other (k + c) c refl)) (subst (λ (v : ℕ). T (third_is v)) (sym first-c) (under.holds (omega arith)));
          least = λ e h t. go e h t (below_or e k);
        }))
      where
        under : IsFirst n third_is (first_below n third_is)
        under = first n third_is

        go : (e : ℕ) → e < k + c → T (is_last s arc n w k j i e) → (e < k) ⊎ (k ≤ e) → ⊥
        go e h t (inl b) = none_before e (omega arith) t
        go e h t (inr b) = under.least (e - k) (omega arith) (subst (λ (b : Bool). T b) (last_other e (e - k) (omega arith)) t)

    -- where i starts a violation and none is found by position, there is one by number
    pub number_there : k ≤ p → T (is_first s arc n w k j i) → T (any_below n third_is)
    unfolding is_first
    number_there l t = let x = any_out (k + n) (is_last s arc n w k j i) t in go x.at x.below x.holds (below_or x.at k)
      where
        go : (e : ℕ) → e < k + n → T (is_last s arc n w k j i e) → (e < k) ⊎ (k ≤ e) → T (any_below n third_is)
        go e h t (inl b) = absurd (none_before e (omega arith) t)
        go e h t (inr b) = any_at n third_is (e - k) (omega arith) (subst (λ (b : Bool). T b) (last_other e (e - k) (omega arith)) t)
