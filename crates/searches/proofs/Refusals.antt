-- Refusals: each is given exactly in its stated case.
--   refuses_first, first_refuses, accepts_none, none_accepts   the answer is the first test that holds
--   outside_*, loop_*, unreturned_*, all_returned              what the tests on a graph mean, in whatever form it is given
--   bit_outside_*, self_loop_*, one_way_*, vertex_outside_*, repeated_*   what the tests mean
--   numbers tests                                              the numbers of the tests, in the order in which they are tried
--   judge_order, carry_on_order, open_order                     what these are
-- Assumes nothing.
use mathlib.Core.Path.{◌≡◌, refl, ap, subst}
use mathlib.Core.Logic.{◌⊎◌, inl, inr}
use mathlib.Core.Bool.{Bool, true, false, cond, not, ◌&&◌}
use mathlib.Core.List.{List, [], ◌∷◌, map}
use mathlib.Core.Option.{none, some}
use Prim.Native.Nat.{ℕ, ◌≤◌, ◌<◌}
use native.Mathlib.Omega.{arith}
use lib.Dec.{T, leb, eqb, leb→le, le→leb, eqb→eq, eqb_refl, not_T, T_not}
use lib.ListN.{length}
use Rattle.bitset.specs.Below.{any_below}
use Rattle.bitset.proofs.Tests.{and_in, and_out, not_not, same_test, decided}
use Rattle.bitset.proofs.Below.{any_out, any_at}
use Rattle.searches.specs.Ordering.{arcs, at}
use Rattle.searches.specs.Answer.{bit_outside, self_loop, one_way, vertex_outside, repeated}
use Rattle.searches.specs.Answer.{open_tests, judge_tests, list_tests, carry_on_tests, first_refusal, Accepts, Refuses}
use Rattle.searches.specs.declared.Mark.{Mark}

-- ---- the first test that holds

pub refuses_first : (tests : List (ℕ × Bool)) (r : ℕ) → Refuses r tests → first_refusal tests ≡ some r
unfolding first_refusal
refuses_first [] r x = absurd x
refuses_first (test ∷ tests) r x = go test.1 x (refuses_first tests r)
  where
    go : (b : Bool) → ((test.0 ≡ r) × T b) ⊎ ((T b → ⊥) × Refuses r tests) → (Refuses r tests → first_refusal tests ≡ some r)
        → cond b (some test.0) (first_refusal tests) ≡ some r
    go true (inl x) rest = ap some x.0
    go true (inr x) rest = absurd (x.0 tt)
    go false (inl x) rest = absurd x.1
    go false (inr x) rest = rest x.1

pub accepts_none : (tests : List (ℕ × Bool)) → Accepts tests → first_refusal tests ≡ none
unfolding first_refusal
accepts_none [] x = refl
accepts_none (test ∷ tests) x = go test.1 x.0 (accepts_none tests x.1)
  where
    go : (b : Bool) → (T b → ⊥) → first_refusal tests ≡ none → cond b (some test.0) (first_refusal tests) ≡ none
    go true out rest = absurd (out tt)
    go false out rest = rest

-- one of the two holds of every list of tests
pub accepts_or_refuses : (tests : List (ℕ × Bool)) → Accepts tests ⊎ ((r : ℕ) × Refuses r tests)
accepts_or_refuses [] = inl tt
accepts_or_refuses (test ∷ tests) = go (decided test.1) (accepts_or_refuses tests)
  where
    go : T test.1 ⊎ (T test.1 → ⊥) → Accepts tests ⊎ ((r : ℕ) × Refuses r tests) → Accepts (test ∷ tests) ⊎ ((r : ℕ) × Refuses r (test ∷ tests))
    go (inl t) rest = inr (test.0, inl (refl, t))
    go (inr out) (inl a) = inl (out, a)
    go (inr out) (inr x) = inr (x.0, inr (out, x.1))

pub first_refuses : (tests : List (ℕ × Bool)) (r : ℕ) → first_refusal tests ≡ some r → Refuses r tests
first_refuses tests r e = go (accepts_or_refuses tests)
  where
    go : Accepts tests ⊎ ((q : ℕ) × Refuses q tests) → Refuses r tests
    go (inl a) = let clash : ◌≡◌ {A = ℕ} 0 1 = cc (accepts_none tests a) in absurd (omega arith)
    go (inr x) = let same : x.0 ≡ r = cc (refuses_first tests x.0 x.1) in subst (λ (q : ℕ). Refuses q tests) same x.1

pub none_accepts : (tests : List (ℕ × Bool)) → first_refusal tests ≡ none → Accepts tests
none_accepts tests e = go (accepts_or_refuses tests)
  where
    go : Accepts tests ⊎ ((q : ℕ) × Refuses q tests) → Accepts tests
    go (inl a) = a
    go (inr x) = let clash : ◌≡◌ {A = ℕ} 0 1 = cc (refuses_first tests x.0 x.1) in absurd (omega arith)

-- ---- the order in which the numbers are tried

unfoldable pub numbers : List (ℕ × Bool) → List ℕ
numbers tests = map (λ (test : ℕ × Bool). test.0) tests

-- open checks 1 to 5
open_order : (kind : ℕ) (mark : Mark) (rows : List ℕ) → numbers (open_tests kind mark rows) ≡ 1 ∷ 2 ∷ 3 ∷ 4 ∷ 5 ∷ []
unfolding numbers open_tests
open_order kind mark rows = refl

-- judge checks 1 to 6, 8, 9
judge_order : (kind : ℕ) (mark : Mark) (rows w : List ℕ) → numbers (judge_tests kind mark rows w) ≡ 1 ∷ 2 ∷ 3 ∷ 4 ∷ 5 ∷ 6 ∷ 8 ∷ 9 ∷ []
unfolding numbers open_tests judge_tests
judge_order kind mark rows w = refl

-- carry-on checks 1 to 6, 10, 7, then 8, 9, then 12
carry_on_order : (kind : ℕ) (mark : Mark) (rows t out : List ℕ) (k : ℕ)
    → numbers (carry_on_tests kind mark rows t out k) ≡ 1 ∷ 2 ∷ 3 ∷ 4 ∷ 5 ∷ 6 ∷ 10 ∷ 7 ∷ 8 ∷ 9 ∷ 12 ∷ []
unfolding numbers open_tests list_tests carry_on_tests
carry_on_order kind mark rows t out k = refl

-- ---- what the tests mean

-- the tests on a graph, in whatever form it is given: `bits` are as many as a row has
module _ (arc : ℕ → ℕ → Bool) (n bits : ℕ) where
  pub outside_out : T (any_below n (λ u. any_below bits (λ v. leb n v && arc u v))) → (u : ℕ) × (v : ℕ) × (u < n) × (v < bits) × (n ≤ v) × T (arc u v)
  outside_out t =
      let x = any_out n (λ u. any_below bits (λ v. leb n v && arc u v)) t in
      let y = any_out bits (λ v. leb n v && arc x.at v) x.holds in
      let both = and_out (leb n y.at) (arc x.at y.at) y.holds in
      (x.at, y.at, x.below, y.below, leb→le n y.at both.0, both.1)

  pub outside_in_lem : (u v : ℕ) → u < n → v < bits → n ≤ v → T (arc u v) → T (any_below n (λ u. any_below bits (λ v. leb n v && arc u v)))
  outside_in_lem u v l h g t =
      any_at n (λ u. any_below bits (λ v. leb n v && arc u v)) u l
      (any_at bits (λ v. leb n v && arc u v) v h (and_in (leb n v) (arc u v) (le→leb n v g) t))

module _ (arc : ℕ → ℕ → Bool) (n : ℕ) where
  pub loop_out : T (any_below n (λ u. arc u u)) → (u : ℕ) × (u < n) × T (arc u u)
  loop_out t = let x = any_out n (λ u. arc u u) t in (x.at, x.below, x.holds)

  pub loop_in : (u : ℕ) → u < n → T (arc u u) → T (any_below n (λ u. arc u u))
  loop_in u l t = any_at n (λ u. arc u u) u l t

  pub unreturned_out : T (any_below n (λ u. any_below n (λ v. arc u v && not (arc v u)))) → (u : ℕ) × (v : ℕ) × (u < n) × (v < n) × T (arc u v) × (T (arc v u) → ⊥)
  unreturned_out t =
      let x = any_out n (λ u. any_below n (λ v. arc u v && not (arc v u))) t in
      let y = any_out n (λ v. arc x.at v && not (arc v x.at)) x.holds in
      let both = and_out (arc x.at y.at) (not (arc y.at x.at)) y.holds in
      (x.at, y.at, x.below, y.below, both.0, T_not (arc y.at x.at) both.1)

  pub unreturned_in : (u v : ℕ) → u < n → v < n → T (arc u v) → (T (arc v u) → ⊥) → T (any_below n (λ u. any_below n (λ v. arc u v && not (arc v u))))
  unreturned_in u v l h t out =
      any_at n (λ u. any_below n (λ v. arc u v && not (arc v u))) u l
      (any_at n (λ v. arc u v && not (arc v u)) v h (and_in (arc u v) (not (arc v u)) t (not_T (arc v u) out)))

  -- where the test does not hold every arc has its arc back
  pub all_returned : (T (any_below n (λ u. any_below n (λ v. arc u v && not (arc v u)))) → ⊥) → (u v : ℕ) → u < n → v < n → arc u v ≡ arc v u
  all_returned all u v l h = same_test (arc u v) (arc v u) (back u v l h) (back v u h l)
    where
      back : (u v : ℕ) → u < n → v < n → T (arc u v) → T (arc v u)
      back u v l h t = not_not (arc v u) (not_T (not (arc v u)) (λ alone. all (unreturned_in u v l h t (T_not (arc v u) alone))))

-- on rows
module _ (rows : List ℕ) where
  pub bit_outside_out : T (bit_outside rows) → (u : ℕ) × (v : ℕ) × (u < length rows) × (v < 64) × (length rows ≤ v) × T (arcs rows u v)
  unfolding bit_outside
  bit_outside_out = outside_out (arcs rows) (length rows) 64

  pub bit_outside_in : (u v : ℕ) → u < length rows → v < 64 → length rows ≤ v → T (arcs rows u v) → T (bit_outside rows)
  unfolding bit_outside
  bit_outside_in = outside_in_lem (arcs rows) (length rows) 64

  pub self_loop_out : T (self_loop rows) → (u : ℕ) × (u < length rows) × T (arcs rows u u)
  unfolding self_loop
  self_loop_out = loop_out (arcs rows) (length rows)

  pub self_loop-in : (u : ℕ) → u < length rows → T (arcs rows u u) → T (self_loop rows)
  unfolding self_loop
  self_loop-in = loop_in (arcs rows) (length rows)

  pub one_way-out : T (one_way rows) → (u : ℕ) × (v : ℕ) × (u < length rows) × (v < length rows) × T (arcs rows u v) × (T (arcs rows v u) → ⊥)
  unfolding one_way
  one_way-out = unreturned_out (arcs rows) (length rows)

  pub one_way-in : (u v : ℕ) → u < length rows → v < length rows → T (arcs rows u v) → (T (arcs rows v u) → ⊥) → T (one_way rows)
  unfolding one_way
  one_way-in = unreturned_in (arcs rows) (length rows)

module _ (w : List ℕ) (k : ℕ) where
  pub vertex_outside_out : (n : ℕ) → T (vertex_outside n w k) → (p : ℕ) × (p < k) × (n ≤ at w p)
  unfolding vertex_outside
  vertex_outside_out n t = let x = any_out k (λ p. leb n (at w p)) t in (x.at, x.below, leb→le n (at w x.at) x.holds)

  pub vertex_outside_in : (n p : ℕ) → p < k → n ≤ at w p → T (vertex_outside n w k)
  unfolding vertex_outside
  vertex_outside_in n p l h = any_at k (λ p. leb n (at w p)) p l (le→leb n (at w p) h)

  pub repeated_out : T (repeated w k) → (p : ℕ) × (q : ℕ) × (p < q) × (q < k) × (at w p ≡ at w q)
  unfolding repeated
  repeated_out t =
      let y = any_out k (λ q. any_below q (λ p. eqb (at w p) (at w q))) t in
      let x = any_out y.at (λ p. eqb (at w p) (at w y.at)) y.holds in
      (x.at, y.at, x.below, y.below, eqb→eq (at w x.at) (at w y.at) x.holds)

  pub repeated_in : (p q : ℕ) → p < q → q < k → at w p ≡ at w q → T (repeated w k)
  unfolding repeated
  repeated_in p q l h e =
      any_at k (λ q. any_below q (λ p. eqb (at w p) (at w q))) q h
      (any_at q (λ p. eqb (at w p) (at w q)) p l (subst (λ (x : ℕ). T (eqb (at w p) x)) e (eqb_refl (at w p))))
