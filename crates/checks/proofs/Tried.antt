-- The tests of a call, tried one after the other.
--   Tried tests later      the later tests answer for all: none of those before them holds
--   tried_none, tried_one, tried_first      before the first test, after one more, after a whole list of them
--   refused_here, refused_before, accepted_here      what is then answered: at a test that holds, in an earlier list, at the end
--   tried_list, refused_list      the same of a whole list of tests behind those that were tried
--   rows_fit, entries_fit  what the tests that were passed say of the lists
-- Assumes nothing.
use mathlib.Core.Path.{◌≡◌, refl, sym, ap, ◌∙◌, subst}
use mathlib.Core.Bool.{Bool, true, false, cond}
use mathlib.Core.List.{List, [], ◌∷◌, ◌++◌}
use mathlib.Core.Logic.{◌⊎◌, inl, inr}
use mathlib.Core.Option.{Option, none, some}
use Prim.Native.Nat.{ℕ, ◌≤◌, ◌<◌}
use native.Mathlib.Omega.{arith}
use lib.Dec.{T}
use lib.ListN.{length}
use Rattle.bitset.proofs.Tests.{below_or}
use Rattle.searches.specs.Ordering.{at}
use Rattle.searches.specs.Answer.{open_tests_barring, first_refusal, vertex_outside}
use Rattle.searches.specs.declared.Mark.{Mark}
use Rattle.searches.proofs.Refusals.{none_accepts, vertex_outside_in}
use Rattle.searches.proofs.Answers.{valid_small}
use Rattle.searches.proofs.Barring.{valid_graph}

pub record Tried (tests later : List (ℕ × Bool)) : Type 0 where
  pub same : first_refusal later ≡ first_refusal tests

pub tried_none : (tests : List (ℕ × Bool)) → Tried tests tests
tried_none tests = record { same = refl }

pub tried_one : {tests later : List (ℕ × Bool)} {r : ℕ} {b : Bool} → Tried tests ((r, b) ∷ later) → b ≡ false → Tried tests later
unfolding first_refusal
tried_one {tests} {later} {r} {b} t fails = record { same = sym (ap (λ (x : Bool). cond x (some r) (first_refusal later)) fails) ∙ t.same }

pub refused_here : {tests later : List (ℕ × Bool)} {r : ℕ} {b : Bool} → Tried tests ((r, b) ∷ later) → b ≡ true → some r ≡ first_refusal tests
unfolding first_refusal
refused_here {tests} {later} {r} {b} t holds = sym (ap (λ (x : Bool). cond x (some r) (first_refusal later)) holds) ∙ t.same

pub accepted_here : {tests : List (ℕ × Bool)} → Tried tests [] → none ≡ first_refusal tests
unfolding first_refusal
accepted_here t = t.same

-- ---- tests behind others: those decide where one of them holds, and else the later ones

otherwise : Option ℕ → Option ℕ → Option ℕ
otherwise none later = later
otherwise (some r) later = some r

first_of_both : (a b : List (ℕ × Bool)) → first_refusal (a ++ b) ≡ otherwise (first_refusal a) (first_refusal b)
unfolding first_refusal otherwise
first_of_both [] b = refl
first_of_both (test ∷ a) b = go test.1 (first_of_both a b)
  where
    go : (x : Bool) → first_refusal (a ++ b) ≡ otherwise (first_refusal a) (first_refusal b)
        → cond x (some test.0) (first_refusal (a ++ b)) ≡ otherwise (cond x (some test.0) (first_refusal a)) (first_refusal b)
    go true rest = refl
    go false rest = rest

pub tried_first : (a b : List (ℕ × Bool)) → none ≡ first_refusal a → Tried (a ++ b) b
unfolding otherwise
tried_first a b e = record { same = ap (λ (first : Option ℕ). otherwise first (first_refusal b)) e ∙ sym (first_of_both a b) }

pub refused_before : (a b : List (ℕ × Bool)) {r : ℕ} → some r ≡ first_refusal a → some r ≡ first_refusal (a ++ b)
unfolding otherwise
refused_before a b e = ap (λ (first : Option ℕ). otherwise first (first_refusal b)) e ∙ sym (first_of_both a b)

pub tried_list : {tests : List (ℕ × Bool)} (a b : List (ℕ × Bool)) → Tried tests (a ++ b) → none ≡ first_refusal a → Tried tests b
tried_list a b t e = record { same = (tried_first a b e).same ∙ t.same }

pub refused_list : {tests : List (ℕ × Bool)} (a b : List (ℕ × Bool)) {r : ℕ} → Tried tests (a ++ b) → some r ≡ first_refusal a → some r ≡ first_refusal tests
refused_list a b t e = refused_before a b e ∙ t.same

-- ---- what the tests that were passed say of the lists

-- no more than 64 rows are let through
pub rows_fit : (kind : ℕ) (mark : Mark) (rows : List ℕ) (barred : ℕ) → none ≡ first_refusal (open_tests_barring kind mark rows barred) → length rows ≤ 64
rows_fit kind mark rows barred e = valid_small kind mark rows (valid_graph kind mark rows barred (none_accepts (open_tests_barring kind mark rows barred) (sym e)))

-- entries that name vertices fit a set
pub entries_fit : {n : ℕ} (w : List ℕ) {k : ℕ} → n ≤ 64 → vertex_outside n w k ≡ false → (p : ℕ) → p < k → at w p < 64
entries_fit {n} w {k} l fails p h = go (below_or (at w p) n)
  where
    go : (at w p < n) ⊎ (n ≤ at w p) → at w p < 64
    go (inl i) = omega arith
    go (inr i) = absurd (subst (λ (b : Bool). T b) fails (vertex_outside_in w k n p h i))
