-- The examples of 01, as one table that is computed. Those that 01 stars, and behind them an empty plan and a full start.
--   row_of u links, rows_of n links   the row of u, and all rows, of the plan with n points and these links
--   P                  01's plan P
--   Question           a walk to be judged, or a preference list and a start to be carried on
--   Example            a plan, a question, and the numbers of the answer for each kind that 01 names, and for MCS where 01 says all, the rest or the others
--   examples_right     every answer of the table is what the definitions give
-- Assumes nothing.
use mathlib.Core.Path.{◌≡◌, refl, ap₂}
use mathlib.Core.Bool.{Bool, true, false, cond, ◌&&◌}
use mathlib.Core.List.{List, [], ◌∷◌, map}
use Prim.Native.Nat.{ℕ, ◌+◌, ◌^◌}
use lib.Dec.{T, eqb, eqb→eq}
use Rattle.bitset.specs.Below.{any_below, all_below, first_below, last_below, count_below, differ, within}
use Rattle.bitset.specs.Word.{member}
use Rattle.bitset.proofs.Tests.{and_out}
use Rattle.searches.specs.Kind.{search_of}
use Rattle.searches.specs.Ordering.{arcs, placed}
use Rattle.searches.specs.Label.{label, empty, nearer, settled, outranks}
use Rattle.searches.specs.Run.{offered}
use Rattle.searches.specs.Violation.{condition, meets, violates}
use Rattle.searches.specs.Violation.{Verdict, passes, fails, refused, third, is_last, is_first, is_middle, judge}
use Rattle.searches.specs.CarryOn.{choice, grow, carry_on}
use Rattle.searches.specs.Answer.{bit_outside, self_loop, one_way, is_two_way, vertex_outside, repeated, is_pass, open_tests, judge_tests, list_tests, carry_on_tests, first_refusal}
use Rattle.searches.specs.Answer.{judge_answer, carry_on_output}
use Rattle.searches.specs.declared.Mark.{Mark}
use Rattle.searches.proofs.Ordering.{up_to}

-- ---- plans by their links

unfoldable pub row_of : ℕ → List (ℕ × ℕ) → ℕ
row_of u [] = 0
row_of u (link ∷ links) = cond (eqb u link.0) (2 ^ link.1) 0 + cond (eqb u link.1) (2 ^ link.0) 0 + row_of u links

unfoldable pub rows_of : ℕ → List (ℕ × ℕ) → List ℕ
rows_of n links = map (λ u. row_of u links) (up_to n)

-- ---- questions and answers

data Question : Type 0 where
  judging : (walk : List ℕ) → Question
  carrying : (preference output : List ℕ) (k : ℕ) → Question

-- as on a judged sheet, behind the kind: 1, or 0 and the triple
numbers : Verdict → List ℕ
numbers passes = 1 ∷ []
numbers (fails a b c) = 0 ∷ a ∷ b ∷ c ∷ []
numbers (refused r) = []

answer : List ℕ → Question → ℕ → List ℕ
answer rows (judging walk) kind = numbers (judge_answer kind Mark.TwoWay rows walk)
answer rows (carrying preference output k) kind = carry_on_output kind Mark.TwoWay rows preference output k

record Example : Type 0 where
  rows : List ℕ
  question : Question
  -- kinds, each with the numbers of its answer
  answers : List (ℕ × List ℕ)

everywhere : List ℕ → List (ℕ × List ℕ)
everywhere a = (0, a) ∷ (1, a) ∷ (2, a) ∷ (3, a) ∷ (4, a) ∷ (5, a) ∷ (6, a) ∷ []

pass : List ℕ
pass = 1 ∷ []

fail : ℕ → ℕ → ℕ → List ℕ
fail a b c = 0 ∷ a ∷ b ∷ c ∷ []

unfoldable pub P : List ℕ
P = rows_of 4 ((0, 1) ∷ (0, 2) ∷ (1, 3) ∷ [])

C : List ℕ
C = rows_of 4 ((0, 1) ∷ (1, 2) ∷ (2, 3) ∷ (0, 3) ∷ [])

two_pieces : List ℕ
two_pieces = rows_of 3 ((0, 1) ∷ [])

examples : List Example
examples =
    record {
      rows = P;
      question = judging (0 ∷ 1 ∷ 2 ∷ 3 ∷ []);
      answers = (0, pass) ∷ (1, pass) ∷ (2, fail 1 2 3) ∷ (3, pass) ∷ (4, fail 1 2 3) ∷ (5, pass) ∷ (6, pass) ∷ [];
    }
    ∷ record {
      rows = P;
      question = judging (0 ∷ 1 ∷ 3 ∷ 2 ∷ []);
      answers = (0, pass) ∷ (1, fail 0 3 2) ∷ (2, pass) ∷ (3, fail 0 3 2) ∷ (4, pass) ∷ (5, pass) ∷ (6, pass) ∷ [];
    }
    ∷ record { rows = P; question = judging (2 ∷ 1 ∷ []); answers = everywhere (fail 2 1 0) }
    ∷ record {
      rows = C;
      question = judging (0 ∷ 1 ∷ 2 ∷ 3 ∷ []);
      answers = (0, pass) ∷ (1, fail 0 2 3) ∷ (2, pass) ∷ (3, fail 0 2 3) ∷ (4, pass) ∷ (5, pass) ∷ (6, pass) ∷ [];
    }
    ∷ record {
      rows = C;
      question = judging (0 ∷ 1 ∷ 3 ∷ 2 ∷ []);
      answers = (0, pass) ∷ (1, pass) ∷ (2, fail 1 3 2) ∷ (3, pass) ∷ (4, fail 1 3 2) ∷ (5, pass) ∷ (6, pass) ∷ [];
    }
    ∷ record {
      rows = rows_of 4 ((0, 1) ∷ (0, 2) ∷ (0, 3) ∷ (1, 3) ∷ []);
      question = judging (0 ∷ 1 ∷ 2 ∷ 3 ∷ []);
      answers = (0, pass) ∷ (1, pass) ∷ (2, fail 1 2 3) ∷ (3, fail 1 2 3) ∷ (4, fail 1 2 3) ∷ (5, fail 1 2 3) ∷ (6, fail 1 2 3) ∷ [];
    }
    ∷ record {
      rows = rows_of 4 ((0, 1) ∷ (0, 3) ∷ (1, 2) ∷ (1, 3) ∷ []);
      question = judging (0 ∷ 1 ∷ 2 ∷ 3 ∷ []);
      answers = (0, pass) ∷ (1, fail 0 2 3) ∷ (2, pass) ∷ (3, fail 0 2 3) ∷ (4, fail 0 2 3) ∷ (5, fail 0 2 3) ∷ (6, fail 0 2 3) ∷ [];
    }
    ∷ record { rows = two_pieces; question = judging (0 ∷ 2 ∷ []); answers = everywhere (fail 0 2 1) }
    ∷ record { rows = two_pieces; question = judging (2 ∷ 0 ∷ 1 ∷ []); answers = everywhere pass }
    ∷ record {
      rows = C;
      question = carrying (3 ∷ 2 ∷ 1 ∷ 0 ∷ []) (0 ∷ 0 ∷ 0 ∷ 0 ∷ []) 0;
      answers = (1, 0 ∷ 1 ∷ 3 ∷ 2 ∷ []) ∷ (2, 0 ∷ 1 ∷ 2 ∷ 3 ∷ []) ∷ [];
    }
    ∷ record { rows = []; question = judging []; answers = everywhere pass }
    ∷ record {
      rows = two_pieces;
      question = carrying (0 ∷ 1 ∷ 2 ∷ []) (2 ∷ 0 ∷ 1 ∷ 9 ∷ []) 3;
      answers = everywhere (2 ∷ 0 ∷ 1 ∷ 9 ∷ []);
    }
    ∷ []

-- ---- the test, and what it says

same : List ℕ → List ℕ → Bool
same [] [] = true
same [] (y ∷ ys) = false
same (x ∷ xs) [] = false
same (x ∷ xs) (y ∷ ys) = eqb x y && same xs ys

same_out : (xs ys : List ℕ) → T (same xs ys) → xs ≡ ys
unfolding same
same_out [] [] t = refl
same_out [] (y ∷ ys) t = absurd t
same_out (x ∷ xs) [] t = absurd t
same_out (x ∷ xs) (y ∷ ys) t =
    let both = and_out (eqb x y) (same xs ys) t in
    ap₂ (λ (z : ℕ) (zs : List ℕ). z ∷ zs) (eqb→eq x y both.0) (same_out xs ys both.1)

module _ (rows : List ℕ) (question : Question) where
  answered : List (ℕ × List ℕ) → Bool
  answered [] = true
  answered (a ∷ more) = same (answer rows question a.0) a.1 && answered more

  abbrev Answered : List (ℕ × List ℕ) → Type 0
  Answered [] = Unit {0}
  Answered (a ∷ more) = (answer rows question a.0 ≡ a.1) × Answered more

  answered_out : (more : List (ℕ × List ℕ)) → T (answered more) → Answered more
  unfolding answered
  answered_out [] t = tt
  answered_out (a ∷ more) t =
      let both = and_out (same (answer rows question a.0) a.1) (answered more) t in
      (same_out (answer rows question a.0) a.1 both.0, answered_out more both.1)

right : List Example → Bool
right [] = true
right (e ∷ es) = answered e.rows e.question e.answers && right es

abbrev Right : List Example → Type 0
Right [] = Unit {0}
Right (e ∷ es) = Answered e.rows e.question e.answers × Right es

right_out : (es : List Example) → T (right es) → Right es
unfolding right
right_out [] t = tt
right_out (e ∷ es) t =
    let both = and_out (answered e.rows e.question e.answers) (right es) t in
    (answered_out e.rows e.question e.answers both.0, right_out es both.1)

computed : T (right examples)
unfolding right answered same answer numbers examples P C two_pieces everywhere pass fail rows_of row_of up_to
    any_below all_below first_below last_below count_below differ within member search_of arcs placed label empty nearer settled outranks offered condition meets violates
    third is_last is_first is_middle judge choice grow carry_on bit_outside self_loop one_way is_two_way vertex_outside repeated is_pass
    open_tests judge_tests list_tests carry_on_tests first_refusal judge_answer carry_on_output
computed = tt

examples_right : Right examples
examples_right = right_out examples computed
