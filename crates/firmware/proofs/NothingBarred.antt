-- With nothing barred the entries answer as they did before they took the set of barred vertices.
--   judge_code_none, carry_on_code_none, carry_on_leaves_none
-- Assumes nothing.
use Prim.Native.Nat.{ℕ}
use mathlib.Core.Path.{◌≡◌, ap}
use mathlib.Core.List.{List}
use mathlib.Core.Option.{Option, none, some}
use Rattle.searches.specs.Violation.{Verdict}
use Rattle.searches.specs.Answer.{first_refusal, judge_answer, carry_on_answer, carry_on_output}
use Rattle.searches.specs.declared.Mark.{Mark}
use Rattle.searches.proofs.NothingBarred.{judge_none, carry_on_none, output_none}
use Rattle.firmware.specs.Plan.{plan_rows}
use Rattle.firmware.specs.Code.{code_of, number_of, plan_tests, judge_code, carry_on_code, carry_on_leaves}

-- what is answered where the plan's bytes can be read
abbrev unless_unread : {A : Type 0} → Option ℕ → A → (ℕ → A) → A
unless_unread refusal read unread =
    elim refusal [
      | none ↦ read
      | some r ↦ unread r
    ]

module _ (kind : ℕ) (mark : Mark) (plan : List ℕ) where
  pub judge_code_none : (walk : List ℕ)
      → judge_code kind mark plan 0 walk ≡ unless_unread (first_refusal (plan_tests kind plan)) (code_of (judge_answer kind mark (plan_rows plan) walk)) (λ r. r)
  unfolding judge_code
  judge_code_none walk = ap (λ (v : Verdict). unless_unread (first_refusal (plan_tests kind plan)) (code_of v) (λ r. r)) (judge_none kind mark (plan_rows plan) walk)

  module _ (preference output : List ℕ) (k : ℕ) where
    pub carry_on_code_none : carry_on_code kind mark plan 0 preference output k
        ≡ unless_unread (first_refusal (plan_tests kind plan)) (number_of (carry_on_answer kind mark (plan_rows plan) preference output k)) (λ r. r)
    unfolding carry_on_code
    carry_on_code_none =
        ap (λ (answer : Option ℕ). unless_unread (first_refusal (plan_tests kind plan)) (number_of answer) (λ r. r)) (carry_on_none kind mark (plan_rows plan) preference output k)

    pub carry_on_leaves_none : carry_on_leaves kind mark plan 0 preference output k
        ≡ unless_unread (first_refusal (plan_tests kind plan)) (carry_on_output kind mark (plan_rows plan) preference output k) (λ _. output)
    unfolding carry_on_leaves
    carry_on_leaves_none =
        ap (λ (left : List ℕ). unless_unread (first_refusal (plan_tests kind plan)) left (λ _. output)) (output_none kind mark (plan_rows plan) preference output k)
