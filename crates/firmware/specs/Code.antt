-- What the entries answer, as one number, for every input: two for two-way plans, two for one-way plans.
--   code_of verdict           0 for a pass, a refusal's number, and a violation packed above all of these            [01: From C]
--   number_of answer          0 where nothing was refused, else the refusal's number                                 [01: From C]
--   plan_tests kind plan      what is refused before judge and carry-on are asked: numbers and tests                 [01: refusals 1, 2]
--   read_tests kind plan      the same and, last, more than 64 rows, which need not be read: 512 bytes are 64 rows
--   judge_code kind mark plan barred walk                     what the entry that judges plans of this mark answers         [01: From C; 02: K4, K8]
--   carry_on_code kind mark plan barred preference output k    likewise, the entry that carries on                           [01: From C; 02: K4, K8]
--   carry_on_leaves kind mark plan barred preference output k  what the output list then holds
-- More than 64 rows are refused by judge_barring and carry_on_barring themselves, with 2: no test but the kind's comes before that one.
use Rattle.std.specs.Prelude.{ℕ, ◌+◌, ◌*◌, ◌%◌, Bool, not, List, [], ◌∷◌, ◌++◌, ltb, eqb, length}
use Rattle.std.proofs.Math.Option.{Option, none, some}
use Rattle.searches.specs.Violation.{Verdict, passes, fails, refused}
use Rattle.searches.specs.Answer.{first_refusal, judge_barring, carry_on_barring, output_barring}
use Rattle.searches.specs.declared.Mark.{Mark}
use Rattle.firmware.specs.Plan.{plan_rows}

unfoldable pub code_of : Verdict → ℕ
code_of passes = 0
code_of (fails a b c) = 16777216 + 65536 * a + 256 * b + c
code_of (refused r) = r

unfoldable pub number_of : Option ℕ → ℕ
number_of none = 0
number_of (some r) = r

unfoldable pub plan_tests : ℕ → List ℕ → List (ℕ × Bool)
plan_tests kind plan = (1, ltb 6 kind) ∷ (2, not (eqb (length plan % 8) 0)) ∷ []

unfoldable pub read_tests : ℕ → List ℕ → List (ℕ × Bool)
read_tests kind plan = plan_tests kind plan ++ (2, ltb 512 (length plan)) ∷ []

unfoldable pub judge_code : ℕ → Mark → List ℕ → ℕ → List ℕ → ℕ
judge_code kind mark plan barred walk =
    elim (first_refusal (plan_tests kind plan)) [
      | none ↦ code_of (judge_barring kind mark (plan_rows plan) barred walk)
      | some r ↦ r
    ]

module _ (kind : ℕ) (mark : Mark) (plan : List ℕ) (barred : ℕ) (preference output : List ℕ) (k : ℕ) where
  unfoldable pub carry_on_code : ℕ
  carry_on_code =
      elim (first_refusal (plan_tests kind plan)) [
        | none ↦ number_of (carry_on_barring kind mark (plan_rows plan) barred preference output k)
        | some r ↦ r
      ]

  unfoldable pub carry_on_leaves : List ℕ
  carry_on_leaves =
      elim (first_refusal (plan_tests kind plan)) [
        | none ↦ output_barring kind mark (plan_rows plan) barred preference output k
        | some r ↦ output
      ]
