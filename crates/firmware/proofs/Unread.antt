-- What is refused without reading the rows, and what is answered else.
--   TooMany                        more than 64 rows, of a known kind and of whole rows
--   Unread q, unread               why q is answered: by a test on the kind and the bytes, or as judge and carry-on refuse so many rows
--   Read, read                     nothing is refused: judge and carry-on are asked, on at most 64 rows
--   judge_unread, carry_on_unread   what the refusal stands for
--   judge_read, carry_on_read       what the answer on the rows stands for
-- Assumes nothing.
use Prim.Native.Nat.{ℕ, ◌%◌, ◌≤◌, ◌<◌}
use mathlib.Core.Path.{◌≡◌, refl, sym}
use mathlib.Core.Bool.{Bool, true, false, not}
use mathlib.Core.List.{List}
use mathlib.Core.Logic.{◌⊎◌, inl, inr}
use mathlib.Core.Option.{Option, none, some}
use native.Mathlib.Omega.{arith}
use lib.Dec.{T, ltb, eqb, ltb→lt, lt→ltb, nltb→le, eqb→eq, not_T}
use lib.ListN.{length}
use Rattle.searches.specs.Violation.{Verdict, refused}
use Rattle.searches.specs.Answer.{open_tests, open_tests_barring, judge_tests_barring, list_tests_barring, carry_on_tests_barring, first_refusal, Refuses, judge_barring, carry_on_barring, output_barring}
use Rattle.searches.specs.declared.Mark.{Mark}
use Rattle.searches.proofs.Refusals.{refuses_first, first_refuses, accepts_none, none_accepts}
use Rattle.searches.proofs.Barring.{judge_refused, carry_on-kept}
use Rattle.firmware.specs.Plan.{plan_rows}
use Rattle.firmware.proofs.Reading.{rows_count}
use Rattle.firmware.specs.Code.{code_of, number_of, plan_tests, read_tests, judge_code, carry_on_code, carry_on_leaves}

-- a length that is tested to be whole rows
left_over : (m : ℕ) → (T (not (eqb (m % 8) 0)) → ⊥) → m % 8 ≡ 0
left_over m out = go (eqb (m % 8) 0) (eqb→eq (m % 8) 0) out
  where
    go : (b : Bool) → (T b → m % 8 ≡ 0) → (T (not b) → ⊥) → m % 8 ≡ 0
    go true says out = says tt
    go false says out = absurd (out tt)

module _ (kind : ℕ) (plan : List ℕ) where
  record TooMany : Type 0 where
    pub known : T (ltb 6 kind) → ⊥
    pub asked : first_refusal (plan_tests kind plan) ≡ none
    pub many : T (ltb 64 (length (plan_rows plan)))

  Unread : ℕ → Type 0
  Unread q = (first_refusal (plan_tests kind plan) ≡ some q) ⊎ ((q ≡ 2) × TooMany)

  unread : {q : ℕ} → some q ≡ first_refusal (read_tests kind plan) → Unread q
  unfolding Unread plan_tests read_tests
  unread {q} e = go (first_refuses (read_tests kind plan) q (sym e))
    where
      go : Refuses q (read_tests kind plan) → Unread q
      go (inl x) = inl (refuses_first (plan_tests kind plan) q (inl x))
      go (inr (known, inl x)) = inl (refuses_first (plan_tests kind plan) q (inr (known, inl x)))
      go (inr (known, inr (whole, inl x))) =
          let more : 512 < length plan = ltb→lt 512 (length plan) x.1 in
          let eighth : length plan % 8 ≡ 0 = left_over (length plan) whole in
          let many : 64 < length (plan_rows plan) = omega (arith, rows_count plan) in
          inr (
            sym x.0,
            record {
              known = known;
              asked = accepts_none (plan_tests kind plan) (known, (whole, tt));
              many = lt→ltb 64 (length (plan_rows plan)) many;
            },
          )
      go (inr (known, inr (whole, inr x))) = absurd x.1

  pub record Read : Type 0 where
    pub few : length plan ≤ 512
    pub asked : first_refusal (plan_tests kind plan) ≡ none

  pub read : none ≡ first_refusal (read_tests kind plan) → Read
  unfolding plan_tests read_tests
  read e =
      let a = none_accepts (read_tests kind plan) (sym e) in
      record {
        few = nltb→le 512 (length plan) (not_T (ltb 512 (length plan)) a.1.1.0);
        asked = accepts_none (plan_tests kind plan) (a.0, (a.1.0, tt));
      }

  module _ (mark : Mark) (barred : ℕ) (walk : List ℕ) where
    pub judge_unread : {q : ℕ} → some q ≡ first_refusal (read_tests kind plan) → q ≡ judge_code kind mark plan barred walk
    unfolding Unread open_tests open_tests_barring judge_tests_barring code_of judge_code
    judge_unread {q} e = go (unread e)
      where
        go : Unread q → q ≡ judge_code kind mark plan barred walk
        go (inl first) = rw (first, judge_code)
        go (inr (two, x)) =
            let answer : judge_barring kind mark (plan_rows plan) barred walk ≡ refused 2 = judge_refused kind mark (plan_rows plan) barred walk 2 (inr (x.known, inl (refl, x.many))) in
            rw (x.asked, judge_code, answer, two)

    pub judge_read : none ≡ first_refusal (read_tests kind plan) → {rows : List ℕ} {verdict : Verdict} {r : ℕ} → rows ≡ plan_rows plan
        → verdict ≡ judge_barring kind mark rows barred walk → r ≡ code_of verdict → r ≡ judge_code kind mark plan barred walk
    unfolding judge_code
    judge_read e same judged code = rw (code, judged, same, (read e).asked, judge_code)

  module _ (mark : Mark) (barred : ℕ) (preference output : List ℕ) (k : ℕ) where
    pub carry_on_unread : {q : ℕ} → some q ≡ first_refusal (read_tests kind plan)
        → (q ≡ carry_on_code kind mark plan barred preference output k) × (output ≡ carry_on_leaves kind mark plan barred preference output k)
    unfolding Unread open_tests open_tests_barring list_tests_barring carry_on_tests_barring number_of carry_on_barring carry_on_code carry_on_leaves
    carry_on_unread {q} e = go (unread e)
      where
        go : Unread q → (q ≡ carry_on_code kind mark plan barred preference output k) × (output ≡ carry_on_leaves kind mark plan barred preference output k)
        go (inl first) = (rw (first, carry_on_code), rw (first, carry_on_leaves))
        go (inr (two, x)) =
            let refuses : Refuses 2 (carry_on_tests_barring kind mark (plan_rows plan) barred preference output k) = inr (x.known, inl (refl, x.many)) in
            let answer : carry_on_barring kind mark (plan_rows plan) barred preference output k ≡ some 2 = refuses_first (carry_on_tests_barring kind mark (plan_rows plan) barred preference output k) 2 refuses in
            (rw (x.asked, carry_on_code, answer, two), rw (x.asked, carry_on_leaves, carry_on-kept kind mark (plan_rows plan) barred preference output k 2 refuses))

    pub carry_on_read : none ≡ first_refusal (read_tests kind plan) → {rows left : List ℕ} {answer : Option ℕ} {r : ℕ} → rows ≡ plan_rows plan
        → answer ≡ carry_on_barring kind mark rows barred preference output k → left ≡ output_barring kind mark rows barred preference output k → r ≡ number_of answer
        → (r ≡ carry_on_code kind mark plan barred preference output k) × (left ≡ carry_on_leaves kind mark plan barred preference output k)
    unfolding carry_on_code carry_on_leaves
    carry_on_read e same answered leaves code = (rw (code, answered, same, (read e).asked, carry_on_code), rw (leaves, same, (read e).asked, carry_on_leaves))
