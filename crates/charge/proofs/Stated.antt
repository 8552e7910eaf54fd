-- Each refusal of the charge in the words of its case.
--   judge_stated                               below 18: what judge refuses
--   malformed_stated, rate_stated, unpassed_stated   18, 19 and 20
-- Assumes nothing.
use mathlib.Core.Logic.{◌↔◌}
use mathlib.Core.Bool.{Bool, not}
use mathlib.Core.List.{List, [], ◌∷◌, ◌++◌}
use Prim.Native.Nat.{ℕ, ◌≤◌, ◌<◌}
use native.Mathlib.Omega.{arith}
use lib.Dec.{ltb, ltb→lt, lt→ltb, nltb→le, not_T}
use lib.ListN.{length}
use Rattle.searches.specs.Kind.{search_of}
use Rattle.searches.specs.Ordering.{arcs}
use Rattle.searches.specs.Violation.{Fails, judge}
use Rattle.searches.specs.declared.Mark.{Mark}
use Rattle.searches.specs.Answer.{is_pass, open_tests, judge_tests, Accepts, Refuses, judge_answer}
use Rattle.searches.proofs.Answers.{accepts_both, both_accept}
use Rattle.searches.proofs.Numbered.{without_both, refuses_earlier, earlier_refuses, at_out, at_in}
use Rattle.checks.proofs.AfterJudge.{not_judged, unpassed_fails, fails_unpassed, fails_accepts}
use Rattle.charge.specs.Charge.{malformed_minutes, Malformed, tests_after_judge, charge_tests}
use Rattle.charge.proofs.Charging.{malformed_in, malformed_out}

module _ (kind : ℕ) (mark : Mark) (rows w minutes : List ℕ) (rate : ℕ) where
  abbrev malformed : Bool
  malformed = malformed_minutes (length rows) minutes

  abbrev passing : Bool
  passing = is_pass (judge (search_of kind) (arcs rows) (length rows) w (length w))

  pub judge_stated : (r : ℕ) → r < 18 → Refuses r (charge_tests kind mark rows w minutes rate) ↔ Refuses r (judge_tests kind mark rows w)
  unfolding charge_tests tests_after_judge
  judge_stated r l = (
    refuses_earlier r (judge_tests kind mark rows w) (tests_after_judge (length rows) minutes rate passing) (λ e. omega arith, (λ e. omega arith, (λ e. omega arith, tt))),
    earlier_refuses r (judge_tests kind mark rows w) (tests_after_judge (length rows) minutes rate passing),
  )

  pub malformed_stated : Refuses 18 (charge_tests kind mark rows w minutes rate) ↔ (Accepts (judge_tests kind mark rows w) × Malformed (length rows) minutes)
  unfolding charge_tests tests_after_judge
  malformed_stated =
      let later : List (ℕ × Bool) = (19, ltb 99999 rate) ∷ (20, not passing) ∷ [] in (
        λ x.
            let y = at_out 18 (judge_tests kind mark rows w) malformed later (not_judged kind mark rows w 18 (omega arith)) (λ e. omega arith, (λ e. omega arith, tt)) x in
            (y.0, malformed_out (length rows) minutes y.1),
        λ y. at_in 18 (judge_tests kind mark rows w) malformed later y.0 (malformed_in (length rows) minutes y.1),
      )

  pub rate_stated : Refuses 19 (charge_tests kind mark rows w minutes rate)
      ↔ (Accepts (judge_tests kind mark rows w) × (Malformed (length rows) minutes → ⊥) × (99999 < rate))
  unfolding open_tests judge_tests charge_tests tests_after_judge
  rate_stated =
      let own : List (ℕ × Bool) = (18, malformed) ∷ [] in
      let earlier : List (ℕ × Bool) = judge_tests kind mark rows w ++ own in
      let later : List (ℕ × Bool) = (20, not passing) ∷ [] in (
        λ x.
            let y = at_out 19 earlier (ltb 99999 rate) later (without_both 19 (judge_tests kind mark rows w) own (not_judged kind mark rows w 19 (omega arith)) (λ e. omega arith, tt)) (λ e. omega arith, tt) x in
            let z = accepts_both (judge_tests kind mark rows w) own y.0 in
            (z.0, λ m. z.1.0 (malformed_in (length rows) minutes m), ltb→lt 99999 rate y.1),
        λ y.
            at_in 19 earlier (ltb 99999 rate) later (both_accept (judge_tests kind mark rows w) own y.0 (λ t. y.1 (malformed_out (length rows) minutes t), tt))
            (lt→ltb 99999 rate y.2),
      )

  pub unpassed_stated : Refuses 20 (charge_tests kind mark rows w minutes rate)
      ↔ (Fails (judge_answer kind mark rows w) × (Malformed (length rows) minutes → ⊥) × (rate ≤ 99999))
  unfolding open_tests judge_tests charge_tests tests_after_judge
  unpassed_stated =
      let own : List (ℕ × Bool) = (18, malformed) ∷ (19, ltb 99999 rate) ∷ [] in
      let earlier : List (ℕ × Bool) = judge_tests kind mark rows w ++ own in (
        λ x.
            let y = at_out 20 earlier (not passing) [] (without_both 20 (judge_tests kind mark rows w) own (not_judged kind mark rows w 20 (omega arith)) (λ e. omega arith, (λ e. omega arith, tt))) tt x in
            let z = accepts_both (judge_tests kind mark rows w) own y.0 in (
              unpassed_fails kind mark rows w z.0 y.1,
              λ m. z.1.0 (malformed_in (length rows) minutes m),
              nltb→le 99999 rate (not_T (ltb 99999 rate) z.1.1.0),
            ),
        λ y.
            let judged = fails_accepts kind mark rows w y.0 in
            at_in 20 earlier (not passing) []
            (both_accept (judge_tests kind mark rows w) own judged
            (λ t. y.1 (malformed_out (length rows) minutes t), (λ t. let l = y.2 in let h = ltb→lt 99999 rate t in omega arith, tt)))
            (fails_unpassed kind mark rows w judged y.0),
      )
