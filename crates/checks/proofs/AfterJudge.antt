-- Tests behind judge's: what judge's verdict says of them.
--   not_judged                               judge has no test with a number above 9
--   unpassed_fails, fails_unpassed           not passing means that judge's answer is a failure;   fails_accepts   what fails is not refused
--   judged_refused                           what judge's answer leaves of all tests: its refusal,
--   passed_decided, failed_decided           or, where it is a verdict, those behind it;   decided   the same of a judgement
-- Assumes nothing.
use mathlib.Core.Path.{◌≡◌, refl, sym, ap, ◌∙◌, subst}
use mathlib.Core.Logic.{◌⊎◌, inl, inr}
use mathlib.Core.Bool.{Bool, true, false, not}
use mathlib.Core.List.{List, ◌++◌}
use mathlib.Core.Option.{some}
use Prim.Native.Nat.{ℕ, ◌<◌}
use native.Mathlib.Omega.{arith}
use lib.Dec.{T}
use lib.ListN.{length}
use Rattle.std.specs.Prelude.{Ok}
use Rattle.searches.specs.Kind.{search_of}
use Rattle.searches.specs.Ordering.{arcs}
use Rattle.searches.specs.Violation.{Verdict, passes, fails, refused, Fails, judge}
use Rattle.searches.specs.declared.Mark.{Mark}
use Rattle.searches.specs.declared.Vertex.{Vertex}
use Rattle.searches.specs.declared.Judgement.{Judgement}
use Rattle.searches.specs.Answer.{is_pass, open_tests, judge_tests, first_refusal, Accepts, Refuses, judge_answer, verdict_of}
use Rattle.searches.proofs.Numbered.{Without}
use Rattle.searches.proofs.Refusals.{refuses_first, accepts_none, accepts_or_refuses}
use Rattle.searches.proofs.Answers.{judge_accepted, judge_refused, refused_judge}
use Rattle.checks.proofs.Tried.{Tried, tried_first, refused_before}

is_refused : Verdict → Bool
is_refused passes = false
is_refused (fails a b c) = false
is_refused (refused r) = true

module _ (kind : ℕ) (mark : Mark) (rows w : List ℕ) where
  pub not_judged : (r : ℕ) → 9 < r → Without r (judge_tests kind mark rows w)
  unfolding open_tests judge_tests
  not_judged r l =
      (λ e. omega arith, (λ e. omega arith, (λ e. omega arith, (λ e. omega arith, (λ e. omega arith, (λ e. omega arith, (λ e. omega arith, (λ e. omega arith, tt))))))))

  -- ---- what not passing means

  abbrev verdict : Verdict
  verdict = judge (search_of kind) (arcs rows) (length rows) w (length w)

  pub unpassed_fails : Accepts (judge_tests kind mark rows w) → T (not (is_pass verdict)) → Fails (judge_answer kind mark rows w)
  unfolding is_pass
  unpassed_fails a t = go (judge_answer kind mark rows w) refl (subst (λ (v : Verdict). T (not (is_pass v))) (sym (judge_accepted kind mark rows w a)) t)
    where
      go : (v : Verdict) → judge_answer kind mark rows w ≡ v → T (not (is_pass v)) → Fails (judge_answer kind mark rows w)
      go passes e t = absurd t
      go (fails a b c) e t = (a, b, c, e)
      go (refused r) e t =
          let clash : ◌≡◌ {A = ℕ} 0 1 = cc (accepts_none (judge_tests kind mark rows w) a, refuses_first (judge_tests kind mark rows w) r (refused_judge kind mark rows w r e)) in
          absurd (omega arith)

  pub fails_accepts : Fails (judge_answer kind mark rows w) → Accepts (judge_tests kind mark rows w)
  fails_accepts x = go (accepts_or_refuses (judge_tests kind mark rows w))
    where
      go : Accepts (judge_tests kind mark rows w) ⊎ ((q : ℕ) × Refuses q (judge_tests kind mark rows w)) → Accepts (judge_tests kind mark rows w)
      go (inl a) = a
      go (inr y) = let clash : ◌≡◌ {A = ℕ} 0 1 = cc (x.3, judge_refused kind mark rows w y.0 y.1) in absurd (omega arith)

  pub fails_unpassed : Accepts (judge_tests kind mark rows w) → Fails (judge_answer kind mark rows w) → T (not (is_pass verdict))
  unfolding is_pass
  fails_unpassed a x = subst (λ (v : Verdict). T (not (is_pass v))) (sym x.3 ∙ judge_accepted kind mark rows w a) tt

  -- ---- what judge's answer leaves of the tests, where later ones stand behind its own

  module _ (later : Bool → List (ℕ × Bool)) where
    pub judged_refused : (r : ℕ) → refused r ≡ judge_answer kind mark rows w → some r ≡ first_refusal (judge_tests kind mark rows w ++ later (is_pass verdict))
    judged_refused r e =
        refused_before (judge_tests kind mark rows w) _ (sym (refuses_first (judge_tests kind mark rows w) r (refused_judge kind mark rows w r (sym e))))

    judged_decided : {v : Verdict} → v ≡ judge_answer kind mark rows w → ((r : ℕ) → v ≡ refused r → ⊥)
        → first_refusal (later (is_pass v)) ≡ first_refusal (judge_tests kind mark rows w ++ later (is_pass verdict))
    judged_decided {v} e decided = go (accepts_or_refuses (judge_tests kind mark rows w))
      where
        go : Accepts (judge_tests kind mark rows w) ⊎ ((q : ℕ) × Refuses q (judge_tests kind mark rows w))
            → first_refusal (later (is_pass v)) ≡ first_refusal (judge_tests kind mark rows w ++ later (is_pass verdict))
        go (inl a) =
            ap (λ (x : Verdict). first_refusal (later (is_pass x))) (e ∙ judge_accepted kind mark rows w a)
            ∙ (tried_first (judge_tests kind mark rows w) (later (is_pass verdict)) (sym (accepts_none (judge_tests kind mark rows w) a))).same
        go (inr x) = absurd (decided x.0 (e ∙ judge_refused kind mark rows w x.0 x.1))

    -- a verdict is no refusal
    unrefused : {v : Verdict} → T (not (is_refused v)) → (r : ℕ) → v ≡ refused r → ⊥
    unfolding is_refused
    unrefused told r e = subst (λ (x : Verdict). T (not (is_refused x))) e told

    pub passed_decided : passes ≡ judge_answer kind mark rows w → first_refusal (later (is_pass passes)) ≡ first_refusal (judge_tests kind mark rows w ++ later (is_pass verdict))
    unfolding is_refused
    passed_decided e = judged_decided e (unrefused tt)

    pub failed_decided : {a b c : ℕ} → fails a b c ≡ judge_answer kind mark rows w
        → first_refusal (later (is_pass (fails a b c))) ≡ first_refusal (judge_tests kind mark rows w ++ later (is_pass verdict))
    unfolding is_refused
    failed_decided e = judged_decided e (unrefused tt)

    pub decided : (j : Judgement Vertex) → verdict_of (Ok j) ≡ judge_answer kind mark rows w
        → Tried (judge_tests kind mark rows w ++ later (is_pass verdict)) (later (is_pass (verdict_of (Ok j))))
    unfolding verdict_of
    decided Judgement.Passes e = record { same = passed_decided e }
    decided (Judgement.Fails v) e = record { same = failed_decided e }
