-- What is refused, what is answered, and what is left in the output list.
--   decided_accepts, accepts_decided   judge refuses nothing exactly when its answer is a verdict
--   kind_named                         where judge refuses nothing the kind byte names a search
--   points_below, words_short          the points of a verdict are below 64, and a sentence has at most 50 bytes
--   words_first                        the first refusal, from judge's answer;   not_judged   judge has no test with the number 10
--   accepted_in, accepted_out          nothing is refused exactly where judge gives a verdict and there is room
--   words_refused, words_accepted      answer and output from the tests;   refused_words, written_words   the tests from the answer
--   room_enough, output_length         what is written fits, and the output list is as long as it was
-- Assumes nothing.
use mathlib.Core.Path.{◌≡◌, refl, sym, ap, ◌∙◌, subst}
use mathlib.Core.Logic.{◌⊎◌, inl, inr}
use mathlib.Core.Bool.{Bool}
use mathlib.Core.List.{List, ◌++◌}
use mathlib.Core.Option.{none, some}
use Prim.Native.Nat.{ℕ, ◌+◌, ◌≤◌, ◌<◌}
use native.Mathlib.Omega.{arith}
use lib.Dec.{ltb, ltb→lt, lt→ltb, nltb→le, not_T}
use lib.ListN.{length, drop, length-append, length-drop}
use lib.Seq.{take-length}
use Rattle.bitset.proofs.Tests.{below_or}
use Rattle.searches.specs.Kind.{search_of}
use Rattle.searches.specs.Violation.{Verdict, passes, fails}
use Rattle.searches.specs.Violation as verdicts
use Rattle.searches.specs.Answer.{open_tests, open_tests_barring, judge_tests_barring, judge_barring, first_refusal, Accepts, Refuses}
use Rattle.searches.specs.declared.Mark.{Mark}
use Rattle.searches.proofs.Refusals.{refuses_first, accepts_none, accepts_or_refuses}
use Rattle.searches.proofs.Answers.{accepts_both, both_accept, valid_small}
use Rattle.searches.proofs.Numbered.{Without}
use Rattle.searches.proofs.Barring.{judge_refused, refused_judge, judged_kept, valid_graph}
use Rattle.searches.proofs.DemandsBarring.{part_shown_first_kept}
use Rattle.checks.proofs.Tried.{tried_first, refused_before}
use Rattle.wording.specs.Sentence.{Decided, PointsBelow}
use Rattle.wording.specs.Answer.{refused_with, earlier, room_tests, words_tests, in_words, Told, written, refused, words_answer, words_output}
use Rattle.wording.proofs.Lengths.{sentence_longest}

module _ (kind : ℕ) (mark : Mark) (rows : List ℕ) (barred : ℕ) (w : List ℕ) where
  abbrev judged : List (ℕ × Bool)
  judged = judge_tests_barring kind mark rows barred w

  -- ---- judge's answer

  pub decided_accepts : Decided (judge_barring kind mark rows barred w) → Accepts judged
  decided_accepts told = go (accepts_or_refuses judged)
    where
      go : Accepts judged ⊎ ((q : ℕ) × Refuses q judged) → Accepts judged
      go (inl a) = a
      go (inr x) = absurd (subst (λ (v : Verdict). Decided v) (judge_refused kind mark rows barred w x.0 x.1) told)

  pub accepts_decided : Accepts judged → Decided (judge_barring kind mark rows barred w)
  accepts_decided a = go (judge_barring kind mark rows barred w) refl
    where
      go : (v : Verdict) → judge_barring kind mark rows barred w ≡ v → Decided v
      go passes e = tt
      go (fails a b c) e = tt
      go (verdicts.refused r) e =
          let clash : ◌≡◌ {A = ℕ} 0 1 = cc (accepts_none judged a, refuses_first judged r (refused_judge kind mark rows barred w r e)) in
          absurd (omega arith)

  -- judge has no test with the number 10
  pub not_judged : Without 10 judged
  unfolding open_tests open_tests_barring judge_tests_barring
  not_judged =
      (λ e. omega arith, (λ e. omega arith, (λ e. omega arith, (λ e. omega arith, (λ e. omega arith, (λ e. omega arith, (λ e. omega arith, (λ e. omega arith, (λ e. omega arith, (λ e. omega arith, tt))))))))))

  module _ (accepted : Accepts judged) where
    pub kind_named : kind < 7
    unfolding open_tests open_tests_barring judge_tests_barring
    kind_named = go (below_or kind 7)
      where
        go : (kind < 7) ⊎ (7 ≤ kind) → kind < 7
        go (inl l) = l
        go (inr h) = absurd (accepted.0 (lt→ltb 6 kind h))

    -- a triple is one of points of the plan
    triple_below : (a b c : ℕ) → judge_barring kind mark rows barred w ≡ fails a b c → PointsBelow 64 (fails a b c)
    triple_below a b c e =
        let kept = judged_kept kind mark rows barred w accepted in
        let few : length rows ≤ 64 = valid_small kind mark rows (valid_graph kind mark rows barred kept.0) in
        let f =
        part_shown_first_kept kind mark rows barred kept.0 w (length w) kept.1 (length w) (omega arith) a b c
        (ap (λ (x : List ℕ). judge_barring kind mark rows barred x) (take-length w) ∙ e)
        in
        let inside = kept.1.ordering.vertices in (
          omega (arith, f.a_stands, inside f.i (omega (arith, f.is.before, f.is.middle))),
          omega (arith, f.b_stands, inside f.j f.is.middle),
          omega (arith, f.is.vertex),
        )

  pub points_below : PointsBelow 64 (judge_barring kind mark rows barred w)
  points_below = go (judge_barring kind mark rows barred w) refl
    where
      go : (v : Verdict) → judge_barring kind mark rows barred w ≡ v → PointsBelow 64 v
      go passes e = tt
      go (fails a b c) e = triple_below (decided_accepts (subst (λ (v : Verdict). Decided v) (sym e) tt)) a b c e
      go (verdicts.refused r) e = tt

  -- whatever the input
  pub words_short : length (in_words kind mark rows barred w) ≤ 50
  unfolding in_words
  words_short = sentence_longest (search_of kind) (judge_barring kind mark rows barred w) points_below

  -- ---- the tests behind judge's

  module _ (size : ℕ) where
    -- judge's refusal, or else the test behind it
    pub words_first : earlier (refused_with (judge_barring kind mark rows barred w)) (first_refusal (room_tests size)) ≡ first_refusal (words_tests kind mark rows barred w size)
    unfolding refused_with earlier words_tests
    words_first = go (judge_barring kind mark rows barred w) refl
      where
        decided : {v : Verdict} → judge_barring kind mark rows barred w ≡ v → Decided v → first_refusal (room_tests size) ≡ first_refusal (judged ++ room_tests size)
        decided e told =
            (tried_first judged (room_tests size) (sym (accepts_none judged (decided_accepts (subst (λ (v : Verdict). Decided v) (sym e) told))))).same

        go : (v : Verdict) → judge_barring kind mark rows barred w ≡ v → earlier (refused_with v) (first_refusal (room_tests size)) ≡ first_refusal (judged ++ room_tests size)
        go passes e = decided e tt
        go (fails a b c) e = decided e tt
        go (verdicts.refused r) e = refused_before judged (room_tests size) (sym (refuses_first judged r (refused_judge kind mark rows barred w r e)))

    -- nothing is refused exactly where judge gives a verdict and there is room
    pub accepted_out : Accepts (words_tests kind mark rows barred w size) → Decided (judge_barring kind mark rows barred w) × (96 ≤ size)
    unfolding room_tests words_tests
    accepted_out a = let x = accepts_both judged _ a in (accepts_decided x.0, nltb→le size 96 (not_T (ltb size 96) x.1.0))

    pub accepted_in : Decided (judge_barring kind mark rows barred w) → 96 ≤ size → Accepts (words_tests kind mark rows barred w size)
    unfolding room_tests words_tests
    accepted_in told long = both_accept judged _ (decided_accepts told) (λ t. let l = ltb→lt size 96 t in omega arith, tt)

-- ---- the answer and the output list

module _ (kind : ℕ) (mark : Mark) (rows : List ℕ) (barred : ℕ) (w out : List ℕ) where
  abbrev tests : List (ℕ × Bool)
  tests = words_tests kind mark rows barred w (length out)

  abbrev said : List ℕ
  said = in_words kind mark rows barred w

  abbrev answer : Told
  answer = words_answer kind mark rows barred w out

  abbrev left : List ℕ
  left = words_output kind mark rows barred w out

  pub words_refused : (r : ℕ) → some r ≡ first_refusal tests → (refused r ≡ answer) × (out ≡ left)
  unfolding words_answer words_output
  words_refused r e = (rw (sym e, words_answer), rw (sym e, words_output))

  pub words_accepted : none ≡ first_refusal tests → (written (length said) ≡ answer) × (said ++ drop (length said) out ≡ left)
  unfolding words_answer words_output
  words_accepted e = (rw (sym e, words_answer), rw (sym e, words_output))

  -- what is written fits
  pub room_enough : Accepts tests → length said ≤ length out
  room_enough a = omega (arith, (accepted_out kind mark rows barred w (length out) a).1, words_short kind mark rows barred w)

  pub output_length : length left ≡ length out
  output_length = go (accepts_or_refuses tests)
    where
      go : Accepts tests ⊎ ((q : ℕ) × Refuses q tests) → length left ≡ length out
      go (inl a) =
          let fits = room_enough a in
          ap length (sym (words_accepted (sym (accepts_none tests a))).1) ∙ length-append said (drop (length said) out)
          ∙ (let e : length said + length (drop (length said) out) ≡ length out = omega (arith, length-drop (length said) out) in e)
      go (inr x) = ap length (sym (words_refused x.0 (sym (refuses_first tests x.0 x.1))).1)

  pub refused_words : (r : ℕ) → answer ≡ refused r → Refuses r tests
  refused_words r e = go (accepts_or_refuses tests)
    where
      go : Accepts tests ⊎ ((q : ℕ) × Refuses q tests) → Refuses r tests
      go (inl a) = let clash : ◌≡◌ {A = ℕ} 0 1 = cc (words_accepted (sym (accepts_none tests a))).0 in absurd (omega arith)
      go (inr x) =
          let same : x.0 ≡ r = cc (words_refused x.0 (sym (refuses_first tests x.0 x.1))).0 in
          subst (λ (q : ℕ). Refuses q tests) same x.1

  pub written_words : (m : ℕ) → answer ≡ written m → Accepts tests × (m ≡ length said)
  written_words m e = go (accepts_or_refuses tests)
    where
      go : Accepts tests ⊎ ((q : ℕ) × Refuses q tests) → Accepts tests × (m ≡ length said)
      go (inl a) = (a, cc (words_accepted (sym (accepts_none tests a))).0)
      go (inr x) = let clash : ◌≡◌ {A = ℕ} 0 1 = cc (words_refused x.0 (sym (refuses_first tests x.0 x.1))).0 in absurd (omega arith)
