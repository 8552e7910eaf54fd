-- The three demands as the calls answer, in whatever form the graph is given: any tests on it, any arcs and any number of vertices. `Demands` cites this for
-- rows, `DemandsWide` for tables; there each theorem's comment says which sentence it is.
--   judge_refuses, carry_on_refuses, refused_keeps, output_stays   Demand 1
--   part_judged             judge's answer on a part is the verdict on so many positions
--   written_again           Demand 2
--   part_as_run, part_unfaulted, part_carried_on, part_shown_first, part_passes_before, part_fails_after   Demand 3
-- Assumes nothing.
use mathlib.Core.Path.{◌≡◌, sym, ◌∙◌}
use mathlib.Core.Logic.{◌↔◌}
use mathlib.Core.Bool.{Bool}
use mathlib.Core.List.{List, reverse}
use mathlib.Core.Option.{none, some}
use Prim.Native.Nat.{ℕ, ◌≤◌, ◌<◌}
use native.Mathlib.Omega.{arith}
use lib.ListN.{length, take, drop}
use Rattle.searches.specs.Kind.{Search}
use Rattle.searches.specs.Ordering.{IsOrdering, IsFullOrdering}
use Rattle.searches.specs.Run.{BeginsRun}
use Rattle.searches.specs.Violation.{Violates, FirstViolation, passes, fails, refused, Fails, judge}
use Rattle.searches.specs.CarryOn.{CarriedOn}
use Rattle.searches.specs.Answer.{Accepts, Refuses}
use Rattle.searches.specs.Form.{judge_tests_of, carry_on_tests_of, judge_of, carry_on_of, output_of}
use Rattle.searches.proofs.Ordering.{ordering_prefix}
use Rattle.searches.proofs.Judge.{passes_unviolated, unviolated_passes}
use Rattle.searches.proofs.Passing as passing
use Rattle.searches.proofs.Refusals.{refuses_first, first_refuses}
use Rattle.searches.proofs.Forms as forms
use Rattle.searches.proofs.FormParts as parts

module _ (tests : List (ℕ × Bool)) (s : Search) (arc : ℕ → ℕ → Bool) (n : ℕ) where
  -- ---- Demand 1

  pub judge_refuses : (w : List ℕ) (r : ℕ) → (judge_of tests s arc n w ≡ refused r) ↔ Refuses r (judge_tests_of tests n w)
  judge_refuses w r = (forms.refused_judge tests s arc n w r, forms.judge_refused tests s arc n w r)

  pub carry_on_refuses : (t out : List ℕ) (k r : ℕ) → (carry_on_of tests s arc n t out k ≡ some r) ↔ Refuses r (carry_on_tests_of tests s arc n t out k)
  unfolding carry_on_of
  carry_on_refuses t out k r = (first_refuses (carry_on_tests_of tests s arc n t out k) r, refuses_first (carry_on_tests_of tests s arc n t out k) r)

  pub refused_keeps : (t out : List ℕ) (k r : ℕ) → Refuses r (carry_on_tests_of tests s arc n t out k) → output_of tests s arc n t out k ≡ out
  refused_keeps = forms.carry_on-kept tests s arc n

  pub output_stays : (t out : List ℕ) (k : ℕ)
      → (take k (output_of tests s arc n t out k) ≡ take k out) × (drop n (output_of tests s arc n t out k) ≡ drop n out)
      × (length (output_of tests s arc n t out k) ≡ length out)
  output_stays = parts.output_kept tests s arc n

  -- ---- Demands 2 and 3

  pub part_judged : (w : List ℕ) (k : ℕ) → Accepts tests → IsOrdering n w k → judge_of tests s arc n (take k w) ≡ judge s arc n w k
  part_judged = forms.prefix_judged tests s arc n

  module _ (valid : Accepts tests) where
    pub written_again : (w out : List ℕ) → IsFullOrdering n w → n ≤ length out
        → (judge_of tests s arc n w ≡ passes) ↔ (take n (output_of tests s arc n (reverse w) out 0) ≡ w)
    written_again w out all room = (parts.passes_written_again tests s arc n valid w all out room, parts.written_again_passes tests s arc n valid w all out room)

    module _ (w : List ℕ) (k : ℕ) (o : IsOrdering n w k) (m : ℕ) (cut : m ≤ k) where
      part : IsOrdering n w m
      part = ordering_prefix n m cut o

      answer : judge_of tests s arc n (take m w) ≡ judge s arc n w m
      answer = part_judged w m valid part

      pub part_as_run : (judge_of tests s arc n (take m w) ≡ passes) ↔ BeginsRun s arc n w m
      part_as_run = (λ p. passing.passes_begins s arc n w m part (sym answer ∙ p), λ b. answer ∙ passing.begins_passes s arc n w m part.long b)

      pub part_unfaulted : (judge_of tests s arc n (take m w) ≡ passes) ↔ ((i j c : ℕ) → Violates s arc n w m i j c → ⊥)
      part_unfaulted = (λ p. passes_unviolated s arc n w m part (sym answer ∙ p), λ unfaulted. answer ∙ unviolated_passes s arc n w m part unfaulted)

      pub part_carried_on : (t out : List ℕ) → IsFullOrdering n t → n ≤ length out → take m out ≡ take m w → judge_of tests s arc n (take m w) ≡ passes
          → (carry_on_of tests s arc n t out m ≡ none) × CarriedOn s arc n t w m (take n (output_of tests s arc n t out m))
      part_carried_on t out names room front p = parts.part_carried tests s arc n valid w m part t out names room front (sym answer ∙ p)

      pub part_shown_first : (a b c : ℕ) → judge_of tests s arc n (take m w) ≡ fails a b c → FirstViolation s arc n w m a b c
      part_shown_first a b c e = passing.fails_first s arc n w m a b c part (sym answer ∙ e)

    module _ (w : List ℕ) (k : ℕ) (o : IsOrdering n w k) (a b c : ℕ) (f : FirstViolation s arc n w k a b c) where
      pub part_passes_before : judge_of tests s arc n (take f.j w) ≡ passes
      part_passes_before = answer w k o f.j (omega (arith, f.is.middle)) ∙ passing.cut_before_passes s arc n w k a b c o f

      pub part_fails_after : (l : ℕ) → f.j < l → l ≤ k → Fails (judge_of tests s arc n (take l w))
      part_fails_after l h i =
          let x = passing.cut_after_fails s arc n w k a b c o f l h i in
          (x.0, x.1, x.2, answer w k o l i ∙ x.3)
