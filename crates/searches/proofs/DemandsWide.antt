-- The three demands for the wide form, over the definitions that its functions' promises cite: the same theorems as the last part of `Demands`, in its order,
-- for tables of m words a row. What `Demands` says of any graph holds for that of a table, too. Each theorem is `FormDemands` for a table.
-- Assumes nothing.
use mathlib.Core.Path.{◌≡◌, refl}
use mathlib.Core.Logic.{◌↔◌}
use mathlib.Core.Bool.{Bool}
use mathlib.Core.List.{List, [], ◌∷◌, reverse}
use mathlib.Core.Option.{none, some}
use Prim.Native.Nat.{ℕ, ◌≤◌, ◌<◌}
use lib.ListN.{length, take, drop}
use Rattle.searches.specs.Kind.{Search, search_of}
use Rattle.searches.specs.Ordering.{IsOrdering, IsFullOrdering}
use Rattle.searches.specs.Run.{BeginsRun}
use Rattle.searches.specs.Violation.{Violates, FirstViolation, passes, fails, refused, Fails, judge}
use Rattle.searches.specs.CarryOn.{CarriedOn}
use Rattle.searches.specs.Answer.{Accepts, Refuses}
use Rattle.searches.specs.Form.{judge_tests_of, list_tests_of, carry_on_tests_of}
use Rattle.searches.specs.Table.{arcs_wide, size_wide}
use Rattle.searches.specs.Wide.{open_tests_wide, judge_tests_wide, carry_on_tests_wide, judge_wide, carry_on_wide, output_wide}
use Rattle.searches.specs.declared.Mark.{Mark}
use Rattle.searches.proofs.Refusals.{numbers}
use Rattle.searches.proofs.FormDemands as form

module _ (m kind : ℕ) (mark : Mark) (table : List ℕ) where
  abbrev tests : List (ℕ × Bool)
  tests = open_tests_wide m kind mark table

  abbrev s : Search
  s = search_of kind

  -- the graph of the table
  abbrev arc : ℕ → ℕ → Bool
  arc = arcs_wide m table

  abbrev n : ℕ
  n = size_wide m table

  -- ---- Demand 1: the caller's memory

  -- the refusals are tried in this order: judge checks 1 to 6, 8, 9,
  pub judge_order : (w : List ℕ) → numbers (judge_tests_wide m kind mark table w) ≡ 1 ∷ 2 ∷ 3 ∷ 4 ∷ 5 ∷ 6 ∷ 8 ∷ 9 ∷ []
  unfolding numbers open_tests_wide judge_tests_wide judge_tests_of
  judge_order w = refl

  -- carry-on 1 to 6, 10, 7, then 8, 9, then 12
  pub carry_on_order : (t out : List ℕ) (k : ℕ) → numbers (carry_on_tests_wide m kind mark table t out k) ≡ 1 ∷ 2 ∷ 3 ∷ 4 ∷ 5 ∷ 6 ∷ 10 ∷ 7 ∷ 8 ∷ 9 ∷ 12 ∷ []
  unfolding numbers open_tests_wide carry_on_tests_wide carry_on_tests_of list_tests_of
  carry_on_order t out k = refl

  -- each refusal in its stated case and no other: the answer is refusal r exactly when r's test holds and no earlier one does
  pub judge_refuses : (w : List ℕ) (r : ℕ) → (judge_wide m kind mark table w ≡ refused r) ↔ Refuses r (judge_tests_wide m kind mark table w)
  unfolding judge_wide judge_tests_wide
  judge_refuses = form.judge_refuses tests s arc n

  pub carry_on_refuses : (t out : List ℕ) (k r : ℕ) → (carry_on_wide m kind mark table t out k ≡ some r) ↔ Refuses r (carry_on_tests_wide m kind mark table t out k)
  unfolding carry_on_wide carry_on_tests_wide
  carry_on_refuses = form.carry_on_refuses tests s arc n

  -- and then nothing is altered
  pub refused_keeps : (t out : List ℕ) (k r : ℕ) → Refuses r (carry_on_tests_wide m kind mark table t out k) → output_wide m kind mark table t out k ≡ out
  unfolding output_wide carry_on_tests_wide
  refused_keeps = form.refused_keeps tests s arc n

  -- the output list only where a successful call fills it: for every input its first k entries, its entries from n on and its length stay
  pub output_stays : (t out : List ℕ) (k : ℕ)
      → (take k (output_wide m kind mark table t out k) ≡ take k out) × (drop n (output_wide m kind mark table t out k) ≡ drop n out)
      × (length (output_wide m kind mark table t out k) ≡ length out)
  unfolding output_wide
  output_stays = form.output_stays tests s arc n

  -- ---- Demands 2 and 3, as the calls answer: for every valid kind and table, whatever its mark

  -- judge's answer on a part of a walk is the verdict that the theorems on any graph speak of
  pub part_judged : (w : List ℕ) (k : ℕ) → Accepts (open_tests_wide m kind mark table) → IsOrdering n w k
      → judge_wide m kind mark table (take k w) ≡ judge s arc n w k
  unfolding judge_wide
  part_judged = form.part_judged tests s arc n

  module _ (valid : Accepts (open_tests_wide m kind mark table)) where
    -- Demand 2: a full walk passes exactly when carrying on from nothing, with that walk reversed as preference list, gives it again
    pub written_again : (w out : List ℕ) → IsFullOrdering n w → n ≤ length out
        → (judge_wide m kind mark table w ≡ passes) ↔ (take n (output_wide m kind mark table (reverse w) out 0) ≡ w)
    unfolding judge_wide output_wide
    written_again = form.written_again tests s arc n valid

    -- Demand 3: for every walk of distinct points and every cut of it after c points,
    module _ (w : List ℕ) (k : ℕ) (o : IsOrdering n w k) (c : ℕ) (cut : c ≤ k) where
      -- judge passes the part exactly when some run of the search begins with it,
      pub part_as_run : (judge_wide m kind mark table (take c w) ≡ passes) ↔ BeginsRun s arc n w c
      unfolding judge_wide
      part_as_run = form.part_as_run tests s arc n valid w k o c cut

      -- and exactly when with only that part placed no three points stand in the fault relation
      pub part_unfaulted : (judge_wide m kind mark table (take c w) ≡ passes) ↔ ((i j v : ℕ) → Violates s arc n w c i j v → ⊥)
      unfolding judge_wide
      part_unfaulted = form.part_unfaulted tests s arc n valid w k o c cut

      -- a passed part, at the front of any output list with room, is carried on, whatever the preference list, and the first n entries then hold a
      -- walk of all points that begins with it, passes, and has at each added place the offered point that stands last in the list
      pub part_carried_on : (t out : List ℕ) → IsFullOrdering n t → n ≤ length out → take c out ≡ take c w → judge_wide m kind mark table (take c w) ≡ passes
          → (carry_on_wide m kind mark table t out c ≡ none) × CarriedOn s arc n t w c (take n (output_wide m kind mark table t out c))
      unfolding judge_wide carry_on_wide output_wide
      part_carried_on = form.part_carried_on tests s arc n valid w k o c cut

      -- a failed one is shown its first fault triple, all others come after it
      pub part_shown_first : (x y z : ℕ) → judge_wide m kind mark table (take c w) ≡ fails x y z → FirstViolation s arc n w c x y z
      unfolding judge_wide
      part_shown_first = form.part_shown_first tests s arc n valid w k o c cut

    module _ (w : List ℕ) (k : ℕ) (o : IsOrdering n w k) (a b c : ℕ) (f : FirstViolation s arc n w k a b c) where
      -- cut just before its middle point it passes,
      pub part_passes_before : judge_wide m kind mark table (take f.j w) ≡ passes
      unfolding judge_wide
      part_passes_before = form.part_passes_before tests s arc n valid w k o a b c f

      -- cut anywhere further on it fails
      pub part_fails_after : (l : ℕ) → f.j < l → l ≤ k → Fails (judge_wide m kind mark table (take l w))
      unfolding judge_wide
      part_fails_after = form.part_fails_after tests s arc n valid w k o a b c f
