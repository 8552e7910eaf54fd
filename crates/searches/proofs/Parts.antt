-- Parts of a walk as the calls answer on them: judged as lists of their own, carried on at the front of an output list. This is `FormParts` for rows.
--   part_start               a part at the front of an output list is a start that carry-on lets through
--   first_bytes, part_carried   what the first n bytes of the output then hold
--   output_kept              for every input: what carry-on leaves as it was
--   passes_written_again, written_again_passes   the reversed walk, by the calls
-- Assumes nothing.
use mathlib.Core.Path.{◌≡◌}
use mathlib.Core.List.{List, reverse}
use mathlib.Core.Option.{none}
use Prim.Native.Nat.{ℕ, ◌≤◌}
use lib.ListN.{length, take, drop}
use Rattle.searches.specs.Kind.{search_of}
use Rattle.searches.specs.Ordering.{arcs, IsOrdering, IsFullOrdering}
use Rattle.searches.specs.Violation.{passes, judge}
use Rattle.searches.specs.CarryOn.{carry_on, CarriedOn}
use Rattle.searches.specs.Answer.{open_tests, judge_tests, list_tests, carry_on_tests, Accepts, judge_answer, carry_on_answer, carry_on_output}
use Rattle.searches.specs.Form.{judge_tests_of, list_tests_of, carry_on_tests_of, judge_of, carry_on_of, output_of}
use Rattle.searches.specs.declared.Mark.{Mark}
use Rattle.searches.proofs.Answers.{Start}
use Rattle.searches.proofs.FormParts as parts

module _ (kind : ℕ) (mark : Mark) (rows : List ℕ) (valid : Accepts (open_tests kind mark rows)) where
  module _ (w : List ℕ) (m : ℕ) (o : IsOrdering (length rows) w m) (t out : List ℕ) (names : IsFullOrdering (length rows) t)
      (room : length rows ≤ length out) (front : take m out ≡ take m w) (p : judge (search_of kind) (arcs rows) (length rows) w m ≡ passes) where
    pub part_start : Start kind mark rows t out m
    part_start =
        let x = parts.part_start (open_tests kind mark rows) (search_of kind) (arcs rows) (length rows) valid w m o t out names room front p in
        record { valid = valid; room = room; tie_break = names; start = x.lists.start; passing = x.passing }

    pub first_bytes : take (length rows) (carry_on_output kind mark rows t out m) ≡ carry_on (search_of kind) (arcs rows) (length rows) t out m
    unfolding carry_on_output carry_on_tests list_tests output_of carry_on_tests_of list_tests_of
    first_bytes = parts.first_entries (open_tests kind mark rows) (search_of kind) (arcs rows) (length rows) valid w m o t out names room front p

    pub part_carried : (carry_on_answer kind mark rows t out m ≡ none)
        × CarriedOn (search_of kind) (arcs rows) (length rows) t w m (take (length rows) (carry_on_output kind mark rows t out m))
    unfolding carry_on_answer carry_on_output carry_on_tests list_tests carry_on_of output_of carry_on_tests_of list_tests_of
    part_carried = parts.part_carried (open_tests kind mark rows) (search_of kind) (arcs rows) (length rows) valid w m o t out names room front p

-- ---- what carry-on leaves as it was

-- the first k bytes, the bytes from n on and the length, for every input
pub output_kept : (kind : ℕ) (mark : Mark) (rows t out : List ℕ) (k : ℕ)
    → (take k (carry_on_output kind mark rows t out k) ≡ take k out) × (drop (length rows) (carry_on_output kind mark rows t out k) ≡ drop (length rows) out)
    × (length (carry_on_output kind mark rows t out k) ≡ length out)
unfolding carry_on_output carry_on_tests list_tests output_of carry_on_tests_of list_tests_of
output_kept kind mark rows = parts.output_kept (open_tests kind mark rows) (search_of kind) (arcs rows) (length rows)

-- ---- the reversed walk

module _ (kind : ℕ) (mark : Mark) (rows : List ℕ) (valid : Accepts (open_tests kind mark rows)) (w : List ℕ) (all : IsFullOrdering (length rows) w) (out : List ℕ)
    (room : length rows ≤ length out) where
  pub passes_written_again : judge_answer kind mark rows w ≡ passes → take (length rows) (carry_on_output kind mark rows (reverse w) out 0) ≡ w
  unfolding judge_answer judge_tests judge_of judge_tests_of carry_on_output carry_on_tests list_tests output_of carry_on_tests_of list_tests_of
  passes_written_again = parts.passes_written_again (open_tests kind mark rows) (search_of kind) (arcs rows) (length rows) valid w all out room

  pub written_again_passes : take (length rows) (carry_on_output kind mark rows (reverse w) out 0) ≡ w → judge_answer kind mark rows w ≡ passes
  unfolding judge_answer judge_tests judge_of judge_tests_of carry_on_output carry_on_tests list_tests output_of carry_on_tests_of list_tests_of
  written_again_passes = parts.written_again_passes (open_tests kind mark rows) (search_of kind) (arcs rows) (length rows) valid w all out room
