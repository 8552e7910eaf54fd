-- What the calls answer on rows where nothing is refused, and when that is: `Forms` for the tests, the arcs and the number of vertices of rows.
--   valid_small, valid_any_kind      a valid graph has at most 64 vertices, and is valid for each kind
--   accepts_both, both_accept        tests one behind the other
--   clear, all_inside, none_repeated       an ordering is what the tests on its vertices let through
--   is_pass_in, is_pass_out                  the verdict that is passed
--   ordering_accepted, accepted_ordering   judge refuses no ordering of a valid graph, and nothing else passes its tests
--   lists_accepted, accepted_lists, start_accepted, accepted_start   likewise for carry-on
--   judge_refused, judge_accepted          judge's answer, refused and not;   passes_accepts   what passes is not refused
--   prefix_judged                          judge's answer on a prefix
--   carry_on_done, carry_on-kept             what carry-on leaves in the output list
-- Assumes nothing.
use mathlib.Core.Path.{◌≡◌}
use mathlib.Core.List.{List, ◌++◌}
use Prim.Native.Nat.{ℕ, ◌≤◌, ◌<◌}
use native.Mathlib.Omega.{arith}
use lib.Dec.{ltb, ltb→lt, nltb→le, not_T}
use lib.ListN.{length, take, drop}
use Rattle.searches.specs.Kind.{search_of}
use Rattle.searches.specs.Ordering.{arcs, IsOrdering, IsFullOrdering}
use Rattle.searches.specs.Violation.{passes, refused, judge}
use Rattle.searches.specs.CarryOn.{carry_on}
use Rattle.searches.specs.Answer.{open_tests, judge_tests, list_tests, carry_on_tests, Accepts, Refuses, judge_answer, carry_on_output}
use Rattle.searches.specs.Form.{judge_tests_of, list_tests_of, carry_on_tests_of, judge_of, output_of}
use Rattle.searches.specs.declared.Mark.{Mark}
use Rattle.searches.proofs.Forms as forms
pub use Rattle.searches.proofs.Forms.{accepts_both, both_accept, clear, all_inside, none_repeated, is_pass_in, is_pass_out}

-- no more than 64 rows are let through
pub valid_small : (kind : ℕ) (mark : Mark) (rows : List ℕ) → Accepts (open_tests kind mark rows) → length rows ≤ 64
unfolding open_tests
valid_small kind mark rows a = nltb→le 64 (length rows) (not_T (ltb 64 (length rows)) a.1.0)

-- nothing but the kind byte itself is refused for one kind and not for another
pub valid_any_kind : (kind kind' : ℕ) (mark : Mark) (rows : List ℕ) → kind' < 7 → Accepts (open_tests kind mark rows) → Accepts (open_tests kind' mark rows)
unfolding open_tests
valid_any_kind kind kind' mark rows known a = (λ t. omega (arith, ltb→lt 6 kind' t), a.1)

-- ---- judge

module _ (kind : ℕ) (mark : Mark) (rows w : List ℕ) where
  pub ordering_accepted : Accepts (open_tests kind mark rows) → IsOrdering (length rows) w (length w) → Accepts (judge_tests kind mark rows w)
  unfolding judge_tests judge_tests_of
  ordering_accepted = forms.ordering_accepted (open_tests kind mark rows) (length rows) w

  pub accepted_ordering : Accepts (judge_tests kind mark rows w) → Accepts (open_tests kind mark rows) × IsOrdering (length rows) w (length w)
  unfolding judge_tests judge_tests_of
  accepted_ordering = forms.accepted_ordering (open_tests kind mark rows) (length rows) w

  pub judge_accepted : Accepts (judge_tests kind mark rows w) → judge_answer kind mark rows w ≡ judge (search_of kind) (arcs rows) (length rows) w (length w)
  unfolding judge_answer judge_tests judge_of judge_tests_of
  judge_accepted = forms.judge_accepted (open_tests kind mark rows) (search_of kind) (arcs rows) (length rows) w

  pub judge_refused : (r : ℕ) → Refuses r (judge_tests kind mark rows w) → judge_answer kind mark rows w ≡ refused r
  unfolding judge_answer judge_tests judge_of judge_tests_of
  judge_refused = forms.judge_refused (open_tests kind mark rows) (search_of kind) (arcs rows) (length rows) w

  pub refused_judge : (r : ℕ) → judge_answer kind mark rows w ≡ refused r → Refuses r (judge_tests kind mark rows w)
  unfolding judge_answer judge_tests judge_of judge_tests_of
  refused_judge = forms.refused_judge (open_tests kind mark rows) (search_of kind) (arcs rows) (length rows) w

  pub passes_accepts : judge_answer kind mark rows w ≡ passes → Accepts (judge_tests kind mark rows w)
  unfolding judge_answer judge_tests judge_of judge_tests_of
  passes_accepts = forms.passes_accepts (open_tests kind mark rows) (search_of kind) (arcs rows) (length rows) w

-- the answer on a prefix, as a list of its own, is the verdict on so many positions
pub prefix_judged : (kind : ℕ) (mark : Mark) (rows w : List ℕ) (k : ℕ) → Accepts (open_tests kind mark rows) → IsOrdering (length rows) w k
    → judge_answer kind mark rows (take k w) ≡ judge (search_of kind) (arcs rows) (length rows) w k
unfolding judge_answer judge_tests judge_of judge_tests_of
prefix_judged kind mark rows = forms.prefix_judged (open_tests kind mark rows) (search_of kind) (arcs rows) (length rows)

-- ---- carry-on

-- what carry-on lets through
pub record Start (kind : ℕ) (mark : Mark) (rows t out : List ℕ) (k : ℕ) : Type 0 where
  pub valid : Accepts (open_tests kind mark rows)
  pub room : length rows ≤ length out
  pub tie_break : IsFullOrdering (length rows) t
  pub start : IsOrdering (length rows) out k
  pub passing : judge (search_of kind) (arcs rows) (length rows) out k ≡ passes

module _ (kind : ℕ) (mark : Mark) (rows t out : List ℕ) (k : ℕ) where
  -- what the tests on the lists let through
  pub record Lists : Type 0 where
    pub valid : Accepts (open_tests kind mark rows)
    pub room : length rows ≤ length out
    pub tie_break : IsFullOrdering (length rows) t
    pub start : IsOrdering (length rows) out k

  pub lists_accepted : Lists → Accepts (list_tests kind mark rows t out k)
  unfolding list_tests list_tests_of
  lists_accepted x =
      forms.lists_accepted (open_tests kind mark rows) (length rows) t out k
      (record { valid = x.valid; room = x.room; tie_break = x.tie_break; start = x.start })

  pub accepted_lists : Accepts (list_tests kind mark rows t out k) → Lists
  unfolding list_tests list_tests_of
  accepted_lists a =
      let l = forms.accepted_lists (open_tests kind mark rows) (length rows) t out k a in
      record { valid = l.valid; room = l.room; tie_break = l.tie_break; start = l.start }

  pub start_accepted : Start kind mark rows t out k → Accepts (carry_on_tests kind mark rows t out k)
  unfolding carry_on_tests list_tests carry_on_tests_of list_tests_of
  start_accepted x =
      forms.start_accepted (open_tests kind mark rows) (search_of kind) (arcs rows) (length rows) t out k
      (record { lists = record { valid = x.valid; room = x.room; tie_break = x.tie_break; start = x.start }; passing = x.passing })

  pub accepted_start : Accepts (carry_on_tests kind mark rows t out k) → Start kind mark rows t out k
  unfolding carry_on_tests list_tests carry_on_tests_of list_tests_of
  accepted_start a =
      let x = forms.accepted_start (open_tests kind mark rows) (search_of kind) (arcs rows) (length rows) t out k a in
      let l = x.lists in
      record { valid = l.valid; room = l.room; tie_break = l.tie_break; start = l.start; passing = x.passing }

  pub carry_on_done : Accepts (carry_on_tests kind mark rows t out k)
      → carry_on_output kind mark rows t out k ≡ carry_on (search_of kind) (arcs rows) (length rows) t out k ++ drop (length rows) out
  unfolding carry_on_output carry_on_tests list_tests output_of carry_on_tests_of list_tests_of
  carry_on_done = forms.carry_on_done (open_tests kind mark rows) (search_of kind) (arcs rows) (length rows) t out k

  pub carry_on-kept : (r : ℕ) → Refuses r (carry_on_tests kind mark rows t out k) → carry_on_output kind mark rows t out k ≡ out
  unfolding carry_on_output carry_on_tests list_tests output_of carry_on_tests_of list_tests_of
  carry_on-kept = forms.carry_on-kept (open_tests kind mark rows) (search_of kind) (arcs rows) (length rows) t out k
