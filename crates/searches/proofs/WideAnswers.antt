-- What the calls answer in the wide form where nothing is refused, and when that is: `Forms` for the tests, the arcs and the number of vertices of a table.
--   bit_outside_wide_*, self_loop_wide_*, one_way_wide_*   what the tests mean
--   wide_small, wide_whole, wide_inside, wide_unlooped, wide_both_ways, wide_any_kind   what is known of a valid table
--   ordering_accepted, accepted_ordering     judge refuses no ordering of a valid table, and nothing else passes its tests
--   lists_accepted, accepted_lists, start_accepted, accepted_start   likewise for carry-on
--   judge_accepted, judge_refused, refused_judge   judge's answer, refused and not;   passes_accepts   what passes is not refused
--   carry_on_accepted, carry_on_refused, carry_on_done, carry_on-kept   carry-on's answer, and what it leaves in the output list
-- Assumes nothing.
use mathlib.Core.Path.{◌≡◌}
use mathlib.Core.Logic.{◌⊎◌, inl, inr}
use mathlib.Core.Bool.{Bool, not}
use mathlib.Core.List.{List, ◌++◌}
use mathlib.Core.Option.{none, some}
use Prim.Native.Nat.{ℕ, ◌+◌, ◌*◌, ◌/◌, ◌%◌, ◌≤◌, ◌<◌}
use native.Mathlib.Nat.{div-add-mod}
use native.Mathlib.Omega.{arith}
use lib.Dec.{T, ltb, eqb, ltb→lt, nltb→le, eqb→eq, not_T}
use lib.ListN.{length, get_or, drop}
use Rattle.bitset.specs.Word.{member}
use Rattle.bitset.proofs.Tests.{and_in, and_out, or_inl, or_inr, not_not, below_or}
use Rattle.searches.specs.Kind.{search_of}
use Rattle.searches.specs.Ordering.{IsOrdering}
use Rattle.searches.specs.Table.{arcs_wide, size_wide}
use Rattle.searches.specs.Violation.{passes, refused, judge}
use Rattle.searches.specs.CarryOn.{carry_on}
use Rattle.searches.specs.Answer.{is_two_way, Accepts, Refuses}
use Rattle.searches.specs.Form.{carry_on_of}
use Rattle.searches.specs.Wide.{bit_outside_wide, self_loop_wide, one_way_wide, open_tests_wide, judge_tests_wide, list_tests_wide, carry_on_tests_wide}
use Rattle.searches.specs.Wide.{judge_wide, carry_on_wide, output_wide}
use Rattle.searches.specs.declared.Mark.{Mark}
use Rattle.searches.proofs.Refusals as refusals
use Rattle.searches.proofs.Forms.{ListsOf, StartOf}
use Rattle.searches.proofs.Forms as forms

-- ---- what the tests mean

-- an arc of a table leads to a vertex that a row has a bit for
pub arc_fits : (m : ℕ) (table : List ℕ) (u v : ℕ) → T (arcs_wide m table u v) → v < 64 * m
unfolding arcs_wide
arc_fits m table u v t = ltb→lt v (64 * m) (and_out (ltb v (64 * m)) (member (get_or table (m * u + v / 64) 0) (v % 64)) t).0

module _ (m : ℕ) (table : List ℕ) where
  abbrev n : ℕ
  n = size_wide m table

  abbrev arc : ℕ → ℕ → Bool
  arc = arcs_wide m table

  pub bit_outside_wide_out : T (bit_outside_wide m table)
      → (u : ℕ) × (v : ℕ) × (u < size_wide m table) × (v < 64 * m) × (size_wide m table ≤ v) × T (arcs_wide m table u v)
  unfolding bit_outside_wide
  bit_outside_wide_out = refusals.outside_out arc n (64 * m)

  pub bit_outside_wide_in : (u v : ℕ) → u < size_wide m table → v < 64 * m → size_wide m table ≤ v → T (arcs_wide m table u v) → T (bit_outside_wide m table)
  unfolding bit_outside_wide
  bit_outside_wide_in = refusals.outside_in_lem arc n (64 * m)

  pub self_loop_wide_out : T (self_loop_wide m table) → (u : ℕ) × (u < size_wide m table) × T (arcs_wide m table u u)
  unfolding self_loop_wide
  self_loop_wide_out = refusals.loop_out arc n

  pub self_loop_wide_in : (u : ℕ) → u < size_wide m table → T (arcs_wide m table u u) → T (self_loop_wide m table)
  unfolding self_loop_wide
  self_loop_wide_in = refusals.loop_in arc n

  pub one_way_wide_out : T (one_way_wide m table)
      → (u : ℕ) × (v : ℕ) × (u < size_wide m table) × (v < size_wide m table) × T (arcs_wide m table u v) × (T (arcs_wide m table v u) → ⊥)
  unfolding one_way_wide
  one_way_wide_out = refusals.unreturned_out arc n

  pub one_way_wide_in : (u v : ℕ) → u < size_wide m table → v < size_wide m table → T (arcs_wide m table u v) → (T (arcs_wide m table v u) → ⊥)
      → T (one_way_wide m table)
  unfolding one_way_wide
  one_way_wide_in = refusals.unreturned_in arc n

-- ---- what is known of a valid table

-- nothing but the kind byte itself is refused for one kind and not for another
pub wide_any_kind : (m kind kind' : ℕ) (mark : Mark) (table : List ℕ) → kind' < 7 → Accepts (open_tests_wide m kind mark table)
    → Accepts (open_tests_wide m kind' mark table)
unfolding open_tests_wide
wide_any_kind m kind kind' mark table known a = (λ t. omega (arith, ltb→lt 6 kind' t), a.1)

module _ (m kind : ℕ) (mark : Mark) (table : List ℕ) (valid : Accepts (open_tests_wide m kind mark table)) where
  -- no more vertices than a row has bits
  pub wide_small : size_wide m table ≤ 64 * m
  unfolding open_tests_wide
  wide_small =
      let odd = not (eqb (length table % m) 0) in
      let large = ltb (64 * m) (size_wide m table) in
      nltb→le (64 * m) (size_wide m table) (not_T large (λ t. valid.1.0 (or_inr odd large t)))

  -- a whole number of rows
  pub wide_whole : length table ≡ m * size_wide m table
  unfolding open_tests_wide size_wide
  wide_whole =
      let even = eqb (length table % m) 0 in
      let rest : length table % m ≡ 0 =
      eqb→eq (length table % m) 0 (not_not even (not_T (not even) (λ t. valid.1.0 (or_inl (not even) (ltb (64 * m) (length table / m)) t))))
      in
      omega (arith, rest, div-add-mod (length table) m)

  -- no arc leads out of the graph
  pub wide_inside : (u v : ℕ) → u < size_wide m table → T (arcs_wide m table u v) → v < size_wide m table
  unfolding open_tests_wide
  wide_inside u v l t = go (below_or v (size_wide m table))
    where
      go : (v < size_wide m table) ⊎ (size_wide m table ≤ v) → v < size_wide m table
      go (inl h) = h
      go (inr h) = absurd (valid.1.1.0 (bit_outside_wide_in m table u v l (arc_fits m table u v t) h t))

  -- no vertex leads to itself
  pub wide_unlooped : (u : ℕ) → u < size_wide m table → T (arcs_wide m table u u) → ⊥
  unfolding open_tests_wide
  wide_unlooped u l t = valid.1.1.1.0 (self_loop_wide_in m table u l t)

  -- where the table is marked two-way every arc has its arc back
  pub wide_both_ways : T (is_two_way mark) → (u v : ℕ) → u < size_wide m table → v < size_wide m table → arcs_wide m table u v ≡ arcs_wide m table v u
  unfolding open_tests_wide one_way_wide
  wide_both_ways two-way =
      refusals.all_returned (arcs_wide m table) (size_wide m table)
      (λ alone. valid.1.1.1.1.0 (and_in (is_two_way mark) (one_way_wide m table) two-way alone))

-- ---- judge

module _ (m kind : ℕ) (mark : Mark) (table w : List ℕ) where
  pub ordering_accepted : Accepts (open_tests_wide m kind mark table) → IsOrdering (size_wide m table) w (length w) → Accepts (judge_tests_wide m kind mark table w)
  unfolding judge_tests_wide
  ordering_accepted = forms.ordering_accepted (open_tests_wide m kind mark table) (size_wide m table) w

  pub accepted_ordering : Accepts (judge_tests_wide m kind mark table w) → Accepts (open_tests_wide m kind mark table) × IsOrdering (size_wide m table) w (length w)
  unfolding judge_tests_wide
  accepted_ordering = forms.accepted_ordering (open_tests_wide m kind mark table) (size_wide m table) w

  pub judge_accepted : Accepts (judge_tests_wide m kind mark table w)
      → judge_wide m kind mark table w ≡ judge (search_of kind) (arcs_wide m table) (size_wide m table) w (length w)
  unfolding judge_tests_wide judge_wide
  judge_accepted = forms.judge_accepted (open_tests_wide m kind mark table) (search_of kind) (arcs_wide m table) (size_wide m table) w

  pub judge_refused : (r : ℕ) → Refuses r (judge_tests_wide m kind mark table w) → judge_wide m kind mark table w ≡ refused r
  unfolding judge_tests_wide judge_wide
  judge_refused = forms.judge_refused (open_tests_wide m kind mark table) (search_of kind) (arcs_wide m table) (size_wide m table) w

  pub refused_judge : (r : ℕ) → judge_wide m kind mark table w ≡ refused r → Refuses r (judge_tests_wide m kind mark table w)
  unfolding judge_tests_wide judge_wide
  refused_judge = forms.refused_judge (open_tests_wide m kind mark table) (search_of kind) (arcs_wide m table) (size_wide m table) w

  pub passes_accepts : judge_wide m kind mark table w ≡ passes → Accepts (judge_tests_wide m kind mark table w)
  unfolding judge_tests_wide judge_wide
  passes_accepts = forms.passes_accepts (open_tests_wide m kind mark table) (search_of kind) (arcs_wide m table) (size_wide m table) w

-- ---- carry-on

module _ (m kind : ℕ) (mark : Mark) (table t out : List ℕ) (k : ℕ) where
  -- what the tests on the lists let through, and what carry-on lets through
  abbrev pub WideLists : Type 0
  WideLists = ListsOf (open_tests_wide m kind mark table) (size_wide m table) t out k

  abbrev pub WideStart : Type 0
  WideStart = StartOf (open_tests_wide m kind mark table) (search_of kind) (arcs_wide m table) (size_wide m table) t out k

  pub lists_accepted : WideLists → Accepts (list_tests_wide m kind mark table t out k)
  unfolding list_tests_wide
  lists_accepted = forms.lists_accepted (open_tests_wide m kind mark table) (size_wide m table) t out k

  pub accepted_lists : Accepts (list_tests_wide m kind mark table t out k) → WideLists
  unfolding list_tests_wide
  accepted_lists = forms.accepted_lists (open_tests_wide m kind mark table) (size_wide m table) t out k

  pub start_accepted : WideStart → Accepts (carry_on_tests_wide m kind mark table t out k)
  unfolding carry_on_tests_wide
  start_accepted = forms.start_accepted (open_tests_wide m kind mark table) (search_of kind) (arcs_wide m table) (size_wide m table) t out k

  pub accepted_start : Accepts (carry_on_tests_wide m kind mark table t out k) → WideStart
  unfolding carry_on_tests_wide
  accepted_start = forms.accepted_start (open_tests_wide m kind mark table) (search_of kind) (arcs_wide m table) (size_wide m table) t out k

  pub carry_on_accepted : Accepts (carry_on_tests_wide m kind mark table t out k) → carry_on_wide m kind mark table t out k ≡ none
  unfolding carry_on_tests_wide carry_on_wide carry_on_of
  carry_on_accepted = refusals.accepts_none (carry_on_tests_wide m kind mark table t out k)

  pub carry_on_refused : (r : ℕ) → Refuses r (carry_on_tests_wide m kind mark table t out k) → carry_on_wide m kind mark table t out k ≡ some r
  unfolding carry_on_tests_wide carry_on_wide carry_on_of
  carry_on_refused = refusals.refuses_first (carry_on_tests_wide m kind mark table t out k)

  pub carry_on_done : Accepts (carry_on_tests_wide m kind mark table t out k)
      → output_wide m kind mark table t out k
      ≡ carry_on (search_of kind) (arcs_wide m table) (size_wide m table) t out k ++ drop (size_wide m table) out
  unfolding carry_on_tests_wide output_wide
  carry_on_done = forms.carry_on_done (open_tests_wide m kind mark table) (search_of kind) (arcs_wide m table) (size_wide m table) t out k

  pub carry_on-kept : (r : ℕ) → Refuses r (carry_on_tests_wide m kind mark table t out k) → output_wide m kind mark table t out k ≡ out
  unfolding carry_on_tests_wide output_wide
  carry_on-kept = forms.carry_on-kept (open_tests_wide m kind mark table) (search_of kind) (arcs_wide m table) (size_wide m table) t out k
