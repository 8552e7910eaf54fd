-- `admission::graph_refusal` meets its contract: each answer is given after the tests before it were tried, each on all rows.
-- Assumes nothing.
use mathlib.Core.List.{List}
use mathlib.Core.Logic.{◌⊎◌, inl, inr, ⊎_elim}
use mathlib.Core.Path.{◌≡◌, refl, sym, ◌∙◌}
use mathlib.Core.Bool.{Bool, not, ◌||◌}
use Prim.Native.Nat.{ℕ, ◌*◌, ◌/◌, ◌%◌, ◌<◌, ◌≤◌}
use native.Mathlib.Omega.{arith}
use lib.Dec.{T, eqb, ltb, ltb→lt, lt→ltb}
use lib.ListN.{length, take, drop}
use Rattle.bitset.proofs.Tests.{said_true, said_false}
use Rattle.searches.specs.Table.{size_wide}
use Rattle.searches.specs.Answer.{Accepts, number, refusal_of}
use Rattle.searches.specs.Wide.{open_tests_wide, bit_outside_wide, self_loop_wide, one_way_wide}
use Rattle.searches.specs.declared.Mark.{Mark}
use Rattle.admission.specs.Checked.{IsTable}
use Rattle.admission.proofs.Outside.{outside_table, loop_table, one_way_table}
use Rattle.admission.proofs.Tried.{refused, refused_behind, accepted_behind, five_dropped, five_tried, five_passed, uneven, too_many, sized}
use Rattle.admission.proofs.graph_refusal.Goals as goal
use Rattle.admission.proofs.graph_refusal.Goals.{Start, Else-bit_outside, Else-kind, Else-self_loop}

abbrev kind_of : Start → ℕ
kind_of c = c.args.kind.0

abbrev mark_of : Start → Mark
mark_of c = c.args.mark

abbrev table_of : Start → List ℕ
table_of c = c.args.table.now

abbrev tests : Start → List (ℕ × Bool)
tests c = open_tests_wide 8 (kind_of c) (mark_of c) (table_of c)

-- ---- the tests that do not hold

known : (c : Else-kind) → T (ltb 6 (kind_of (goal.at.Else-kind c).Start)) → ⊥
known c t = omega (arith, ltb→lt 6 (kind_of (goal.at.Else-kind c).Start) t, c.if-kind.false)

-- the bounds of the table are facts of numbers, found by what they say and not by where they were tried
is_table : (table : List ℕ) → length table % 8 ≡ 0 → length table / 8 ≤ 512 → IsTable (length table / 8) table
is_table table even l = record { small = l; whole = omega arith }

wrong_size : (table : List ℕ) → (length table % 8 ≡ 0 → ⊥) ⊎ (512 < length table / 8) → T (not (eqb (length table % 8) 0) || ltb (64 * 8) (size_wide 8 table))
wrong_size table which = ⊎_elim (uneven table) (too_many table) which

in_size : (c : Else-bit_outside) → let table = table_of (goal.at.Else-bit_outside c).Start in T (not (eqb (length table % 8) 0) || ltb (64 * 8) (size_wide 8 table)) → ⊥
in_size c = sized (table_of (goal.at.Else-bit_outside c).Start) (omega arith) (omega arith)

inside : (c : Else-bit_outside) → T (bit_outside_wide 8 (table_of (goal.at.Else-bit_outside c).Start)) → ⊥
inside c = said_false _ (c.bit_outside.ensures ∙ sym (outside_table _)) c.if-bit_outside.false

unlooped : (c : Else-self_loop) → T (self_loop_wide 8 (table_of (goal.at.Else-self_loop c).Start)) → ⊥
unlooped c = said_false _ (c.self_loop.ensures ∙ sym (loop_table _)) c.if-self_loop.false

passed_3 : (c : Else-bit_outside) → Accepts (take 3 (tests (goal.at.Else-bit_outside c).Start))
unfolding open_tests_wide
passed_3 c = (known (goal.at.Else-bit_outside c).Else-kind, (in_size c, (inside c, tt)))

passed_4 : (c : Else-self_loop) → Accepts (take 4 (tests (goal.at.Else-self_loop c).Start))
unfolding open_tests_wide
passed_4 c = let earlier = passed_3 (goal.at.Else-self_loop c).Else-bit_outside in (earlier.0, (earlier.1.0, (earlier.1.1.0, (unlooped c, tt))))

-- ---- the answers

pub returns-then-kind : goal.returns-then-kind
unfolding open_tests_wide number refusal_of
returns-then-kind c = refused (tests (goal.at.returns-then-kind c).Start) 1 (inl (refl, lt→ltb 6 (kind_of (goal.at.returns-then-kind c).Start) (omega (arith, c.if-kind.true))))

pub returns-then-length-ne0 : goal.returns-then-length-ne0
unfolding open_tests_wide number refusal_of
returns-then-length-ne0 c =
    let table = table_of (goal.at.returns-then-length-ne0 c).Start in
    refused (tests (goal.at.returns-then-length-ne0 c).Start) 2
    (inr (known (goal.at.returns-then-length-ne0 c).Else-kind, inl (refl, wrong_size table (grind arith))))

pub invariant_of-table : goal.invariant_of-table
invariant_of-table c = record { sized = is_table (table_of (goal.at.invariant_of-table c).Start) (omega arith) (omega arith) }

pub returns-then-bit_outside : goal.returns-then-bit_outside
unfolding open_tests_wide number refusal_of
returns-then-bit_outside c =
    let table = table_of (goal.at.returns-then-bit_outside c).Start in
    refused (tests (goal.at.returns-then-bit_outside c).Start) 3
    (inr (known (goal.at.returns-then-bit_outside c).Else-kind, inr (sized table (omega arith) (omega arith), inl (refl, said_true (bit_outside_wide 8 table) (c.bit_outside.ensures ∙ sym (outside_table table)) c.if-bit_outside.true))))

pub returns-then-self_loop : goal.returns-then-self_loop
unfolding open_tests_wide number refusal_of
returns-then-self_loop c =
    let all = tests (goal.at.returns-then-self_loop c).Start in
    refused_behind (take 3 all) (drop 3 all) 4 (passed_3 (goal.at.returns-then-self_loop c).Else-bit_outside)
    (inl (refl, said_true (self_loop_wide 8 _) (c.self_loop.ensures ∙ sym (loop_table _)) c.if-self_loop.true))

pub returns-in-OneWay : goal.returns-in-OneWay
unfolding open_tests_wide refusal_of
returns-in-OneWay c =
    let all = tests (goal.at.returns-in-OneWay c).Start in
    accepted_behind (take 4 all) (drop 4 all) (passed_4 (goal.at.returns-in-OneWay c).Else-self_loop) (five_dropped _ _ c.in-OneWay.is, tt)

pub one_way-requires : goal.one_way-requires
one_way-requires c = sym c.bit_outside.ensures ∙ c.if-bit_outside.false

pub returns-then-one_way : goal.returns-then-one_way
unfolding open_tests_wide number refusal_of
returns-then-one_way c =
    let all = tests (goal.at.returns-then-one_way c).Start in
    refused_behind (take 4 all) (drop 4 all) 5 (passed_4 (goal.at.returns-then-one_way c).Else-self_loop)
    (inl (
      refl,
      five_tried _ _ c.in_default.is (said_true (one_way_wide 8 _) (c.one_way.ensures ∙ sym (one_way_table _)) c.if-one_way.true),
    ))

pub returns : goal.returns
unfolding open_tests_wide refusal_of
returns c =
    let all = tests (goal.at.returns c).Start in
    accepted_behind (take 4 all) (drop 4 all) (passed_4 (goal.at.returns c).Else-self_loop)
    (five_passed _ _ (said_false (one_way_wide 8 _) (c.one_way.ensures ∙ sym (one_way_table _)) c.if-one_way.false), tt)
