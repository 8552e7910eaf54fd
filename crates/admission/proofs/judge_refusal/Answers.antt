-- `admission::judge_refusal` meets its contract: each answer is given after the tests before it were tried.
-- Assumes nothing.
use mathlib.Core.Path.{refl, sym, ap, ◌∙◌}
use mathlib.Core.Bool.{Bool}
use mathlib.Core.List.{List}
use mathlib.Core.Logic.{inl, inr}
use Prim.Native.Nat.{ℕ, ◌/◌}
use native.Mathlib.Omega.{arith}
use lib.Dec.{T, ltb, ltb→lt, lt→ltb}
use lib.ListN.{length}
use Rattle.std.proofs.lemmas.Result.{err_from_is_err_and}
use Rattle.bitset.proofs.Tests.{said_true, said_false}
use Rattle.searches.specs.Table.{size_wide}
use Rattle.searches.specs.Answer.{Accepts, vertex_outside, repeated, number, refusal_of}
use Rattle.searches.specs.Form.{judge_tests_of}
use Rattle.searches.specs.Wide.{open_tests_wide, judge_tests_wide}
use Rattle.searches.proofs.Refusals.{none_accepts}
use Rattle.searches.proofs.WideAnswers.{wide_small}
use Rattle.admission.proofs.Tried.{refused_before, refused_behind, accepted_behind, entries_fit}
use Rattle.admission.proofs.judge_refusal.Goals as goal
use Rattle.admission.proofs.judge_refusal.Goals.{Start, Else-n-length, Else-vertex_outside, In_ok-graph_refusal}

abbrev table_of : Start → List ℕ
table_of c = c.args.table.now

abbrev ordering_of : Start → List ℕ
ordering_of c = c.args.ordering.now

abbrev first_tests : Start → List (ℕ × Bool)
first_tests c = open_tests_wide 8 c.args.kind.0 c.args.mark (table_of c)

-- ---- the tests that do not hold

opened : (c : In_ok-graph_refusal) → Accepts (first_tests (goal.at.In_ok-graph_refusal c).Start)
unfolding refusal_of
opened c = none_accepts (first_tests (goal.at.In_ok-graph_refusal c).Start) (sym c.graph_refusal.ensures ∙ ap refusal_of c.in_ok-graph_refusal.was)

short : (c : Else-n-length) → T (ltb (length (table_of (goal.at.Else-n-length c).Start) / 8) (length (ordering_of (goal.at.Else-n-length c).Start))) → ⊥
short c t = omega (arith, ltb→lt (length (table_of (goal.at.Else-n-length c).Start) / 8) (length (ordering_of (goal.at.Else-n-length c).Start)) t, c.if-n-length.false)

inside : (c : Else-vertex_outside)
    → T (vertex_outside (length (table_of (goal.at.Else-vertex_outside c).Start) / 8) (ordering_of (goal.at.Else-vertex_outside c).Start) (length (ordering_of (goal.at.Else-vertex_outside c).Start))) → ⊥
inside c = said_false _ c.vertex_outside.ensures c.if-vertex_outside.false

-- ---- the answers

pub returns-in_err-graph_refusal : goal.returns-in_err-graph_refusal
unfolding judge_tests_wide judge_tests_of refusal_of
returns-in_err-graph_refusal c =
    let p = err_from_is_err_and c.from_residual.result c.from_residual.ensures.1 in
    rw (p.1, p.2)
    (refused_before (first_tests (goal.at.returns-in_err-graph_refusal c).Start) _ (sym (ap refusal_of c.in_err-graph_refusal.was) ∙ c.graph_refusal.ensures))

pub returns-then-n-length : goal.returns-then-n-length
unfolding judge_tests_wide judge_tests_of size_wide number refusal_of
returns-then-n-length c =
    refused_behind (first_tests (goal.at.returns-then-n-length c).Start) _ 6 (opened (goal.at.returns-then-n-length c).In_ok-graph_refusal)
    (inl (refl, lt→ltb (length (table_of (goal.at.returns-then-n-length c).Start) / 8) (length (ordering_of (goal.at.returns-then-n-length c).Start)) (omega (arith, c.if-n-length.true))))

pub returns-then-vertex_outside : goal.returns-then-vertex_outside
unfolding judge_tests_wide judge_tests_of size_wide number refusal_of
returns-then-vertex_outside c =
    refused_behind (first_tests (goal.at.returns-then-vertex_outside c).Start) _ 8 (opened (goal.at.returns-then-vertex_outside c).In_ok-graph_refusal)
    (inr (short (goal.at.returns-then-vertex_outside c).Else-n-length, inl (refl, said_true (vertex_outside _ _ _) c.vertex_outside.ensures c.if-vertex_outside.true)))

pub repeated-requires : goal.repeated-requires
unfolding size_wide
repeated-requires c =
    record {
      k_in_bounds = omega arith;
      by_index = entries_fit _ (wide_small 8 _ _ _ (opened (goal.at.repeated-requires c).In_ok-graph_refusal)) (inside c);
    }

pub returns-then-repeated : goal.returns-then-repeated
unfolding judge_tests_wide judge_tests_of size_wide number refusal_of
returns-then-repeated c =
    refused_behind (first_tests (goal.at.returns-then-repeated c).Start) _ 9 (opened (goal.at.returns-then-repeated c).In_ok-graph_refusal)
    (inr (short (goal.at.returns-then-repeated c).Else-n-length, inr (inside (goal.at.returns-then-repeated c).Else-vertex_outside, inl (refl, said_true (repeated _ _) c.repeated.ensures c.if-repeated.true))))

pub returns : goal.returns
unfolding judge_tests_wide judge_tests_of size_wide refusal_of
returns c =
    accepted_behind (first_tests (goal.at.returns c).Start) _ (opened (goal.at.returns c).In_ok-graph_refusal)
    (short (goal.at.returns c).Else-n-length, (inside (goal.at.returns c).Else-vertex_outside, (said_false (repeated _ _) c.repeated.ensures c.if-repeated.false, tt)))
