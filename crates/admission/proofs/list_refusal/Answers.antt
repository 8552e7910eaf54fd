-- `admission::list_refusal` meets its contract: each answer is given after the tests before it were tried.
-- Assumes nothing.
use mathlib.Core.Path.{refl, sym, ap, ◌∙◌}
use mathlib.Core.Bool.{Bool, not, ◌||◌}
use mathlib.Core.List.{List, [], ◌∷◌, ◌++◌}
use mathlib.Core.Logic.{inl, inr}
use Prim.Native.Nat.{ℕ, ◌/◌}
use native.Mathlib.Omega.{arith}
use borrow.Author.Tests.{eq-eqb, ne_eqb}
use lib.Dec.{T, ltb, eqb, ltb→lt, lt→ltb}
use lib.ListN.{length}
use Rattle.std.proofs.lemmas.Result.{err_from_is_err_and}
use Rattle.bitset.proofs.Tests.{said_true, said_false, or_inl, or_inr}
use Rattle.searches.specs.Table.{size_wide}
use Rattle.searches.specs.Answer.{Accepts, vertex_outside, repeated, number, refusal_of}
use Rattle.searches.specs.Form.{list_tests_of}
use Rattle.searches.specs.Wide.{open_tests_wide, list_tests_wide}
use Rattle.searches.proofs.Refusals.{none_accepts}
use Rattle.searches.proofs.WideAnswers.{wide_small}
use Rattle.searches.proofs.Forms.{both_accept}
use Rattle.admission.proofs.Tried.{refused_before, refused_behind, accepted_behind, neither, entries_fit}
use Rattle.admission.proofs.list_refusal.Goals as goal
use Rattle.admission.proofs.list_refusal.Goals.{Start, Else-n-k, Else-output-n, Else-tie_break-n, Else-vertex_outside, Else-vertex_outside-2, In_ok-graph_refusal, then-vertex_outside-via-then-vertex_outside, then-vertex_outside-via-else-vertex_outside+then-vertex_outside-2, then-repeated-via-then-repeated, then-repeated-via-else-repeated+then-repeated-2}

abbrev size_of : Start → ℕ
size_of c = length c.args.table.now / 8

abbrev tie_break_of : Start → List ℕ
tie_break_of c = c.args.tie_break.now

abbrev output_of : Start → List ℕ
output_of c = c.args.output.now

abbrev k_of : Start → ℕ
k_of c = c.args.k

abbrev first_tests : Start → List (ℕ × Bool)
first_tests c = open_tests_wide 8 c.args.kind.0 c.args.mark c.args.table.now

-- the tests on the lengths of the lists
abbrev lengths : Start → List (ℕ × Bool)
lengths c = (6, ltb (size_of c) (k_of c)) ∷ (10, ltb (length (output_of c)) (size_of c)) ∷ (7, not (eqb (length (tie_break_of c)) (size_of c))) ∷ []

-- and those on their entries
abbrev entries : Start → List (ℕ × Bool)
entries c =
    (8, vertex_outside (size_of c) (output_of c) (k_of c) || vertex_outside (size_of c) (tie_break_of c) (size_of c))
    ∷ (9, repeated (output_of c) (k_of c) || repeated (tie_break_of c) (size_of c))
    ∷ []

-- ---- the tests that do not hold

opened : (c : In_ok-graph_refusal) → Accepts (first_tests (goal.at.In_ok-graph_refusal c).Start)
unfolding refusal_of
opened c = none_accepts (first_tests (goal.at.In_ok-graph_refusal c).Start) (sym c.graph_refusal.ensures ∙ ap refusal_of c.in_ok-graph_refusal.was)

short : (c : Else-n-k) → T (ltb (size_of (goal.at.Else-n-k c).Start) (k_of (goal.at.Else-n-k c).Start)) → ⊥
short c t = omega (arith, ltb→lt (size_of (goal.at.Else-n-k c).Start) (k_of (goal.at.Else-n-k c).Start) t, c.if-n-k.false)

room : (c : Else-output-n) → T (ltb (length (output_of (goal.at.Else-output-n c).Start)) (size_of (goal.at.Else-output-n c).Start)) → ⊥
room c t = omega (arith, ltb→lt (length (output_of (goal.at.Else-output-n c).Start)) (size_of (goal.at.Else-output-n c).Start) t, c.if-output-n.false)

full : (c : Else-tie_break-n) → T (not (eqb (length (tie_break_of (goal.at.Else-tie_break-n c).Start)) (size_of (goal.at.Else-tie_break-n c).Start))) → ⊥
full c = said_false _ refl (ap not (eq-eqb _ _ c.if-tie_break-n.false))

start_inside : (c : Else-vertex_outside) → T (vertex_outside (size_of (goal.at.Else-vertex_outside c).Start) (output_of (goal.at.Else-vertex_outside c).Start) (k_of (goal.at.Else-vertex_outside c).Start)) → ⊥
start_inside c = said_false _ c.vertex_outside.ensures c.if-vertex_outside.false

tie_break_inside : (c : Else-vertex_outside-2)
    → T (vertex_outside (size_of (goal.at.Else-vertex_outside-2 c).Start) (tie_break_of (goal.at.Else-vertex_outside-2 c).Start) (size_of (goal.at.Else-vertex_outside-2 c).Start)) → ⊥
tie_break_inside c = said_false _ c.vertex_outside-else-vertex_outside.ensures c.if-vertex_outside-2.false

-- ---- the answers

pub returns-in_err-graph_refusal : goal.returns-in_err-graph_refusal
unfolding list_tests_wide list_tests_of size_wide refusal_of
returns-in_err-graph_refusal c =
    let p = err_from_is_err_and c.from_residual.result c.from_residual.ensures.1 in
    rw (p.1, p.2)
    (refused_before (first_tests (goal.at.returns-in_err-graph_refusal c).Start) (lengths (goal.at.returns-in_err-graph_refusal c).Start ++ entries (goal.at.returns-in_err-graph_refusal c).Start) (sym (ap refusal_of c.in_err-graph_refusal.was) ∙ c.graph_refusal.ensures))

pub returns-then-n-k : goal.returns-then-n-k
unfolding list_tests_wide list_tests_of size_wide number refusal_of
returns-then-n-k c =
    refused_behind (first_tests (goal.at.returns-then-n-k c).Start) (lengths (goal.at.returns-then-n-k c).Start ++ entries (goal.at.returns-then-n-k c).Start) 6 (opened (goal.at.returns-then-n-k c).In_ok-graph_refusal) (inl (refl, lt→ltb (size_of (goal.at.returns-then-n-k c).Start) (k_of (goal.at.returns-then-n-k c).Start) (omega (arith, c.if-n-k.true))))

pub returns-then-output-n : goal.returns-then-output-n
unfolding list_tests_wide list_tests_of size_wide number refusal_of
returns-then-output-n c =
    refused_behind (first_tests (goal.at.returns-then-output-n c).Start) (lengths (goal.at.returns-then-output-n c).Start ++ entries (goal.at.returns-then-output-n c).Start) 10 (opened (goal.at.returns-then-output-n c).In_ok-graph_refusal)
    (inr (short (goal.at.returns-then-output-n c).Else-n-k, inl (refl, lt→ltb (length (output_of (goal.at.returns-then-output-n c).Start)) (size_of (goal.at.returns-then-output-n c).Start) (omega (arith, c.if-output-n.true)))))

pub returns-then-tie_break-n : goal.returns-then-tie_break-n
unfolding list_tests_wide list_tests_of size_wide number refusal_of
returns-then-tie_break-n c =
    refused_behind (first_tests (goal.at.returns-then-tie_break-n c).Start) (lengths (goal.at.returns-then-tie_break-n c).Start ++ entries (goal.at.returns-then-tie_break-n c).Start) 7 (opened (goal.at.returns-then-tie_break-n c).In_ok-graph_refusal)
    (inr (short (goal.at.returns-then-tie_break-n c).Else-n-k, inr (room (goal.at.returns-then-tie_break-n c).Else-output-n, inl (refl, said_true _ refl (ap not (ne_eqb _ _ c.if-tie_break-n.true))))))

-- the tests up to those on the entries do not hold
passed_8 : (c : Else-tie_break-n) → Accepts (first_tests (goal.at.Else-tie_break-n c).Start ++ lengths (goal.at.Else-tie_break-n c).Start)
passed_8 c =
    both_accept (first_tests (goal.at.Else-tie_break-n c).Start) (lengths (goal.at.Else-tie_break-n c).Start) (opened (goal.at.Else-tie_break-n c).In_ok-graph_refusal) (short (goal.at.Else-tie_break-n c).Else-n-k, (room (goal.at.Else-tie_break-n c).Else-output-n, (full c, tt)))

pub returns-then-vertex_outside : goal.returns-then-vertex_outside
unfolding list_tests_wide list_tests_of open_tests_wide size_wide number refusal_of
returns-then-vertex_outside c =
    let a = vertex_outside (size_of (goal.at.returns-then-vertex_outside c).Start) (output_of (goal.at.returns-then-vertex_outside c).Start) (k_of (goal.at.returns-then-vertex_outside c).Start) in
    let b = vertex_outside (size_of (goal.at.returns-then-vertex_outside c).Start) (tie_break_of (goal.at.returns-then-vertex_outside c).Start) (size_of (goal.at.returns-then-vertex_outside c).Start) in
    refused_behind (first_tests (goal.at.returns-then-vertex_outside c).Start ++ lengths (goal.at.returns-then-vertex_outside c).Start) (entries (goal.at.returns-then-vertex_outside c).Start) 8 (passed_8 (goal.at.returns-then-vertex_outside c).Else-tie_break-n)
    (inl (
      refl,
      elim c.then-vertex_outside.branch [
        | then-vertex_outside-via-then-vertex_outside w ↦ or_inl a b (said_true a c.vertex_outside.ensures w.if-vertex_outside.true)
        | then-vertex_outside-via-else-vertex_outside+then-vertex_outside-2 w ↦ or_inr a b (said_true b w.vertex_outside-else-vertex_outside.ensures w.if-vertex_outside-2.true)
      ],
    ))

pub repeated-requires : goal.repeated-requires
unfolding size_wide
repeated-requires c =
    record {
      k_in_bounds = omega arith;
      by_index = entries_fit _ (wide_small 8 _ _ _ (opened (goal.at.repeated-requires c).In_ok-graph_refusal)) (start_inside (goal.at.repeated-requires c).Else-vertex_outside);
    }

pub repeated-requires-else-repeated : goal.repeated-requires-else-repeated
unfolding size_wide
repeated-requires-else-repeated c =
    record {
      k_in_bounds = omega arith;
      by_index = entries_fit _ (wide_small 8 _ _ _ (opened (goal.at.repeated-requires-else-repeated c).In_ok-graph_refusal)) (tie_break_inside (goal.at.repeated-requires-else-repeated c).Else-vertex_outside-2);
    }

-- nor does the test on what the entries are
inside : (c : Else-vertex_outside-2)
    → T (vertex_outside (size_of (goal.at.Else-vertex_outside-2 c).Start) (output_of (goal.at.Else-vertex_outside-2 c).Start) (k_of (goal.at.Else-vertex_outside-2 c).Start) || vertex_outside (size_of (goal.at.Else-vertex_outside-2 c).Start) (tie_break_of (goal.at.Else-vertex_outside-2 c).Start) (size_of (goal.at.Else-vertex_outside-2 c).Start)) → ⊥
inside c =
    neither (vertex_outside (size_of (goal.at.Else-vertex_outside-2 c).Start) (output_of (goal.at.Else-vertex_outside-2 c).Start) (k_of (goal.at.Else-vertex_outside-2 c).Start)) (vertex_outside (size_of (goal.at.Else-vertex_outside-2 c).Start) (tie_break_of (goal.at.Else-vertex_outside-2 c).Start) (size_of (goal.at.Else-vertex_outside-2 c).Start)) (start_inside (goal.at.Else-vertex_outside-2 c).Else-vertex_outside) (tie_break_inside c)

pub returns-then-repeated : goal.returns-then-repeated
unfolding list_tests_wide list_tests_of open_tests_wide size_wide number refusal_of
returns-then-repeated c =
    let a = repeated (output_of (goal.at.returns-then-repeated c).Start) (k_of (goal.at.returns-then-repeated c).Start) in
    let b = repeated (tie_break_of (goal.at.returns-then-repeated c).Start) (size_of (goal.at.returns-then-repeated c).Start) in
    refused_behind (first_tests (goal.at.returns-then-repeated c).Start ++ lengths (goal.at.returns-then-repeated c).Start) (entries (goal.at.returns-then-repeated c).Start) 9 (passed_8 (goal.at.returns-then-repeated c).Else-tie_break-n)
    (inr (
      inside (goal.at.returns-then-repeated c).Else-vertex_outside-2,
      inl (
        refl,
        elim c.then-repeated.branch [
          | then-repeated-via-then-repeated w ↦ or_inl a b (said_true a c.repeated.ensures w.if-repeated.true)
          | then-repeated-via-else-repeated+then-repeated-2 w ↦ or_inr a b (said_true b w.repeated-else-repeated.ensures w.if-repeated-2.true)
        ],
      ),
    ))

pub returns : goal.returns
unfolding list_tests_wide list_tests_of open_tests_wide size_wide refusal_of
returns c =
    let a = repeated (output_of (goal.at.returns c).Start) (k_of (goal.at.returns c).Start) in
    let b = repeated (tie_break_of (goal.at.returns c).Start) (size_of (goal.at.returns c).Start) in
    accepted_behind (first_tests (goal.at.returns c).Start ++ lengths (goal.at.returns c).Start) (entries (goal.at.returns c).Start) (passed_8 (goal.at.returns c).Else-tie_break-n) (
      inside (goal.at.returns c).Else-vertex_outside-2,
      (
        neither a b (said_false a c.repeated.ensures c.if-repeated.false) (said_false b c.repeated-else-repeated.ensures c.if-repeated-2.false),
        tt,
      ),
    )
