-- `conversion::to_rows` meets its contract: the tests on the lists come first, then that the output list has room; then the rows are written.
-- Assumes nothing.
use Prim.Native.Nat.{ℕ, ◌≤◌}
use mathlib.Core.Path.{◌≡◌, ap, ap₂, ◌∙◌}
use mathlib.Core.List.{List, ◌++◌}
use native.Mathlib.Omega.{arith}
use mathlib.Core.Option.{none}
use lib.ListN.{length, drop}
use Rattle.std.proofs.lemmas.Result.{err_from_is_err_and}
use Rattle.searches.specs.Answer.{first_refusal, number, refusal_of}
use Rattle.adjacency.specs.Layout.{size_of, rows_listed, listed_tests}
use Rattle.conversion.proofs.Answers.{layout_refused, rows_short, rows_fit, rows_kept, rows_done}
use Rattle.conversion.proofs.to_rows.Goals as goal
use Rattle.conversion.proofs.to_rows.Goals.{After-vertex_count, Else-rows-vertex_count, In_ok-layout}

-- no test on the lists holds
valid : (c : In_ok-layout)
    → let a = c.args in
    none ≡ first_refusal (listed_tests a.mark a.offsets.now a.neighbours.now)
unfolding refusal_of
valid c = c.in_ok-layout.ensures.refusal

-- so the layout is that of the lists
size : (c : After-vertex_count) → c.vertex_count.result ≡ size_of c.args.offsets.now
size c = c.vertex_count.ensures ∙ ap size_of c.in_ok-layout.ensures.lists.0

-- and the output list has room
enough : (c : Else-rows-vertex_count) → let a = c.args in size_of a.offsets.now ≤ length a.rows.now
enough c = omega (arith, c.if-rows-vertex_count.false, size (goal.at.Else-rows-vertex_count c).After-vertex_count)

pub returns-in_err-layout : goal.returns-in_err-layout
unfolding refusal_of
returns-in_err-layout c =
    let a = c.args in
    let p = err_from_is_err_and c.from_residual.result c.from_residual.ensures.1 in
    let answer = layout_refused a.mark a.offsets.now a.neighbours.now a.rows.now c.in_err-layout.ensures.refusal in
    record {
      answer = rw (p.1, p.2) answer;
      rows = rows_kept a.mark a.offsets.now a.neighbours.now a.rows.now answer;
    }

pub returns-then-rows-vertex_count : goal.returns-then-rows-vertex_count
unfolding number refusal_of
returns-then-rows-vertex_count c =
    let a = c.args in
    let answer = rows_short a.mark a.offsets.now a.neighbours.now a.rows.now (valid (goal.at.returns-then-rows-vertex_count c).In_ok-layout)
    (omega (arith, c.if-rows-vertex_count.true, size (goal.at.returns-then-rows-vertex_count c).After-vertex_count))
    in
    record {
      answer = answer;
      rows = rows_kept a.mark a.offsets.now a.neighbours.now a.rows.now answer;
    }

pub write_rows-requires : goal.write_rows-requires
write_rows-requires c = omega (arith, enough (goal.at.write_rows-requires c).Else-rows-vertex_count, ap size_of c.in_ok-layout.ensures.lists.0)

pub returns : goal.returns
unfolding refusal_of
returns c =
    let a = c.args in
    let answer = rows_fit a.mark a.offsets.now a.neighbours.now a.rows.now (valid (goal.at.returns c).In_ok-layout) (enough (goal.at.returns c).Else-rows-vertex_count) in
    record {
      answer = answer;
      rows = c.write_rows.ensures ∙ ap₂ (λ (o n : List ℕ). rows_listed o n ++ drop (size_of o) a.rows.now) c.in_ok-layout.ensures.lists.0 c.in_ok-layout.ensures.lists.1 ∙ rows_done a.mark a.offsets.now a.neighbours.now a.rows.now answer;
    }
