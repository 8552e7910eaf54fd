-- `conversion::to_lists` meets its contract: the tests on the rows come first, then that the output lists have room; then both are written.
-- Assumes nothing.
use Prim.Native.Nat.{◌≤◌, ◌<◌}
use mathlib.Core.Path.{◌≡◌, ◌∙◌}
use mathlib.Core.Option.{none}
use native.Mathlib.Omega.{arith}
use lib.ListN.{length}
use Rattle.std.proofs.lemmas.Result.{err_from_is_err_and}
use Rattle.searches.specs.Answer.{open_tests_barring, first_refusal, number, refusal_of}
use Rattle.checks.proofs.Tried.{rows_fit}
use Rattle.conversion.specs.Conversion.{neighbours_of, rows_tests}
use Rattle.conversion.proofs.Answers.{open_rows, rows_refused, offsets_short, neighbours_short, lists_fit, lists_kept, lists_done}
use Rattle.conversion.proofs.to_lists.Goals as goal
use Rattle.conversion.proofs.to_lists.Goals.{Else-neighbours-arc_count, In_ok-open_refusal}

-- no test on the rows holds
accepted : (c : In_ok-open_refusal) → let a = c.args in none ≡ first_refusal (open_tests_barring 0 a.mark a.rows.now 0)
unfolding refusal_of
accepted c = c.in_ok-open_refusal.ensures

valid : (c : In_ok-open_refusal) → let a = c.args in none ≡ first_refusal (rows_tests a.mark a.rows.now)
valid c = let a = c.args in accepted c ∙ open_rows a.mark a.rows.now

-- so there are at most 64
small : (c : In_ok-open_refusal) → length c.args.rows.now ≤ 64
small c = let a = c.args in rows_fit 0 a.mark a.rows.now 0 (accepted c)

-- and both lists have room
enough : (c : Else-neighbours-arc_count)
    → let a = c.args in
    (length a.rows.now < length a.offsets.now) × (length (neighbours_of a.rows.now) ≤ length a.neighbours.now)
enough c = (omega (arith, c.if-offsets-rows.false), omega (arith, c.if-neighbours-arc_count.false, c.arc_count.ensures))

pub returns-in_err-open_refusal : goal.returns-in_err-open_refusal
unfolding refusal_of
returns-in_err-open_refusal c =
    let a = c.args in
    let p = err_from_is_err_and c.from_residual.result c.from_residual.ensures.1 in
    let first = c.in_err-open_refusal.ensures ∙ open_rows a.mark a.rows.now in
    let answer = rows_refused a.mark a.rows.now a.offsets.now a.neighbours.now first in
    let kept = lists_kept a.mark a.rows.now a.offsets.now a.neighbours.now answer in
    record { answer = rw (p.1, p.2) answer; offsets = kept.0; neighbours = kept.1 }

pub returns-then-offsets-rows : goal.returns-then-offsets-rows
unfolding number refusal_of
returns-then-offsets-rows c =
    let a = c.args in
    let answer = offsets_short a.mark a.rows.now a.offsets.now a.neighbours.now (valid (goal.at.returns-then-offsets-rows c).In_ok-open_refusal) c.if-offsets-rows.true in
    let kept = lists_kept a.mark a.rows.now a.offsets.now a.neighbours.now answer in
    record { answer = answer; offsets = kept.0; neighbours = kept.1 }

pub arc_count-requires : goal.arc_count-requires
arc_count-requires c = small (goal.at.arc_count-requires c).In_ok-open_refusal

pub returns-then-neighbours-arc_count : goal.returns-then-neighbours-arc_count
unfolding number refusal_of
returns-then-neighbours-arc_count c =
    let a = c.args in
    let answer = neighbours_short a.mark a.rows.now a.offsets.now a.neighbours.now (valid (goal.at.returns-then-neighbours-arc_count c).In_ok-open_refusal) (omega (arith, c.if-neighbours-arc_count.true, c.arc_count.ensures)) in
    let kept = lists_kept a.mark a.rows.now a.offsets.now a.neighbours.now answer in
    record { answer = answer; offsets = kept.0; neighbours = kept.1 }

pub write_lists-requires : goal.write_lists-requires
write_lists-requires c = let long = enough (goal.at.write_lists-requires c).Else-neighbours-arc_count in (small (goal.at.write_lists-requires c).In_ok-open_refusal, long.0, long.1)

pub returns : goal.returns
unfolding refusal_of
returns c =
    let a = c.args in
    let answer = lists_fit a.mark a.rows.now a.offsets.now a.neighbours.now (valid (goal.at.returns c).In_ok-open_refusal) (enough (goal.at.returns c).Else-neighbours-arc_count).0 (enough (goal.at.returns c).Else-neighbours-arc_count).1 in
    let left = lists_done a.mark a.rows.now a.offsets.now a.neighbours.now answer in
    record { answer = answer; offsets = c.write_lists.ensures.offsets ∙ left.0; neighbours = c.write_lists.ensures.neighbours ∙ left.1 }
