-- `engine::judge` meets its contract: refused as the checks say, else the verdict.
-- Assumes nothing.
use Prim.Native.Nat.{ℕ}
use mathlib.Core.Path.{◌≡◌, refl, sym, ◌∙◌}
use mathlib.Core.List.{List}
use mathlib.Core.Option.{none}
use lib.ListN.{length, take}
use Rattle.searches.specs.Kind.{search_of}
use Rattle.searches.specs.Ordering.{arcs}
use Rattle.searches.specs.Without.{judge_without}
use Rattle.searches.specs.Answer.{open_tests, first_refusal, Accepts, unbarred, judge_tests_barring, judge_barring, verdict_of, refusal_of}
use Rattle.bitset.specs.Matrix.{Within}
use Rattle.lookup.specs.Columns.{Transposed}
use Rattle.lookup.proofs.Transposition.{first_columns, columns_within}
use Rattle.std.proofs.lemmas.Result.{err_from_is_err_and}
use Rattle.engine.specs.Lists.{Judgeable}
use Rattle.engine.proofs.Calls.{valid_own_transpose, valid_within, judge_asked_refused, judge_asked_valid, judge_asked_accepted}
use Rattle.engine.proofs.judge.Goals as goal
use Rattle.engine.proofs.judge.Goals.{After-write_columns, In-TwoWay, In_default, In_ok-judge_refusal}

pub returns-in_err-judge_refusal : goal.returns-in_err-judge_refusal
unfolding verdict_of refusal_of
returns-in_err-judge_refusal c =
    let a = c.args in
    let p = err_from_is_err_and c.from_residual.result c.from_residual.ensures.1 in
    rw (p.1, p.2) (judge_asked_refused a.kind.0 a.mark a.rows.now a.barred a.ordering.now _ c.in_err-judge_refusal.ensures)

accepted : (c : In_ok-judge_refusal)
    → let a = c.args in
    none ≡ first_refusal (judge_tests_barring a.kind.0 a.mark a.rows.now a.barred a.ordering.now)
unfolding refusal_of
accepted c = c.in_ok-judge_refusal.ensures

-- the graph is valid
valid : (c : In_ok-judge_refusal) → let a = c.args in Accepts (open_tests a.kind.0 a.mark a.rows.now)
valid c = let a = c.args in judge_asked_valid a.kind.0 a.mark a.rows.now a.barred a.ordering.now (accepted c)

-- what is judged, on the rows and any columns of theirs
judgeable : (c : In_ok-judge_refusal)
    → let a = c.args in
    (columns : List ℕ) → Transposed a.rows.now columns
    → Judgeable a.rows.now columns a.barred a.ordering.now (length a.ordering.now)
    × (judge_without (search_of a.kind.0) (arcs a.rows.now) (length a.rows.now) (unbarred a.barred) a.ordering.now (length a.ordering.now)
    ≡ judge_barring a.kind.0 a.mark a.rows.now a.barred a.ordering.now)
judgeable c columns transpose =
    let a = c.args in
    judge_asked_accepted a.kind.0 a.mark a.rows.now a.barred a.ordering.now (accepted c) transpose

-- a two-way graph's rows
own : (c : In-TwoWay) → let a = c.args in Transposed a.rows.now a.rows.now
own c =
    let a = c.args in
    valid_own_transpose a.kind.0 a.mark a.rows.now (valid (goal.at.In-TwoWay c).In_ok-judge_refusal) c.in-TwoWay.is

pub verdict-requires : goal.verdict-requires
verdict-requires c = (judgeable (goal.at.verdict-requires c).In_ok-judge_refusal _ (own c)).0

pub returns-in-TwoWay : goal.returns-in-TwoWay
returns-in-TwoWay c = c.verdict.ensures ∙ (judgeable (goal.at.returns-in-TwoWay c).In_ok-judge_refusal _ (own (goal.at.returns-in-TwoWay c).In-TwoWay)).1

-- no row of a one-way graph has a bit outside
within : (c : In_default) → let a = c.args in Within a.rows.now
within c = let a = c.args in valid_within a.kind.0 a.mark a.rows.now (valid (goal.at.In_default c).In_ok-judge_refusal)

pub write_columns-requires : goal.write_columns-requires
write_columns-requires c = (within (goal.at.write_columns-requires c).In_default, refl)

-- its rows, transposed
columns_there : (c : After-write_columns)
    → let rows = c.args.rows.now in
    Transposed rows (take (length rows) c.write_columns.new.columns)
columns_there c = first_columns _ (within (goal.at.After-write_columns c).In_default).small c.write_columns.ensures

pub slice_bounds-graph-end : goal.slice_bounds-graph-end
slice_bounds-graph-end c = sym (columns_there (goal.at.slice_bounds-graph-end c).After-write_columns).as_many

pub slice_bounds-columns-end : goal.slice_bounds-columns-end
slice_bounds-columns-end c = columns_within _ _ (columns_there c)

pub verdict-requires-2 : goal.verdict-requires-2
verdict-requires-2 c = (judgeable (goal.at.verdict-requires-2 c).In_ok-judge_refusal _ (columns_there (goal.at.verdict-requires-2 c).After-write_columns)).0

pub returns : goal.returns
returns c = c.verdict-2.ensures ∙ (judgeable (goal.at.returns c).In_ok-judge_refusal _ (columns_there (goal.at.returns c).After-write_columns)).1
