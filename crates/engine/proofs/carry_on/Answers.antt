-- `engine::carry_on` meets its contract: refused as the checks say, else extended.
-- Assumes nothing.
use Prim.Native.Nat.{ℕ}
use mathlib.Core.Path.{◌≡◌, refl, sym, ◌∙◌}
use mathlib.Core.List.{List}
use mathlib.Core.Option.{none}
use lib.ListN.{length, take}
use Rattle.searches.specs.Answer.{open_tests, list_tests_barring, first_refusal, Accepts, refusal_of}
use Rattle.bitset.specs.Matrix.{Within}
use Rattle.lookup.specs.Columns.{Transposed}
use Rattle.lookup.proofs.Transposition.{first_columns, columns_within}
use Rattle.std.proofs.lemmas.Result.{err_from_is_err_and}
use Rattle.engine.specs.Lists.{Extendable}
use Rattle.engine.proofs.Calls.{valid_own_transpose, valid_within, carry_on_asked_refused, carry_on_asked_valid, carry_on_asked_accepted, carry_on_asked_last}
use Rattle.engine.proofs.carry_on.Goals as goal
use Rattle.engine.proofs.carry_on.Goals.{After-write_columns, In_default, In_ok-list_refusal}

pub returns-in_err-list_refusal : goal.returns-in_err-list_refusal
unfolding refusal_of
returns-in_err-list_refusal c =
    let a = c.args in
    let p = err_from_is_err_and c.from_residual.result c.from_residual.ensures.1 in
    let whole = carry_on_asked_refused a.kind.0 a.mark a.rows.now a.barred a.tie_break.now a.output.now a.k _ c.in_err-list_refusal.ensures in
    record { answer = rw (p.1, p.2) whole.0; output = whole.1 }

accepted : (c : In_ok-list_refusal)
    → let a = c.args in
    none ≡ first_refusal (list_tests_barring a.kind.0 a.mark a.rows.now a.barred a.tie_break.now a.output.now a.k)
unfolding refusal_of
accepted c = c.in_ok-list_refusal.ensures

-- the graph is valid
valid : (c : In_ok-list_refusal)
    → let a = c.args in
    Accepts (open_tests a.kind.0 a.mark a.rows.now)
valid c =
    let a = c.args in
    carry_on_asked_valid a.kind.0 a.mark a.rows.now a.barred a.tie_break.now a.output.now a.k (accepted c)

-- what is extended, on the rows and any columns of theirs
extendable : (c : In_ok-list_refusal)
    → let a = c.args in
    (columns : List ℕ) → Transposed a.rows.now columns → Extendable a.rows.now columns a.barred a.tie_break.now a.output.now a.k
extendable c columns transpose =
    let a = c.args in
    carry_on_asked_accepted a.kind.0 a.mark a.rows.now a.barred a.tie_break.now a.output.now a.k (accepted c) transpose

-- a two-way graph's rows
pub extend-requires : goal.extend-requires
extend-requires c =
    let a = c.args in
    extendable (goal.at.extend-requires c).In_ok-list_refusal _ (valid_own_transpose a.kind.0 a.mark a.rows.now (valid (goal.at.extend-requires c).In_ok-list_refusal) c.in-TwoWay.is)

pub returns-in-TwoWay : goal.returns-in-TwoWay
returns-in-TwoWay c =
    let a = c.args in
    let last = carry_on_asked_last a.kind.0 a.mark a.rows.now a.barred a.tie_break.now a.output.now a.k (accepted (goal.at.returns-in-TwoWay c).In_ok-list_refusal) in
    record {
      answer = c.extend.ensures.answer ∙ last.0;
      output = c.extend.ensures.output ∙ last.1;
    }

-- no row of a one-way graph has a bit outside
within : (c : In_default) → let a = c.args in Within a.rows.now
within c =
    let a = c.args in
    valid_within a.kind.0 a.mark a.rows.now (valid (goal.at.In_default c).In_ok-list_refusal)

pub write_columns-requires : goal.write_columns-requires
write_columns-requires c = (within (goal.at.write_columns-requires c).In_default, refl)

-- its rows, transposed
columns_there : (c : After-write_columns)
    → let rows = c.args.rows.now in
    Transposed rows (take (length rows) c.write_columns.new.columns)
columns_there c = first_columns _ (within (goal.at.After-write_columns c).In_default).small c.write_columns.ensures

pub slice_bounds-graph-end : goal.slice_bounds-graph-end
slice_bounds-graph-end c = sym (columns_there (goal.at.slice_bounds-graph-end c).After-write_columns).as_many

pub slice_bounds-columns-end : goal.slice_bounds-columns-end
slice_bounds-columns-end c = columns_within _ _ (columns_there c)

pub extend-requires-2 : goal.extend-requires-2
extend-requires-2 c = extendable (goal.at.extend-requires-2 c).In_ok-list_refusal _ (columns_there (goal.at.extend-requires-2 c).After-write_columns)

pub returns : goal.returns
returns c =
    let a = c.args in
    let last = carry_on_asked_last a.kind.0 a.mark a.rows.now a.barred a.tie_break.now a.output.now a.k (accepted (goal.at.returns c).In_ok-list_refusal) in
    record {
      answer = c.extend-2.ensures.answer ∙ last.0;
      output = c.extend-2.ensures.output ∙ last.1;
    }
