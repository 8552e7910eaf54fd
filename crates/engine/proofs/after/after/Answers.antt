-- `engine::after::after` meets its contract: there is no moment after a refused ordering, and after any other there is one where the replay comes to its end.
-- Assumes nothing.
use mathlib.Core.Path.{◌≡◌, refl, sym, ap, ◌∙◌}
use mathlib.Core.Bool.{true, false}
use mathlib.Core.List.{List}
use mathlib.Core.Option.{none}
use Prim.Native.Nat.{ℕ}
use Rattle.std.proofs.Common.{Result, Ok, Err, is_ok}
use Rattle.std.specs.Bool.{⊤}
use lib.ListN.{length, take}
use Rattle.bitset.specs.Below.{first_below}
use Rattle.searches.specs.Kind.{search_of}
use Rattle.searches.specs.Answer.{open_tests, judge_tests_barring, judge_barring, first_refusal, Accepts, refusal_of, is_pass}
use Rattle.searches.specs.declared.Kind.{Kind}
use Rattle.searches.specs.declared.Mark.{Mark}
use Rattle.searches.specs.declared.Refusal.{Refusal}
use Rattle.lookup.specs.Columns.{Transposed}
use Rattle.lookup.proofs.Transposition.{columns_within}
use Rattle.searches.proofs.Marks.{valid_both_ways}
use Rattle.steps.specs.Steps.{whole, stops_at}
use Rattle.engine.proofs.Calls.{valid_within, replayable, judge_asked_valid, judge_asked_accepted, moment_refused, moment_stopped, ended_pass, moment_ended}
use Rattle.engine.proofs.after.after.Goals as goal
use Rattle.engine.proofs.after.after.Goals.{After-columns_of, After-replay-replayed, In_ok-ok}

-- an answer of the checks that is not `Ok` is a refusal,
not_passed : (kind : ℕ) (mark : Mark) (rows : List ℕ) (barred : ℕ) (w : List ℕ) (r : Result ⊤ Refusal) → false ≡ is_ok r
    → refusal_of r ≡ first_refusal (judge_tests_barring kind mark rows barred w) → false ≡ is_pass (judge_barring kind mark rows barred w)
unfolding refusal_of
not_passed kind mark rows barred w (Ok x) e asked = cc
not_passed kind mark rows barred w (Err r) e asked = moment_refused kind mark rows barred w _ asked

-- and with `Ok` none is refused
not_refused : (r : Result ⊤ Refusal) → true ≡ is_ok r → none ≡ refusal_of r
unfolding refusal_of
not_refused (Ok x) e = refl
not_refused (Err r) e = cc

pub returns-in_err-ok-clause-passes : goal.returns-in_err-ok-clause-passes
returns-in_err-ok-clause-passes c =
    let a = c.args in
    rw c.from_residual.ensures (not_passed a.kind.0 a.mark a.rows.now a.barred a.ordering.now c.judge_refusal.result c.in_err-ok.ensures.variant c.judge_refusal.ensures)

accepted : (c : In_ok-ok)
    → let a = c.args in
    none ≡ first_refusal (judge_tests_barring a.kind.0 a.mark a.rows.now a.barred a.ordering.now)
accepted c = not_refused c.judge_refusal.result c.in_ok-ok.ensures.variant ∙ c.judge_refusal.ensures

-- the graph is valid
valid : (c : In_ok-ok) → let a = c.args in Accepts (open_tests a.kind.0 a.mark a.rows.now)
valid c = let a = c.args in judge_asked_valid a.kind.0 a.mark a.rows.now a.barred a.ordering.now (accepted c)

pub columns_of-requires : goal.columns_of-requires
columns_of-requires c =
    let a = c.args in
    let graph = valid (goal.at.columns_of-requires c).In_ok-ok in
    (valid_within a.kind.0 a.mark a.rows.now graph, valid_both_ways a.kind.0 a.mark a.rows.now graph, refl)

-- what is counted in are the columns
columns_there : (c : After-columns_of)
    → let rows = c.args.rows.now in
    Transposed rows (take (length rows) c.columns_of.new.columns)
columns_there c = c.columns_of.ensures

pub slice_bounds-columns-end : goal.slice_bounds-columns-end
slice_bounds-columns-end c = columns_within _ _ (columns_there (goal.at.slice_bounds-columns-end c).After-columns_of)

pub replay-replayed-requires : goal.replay-replayed-requires
replay-replayed-requires c =
    let a = c.args in
    rw (c.empty-labels.ensures.words, c.empty-labels.ensures.smallest, c.empty-labels.ensures.largest, c.empty-labels.ensures.weights)
    (replayable a.rows.now a.barred a.ordering.now (length a.ordering.now)
    (judge_asked_accepted a.kind.0 a.mark a.rows.now a.barred a.ordering.now (accepted (goal.at.replay-replayed-requires c).In_ok-ok) (columns_there (goal.at.replay-replayed-requires c).After-columns_of)).0)

-- where the replay stops, in the search of this kind
stops : (c : After-replay-replayed)
    → let a = c.args in
    c.replay-replayed.result.count ≡ first_below (length a.ordering.now) (stops_at (search_of a.kind.0) a.rows.now (whole (length a.rows.now) a.barred) a.ordering.now)
stops c = rw c.empty-labels.ensures.kind at c.replay-replayed.ensures.count

pub returns-then-replayed-k-clause-passes : goal.returns-then-replayed-k-clause-passes
returns-then-replayed-k-clause-passes c =
    let a = c.args in
    let here = goal.at.returns-then-replayed-k-clause-passes c in
    moment_stopped a.kind.0 a.mark a.rows.now a.barred a.ordering.now (accepted here.In_ok-ok) (columns_there here.After-columns_of) c.replay-replayed.result.count
    (stops here.After-replay-replayed) c.if-replayed-k.true

pub returns : goal.returns
returns c =
    let a = c.args in
    let e = c.replay-replayed.ensures in
    let here = goal.at.returns c in
    let asked = accepted here.In_ok-ok in
    let columns = columns_there here.After-columns_of in
    let count = c.replay-replayed.result.count in
    record {
      passes = ended_pass a.kind.0 a.mark a.rows.now a.barred a.ordering.now asked columns count (stops here.After-replay-replayed) c.if-replayed-k.false;
      moment =
          moment_ended a.kind.0 a.mark a.rows.now a.barred a.ordering.now asked columns count (stops here.After-replay-replayed) c.if-replayed-k.false
          e.free (ap (λ (k : Kind). k.0) (e.kind ∙ c.empty-labels.ensures.kind)) e.words;
    }
