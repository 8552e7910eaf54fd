-- `dimacs::import::import` meets its contract: the lines are taken up, refused as the tests say, else the rows are written.
-- Assumes nothing.
use mathlib.Core.Path.{◌≡◌, sym, ap, ap₂, ◌∙◌}
use mathlib.Core.List.{List, ◌++◌}
use mathlib.Core.Option.{none}
use Prim.Native.Nat.{ℕ, ◌≤◌}
use native.Mathlib.Omega.{arith}
use borrow.Author.Rules.{rules}
use lib.ListN.{length, drop}
use lib.Seq.{length-take-le}
use Rattle.std.proofs.lemmas.Result.{err_from_is_err_and}
use Rattle.searches.specs.Answer.{first_refusal, refusal_of}
use Rattle.dimacs.specs.Import.{content, points, import_tests, read, imported_of}
use Rattle.dimacs.proofs.Tested.{Read}
use Rattle.dimacs.proofs.Importing.{tests_decide, plan_read, room_left, import_refused, import_done}
use Rattle.dimacs.proofs.import.import.Goals as goal
use Rattle.dimacs.proofs.import.import.Goals.{After-drawing_refusal, In_ok-drawing_refusal}

-- the tests on what was read are those on the file
decides : (c : After-drawing_refusal) → let a = c.args in refusal_of c.drawing_refusal.result ≡ first_refusal (import_tests a.file.now a.rows.now)
decides c =
    let a = c.args in
    let lines = c.read_lines-drawing in
    c.drawing_refusal.ensures ∙ tests_decide a.file.now a.rows.now lines.ensures.drawing lines.ensures.few

-- no test holds
accepted : (c : In_ok-drawing_refusal) → let a = c.args in none ≡ first_refusal (import_tests a.file.now a.rows.now)
unfolding refusal_of
accepted c = sym (ap refusal_of c.in_ok-drawing_refusal.was) ∙ decides (goal.at.In_ok-drawing_refusal c).After-drawing_refusal

plan : (c : In_ok-drawing_refusal) → let a = c.args in Read (content a.file.now) c.read_lines-drawing.result
plan c =
    let a = c.args in
    plan_read a.file.now a.rows.now c.read_lines-drawing.ensures.drawing (accepted c)

pub returns-in_err-drawing_refusal : goal.returns-in_err-drawing_refusal
unfolding refusal_of imported_of
returns-in_err-drawing_refusal c =
    let a = c.args in
    let whole = import_refused a.file.now a.rows.now (sym (ap refusal_of c.in_err-drawing_refusal.was) ∙ decides (goal.at.returns-in_err-drawing_refusal c).After-drawing_refusal) in
    let told = err_from_is_err_and c.from_residual.result c.from_residual.ensures.1 in
    rw (told.1, told.2) (record { answer = whole.0; rows = whole.1 })

-- there are as many rows as points, and the output list has room for them
drawn : (c : In_ok-drawing_refusal) → c.read_lines-drawing.result.n ≤ length c.read_lines-drawing.result.rows
drawn c =
    let full : length c.read_lines-drawing.result.rows ≡ 64 = search rules in
    omega (arith, (plan c).few)

room : (c : In_ok-drawing_refusal) → c.read_lines-drawing.result.n ≤ length c.args.rows.now
room c = let a = c.args in omega (arith, (plan c).points_read, room_left a.file.now a.rows.now (accepted c))

pub slice_bounds-copy_from_slice-end : goal.slice_bounds-copy_from_slice-end
slice_bounds-copy_from_slice-end c = room (goal.at.slice_bounds-copy_from_slice-end c).In_ok-drawing_refusal

pub slice_bounds-copy_from_slice-end-2 : goal.slice_bounds-copy_from_slice-end-2
slice_bounds-copy_from_slice-end-2 c = sym (length-take-le _ _ (room (goal.at.slice_bounds-copy_from_slice-end-2 c).In_ok-drawing_refusal))

pub shared_ref_as_front-copy_from_slice : goal.shared_ref_as_front-copy_from_slice
shared_ref_as_front-copy_from_slice c = (plan (goal.at.shared_ref_as_front-copy_from_slice c).In_ok-drawing_refusal).few

pub copy_from_slice-requires : goal.copy_from_slice-requires
copy_from_slice-requires c =
    length-take-le _ _ (room (goal.at.copy_from_slice-requires c).In_ok-drawing_refusal)
    ∙ sym (length-take-le _ _ (drawn (goal.at.copy_from_slice-requires c).In_ok-drawing_refusal))

pub returns : goal.returns
unfolding imported_of
returns c =
    let a = c.args in
    let read_there = plan (goal.at.returns c).In_ok-drawing_refusal in
    let done = import_done a.file.now a.rows.now (accepted (goal.at.returns c).In_ok-drawing_refusal) in
    record {
      answer = ap read read_there.points_read ∙ done.0;
      rows =
          ap (λ (rows : List ℕ). rows ++ drop c.read_lines-drawing.result.n a.rows.now) c.copy_from_slice.ensures.after
          ∙ ap₂ (λ (rows : List ℕ) (m : ℕ). rows ++ drop m a.rows.now) read_there.rows_read read_there.points_read ∙ done.1;
    }
