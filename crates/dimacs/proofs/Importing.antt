-- What import answers and leaves, refused and done.
--   tests_decide                     the tests on what the lines of a file came to decide as those on the file
--   plan_read                        where none of them holds, its points and rows are those of the plan
--   room_left                        and the output list has room for them
--   import_refused, import_done      the answer, and what is left in the output list
-- Assumes nothing.
use Prim.Native.Nat.{ℕ, ◌≤◌, ◌<◌}
use mathlib.Core.Path.{◌≡◌, sym, subst}
use mathlib.Core.List.{List, ◌++◌}
use mathlib.Core.Option.{none, some}
use lib.Dec.{ltb, nltb→le, not_T}
use lib.ListN.{length, drop}
use Rattle.searches.specs.Answer.{first_refusal}
use Rattle.searches.proofs.Refusals.{none_accepts}
use Rattle.edge_lines.specs.Reading.{most, told}
use Rattle.dimacs.specs.Import.{content, points, drawn_rows, import_tests, import_answer, import_output, read, refused}
use Rattle.dimacs.specs.Drawing.{blank, read_on, capped_lines, drawing_tests}
use Rattle.dimacs.specs.declared.draw.Drawing.{Drawing}
use Rattle.dimacs.proofs.Gathered.{Gathers, gathers}
use Rattle.dimacs.proofs.Tested.{tests_on, tests_same, Read, rows_same}

module _ (b out : List ℕ) where
  module _ {d : Drawing} (is : d ≡ read_on blank (capped_lines (told b))) where
    gathered : Gathers (content b) d
    unfolding content
    gathered = subst (λ (x : Drawing). Gathers (content b) x) (sym is) (gathers (told b))

    pub tests_decide : d.edges < most → first_refusal (drawing_tests d (length out)) ≡ first_refusal (import_tests b out)
    unfolding import_tests tests_on
    tests_decide few = tests_same (length out) gathered few

    pub plan_read : none ≡ first_refusal (import_tests b out) → Read (content b) d
    unfolding import_tests tests_on
    plan_read accepted = rows_same (length out) gathered accepted

  pub room_left : none ≡ first_refusal (import_tests b out) → points (content b) ≤ length out
  unfolding import_tests
  room_left accepted =
      nltb→le (length out) (points (content b)) (not_T (ltb (length out) (points (content b))) (none_accepts (import_tests b out) (sym accepted)).1.1.1.1.0)

  pub import_refused : {r : ℕ} → some r ≡ first_refusal (import_tests b out) → (refused r ≡ import_answer b out) × (out ≡ import_output b out)
  unfolding import_answer import_output
  import_refused e = (rw (sym e, import_answer), rw (sym e, import_output))

  pub import_done : none ≡ first_refusal (import_tests b out)
      → (read (points (content b)) ≡ import_answer b out) × (drawn_rows (content b) ++ drop (points (content b)) out ≡ import_output b out)
  unfolding import_answer import_output
  import_done e = (rw (sym e, import_answer), rw (sym e, import_output))
