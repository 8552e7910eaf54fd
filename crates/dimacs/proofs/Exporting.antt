-- What export answers and leaves, refused and done.
--   accepted_two_way                 a graph that is not refused is not refused as one marked two-way
--   graph_refused, output_short, text_fits   the first refusal: for the graph, for an output list that is too short, and none
--   export_refused, export_done      the answer, and what is left in the output list
--   filled_part                      the part of a buffer to which a text was written is the text
-- Assumes nothing.
use Prim.Native.Nat.{ℕ, ◌≤◌, ◌<◌}
use mathlib.Core.Path.{◌≡◌, sym, ap₂, ◌∙◌}
use mathlib.Core.Bool.{Bool}
use mathlib.Core.List.{List, [], ◌∷◌, ◌++◌}
use mathlib.Core.Option.{none, some}
use native.Mathlib.Omega.{arith}
use lib.Dec.{ltb, ltb→lt, lt→ltb}
use lib.ListN.{length, take, drop}
use lib.Seq.{sets, take-append_seam}
use Rattle.bitset.proofs.Tests.{is_true, is_false}
use Rattle.searches.specs.Answer.{is_two_way, two_way_tests, first_refusal}
use Rattle.searches.specs.declared.Mark.{Mark}
use Rattle.searches.proofs.Refusals.{none_accepts}
use Rattle.checks.proofs.Tried.{Tried, tried_one, tried_first, refused_here, refused_before, accepted_here}
use Rattle.wording.proofs.Writing.{front_left}
use Rattle.dimacs.specs.Export.{edge_file, export_tests, export_answer, export_output, written, refused}

pub accepted_two_way : (mark : Mark) (rows : List ℕ) → none ≡ first_refusal (two_way_tests mark rows) → first_refusal (two_way_tests Mark.TwoWay rows) ≡ none
unfolding two_way_tests is_two_way
accepted_two_way Mark.TwoWay rows e = sym e
accepted_two_way Mark.OneWay rows e = absurd ((none_accepts (two_way_tests Mark.OneWay rows) (sym e)).1.1.1.0 tt)

module _ (mark : Mark) (rows out : List ℕ) where
  -- ---- the first refusal

  abbrev short : Bool
  short = ltb (length out) (length (edge_file rows))

  pub graph_refused : {r : ℕ} → some r ≡ first_refusal (two_way_tests mark rows) → some r ≡ first_refusal (export_tests mark rows out)
  unfolding export_tests
  graph_refused e = refused_before (two_way_tests mark rows) ((10, short) ∷ []) e

  module _ (accepted : none ≡ first_refusal (two_way_tests mark rows)) where
    last : Tried (export_tests mark rows out) ((10, ltb (length out) (length (edge_file rows))) ∷ [])
    unfolding export_tests
    last = tried_first (two_way_tests mark rows) ((10, short) ∷ []) accepted

    pub output_short : length out < length (edge_file rows) → some 10 ≡ first_refusal (export_tests mark rows out)
    output_short l = refused_here last (is_true short (lt→ltb (length out) (length (edge_file rows)) l))

    pub text_fits : length (edge_file rows) ≤ length out → none ≡ first_refusal (export_tests mark rows out)
    text_fits l = accepted_here (tried_one last (is_false short (λ t. let less = ltb→lt (length out) (length (edge_file rows)) t in omega arith)))

  -- ---- the answer and the output list

  pub export_refused : {r : ℕ} → some r ≡ first_refusal (export_tests mark rows out) → (refused r ≡ export_answer mark rows out) × (out ≡ export_output mark rows out)
  unfolding export_answer export_output
  export_refused e = (rw (sym e, export_answer), rw (sym e, export_output))

  pub export_done : none ≡ first_refusal (export_tests mark rows out)
      → (written (length (edge_file rows)) ≡ export_answer mark rows out) × (edge_file rows ++ drop (length (edge_file rows)) out ≡ export_output mark rows out)
  unfolding export_answer export_output
  export_done e = (rw (sym e, export_answer), rw (sym e, export_output))

-- ---- a text written to the front of a buffer

pub filled_part : (buffer text : List ℕ) {filled : List ℕ} {m : ℕ} → length text ≤ length buffer → filled ≡ sets buffer 0 text → m ≡ length text → take m filled ≡ text
filled_part buffer text fits at_out at-end =
    ap₂ (λ (n : ℕ) (l : List ℕ). take n l) at-end (at_out ∙ front_left buffer text fits) ∙ take-append_seam text (drop (length text) buffer)
