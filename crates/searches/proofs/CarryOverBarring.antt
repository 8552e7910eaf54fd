-- Which passes carry over where vertices are barred: those that carry over in any graph.
--   carries_over_barring         a walk that judge passes for the first kind it passes for the second, whatever is barred
-- Assumes nothing.
use mathlib.Core.Path.{◌≡◌, sym, ◌∙◌}
use mathlib.Core.List.{List}
use Prim.Native.Nat.{ℕ, ◌<◌}
use lib.Dec.{T}
use lib.ListN.{length}
use Rattle.bitset.specs.Below.{count_below}
use Rattle.searches.specs.Kind.{search_of}
use Rattle.searches.specs.Ordering.{arcs}
use Rattle.searches.specs.Violation.{passes}
use Rattle.searches.specs.Without.{numbered, arcs_of}
use Rattle.searches.specs.Answer.{open_tests, Accepts, unbarred, open_tests_barring, judge_barring}
use Rattle.searches.specs.CarryOver.{carries}
use Rattle.searches.specs.declared.Mark.{Mark}
use Rattle.searches.proofs.Answers.{both_accept, valid_any_kind}
use Rattle.searches.proofs.Renumbered.{numbered_ordering}
use Rattle.searches.proofs.ComesBack.{passes_without, without_passes}
use Rattle.searches.proofs.Barring as barring
use Rattle.searches.proofs.CarryOver.{carries_over}

module _ (kind kind' : ℕ) (pair : T (carries (search_of kind) (search_of kind'))) (known : kind' < 7) where
  -- 02: K1 and K8
  pub carries_over_barring : (mark : Mark) (rows : List ℕ) (barred : ℕ) (w : List ℕ) → judge_barring kind mark rows barred w ≡ passes → judge_barring kind' mark rows barred w ≡ passes
  unfolding open_tests_barring
  carries_over_barring mark rows barred w p =
      let n = length rows in
      let kept = unbarred barred in
      let a = barring.passes_accepts kind mark rows barred w p in
      let x = barring.judged_kept kind mark rows barred w a in
      let valid : Accepts (open_tests_barring kind' mark rows barred) =
      both_accept (open_tests kind' mark rows) _ (valid_any_kind kind kind' mark rows known (barring.valid_graph kind mark rows barred x.0))
      (barring.valid_set kind mark rows barred x.0, tt)
      in
      barring.judge_accepted kind' mark rows barred w (barring.kept_judged kind' mark rows barred w valid x.1)
      ∙ without_passes (search_of kind') (arcs rows) n kept w (length w)
      (carries_over (search_of kind) (search_of kind') pair (arcs_of n kept (arcs rows)) (count_below n kept) (numbered kept w) (length w)
      (numbered_ordering n kept w (length w) x.1.ordering x.1.stays)
      (passes_without (search_of kind) (arcs rows) n kept w (length w) (sym (barring.judge_accepted kind mark rows barred w a) ∙ p)))
