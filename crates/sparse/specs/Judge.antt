-- What judge answers on adjacency lists, for every input: refusals first.                                              [02, K10: judge on this layout]
--   open_tests_listed, judge_tests_listed   what is refused, as on rows, with 26 in the place of 3
--   judge_listed                     what is answered: the verdict on the relation that the lists give
--   SameGraph rows offsets neighbours   rows and lists are of the same graph: as many vertices, the same arcs            [02, K10: the same plan]
use Rattle.std.specs.Prelude.{ℕ, suc, ◌<◌, ◌≡◌, Bool, List, [], ◌∷◌, ◌++◌, ltb, length}
use Rattle.std.proofs.Math.Option.{none, some}
use Rattle.searches.specs.Kind.{search_of}
use Rattle.searches.specs.Ordering.{arcs}
use Rattle.searches.specs.Violation.{Verdict, refused}
use Rattle.searches.specs.Without.{judge_without}
use Rattle.searches.specs.Answer.{first_refusal, vertex_outside, repeated, unbarred, barred_outside, barred_named}
use Rattle.searches.specs.declared.Mark.{Mark}
use Rattle.adjacency.specs.Layout.{size_of, arcs_listed, listed_tests}

unfoldable pub open_tests_listed : ℕ → Mark → List ℕ → List ℕ → ℕ → List (ℕ × Bool)
open_tests_listed kind mark offsets neighbours barred = (1, ltb 6 kind) ∷ listed_tests mark offsets neighbours ++ (23, barred_outside (size_of offsets) barred) ∷ []

unfoldable pub judge_tests_listed : ℕ → Mark → List ℕ → List ℕ → ℕ → List ℕ → List (ℕ × Bool)
judge_tests_listed kind mark offsets neighbours barred w =
    open_tests_listed kind mark offsets neighbours barred
    ++ (6, ltb (size_of offsets) (length w))
    ∷ (8, vertex_outside (size_of offsets) w (length w))
    ∷ (9, repeated w (length w))
    ∷ (24, barred_named barred w (length w))
    ∷ []

unfoldable pub judge_listed : ℕ → Mark → List ℕ → List ℕ → ℕ → List ℕ → Verdict
judge_listed kind mark offsets neighbours barred w =
    elim (first_refusal (judge_tests_listed kind mark offsets neighbours barred w)) [
      | none ↦ judge_without (search_of kind) (arcs_listed offsets neighbours) (size_of offsets) (unbarred barred) w (length w)
      | some r ↦ refused r
    ]

pub record SameGraph (rows offsets neighbours : List ℕ) : Type 0 where
  pub as_many : length offsets ≡ suc (length rows)
  pub same : (u v : ℕ) → u < length rows → v < length rows → arcs rows u v ≡ arcs_listed offsets neighbours u v
