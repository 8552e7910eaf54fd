-- What the calls answer, in whatever form the graph is given: `tests` are what is refused of the graph in its form, `arc` and n are its arcs and its number of
-- vertices. With the tests on rows these are the answers of `Answer`, with those on tables the answers of `Wide`.
--   judge_tests_of, list_tests_of, carry_on_tests_of   what is refused: the tests on the graph, then those on the lists     [01: refusals]
--   judge_of, carry_on_of                         what is answered                                                     [01: the calls]
--   output_of tests s arc n t out k             what the output list then holds
use Rattle.std.specs.Prelude.{ℕ, Bool, not, ◌||◌, List, [], ◌∷◌, ◌++◌, ltb, eqb, length, drop}
use Rattle.std.proofs.Math.Option.{Option, none, some}
use Rattle.searches.specs.Kind.{Search}
use Rattle.searches.specs.Violation.{Verdict, refused, judge}
use Rattle.searches.specs.CarryOn.{carry_on}
use Rattle.searches.specs.Answer.{vertex_outside, repeated, is_pass, first_refusal}

module _ (tests : List (ℕ × Bool)) (n : ℕ) where
  unfoldable pub judge_tests_of : List ℕ → List (ℕ × Bool)
  judge_tests_of w =
      tests
      ++ (6, ltb n (length w))
      ∷ (8, vertex_outside n w (length w))
      ∷ (9, repeated w (length w))
      ∷ []

  -- what carry-on asks of its lists, before it judges the start
  unfoldable pub list_tests_of : List ℕ → List ℕ → ℕ → List (ℕ × Bool)
  list_tests_of t out k =
      tests
      ++ (6, ltb n k)
      ∷ (10, ltb (length out) n)
      ∷ (7, not (eqb (length t) n))
      ∷ (8, vertex_outside n out k || vertex_outside n t n)
      ∷ (9, repeated out k || repeated t n)
      ∷ []

module _ (tests : List (ℕ × Bool)) (s : Search) (arc : ℕ → ℕ → Bool) (n : ℕ) where
  unfoldable pub carry_on_tests_of : List ℕ → List ℕ → ℕ → List (ℕ × Bool)
  carry_on_tests_of t out k = list_tests_of tests n t out k ++ (12, not (is_pass (judge s arc n out k))) ∷ []

  unfoldable pub judge_of : List ℕ → Verdict
  judge_of w =
      elim (first_refusal (judge_tests_of tests n w)) [
        | none ↦ judge s arc n w (length w)
        | some r ↦ refused r
      ]

  unfoldable pub carry_on_of : List ℕ → List ℕ → ℕ → Option ℕ
  carry_on_of t out k = first_refusal (carry_on_tests_of t out k)

  -- on success the carried-on ordering, and behind it the entries that stood there; on refusal what it was
  unfoldable pub output_of : List ℕ → List ℕ → ℕ → List ℕ
  output_of t out k =
      elim (first_refusal (carry_on_tests_of t out k)) [
        | none ↦ carry_on s arc n t out k ++ drop n out
        | some r ↦ out
      ]
