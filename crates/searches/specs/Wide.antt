-- What judge and carry-on answer in the wide form, for every input: the graph is a table of m words a row, and m is 8. Nothing is barred.
--   bit_outside_wide, self_loop_wide, one_way_wide m table   a bit at or above n in some row; a vertex linked to itself; a link in one row only
--   open_tests_wide m kind mark table      what is refused of the kind and the graph: numbers and tests in order         [02, K12; 01: refusals]
--   judge_wide, carry_on_wide               what is answered                                                              [02, K12; 01: the calls]
--   output_wide m kind mark table t out k   what the output list then holds
--   SameGraph m rows table               the rows and the table give the same graph
--   wide_verdict_of                        a judgement of the code as the papers' number and values
use Rattle.std.specs.Prelude.{ℕ, ◌*◌, ◌%◌, ◌<◌, ◌≡◌, Bool, not, ◌&&◌, ◌||◌, List, [], ◌∷◌, ltb, leb, eqb, length, Result, Ok, Err}
use Rattle.std.proofs.Math.Option.{Option}
use Rattle.bitset.specs.Below.{any_below}
use Rattle.searches.specs.Kind.{search_of}
use Rattle.searches.specs.Ordering.{arcs}
use Rattle.searches.specs.Table.{arcs_wide, size_wide}
use Rattle.searches.specs.Violation.{Verdict, passes, fails, refused}
use Rattle.searches.specs.Answer.{is_two_way, number}
use Rattle.searches.specs.Form.{judge_tests_of, list_tests_of, carry_on_tests_of, judge_of, carry_on_of, output_of}
use Rattle.searches.specs.declared.Mark.{Mark}
use Rattle.searches.specs.declared.Judgement.{Judgement}
use Rattle.searches.specs.declared.Refusal.{Refusal}
use Rattle.searches.specs.declared.WideVertex.{WideVertex}

module _ (m : ℕ) where
  unfoldable pub bit_outside_wide : List ℕ → Bool
  bit_outside_wide table = any_below (size_wide m table) (λ u. any_below (64 * m) (λ v. leb (size_wide m table) v && arcs_wide m table u v))

  unfoldable pub self_loop_wide : List ℕ → Bool
  self_loop_wide table = any_below (size_wide m table) (λ u. arcs_wide m table u u)

  unfoldable pub one_way_wide : List ℕ → Bool
  one_way_wide table = any_below (size_wide m table) (λ u. any_below (size_wide m table) (λ v. arcs_wide m table u v && not (arcs_wide m table v u)))

  -- 2: the length is no multiple of a row's, or there are more vertices than a row has bits
  unfoldable pub open_tests_wide : ℕ → Mark → List ℕ → List (ℕ × Bool)
  open_tests_wide kind mark table =
      (1, ltb 6 kind)
      ∷ (2, not (eqb (length table % m) 0) || ltb (64 * m) (size_wide m table))
      ∷ (3, bit_outside_wide table)
      ∷ (4, self_loop_wide table)
      ∷ (5, is_two_way mark && one_way_wide table)
      ∷ []

  unfoldable pub judge_tests_wide : ℕ → Mark → List ℕ → List ℕ → List (ℕ × Bool)
  judge_tests_wide kind mark table w = judge_tests_of (open_tests_wide kind mark table) (size_wide m table) w

  unfoldable pub list_tests_wide : ℕ → Mark → List ℕ → List ℕ → List ℕ → ℕ → List (ℕ × Bool)
  list_tests_wide kind mark table t out k = list_tests_of (open_tests_wide kind mark table) (size_wide m table) t out k

  unfoldable pub carry_on_tests_wide : ℕ → Mark → List ℕ → List ℕ → List ℕ → ℕ → List (ℕ × Bool)
  carry_on_tests_wide kind mark table t out k = carry_on_tests_of (open_tests_wide kind mark table) (search_of kind) (arcs_wide m table) (size_wide m table) t out k

  unfoldable pub judge_wide : ℕ → Mark → List ℕ → List ℕ → Verdict
  judge_wide kind mark table w = judge_of (open_tests_wide kind mark table) (search_of kind) (arcs_wide m table) (size_wide m table) w

  unfoldable pub carry_on_wide : ℕ → Mark → List ℕ → List ℕ → List ℕ → ℕ → Option ℕ
  carry_on_wide kind mark table t out k = carry_on_of (open_tests_wide kind mark table) (search_of kind) (arcs_wide m table) (size_wide m table) t out k

  unfoldable pub output_wide : ℕ → Mark → List ℕ → List ℕ → List ℕ → ℕ → List ℕ
  output_wide kind mark table t out k = output_of (open_tests_wide kind mark table) (search_of kind) (arcs_wide m table) (size_wide m table) t out k

  -- as many vertices, a whole number of rows, and the same bits, also those at or above n
  pub record SameGraph (rows table : List ℕ) : Type 0 where
    pub as_many : length table ≡ m * length rows
    pub same_bits : (u v : ℕ) → u < length rows → arcs_wide m table u v ≡ arcs rows u v

unfoldable pub wide_verdict_of : Result (Judgement WideVertex) Refusal → Verdict
wide_verdict_of (Ok Judgement.Passes) = passes
wide_verdict_of (Ok (Judgement.Fails v)) = fails v.a.0 v.b.0 v.c.0
wide_verdict_of (Err r) = refused (number r)
