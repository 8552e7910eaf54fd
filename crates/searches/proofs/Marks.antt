-- The mark of a graph, two-way or one-way: what 02 (K4) asks about it. All else that is proved of the calls' answers holds for every mark, and what is
-- proved of any graph knows none.
--   broken_off                                a part of a walk on a one-way graph: passes, begins a run, has no violation
--   five_two_way_open, five_two_way_judge, five_two_way_carry_on       refusal 5 is given for two-way graphs only
--   valid_both_ways                           every link of a valid two-way graph goes both ways
--   either_open, either_judge, either_carry_on   where every link goes both ways, both marks get the same answers
--   judge_tests_lem                               and judge's tests are the same
--   five_two_way_barring, either_open_barring, either_judge_barring, either_carry_on_barring, judge_tests_barring_lem   likewise where vertices are barred
-- Assumes nothing.
use mathlib.Core.Path.{◌≡◌, refl, sym, ap, ◌∙◌, subst}
use mathlib.Core.Logic.{⊎_elim, ◌↔◌}
use mathlib.Core.Bool.{Bool, true, false, not, ◌&&◌}
use mathlib.Core.List.{List, [], ◌∷◌}
use mathlib.Core.Option.{some}
use Prim.Native.Nat.{ℕ, ◌≤◌}
use lib.Dec.{T, eqb, eqb_refl, T_not}
use lib.ListN.{length, take}
use Rattle.bitset.proofs.Tests.{and_in, and_out, is_false}
use Rattle.searches.specs.Kind.{search_of}
use Rattle.searches.specs.Ordering.{arcs, IsOrdering}
use Rattle.searches.specs.Run.{BeginsRun}
use Rattle.searches.specs.Violation.{Violates, passes, refused}
use Rattle.searches.specs.Answer.{one_way, is_two_way, BothWays, open_tests, judge_tests, list_tests, carry_on_tests, first_refusal, Accepts, Refuses}
use Rattle.searches.specs.Answer.{judge_answer, open_answer, carry_on_answer, carry_on_output}
use Rattle.searches.specs.Answer.{open_tests_barring, judge_tests_barring, list_tests_barring, carry_on_tests_barring, open_barring, judge_barring, carry_on_barring, output_barring}
use Rattle.searches.specs.declared.Mark.{Mark}
use Rattle.searches.proofs.Refusals.{one_way-out, all_returned}
use Rattle.searches.proofs.DemandsBarring as barring
use Rattle.searches.proofs.Demands.{judge_refuses, open_refuses, carry_on_refuses, part_as_run, part_unfaulted}

-- ---- broken off on a one-way graph

-- 02: K4, whoever breaks off a walk on a one-way plan can rely on the same equivalence of run and triples: at every cut m of a walk of distinct points
-- judge passes the part exactly when some run begins with it, and some run begins with it exactly when no three points stand in the fault relation
pub broken_off : (kind : ℕ) (rows : List ℕ) → Accepts (open_tests kind Mark.OneWay rows) → (w : List ℕ) (k : ℕ) → IsOrdering (length rows) w k → (m : ℕ) → m ≤ k
    → ((judge_answer kind Mark.OneWay rows (take m w) ≡ passes) ↔ BeginsRun (search_of kind) (arcs rows) (length rows) w m)
    × (BeginsRun (search_of kind) (arcs rows) (length rows) w m ↔ ((i j c : ℕ) → Violates (search_of kind) (arcs rows) (length rows) w m i j c → ⊥))
broken_off kind rows valid w k o m cut =
    let run = part_as_run kind Mark.OneWay rows valid w k o m cut in
    let triples = part_unfaulted kind Mark.OneWay rows valid w k o m cut in
    (run, (λ b. triples.0 (run.1 b), λ unfaulted. run.0 (triples.1 unfaulted)))

-- ---- refusal 5

-- no test with number r holds
absent : ℕ → List (ℕ × Bool) → Bool
absent r [] = true
absent r (test ∷ tests) = not (eqb test.0 r && test.1) && absent r tests

absent_out : (r : ℕ) (tests : List (ℕ × Bool)) → T (absent r tests) → Refuses r tests → ⊥
unfolding absent
absent_out r [] t x = x
absent_out r (test ∷ tests) t x =
    let both = and_out (not (eqb test.0 r && test.1)) (absent r tests) t in
    ⊎_elim
    (λ here. T_not (eqb test.0 r && test.1) both.0
    (and_in (eqb test.0 r) test.1 (subst (λ (q : ℕ). T (eqb test.0 q)) here.0 (eqb_refl test.0)) here.1))
    (λ later. absent_out r tests both.1 later.1) x

-- 02: K4, refusal 5 is given for two-way plans only
module _ (kind : ℕ) (rows : List ℕ) where
  pub five_two_way_open : open_answer kind Mark.OneWay rows ≡ some 5 → ⊥
  unfolding absent open_tests is_two_way
  five_two_way_open e = absent_out 5 (open_tests kind Mark.OneWay rows) tt ((open_refuses kind Mark.OneWay rows 5).0 e)

  pub five_two_way_judge : (w : List ℕ) → judge_answer kind Mark.OneWay rows w ≡ refused 5 → ⊥
  unfolding absent open_tests judge_tests is_two_way
  five_two_way_judge w e = absent_out 5 (judge_tests kind Mark.OneWay rows w) tt ((judge_refuses kind Mark.OneWay rows w 5).0 e)

  pub five_two_way_carry_on : (t out : List ℕ) (k : ℕ) → carry_on_answer kind Mark.OneWay rows t out k ≡ some 5 → ⊥
  unfolding absent open_tests list_tests carry_on_tests is_two_way
  five_two_way_carry_on t out k e =
      absent_out 5 (carry_on_tests kind Mark.OneWay rows t out k) tt ((carry_on_refuses kind Mark.OneWay rows t out k 5).0 e)

-- 02: K8, nor where vertices are barred
module _ (kind : ℕ) (rows : List ℕ) (barred : ℕ) where
  pub five_two_way_barring : (open_barring kind Mark.OneWay rows barred ≡ some 5 → ⊥) × ((w : List ℕ) → judge_barring kind Mark.OneWay rows barred w ≡ refused 5 → ⊥)
      × ((t out : List ℕ) (k : ℕ) → carry_on_barring kind Mark.OneWay rows barred t out k ≡ some 5 → ⊥)
  unfolding absent open_tests open_tests_barring judge_tests_barring list_tests_barring carry_on_tests_barring is_two_way
  five_two_way_barring = (
    λ e. absent_out 5 (open_tests_barring kind Mark.OneWay rows barred) tt ((barring.open_refuses kind Mark.OneWay rows barred 5).0 e),
    λ w e. absent_out 5 (judge_tests_barring kind Mark.OneWay rows barred w) tt ((barring.judge_refuses kind Mark.OneWay rows barred w 5).0 e),
    λ t out k e. absent_out 5 (carry_on_tests_barring kind Mark.OneWay rows barred t out k) tt ((barring.carry_on_refuses kind Mark.OneWay rows barred t out k 5).0 e),
  )

-- ---- where every link goes both ways

both_ways_none : (rows : List ℕ) → BothWays rows → one_way rows ≡ false
both_ways_none rows both =
    is_false (one_way rows) (λ t. let x = one_way-out rows t in x.5 (subst (λ (b : Bool). T b) (both x.0 x.1 x.2 x.3) x.4))

-- in a two-way graph that is not refused with 5 every link goes both ways
pub valid_both_ways : (kind : ℕ) (mark : Mark) (rows : List ℕ) → Accepts (open_tests kind mark rows) → T (is_two_way mark) → BothWays rows
unfolding open_tests one_way
valid_both_ways kind mark rows valid two-way =
    all_returned (arcs rows) (length rows) (λ alone. valid.1.1.1.1.0 (and_in (is_two_way mark) (one_way rows) two-way alone))

-- 02: K4, such a plan is refused or not, judged and carried on alike under either mark
module _ (kind : ℕ) (mark mark' : Mark) (rows : List ℕ) (both : BothWays rows) where
  -- test 5 holds under neither mark
  five_alike : (is_two_way mark && one_way rows) ≡ (is_two_way mark' && one_way rows)
  five_alike = ap (λ (b : Bool). is_two_way mark && b) none_there ∙ neither (is_two_way mark) (is_two_way mark') ∙ sym (ap (λ (b : Bool). is_two_way mark' && b) none_there)
    where
      none_there : one_way rows ≡ false
      none_there = both_ways_none rows both

      neither : (a b : Bool) → (a && false) ≡ (b && false)
      neither true true = refl
      neither true false = refl
      neither false true = refl
      neither false false = refl

  open_tests_lem : open_tests kind mark rows ≡ open_tests kind mark' rows
  unfolding open_tests
  open_tests_lem = rw five_alike

  pub either_open : open_answer kind mark rows ≡ open_answer kind mark' rows
  unfolding open_answer
  either_open = ap first_refusal open_tests_lem

  pub judge_tests_lem : (w : List ℕ) → judge_tests kind mark rows w ≡ judge_tests kind mark' rows w
  unfolding judge_tests
  judge_tests_lem w = rw open_tests_lem

  pub either_judge : (w : List ℕ) → judge_answer kind mark rows w ≡ judge_answer kind mark' rows w
  unfolding judge_answer
  either_judge w = rw (ap first_refusal (judge_tests_lem w), judge_answer)

  carry_on-tests : (t out : List ℕ) (k : ℕ) → carry_on_tests kind mark rows t out k ≡ carry_on_tests kind mark' rows t out k
  unfolding carry_on_tests list_tests
  carry_on-tests t out k = rw open_tests_lem

  pub either_carry_on : (t out : List ℕ) (k : ℕ)
      → (carry_on_answer kind mark rows t out k ≡ carry_on_answer kind mark' rows t out k) × (carry_on_output kind mark rows t out k ≡ carry_on_output kind mark' rows t out k)
  unfolding carry_on_answer carry_on_output
  either_carry_on t out k = (ap first_refusal (carry_on-tests t out k), rw (ap first_refusal (carry_on-tests t out k), carry_on_output))

  -- ---- 02: K8, and so it is where vertices are barred

  open_tests_barring_lem : (barred : ℕ) → open_tests_barring kind mark rows barred ≡ open_tests_barring kind mark' rows barred
  unfolding open_tests_barring
  open_tests_barring_lem barred = rw open_tests_lem

  pub either_open_barring : (barred : ℕ) → open_barring kind mark rows barred ≡ open_barring kind mark' rows barred
  unfolding open_barring
  either_open_barring barred = ap first_refusal (open_tests_barring_lem barred)

  pub judge_tests_barring_lem : (barred : ℕ) (w : List ℕ) → judge_tests_barring kind mark rows barred w ≡ judge_tests_barring kind mark' rows barred w
  unfolding judge_tests_barring
  judge_tests_barring_lem barred w = rw (open_tests_barring_lem barred)

  pub either_judge_barring : (barred : ℕ) (w : List ℕ) → judge_barring kind mark rows barred w ≡ judge_barring kind mark' rows barred w
  unfolding judge_barring
  either_judge_barring barred w = rw (ap first_refusal (judge_tests_barring_lem barred w), judge_barring)

  carry_on-tests-barring : (barred : ℕ) (t out : List ℕ) (k : ℕ) → carry_on_tests_barring kind mark rows barred t out k ≡ carry_on_tests_barring kind mark' rows barred t out k
  unfolding carry_on_tests_barring list_tests_barring
  carry_on-tests-barring barred t out k = rw (open_tests_barring_lem barred)

  pub either_carry_on_barring : (barred : ℕ) (t out : List ℕ) (k : ℕ)
      → (carry_on_barring kind mark rows barred t out k ≡ carry_on_barring kind mark' rows barred t out k)
      × (output_barring kind mark rows barred t out k ≡ output_barring kind mark' rows barred t out k)
  unfolding carry_on_barring output_barring
  either_carry_on_barring barred t out k =
      (ap first_refusal (carry_on-tests-barring barred t out k), rw (ap first_refusal (carry_on-tests-barring barred t out k), output_barring))
