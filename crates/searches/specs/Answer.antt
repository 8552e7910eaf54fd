-- What the calls answer, for every input: refusals first. The functions' promises are equations with these.
--   bit_outside, self_loop, one_way rows    a bit at or above n in some row; a vertex linked to itself; a link in one row only
--   is_two_way mark                        the graph is marked two-way                                        [02, K4: the mark]
--   BothWays rows                        every link goes both ways
--   vertex_outside n w k, repeated w k    one of the first k entries of w is n or more; one stands there twice
--   open_tests, judge_tests, list_tests, carry_on_tests   what is refused: numbers and tests in 01's order        [01: refusals]
--   first_refusal tests                   the number of the first test that holds
--   Accepts tests, Refuses r tests       no test holds; the first test that holds has number r
--   judge_answer, open_answer, carry_on_answer   what is answered                                               [01: the calls]
--   carry_on_output kind mark rows t out k   what the output list then holds
--   unbarred barred v                    v is in service: it is not one of the barred vertices               [02, K8: barred points]
--   barred_outside n barred, barred_named barred w k   a bit at or above n in the barred set; a barred vertex among the first k entries of w
--   open_tests_barring, judge_tests_barring, list_tests_barring, carry_on_tests_barring   what is refused where vertices are barred: on the whole graph     [02: K8]
--   ordering_tests n barred w               the part of judge's tests that is on the ordering, for a graph of n vertices in any form
--   open_barring, judge_barring, carry_on_barring, output_barring   what is answered, and left in the output list, where vertices are barred: that of
--                                        the graph without them                                              [02: K8]
--   two_way_tests mark rows                what is refused where only a two-way graph is accepted               [02: K9]
--   number, verdict_of, refusal_of         a refusal, a judgement and the refusal in an answer of the code as the papers' number and values
use Rattle.std.specs.Prelude.{ℕ, ◌<◌, ◌≡◌, ◌⊎◌, Bool, true, false, cond, not, ◌&&◌, ◌||◌, List, [], ◌∷◌, ◌++◌, T, ltb, leb, eqb, length, drop, Result, Ok, Err}
use Rattle.std.proofs.Math.Option.{Option, none, some}
use Rattle.bitset.specs.Below.{any_below, count_below}
use Rattle.bitset.specs.Word.{member}
use Rattle.searches.specs.Kind.{search_of}
use Rattle.searches.specs.Ordering.{arcs, at}
use Rattle.searches.specs.Violation.{Verdict, passes, fails, refused, judge}
use Rattle.searches.specs.CarryOn.{carry_on}
use Rattle.searches.specs.Without.{judge_without, carry_on_without}
use Rattle.searches.specs.declared.Mark.{Mark}
use Rattle.searches.specs.declared.Refusal.{Refusal}
use Rattle.searches.specs.declared.Judgement.{Judgement}
use Rattle.searches.specs.declared.Vertex.{Vertex}

unfoldable pub bit_outside : List ℕ → Bool
bit_outside rows = any_below (length rows) (λ u. any_below 64 (λ v. leb (length rows) v && arcs rows u v))

unfoldable pub self_loop : List ℕ → Bool
self_loop rows = any_below (length rows) (λ u. arcs rows u u)

unfoldable pub one_way : List ℕ → Bool
one_way rows = any_below (length rows) (λ u. any_below (length rows) (λ v. arcs rows u v && not (arcs rows v u)))

unfoldable pub is_two_way : Mark → Bool
is_two_way Mark.TwoWay = true
is_two_way Mark.OneWay = false

abbrev pub BothWays : List ℕ → Type 0
BothWays rows = (u v : ℕ) → u < length rows → v < length rows → arcs rows u v ≡ arcs rows v u

unfoldable pub vertex_outside : ℕ → List ℕ → ℕ → Bool
vertex_outside n w k = any_below k (λ p. leb n (at w p))

unfoldable pub repeated : List ℕ → ℕ → Bool
repeated w k = any_below k (λ q. any_below q (λ p. eqb (at w p) (at w q)))

unfoldable pub is_pass : Verdict → Bool
is_pass passes = true
is_pass (fails a b c) = false
is_pass (refused r) = false

unfoldable pub open_tests : ℕ → Mark → List ℕ → List (ℕ × Bool)
open_tests kind mark rows =
    (1, ltb 6 kind)
    ∷ (2, ltb 64 (length rows))
    ∷ (3, bit_outside rows)
    ∷ (4, self_loop rows)
    ∷ (5, is_two_way mark && one_way rows)
    ∷ []

unfoldable pub judge_tests : ℕ → Mark → List ℕ → List ℕ → List (ℕ × Bool)
judge_tests kind mark rows w =
    open_tests kind mark rows
    ++ (6, ltb (length rows) (length w))
    ∷ (8, vertex_outside (length rows) w (length w))
    ∷ (9, repeated w (length w))
    ∷ []

-- what carry-on asks of its lists, before it judges the start
unfoldable pub list_tests : ℕ → Mark → List ℕ → List ℕ → List ℕ → ℕ → List (ℕ × Bool)
list_tests kind mark rows t out k =
    let n = length rows in
    open_tests kind mark rows
    ++ (6, ltb n k)
    ∷ (10, ltb (length out) n)
    ∷ (7, not (eqb (length t) n))
    ∷ (8, vertex_outside n out k || vertex_outside n t n)
    ∷ (9, repeated out k || repeated t n)
    ∷ []

unfoldable pub carry_on_tests : ℕ → Mark → List ℕ → List ℕ → List ℕ → ℕ → List (ℕ × Bool)
carry_on_tests kind mark rows t out k =
    list_tests kind mark rows t out k ++ (12, not (is_pass (judge (search_of kind) (arcs rows) (length rows) out k))) ∷ []

unfoldable pub first_refusal : List (ℕ × Bool) → Option ℕ
first_refusal [] = none
first_refusal (test ∷ tests) = let later = first_refusal tests in cond test.1 (some test.0) later

abbrev pub Accepts : List (ℕ × Bool) → Type 0
Accepts [] = Unit {0}
Accepts (test ∷ tests) = (T test.1 → ⊥) × Accepts tests

abbrev pub Refuses : ℕ → List (ℕ × Bool) → Type 0
Refuses r [] = ⊥
Refuses r (test ∷ tests) = ((test.0 ≡ r) × T test.1) ⊎ ((T test.1 → ⊥) × Refuses r tests)

unfoldable pub judge_answer : ℕ → Mark → List ℕ → List ℕ → Verdict
judge_answer kind mark rows w =
    elim (first_refusal (judge_tests kind mark rows w)) [
      | none ↦ judge (search_of kind) (arcs rows) (length rows) w (length w)
      | some r ↦ refused r
    ]

unfoldable pub open_answer : ℕ → Mark → List ℕ → Option ℕ
open_answer kind mark rows = first_refusal (open_tests kind mark rows)

module _ (kind : ℕ) (mark : Mark) (rows t out : List ℕ) (k : ℕ) where
  unfoldable pub carry_on_answer : Option ℕ
  carry_on_answer = first_refusal (carry_on_tests kind mark rows t out k)

  -- on success the carried-on ordering, and behind it the bytes that stood there; on refusal what it was
  unfoldable pub carry_on_output : List ℕ
  carry_on_output =
      elim (first_refusal (carry_on_tests kind mark rows t out k)) [
        | none ↦ carry_on (search_of kind) (arcs rows) (length rows) t out k ++ drop (length rows) out
        | some r ↦ out
      ]

-- ---- with vertices out of service: the tests are on the whole graph, the answers those of the graph without them

unfoldable pub unbarred : ℕ → ℕ → Bool
unbarred barred v = not (member barred v)

unfoldable pub barred_outside : ℕ → ℕ → Bool
barred_outside n barred = any_below 64 (λ v. leb n v && member barred v)

unfoldable pub barred_named : ℕ → List ℕ → ℕ → Bool
barred_named barred w k = any_below k (λ p. member barred (at w p))

unfoldable pub open_tests_barring : ℕ → Mark → List ℕ → ℕ → List (ℕ × Bool)
open_tests_barring kind mark rows barred = open_tests kind mark rows ++ (23, barred_outside (length rows) barred) ∷ []

unfoldable pub judge_tests_barring : ℕ → Mark → List ℕ → ℕ → List ℕ → List (ℕ × Bool)
judge_tests_barring kind mark rows barred w =
    open_tests_barring kind mark rows barred
    ++ (6, ltb (length rows) (length w))
    ∷ (8, vertex_outside (length rows) w (length w))
    ∷ (9, repeated w (length w))
    ∷ (24, barred_named barred w (length w))
    ∷ []

-- what is refused of an ordering, once the graph is accepted
unfoldable pub ordering_tests : ℕ → ℕ → List ℕ → List (ℕ × Bool)
ordering_tests n barred w =
    (6, ltb n (length w))
    ∷ (8, vertex_outside n w (length w))
    ∷ (9, repeated w (length w))
    ∷ (24, barred_named barred w (length w))
    ∷ []

-- 24 is on the start: a tie-break names all vertices, and the barred ones are passed over
unfoldable pub list_tests_barring : ℕ → Mark → List ℕ → ℕ → List ℕ → List ℕ → ℕ → List (ℕ × Bool)
list_tests_barring kind mark rows barred t out k =
    open_tests_barring kind mark rows barred
    ++ (6, ltb (length rows) k)
    ∷ (10, ltb (length out) (length rows))
    ∷ (7, not (eqb (length t) (length rows)))
    ∷ (8, vertex_outside (length rows) out k || vertex_outside (length rows) t (length rows))
    ∷ (9, repeated out k || repeated t (length rows))
    ∷ (24, barred_named barred out k)
    ∷ []

unfoldable pub carry_on_tests_barring : ℕ → Mark → List ℕ → ℕ → List ℕ → List ℕ → ℕ → List (ℕ × Bool)
carry_on_tests_barring kind mark rows barred t out k =
    list_tests_barring kind mark rows barred t out k
    ++ (12, not (is_pass (judge_without (search_of kind) (arcs rows) (length rows) (unbarred barred) out k)))
    ∷ []

unfoldable pub open_barring : ℕ → Mark → List ℕ → ℕ → Option ℕ
open_barring kind mark rows barred = first_refusal (open_tests_barring kind mark rows barred)

unfoldable pub judge_barring : ℕ → Mark → List ℕ → ℕ → List ℕ → Verdict
judge_barring kind mark rows barred w =
    elim (first_refusal (judge_tests_barring kind mark rows barred w)) [
      | none ↦ judge_without (search_of kind) (arcs rows) (length rows) (unbarred barred) w (length w)
      | some r ↦ refused r
    ]

module _ (kind : ℕ) (mark : Mark) (rows : List ℕ) (barred : ℕ) (t out : List ℕ) (k : ℕ) where
  unfoldable pub carry_on_barring : Option ℕ
  carry_on_barring = first_refusal (carry_on_tests_barring kind mark rows barred t out k)

  -- on success as many vertices as are not barred, and behind them the bytes that stood there; on refusal what it was
  unfoldable pub output_barring : List ℕ
  output_barring =
      elim (first_refusal (carry_on_tests_barring kind mark rows barred t out k)) [
        | none ↦ carry_on_without (search_of kind) (arcs rows) (length rows) (unbarred barred) t out k ++ drop (count_below (length rows) (unbarred barred)) out
        | some r ↦ out
      ]

-- ---- where only a two-way graph is accepted

unfoldable pub two_way_tests : Mark → List ℕ → List (ℕ × Bool)
two_way_tests mark rows =
    (2, ltb 64 (length rows))
    ∷ (3, bit_outside rows)
    ∷ (4, self_loop rows)
    ∷ (25, not (is_two_way mark))
    ∷ (5, one_way rows)
    ∷ []

unfoldable pub number : Refusal → ℕ
number Refusal.UnknownKind = 1
number Refusal.TooManyVertices = 2
number Refusal.ArcOutOfRange = 3
number Refusal.SelfLoop = 4
number Refusal.OneWayArc = 5
number Refusal.OrderingTooLong = 6
number Refusal.TieBreakLength = 7
number Refusal.VertexOutOfRange = 8
number Refusal.RepeatedVertex = 9
number Refusal.OutputTooShort = 10
number Refusal.MalformedSheet = 11
number Refusal.StartFails = 12
number Refusal.MalformedTraversal = 13
number Refusal.AllPlaced = 14
number Refusal.AlreadyPlaced = 15
number Refusal.NotOffered = 16
number Refusal.NothingToTakeBack = 17
number Refusal.MalformedMinutes = 18
number Refusal.RateTooHigh = 19
number Refusal.OrderingFails = 20
number Refusal.NotBreadthFirst = 21
number Refusal.NotPlaced = 22
number Refusal.BarredOutOfRange = 23
number Refusal.BarredVertex = 24
number Refusal.OneWayGraph = 25
number Refusal.MalformedLists = 26
number Refusal.MalformedFile = 27

unfoldable pub verdict_of : Result (Judgement Vertex) Refusal → Verdict
verdict_of (Ok Judgement.Passes) = passes
verdict_of (Ok (Judgement.Fails v)) = fails v.a.0 v.b.0 v.c.0
verdict_of (Err r) = refused (number r)

unfoldable pub refusal_of : {A : Type 0} → Result A Refusal → Option ℕ
refusal_of (Ok answer) = none
refusal_of (Err r) = some (number r)
