-- The charge for an ordering: the exact product, the formulas, what is refused, and the answers for every input.
--   product arc w minutes rate              the minutes of w times the rate in cents an hour: the exact charge, in sixtieths of a cent
--   malformed_minutes n minutes              the list does not have n entries, or has one above 999;   Malformed n minutes   the same in words
--   tests_after_judge n minutes rate passing  what is refused after judge's tests: numbers and tests in 02's order
--   charge_tests kind mark rows w minutes rate   all tests: judge's, then these
--   Chargeable kind mark rows w minutes rate   what is not refused, condition by condition
--   Bill                                    cents c: the charge; refused r: the refusal with number r
--   bill_by round kind mark rows w minutes rate   what is answered if the exact product is rounded by `round`
--   charge_answer kind mark rows w minutes rate   what is answered with halves up                                       [02: K2]
--   charge_to_even_answer kind mark rows w minutes rate   what is answered with halves to the even cent                   [02: K7]
--   bill_of                                  an answer of the code as 02's number and values
use Rattle.std.specs.Prelude.{ℕ, ◌*◌, ◌≤◌, ◌<◌, ◌≡◌, ◌⊎◌, Bool, not, ◌||◌, List, [], ◌∷◌, ◌++◌, ltb, eqb, length, Result, Ok, Err}
use Rattle.std.proofs.Math.Option.{none, some}
use Rattle.bitset.specs.Below.{any_below}
use Rattle.searches.specs.Kind.{search_of}
use Rattle.searches.specs.Ordering.{arcs, at}
use Rattle.searches.specs.Violation.{passes, judge}
use Rattle.searches.specs.Answer.{is_pass, judge_tests, first_refusal, Accepts, number}
use Rattle.searches.specs.declared.Refusal.{Refusal}
use Rattle.searches.specs.declared.Mark.{Mark}
use Rattle.cents.specs.Cents.{cents_halves_up, cents_to_even}
use Rattle.minutes.specs.Minutes.{minutes_of}

unfoldable pub product : (ℕ → ℕ → Bool) → List ℕ → List ℕ → ℕ → ℕ
product arc w minutes rate = minutes_of arc w (length w) minutes * rate

-- every entry counts, also that of a point that is not placed
unfoldable pub malformed_minutes : ℕ → List ℕ → Bool
malformed_minutes n minutes = not (eqb (length minutes) n) || any_below (length minutes) (λ v. ltb 999 (at minutes v))

abbrev pub Malformed : ℕ → List ℕ → Type 0
Malformed n minutes = (length minutes ≡ n → ⊥) ⊎ ((v : ℕ) × (v < length minutes) × (999 < at minutes v))

unfoldable pub tests_after_judge : ℕ → List ℕ → ℕ → Bool → List (ℕ × Bool)
tests_after_judge n minutes rate passing =
    (18, malformed_minutes n minutes)
    ∷ (19, ltb 99999 rate)
    ∷ (20, not passing)
    ∷ []

unfoldable pub charge_tests : ℕ → Mark → List ℕ → List ℕ → List ℕ → ℕ → List (ℕ × Bool)
charge_tests kind mark rows w minutes rate =
    judge_tests kind mark rows w
    ++ tests_after_judge (length rows) minutes rate (is_pass (judge (search_of kind) (arcs rows) (length rows) w (length w)))

pub record Chargeable (kind : ℕ) (mark : Mark) (rows w minutes : List ℕ) (rate : ℕ) : Type 0 where
  -- judge refuses nothing
  pub judged : Accepts (judge_tests kind mark rows w)
  -- the list of minutes has n entries, none above 999
  pub listed : length minutes ≡ length rows
  pub each : (v : ℕ) → v < length minutes → at minutes v ≤ 999
  -- the rate is at most 99,999 cents an hour
  pub rated : rate ≤ 99999
  -- the walk passes the search
  pub passing : judge (search_of kind) (arcs rows) (length rows) w (length w) ≡ passes

pub data Bill : Type 0 where
  cents : ℕ → Bill
  refused : ℕ → Bill

unfoldable pub bill_by : (ℕ → ℕ) → ℕ → Mark → List ℕ → List ℕ → List ℕ → ℕ → Bill
bill_by round kind mark rows w minutes rate =
    elim (first_refusal (charge_tests kind mark rows w minutes rate)) [
      | none ↦ cents (round (product (arcs rows) w minutes rate))
      | some r ↦ refused r
    ]

unfoldable pub charge_answer : ℕ → Mark → List ℕ → List ℕ → List ℕ → ℕ → Bill
charge_answer kind mark rows w minutes rate = bill_by cents_halves_up kind mark rows w minutes rate

unfoldable pub charge_to_even_answer : ℕ → Mark → List ℕ → List ℕ → List ℕ → ℕ → Bill
charge_to_even_answer kind mark rows w minutes rate = bill_by cents_to_even kind mark rows w minutes rate

unfoldable pub bill_of : Result ℕ Refusal → Bill
bill_of (Ok c) = cents c
bill_of (Err r) = refused (number r)
