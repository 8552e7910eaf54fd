-- What 02 asks of the charge, over the definitions that the promises of `charge` and `charge_halves_up` cite: `charge_to_even_answer` and `charge_answer`.
-- Each theorem's comment says which sentence it is; the work is done in the modules that the proofs cite. That nothing is altered: all lists are passed
-- as `&`. That the calls end is part of their proofs.
-- Assumes nothing.
use mathlib.Core.Path.{◌≡◌, refl, sym, ap}
use mathlib.Core.Logic.{◌↔◌}
use mathlib.Core.Bool.{Bool}
use mathlib.Core.List.{List, [], ◌∷◌, map}
use Prim.Native.Nat.{ℕ, ◌+◌, ◌*◌, ◌^◌, ◌≤◌, ◌<◌}
use native.Mathlib.Omega.{arith}
use lib.ListN.{length}
use Rattle.searches.specs.Ordering.{arcs}
use Rattle.searches.specs.Violation.{Fails}
use Rattle.searches.specs.declared.Mark.{Mark}
use Rattle.searches.specs.Answer.{BothWays, open_tests, judge_tests, first_refusal, Accepts, Refuses, judge_answer}
use Rattle.searches.proofs.Marks.{judge_tests_lem}
use Rattle.minutes.specs.Minutes.{minutes_of}
use Rattle.cents.specs.Rounding.{distance, halves_up, Even, halves_to_even, Rounds, RoundsToEven, halfway, rounded}
use Rattle.charge.specs.Charge.{product, Malformed, tests_after_judge, charge_tests, Chargeable}
use Rattle.cents.specs.Cents.{cents_halves_up, cents_to_even, largest_minutes, largest_product}
use Rattle.charge.specs.Charge.{cents, refused, bill_by, charge_answer, charge_to_even_answer}
use Rattle.cents.proofs.Rounding as rounding
use Rattle.cents.proofs.Cents as rules
use Rattle.charge.proofs.Charging as charging
use Rattle.charge.proofs.Stated as stated

-- ---- the rounding: x is the exact product, in sixtieths of a cent

-- the formula rounds to the nearest cent, halves up,
pub charge_rounds : (x : ℕ) → Rounds halves_up 60 x (cents_halves_up x)
charge_rounds = rules.halves_up_rounds

-- and no other number is the nearest cent, halves up
pub charge_only : (x q : ℕ) → Rounds halves_up 60 x q → q ≡ cents_halves_up x
charge_only x q r = rounding.rounds_alone 60 (omega arith) x halves_up q (cents_halves_up x) r (charge_rounds x)

-- the charge times 60 is never more than 30 away from the exact product, above or below,
pub within_thirty : (x : ℕ) → distance (60 * cents_halves_up x) x ≤ 30
within_thirty x = rounding.rounds_near 60 (omega arith) x halves_up (cents_halves_up x) (charge_rounds x)

-- and of two numbers of cents of which this can be said it is the larger one
pub largest_within_thirty : (x q : ℕ) → distance (60 * q) x ≤ 30 → q ≤ cents_halves_up x
largest_within_thirty x = rounding.halves_up_largest 60 (omega arith) x (cents_halves_up x) (charge_rounds x)

-- 02: K7, the other formula rounds to the nearest cent, and of two nearest to the even one,
pub even_rounds : (x : ℕ) → RoundsToEven 60 x (cents_to_even x)
even_rounds x = rounding.to_even_in 60 (omega arith) x (cents_to_even x) (rules.to_even_rounds x)

-- and no other number is the nearest cent, and of two nearest the even one
pub even_only : (x q : ℕ) → RoundsToEven 60 x q → q ≡ cents_to_even x
even_only x q r =
    rounding.rounds_alone 60 (omega arith) x halves_to_even q (cents_to_even x) (rounding.to_even_out 60 (omega arith) x q r) (rules.to_even_rounds x)

-- this charge times 60 is never more than 30 away either, by the lemma that shows it for halves up
pub even_within_thirty : (x : ℕ) → distance (60 * cents_to_even x) x ≤ 30
even_within_thirty x = rounding.rounds_near 60 (omega arith) x halves_to_even (cents_to_even x) (rules.to_even_rounds x)

-- it is never more than with halves up
pub even_at_most : (x : ℕ) → cents_to_even x ≤ cents_halves_up x
even_at_most x = largest_within_thirty x (cents_to_even x) (even_within_thirty x)

-- the two formulas differ exactly where the exact product is 60 q + 30 with q even,
pub rules_differ : (x : ℕ) → (cents_to_even x ≡ cents_halves_up x → ⊥) ↔ ((q : ℕ) × (x ≡ 60 * q + 30) × Even q)
rules_differ x = (rules.apart_halfway x, λ y same. let apart = rules.halfway_apart x y.0 y.1 y.2 in omega (arith, apart.0, apart.1))

-- and there by one cent
pub differ_by_one : (x q : ℕ) → x ≡ 60 * q + 30 → Even q → (cents_to_even x ≡ q) × (cents_halves_up x ≡ q + 1)
differ_by_one = rules.halfway_apart

-- one minute at 30 cents an hour was 1 cent and becomes 0; three minutes stay at 2
pub one_and_three_minutes : (cents_halves_up (1 * 30) ≡ 1) × (cents_to_even (1 * 30) ≡ 0) × (cents_halves_up (3 * 30) ≡ 2) × (cents_to_even (3 * 30) ≡ 2)
unfolding cents_halves_up cents_to_even rounded halves_to_even halfway
one_and_three_minutes = (refl, refl, refl, refl)

-- of the largest product both make the same
pub largest_alike : cents_to_even largest_product ≡ cents_halves_up largest_product
unfolding cents_halves_up cents_to_even rounded halves_to_even halfway
largest_alike = refl

-- ---- refusals

through : {A B C : Type 0} → A ↔ B → B ↔ C → A ↔ C
through f g = (λ a. g.0 (f.0 a), λ c. f.1 (g.1 c))

module _ (kind : ℕ) (mark : Mark) (rows w minutes : List ℕ) (rate : ℕ) where
  -- after judge's checks 18, 19, 20, in this order
  pub charge_order : map (λ (test : ℕ × Bool). test.0) (charge_tests kind mark rows w minutes rate)
      ≡ 1 ∷ 2 ∷ 3 ∷ 4 ∷ 5 ∷ 6 ∷ 8 ∷ 9 ∷ 18 ∷ 19 ∷ 20 ∷ []
  unfolding open_tests judge_tests tests_after_judge charge_tests
  charge_order = refl

  -- each refusal in its stated case and no other: the answer is refusal r exactly when r's test holds and no earlier one does
  pub charge_refuses : (r : ℕ) → (charge_answer kind mark rows w minutes rate ≡ refused r) ↔ Refuses r (charge_tests kind mark rows w minutes rate)
  unfolding charge_answer
  charge_refuses r = charging.bill_refused kind mark rows w minutes rate cents_halves_up r

  -- 02: K7, the other call likewise,
  pub even_refuses : (r : ℕ) → (charge_to_even_answer kind mark rows w minutes rate ≡ refused r) ↔ Refuses r (charge_tests kind mark rows w minutes rate)
  unfolding charge_to_even_answer
  even_refuses r = charging.bill_refused kind mark rows w minutes rate cents_to_even r

  -- so that the two refuse alike, and what follows holds of either
  pub refused_alike : (r : ℕ) → (charge_to_even_answer kind mark rows w minutes rate ≡ refused r) ↔ (charge_answer kind mark rows w minutes rate ≡ refused r)
  refused_alike r = through (even_refuses r) ((charge_refuses r).1, (charge_refuses r).0)

  -- after judge's checks: what judge refuses is refused, with its number,
  pub refused_by_judge : (r : ℕ) → r < 18 → (charge_answer kind mark rows w minutes rate ≡ refused r) ↔ Refuses r (judge_tests kind mark rows w)
  refused_by_judge r l = through (charge_refuses r) (stated.judge_stated kind mark rows w minutes rate r l)

  -- 18 when the list of minutes does not have n entries or has one above 999, of a placed point or not,
  pub refused_for_minutes : (charge_answer kind mark rows w minutes rate ≡ refused 18) ↔ (Accepts (judge_tests kind mark rows w) × Malformed (length rows) minutes)
  refused_for_minutes = through (charge_refuses 18) (stated.malformed_stated kind mark rows w minutes rate)

  -- 19 when the rate is above 99,999,
  pub refused_for_rate : (charge_answer kind mark rows w minutes rate ≡ refused 19)
      ↔ (Accepts (judge_tests kind mark rows w) × (Malformed (length rows) minutes → ⊥) × (99999 < rate))
  refused_for_rate = through (charge_refuses 19) (stated.rate_stated kind mark rows w minutes rate)

  -- 20 when the walk does not pass the named search: judge answers that it fails
  pub refused_for_walk : (charge_answer kind mark rows w minutes rate ≡ refused 20)
      ↔ (Fails (judge_answer kind mark rows w) × (Malformed (length rows) minutes → ⊥) × (rate ≤ 99999))
  refused_for_walk = through (charge_refuses 20) (stated.unpassed_stated kind mark rows w minutes rate)

  -- ---- the charge

  -- a charge is given exactly where nothing is refused, and it is the exact product, rounded
  pub charged_exactly : (c : ℕ)
      → (charge_answer kind mark rows w minutes rate ≡ cents c) ↔ (Chargeable kind mark rows w minutes rate × (c ≡ cents_halves_up (product (arcs rows) w minutes rate)))
  unfolding charge_answer
  charged_exactly c = charging.bill_cents kind mark rows w minutes rate cents_halves_up c

  -- with halves to the even cent likewise
  pub even_exactly : (c : ℕ)
      → (charge_to_even_answer kind mark rows w minutes rate ≡ cents c) ↔ (Chargeable kind mark rows w minutes rate × (c ≡ cents_to_even (product (arcs rows) w minutes rate)))
  unfolding charge_to_even_answer
  even_exactly c = charging.bill_cents kind mark rows w minutes rate cents_to_even c

  -- the charge times 60 is never more than 30 away from the exact product: of the call
  pub charged_within_thirty : (c : ℕ) → charge_answer kind mark rows w minutes rate ≡ cents c → distance (60 * c) (product (arcs rows) w minutes rate) ≤ 30
  unfolding charge_answer
  charged_within_thirty = charging.bill_within kind mark rows w minutes rate cents_halves_up 30 within_thirty

  -- with halves to the even cent likewise
  pub even_charged_within_thirty : (c : ℕ) → charge_to_even_answer kind mark rows w minutes rate ≡ cents c
      → distance (60 * c) (product (arcs rows) w minutes rate) ≤ 30
  unfolding charge_to_even_answer
  even_charged_within_thirty = charging.bill_within kind mark rows w minutes rate cents_to_even 30 even_within_thirty

  -- 02: K7, the answers of the two calls differ exactly where a charge is given and the exact product is 60 q + 30 with q even,
  pub calls_differ : (charge_to_even_answer kind mark rows w minutes rate ≡ charge_answer kind mark rows w minutes rate → ⊥)
      ↔ (Chargeable kind mark rows w minutes rate × ((q : ℕ) × (product (arcs rows) w minutes rate ≡ 60 * q + 30) × Even q))
  unfolding charge_answer charge_to_even_answer
  calls_differ =
      let x : ℕ = product (arcs rows) w minutes rate in
      through (charging.bills_differ kind mark rows w minutes rate cents_to_even cents_halves_up) (λ y. (y.0, (rules_differ x).0 y.1), λ y. (y.0, (rules_differ x).1 y.1))

  -- and there by one cent
  pub calls_differ_by_one : Chargeable kind mark rows w minutes rate → (q : ℕ) → product (arcs rows) w minutes rate ≡ 60 * q + 30 → Even q
      → (charge_to_even_answer kind mark rows w minutes rate ≡ cents q) × (charge_answer kind mark rows w minutes rate ≡ cents (q + 1))
  calls_differ_by_one able q half even =
      let apart = differ_by_one (product (arcs rows) w minutes rate) q half even in
      ((even_exactly q).1 (able, sym apart.0), (charged_exactly (q + 1)).1 (able, sym apart.1))

  -- nothing wraps: minutes, exact product and charge are at most those of 64 points of 999 minutes each, with a jump to all but the first, at the
  -- largest rate
  pub charged_bounded : Chargeable kind mark rows w minutes rate
      → (minutes_of (arcs rows) w (length w) minutes ≤ largest_minutes) × (product (arcs rows) w minutes rate ≤ largest_product)
      × (cents_halves_up (product (arcs rows) w minutes rate) ≤ cents_halves_up largest_product)
  unfolding cents_halves_up
  charged_bounded able =
      let bound = charging.product_bounded kind mark rows w minutes rate able in
      (charging.charged_minutes_bounded kind mark rows w minutes rate able, bound, omega arith)

  -- with halves to the even cent likewise
  pub even_bounded : Chargeable kind mark rows w minutes rate → cents_to_even (product (arcs rows) w minutes rate) ≤ cents_to_even largest_product
  even_bounded able = omega (arith, even_at_most (product (arcs rows) w minutes rate), (charged_bounded able).2, largest_alike)

-- the largest product needs more than 32 bits; with the 30 that rounding adds it is below 2^64, and both calls compute in 64 bits
pub largest_fits : (2 ^ 32 < largest_product) × (largest_product + 30 < 2 ^ 64)
largest_fits = (omega arith, omega arith)

-- these numbers as the documents have them
pub largest_numbers : (largest_minutes ≡ 64377) × (largest_product ≡ 6437635623) × (cents_halves_up largest_product ≡ 107293927)
unfolding cents_halves_up
largest_numbers = (refl, refl, refl)

-- ---- the mark

-- 02: K4, a plan whose every link goes both ways is charged for, or refused, alike under either mark
module _ (kind : ℕ) (mark mark' : Mark) (rows : List ℕ) (both : BothWays rows) (w minutes : List ℕ) (rate : ℕ) where
  charge_tests_lem : charge_tests kind mark rows w minutes rate ≡ charge_tests kind mark' rows w minutes rate
  unfolding charge_tests
  charge_tests_lem = rw (judge_tests_lem kind mark mark' rows both w)

  either_bill : (round : ℕ → ℕ) → bill_by round kind mark rows w minutes rate ≡ bill_by round kind mark' rows w minutes rate
  unfolding bill_by
  either_bill round = rw (ap first_refusal charge_tests_lem, bill_by)

  pub either_charge : charge_answer kind mark rows w minutes rate ≡ charge_answer kind mark' rows w minutes rate
  unfolding charge_answer
  either_charge = either_bill cents_halves_up

  -- with halves to the even cent likewise
  pub either_even_charge : charge_to_even_answer kind mark rows w minutes rate ≡ charge_to_even_answer kind mark' rows w minutes rate
  unfolding charge_to_even_answer
  either_even_charge = either_bill cents_to_even
