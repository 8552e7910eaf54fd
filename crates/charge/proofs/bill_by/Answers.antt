-- `charge::bill_by` meets its contract: refused as the tests say, else the minutes at the rate, rounded. The exact product fits 64 bits.
-- Assumes nothing.
use mathlib.Core.Path.{◌≡◌, sym, ap, ◌∙◌}
use mathlib.Core.Option.{none}
use Prim.Native.Nat.{ℕ, ◌*◌, ◌≤◌}
use native.Mathlib.Omega.{arith}
use Rattle.std.proofs.lemmas.Result.{err_from_is_err_and}
use Rattle.searches.specs.Ordering.{arcs}
use Rattle.searches.specs.Answer.{first_refusal, refusal_of}
use Rattle.searches.proofs.Refusals.{none_accepts}
use Rattle.charge.specs.Charge.{product, charge_tests, Chargeable, cents, bill_of}
use Rattle.cents.specs.Cents.{cents_by, largest_product}
use Rattle.charge.proofs.Charging.{chargeable_out, length_bounded, entry_bounded, product_bounded, charge_refused, charge_accepted}
use Rattle.charge.proofs.bill_by.Goals as goal
use Rattle.charge.proofs.bill_by.Goals.{After-minutes_of-spent, In_ok-charge_refusal}

pub returns-in_err-charge_refusal : goal.returns-in_err-charge_refusal
unfolding bill_of refusal_of
returns-in_err-charge_refusal c =
    let a = c.args in
    let p = err_from_is_err_and c.from_residual.result c.from_residual.ensures.1 in
    rw (p.1, p.2) (charge_refused a.kind.0 a.mark a.rows.now a.ordering.now a.minutes.now a.rate (cents_by a.halves) _ c.in_err-charge_refusal.ensures)

accepted : (c : In_ok-charge_refusal)
    → let a = c.args in
    none ≡ first_refusal (charge_tests a.kind.0 a.mark a.rows.now a.ordering.now a.minutes.now a.rate)
unfolding refusal_of
accepted c = c.in_ok-charge_refusal.ensures

able : (c : In_ok-charge_refusal)
    → let a = c.args in
    Chargeable a.kind.0 a.mark a.rows.now a.ordering.now a.minutes.now a.rate
able c =
    let a = c.args in
    chargeable_out a.kind.0 a.mark a.rows.now a.ordering.now a.minutes.now a.rate (none_accepts _ (sym (accepted c)))

pub minutes_of-spent-requires : goal.minutes_of-spent-requires
minutes_of-spent-requires c =
    let a = c.args in record {
      ordering_len_bound = length_bounded a.kind.0 a.mark a.rows.now a.ordering.now a.minutes.now a.rate (able c);
      by_index = entry_bounded a.kind.0 a.mark a.rows.now a.ordering.now a.minutes.now a.rate (able c);
    }

-- what is multiplied is the exact product
exact : (c : After-minutes_of-spent)
    → let a = c.args in
    c.minutes_of-spent.result * a.rate ≡ product (arcs a.rows.now) a.ordering.now a.minutes.now a.rate
unfolding product
exact c = ap (λ (m : ℕ). m * c.args.rate) c.minutes_of-spent.ensures

bounded : (c : After-minutes_of-spent) → c.minutes_of-spent.result * c.args.rate ≤ largest_product
bounded c =
    let a = c.args in
    omega (arith, exact c, product_bounded a.kind.0 a.mark a.rows.now a.ordering.now a.minutes.now a.rate (able (goal.at.After-minutes_of-spent c).In_ok-charge_refusal))

pub overflow_mul-spent : goal.overflow_mul-spent
overflow_mul-spent c = omega (arith, bounded c)

pub cents_by-requires : goal.cents_by-requires
cents_by-requires c = bounded c

pub returns : goal.returns
unfolding bill_of
returns c =
    let a = c.args in
    ap (λ (q : ℕ). cents q) (c.cents_by.ensures ∙ ap (cents_by a.halves) (exact (goal.at.returns c).After-minutes_of-spent))
    ∙ charge_accepted a.kind.0 a.mark a.rows.now a.ordering.now a.minutes.now a.rate (cents_by a.halves) (accepted (goal.at.returns c).In_ok-charge_refusal)
