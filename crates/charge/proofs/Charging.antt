-- What charging refuses, and what is known of the lists where it refuses nothing.
--   malformed_in, malformed_out              what 18's test means
--   chargeable_in, chargeable_out            nothing is refused exactly where every condition holds
--   length_bounded, entry_bounded, charged_minutes_bounded, product_bounded   how many positions, minutes and sixtieths of a cent there can then be
-- whatever rounds the exact product:
--   charge_refused, charge_accepted          the answer from the tests;   refused_charge, cents_charge   the tests from the answer
--   bill_refused, bill_cents                 both ways at once
--   bill_within                              how near a charge is to the exact product, if all that is rounded is so near
--   bills_differ                             two ways to round give different answers exactly where a charge is given and they round it differently
-- Assumes nothing.
use mathlib.Core.Path.{◌≡◌, refl, sym, ap, ◌∙◌, subst}
use mathlib.Core.Logic.{◌⊎◌, inl, inr, ◌↔◌}
use mathlib.Core.Bool.{Bool, not}
use mathlib.Core.List.{List}
use mathlib.Core.Option.{none, some}
use Prim.Native.Nat.{ℕ, ◌*◌, ◌≤◌, ◌<◌}
use native.Mathlib.Nat.{mul-le-mul}
use native.Mathlib.Omega.{arith}
use lib.Dec.{T, ltb, eqb, ltb→lt, lt→ltb, nltb→le, eqb→eq, eqb_refl, not_T, T_not}
use lib.ListN.{length, get_or-eq_default}
use Rattle.bitset.specs.Below.{any_below}
use Rattle.bitset.proofs.Tests.{or_inl, or_inr, or_out, not_not, below_or}
use Rattle.bitset.proofs.Below.{any_out, any_at}
use Rattle.searches.specs.Kind.{search_of}
use Rattle.searches.specs.Ordering.{arcs, at}
use Rattle.searches.specs.Violation.{Verdict, judge}
use Rattle.searches.specs.declared.Mark.{Mark}
use Rattle.searches.specs.Answer.{is_pass, judge_tests, first_refusal, Accepts, Refuses}
use Rattle.searches.proofs.Ordering.{ordering_fits}
use Rattle.searches.proofs.Refusals.{refuses_first, accepts_none, accepts_or_refuses}
use Rattle.searches.proofs.Answers.{accepts_both, both_accept, valid_small, is_pass_out, accepted_ordering}
use Rattle.minutes.specs.Minutes.{minutes_of}
use Rattle.cents.specs.Rounding.{distance}
use Rattle.charge.specs.Charge.{product, malformed_minutes, Malformed, tests_after_judge, charge_tests, Chargeable}
use Rattle.cents.specs.Cents.{largest_minutes, largest_product}
use Rattle.charge.specs.Charge.{cents, refused, bill_by}
use Rattle.minutes.proofs.Adding.{minutes_bounded}

-- ---- the list of minutes

differs : (a b : ℕ) → T (not (eqb a b)) → a ≡ b → ⊥
differs a b t e = T_not (eqb a b) t (subst (λ (i : ℕ). T (eqb a i)) e (eqb_refl a))

module _ (n : ℕ) (minutes : List ℕ) where
  pub malformed_in : Malformed n minutes → T (malformed_minutes n minutes)
  unfolding malformed_minutes
  malformed_in (inl other) = or_inl (not (eqb (length minutes) n)) _ (not_T (eqb (length minutes) n) (λ t. other (eqb→eq (length minutes) n t)))
  malformed_in (inr x) =
      or_inr (not (eqb (length minutes) n)) _ (any_at (length minutes) (λ i. ltb 999 (at minutes i)) x.0 x.1 (lt→ltb 999 (at minutes x.0) x.2))

  pub malformed_out : T (malformed_minutes n minutes) → Malformed n minutes
  unfolding malformed_minutes
  malformed_out t = go (or_out (not (eqb (length minutes) n)) (any_below (length minutes) (λ i. ltb 999 (at minutes i))) t)
    where
      go : T (not (eqb (length minutes) n)) ⊎ T (any_below (length minutes) (λ i. ltb 999 (at minutes i))) → Malformed n minutes
      go (inl other) = inl (differs (length minutes) n other)
      go (inr some-above) =
          let x = any_out (length minutes) (λ i. ltb 999 (at minutes i)) some-above in
          inr (x.at, x.below, ltb→lt 999 (at minutes x.at) x.holds)

-- ---- nothing is refused exactly where every condition holds

module _ (kind : ℕ) (mark : Mark) (rows w minutes : List ℕ) (rate : ℕ) where
  abbrev verdict : Verdict
  verdict = judge (search_of kind) (arcs rows) (length rows) w (length w)

  pub chargeable_out : Accepts (charge_tests kind mark rows w minutes rate) → Chargeable kind mark rows w minutes rate
  unfolding charge_tests tests_after_judge
  chargeable_out a =
      let x = accepts_both (judge_tests kind mark rows w) _ a in
      let sound : Malformed (length rows) minutes → ⊥ = λ m. x.1.0 (malformed_in (length rows) minutes m) in
      let as_many : Bool = eqb (length minutes) (length rows) in
      record {
        judged = x.0;
        listed = eqb→eq (length minutes) (length rows) (not_not as_many (not_T (not as_many) (λ t. sound (inl (differs (length minutes) (length rows) t)))));
        each = λ v l. nltb→le 999 (at minutes v) (not_T (ltb 999 (at minutes v)) (λ t. sound (inr (v, l, ltb→lt 999 (at minutes v) t))));
        rated = nltb→le 99999 rate (not_T (ltb 99999 rate) x.1.1.0);
        passing = is_pass_out verdict (not_not (is_pass verdict) (not_T (not (is_pass verdict)) x.1.1.1.0));
      }

  pub chargeable_in : Chargeable kind mark rows w minutes rate → Accepts (charge_tests kind mark rows w minutes rate)
  unfolding charge_tests tests_after_judge is_pass
  chargeable_in able =
      both_accept (judge_tests kind mark rows w) _ able.judged (
        λ t. sound (malformed_out (length rows) minutes t),
        (λ t. let h = ltb→lt 99999 rate t in let l = able.rated in omega arith, (λ t. subst (λ (v : Verdict). T (not (is_pass v))) able.passing t, tt)),
      )
    where
      sound : Malformed (length rows) minutes → ⊥
      sound (inl other) = other able.listed
      sound (inr x) = let l = able.each x.0 x.1 in let h = x.2 in omega arith

  -- ---- the exact product

  module _ (able : Chargeable kind mark rows w minutes rate) where
    pub length_bounded : length w ≤ 64
    length_bounded =
        let x = accepted_ordering kind mark rows w able.judged in
        omega (arith, valid_small kind mark rows x.0, ordering_fits (length rows) x.1)

    -- an entry behind the last is 0
    pub entry_bounded : (v : ℕ) → at minutes v ≤ 999
    entry_bounded v = go (below_or v (length minutes))
      where
        go : (v < length minutes) ⊎ (length minutes ≤ v) → at minutes v ≤ 999
        go (inl l) = able.each v l
        go (inr h) = let none : at minutes v ≡ 0 = get_or-eq_default minutes 0 h in omega arith

    pub charged_minutes_bounded : minutes_of (arcs rows) w (length w) minutes ≤ largest_minutes
    charged_minutes_bounded = omega (arith, length_bounded, minutes_bounded (arcs rows) w minutes entry_bounded (length w))

    pub product_bounded : product (arcs rows) w minutes rate ≤ largest_product
    unfolding product
    product_bounded = mul-le-mul charged_minutes_bounded able.rated

  -- ---- the answer

  abbrev tests : List (ℕ × Bool)
  tests = charge_tests kind mark rows w minutes rate

  module _ (round : ℕ → ℕ) where
    pub charge_refused : (r : ℕ) → some r ≡ first_refusal tests → refused r ≡ bill_by round kind mark rows w minutes rate
    unfolding bill_by
    charge_refused r e = rw (sym e, bill_by)

    pub charge_accepted : none ≡ first_refusal tests → cents (round (product (arcs rows) w minutes rate)) ≡ bill_by round kind mark rows w minutes rate
    unfolding bill_by
    charge_accepted e = rw (sym e, bill_by)

    -- whatever the input, one of the two
    answered : (Accepts tests × (cents (round (product (arcs rows) w minutes rate)) ≡ bill_by round kind mark rows w minutes rate))
        ⊎ ((r : ℕ) × Refuses r tests × (refused r ≡ bill_by round kind mark rows w minutes rate))
    answered = go (accepts_or_refuses tests)
      where
        go : Accepts tests ⊎ ((q : ℕ) × Refuses q tests)
            → (Accepts tests × (cents (round (product (arcs rows) w minutes rate)) ≡ bill_by round kind mark rows w minutes rate))
            ⊎ ((r : ℕ) × Refuses r tests × (refused r ≡ bill_by round kind mark rows w minutes rate))
        go (inl a) = inl (a, charge_accepted (sym (accepts_none tests a)))
        go (inr x) = inr (x.0, x.1, charge_refused x.0 (sym (refuses_first tests x.0 x.1)))

    refused_charge : (r : ℕ) → bill_by round kind mark rows w minutes rate ≡ refused r → Refuses r tests
    refused_charge r e =
        elim answered [
          | inl x ↦ let clash : ◌≡◌ {A = ℕ} 0 1 = cc x.1 in absurd (omega arith)
          | inr x ↦ let same : x.0 ≡ r = cc x.2 in subst (λ (q : ℕ). Refuses q tests) same x.1
        ]

    cents_charge : (c : ℕ) → bill_by round kind mark rows w minutes rate ≡ cents c
        → Chargeable kind mark rows w minutes rate × (c ≡ round (product (arcs rows) w minutes rate))
    cents_charge c e =
        elim answered [
          | inl x ↦ (chargeable_out x.0, cc x.1)
          | inr x ↦ let clash : ◌≡◌ {A = ℕ} 0 1 = cc x.2 in absurd (omega arith)
        ]

    pub bill_refused : (r : ℕ) → (bill_by round kind mark rows w minutes rate ≡ refused r) ↔ Refuses r tests
    bill_refused r = (refused_charge r, λ x. sym (charge_refused r (sym (refuses_first tests r x))))

    pub bill_cents : (c : ℕ)
        → (bill_by round kind mark rows w minutes rate ≡ cents c) ↔ (Chargeable kind mark rows w minutes rate × (c ≡ round (product (arcs rows) w minutes rate)))
    bill_cents c = (
      cents_charge c,
      λ x. sym (charge_accepted (sym (accepts_none tests (chargeable_in x.0)))) ∙ ap (λ (q : ℕ). cents q) (sym x.1),
    )

    pub bill_within : (b : ℕ) → ((x : ℕ) → distance (60 * round x) x ≤ b) → (c : ℕ) → bill_by round kind mark rows w minutes rate ≡ cents c
        → distance (60 * c) (product (arcs rows) w minutes rate) ≤ b
    bill_within b near c e =
        let x : ℕ = product (arcs rows) w minutes rate in
        subst (λ (q : ℕ). distance (60 * q) x ≤ b) (sym (cents_charge c e).1) (near x)

  module _ (round round' : ℕ → ℕ) where
    pub bills_differ : (bill_by round kind mark rows w minutes rate ≡ bill_by round' kind mark rows w minutes rate → ⊥)
        ↔ (Chargeable kind mark rows w minutes rate × (round (product (arcs rows) w minutes rate) ≡ round' (product (arcs rows) w minutes rate) → ⊥))
    bills_differ = (
      λ differ. go differ (accepts_or_refuses tests),
      λ x e. x.1 (agree x.0 e),
    )
      where
        go : (bill_by round kind mark rows w minutes rate ≡ bill_by round' kind mark rows w minutes rate → ⊥) → Accepts tests ⊎ ((q : ℕ) × Refuses q tests)
            → Chargeable kind mark rows w minutes rate × (round (product (arcs rows) w minutes rate) ≡ round' (product (arcs rows) w minutes rate) → ⊥)
        go differ (inl a) =
            let accepted = sym (accepts_none tests a) in (
              chargeable_out a,
              λ same. differ (sym (charge_accepted round accepted) ∙ ap (λ (q : ℕ). cents q) same ∙ charge_accepted round' accepted),
            )
        go differ (inr x) =
            let first = sym (refuses_first tests x.0 x.1) in
            absurd (differ (sym (charge_refused round x.0 first) ∙ charge_refused round' x.0 first))

        agree : Chargeable kind mark rows w minutes rate → bill_by round kind mark rows w minutes rate ≡ bill_by round' kind mark rows w minutes rate
            → round (product (arcs rows) w minutes rate) ≡ round' (product (arcs rows) w minutes rate)
        agree able e = ((bill_cents round' (round (product (arcs rows) w minutes rate))).0 (sym e ∙ (bill_cents round _).1 (able, refl))).1
