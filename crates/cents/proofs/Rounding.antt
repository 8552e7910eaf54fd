-- Rounding x / d, for every divisor d above 0 and every rule for halves.
--   near_nearest         a multiple of d that is at most half of d away from x is a nearest one
--   quotient_near        the quotient after half of d is added is one
--   rounds_near          whatever the rule, what is rounded is at most half of d away                 [02: never more than 30 away]
--   rounded_rounds       the formula rounds
--   rounds_alone         and only one number does
--   halves_up_largest    with halves up it is the largest that is at most half of d away
--   even_up_in, even_up_out   the rule `halves_to_even` rounds up exactly where the larger one is even
--   to_even_in, to_even_out   with this rule, what is rounded is the nearest, and of two nearest the even one; and only then
--   halfway_even         where x / d is halfway between q and q + 1 and q is even, this is q
--   below_halves_up      where a rule does not give what halves up gives, x / d is halfway, and it gives one less
-- Assumes nothing.
use mathlib.Core.Path.{◌≡◌, refl, sym, ap, ◌∙◌, subst}
use mathlib.Core.Logic.{◌⊎◌, inl, inr}
use mathlib.Core.Bool.{Bool, true, false, cond, not, ◌&&◌}
use Prim.Native.Nat.{ℕ, suc, ◌+◌, ◌-◌, ◌*◌, ◌/◌, ◌%◌, ◌≤◌, ◌<◌}
use native.Mathlib.Nat.{mul-zero, mul-suc, mul-le-mul_left, div-add-mod, mod-lt}
use native.Mathlib.Omega.{arith}
use lib.Dec.{T, eqb, eqb→eq, eqb_refl, not_T, T_not}
use Rattle.bitset.proofs.Tests.{and_in, and_out, not_not, below_or, three_ways}
use Rattle.cents.specs.Rounding.{distance, Rule, halves_up, Even, halves_to_even, Rounds, RoundsToEven, halfway, rounded}

module _ (p : ℕ) where
  pub even_up_in : Even (suc p) → T (halves_to_even p)
  unfolding halves_to_even
  even_up_in e = subst (λ (i : ℕ). T (eqb i 0)) (sym e) tt

  pub even_up_out : T (halves_to_even p) → Even (suc p)
  unfolding halves_to_even
  even_up_out t = eqb→eq (suc p % 2) 0 t

module _ (d : ℕ) (positive : 0 < d) (x : ℕ) where
  -- two multiples of d are d apart, or more
  apart : (p q : ℕ) → p < q → d * p + d ≤ d * q
  apart p q l = omega (arith, mul-suc d p, mul-le-mul_left d l)

  -- ---- nearest is at most half of d away

  pub near_nearest : (q : ℕ) → distance (d * q) x ≤ d / 2 → (p : ℕ) → distance (d * q) x ≤ distance (d * p) x
  unfolding distance
  near_nearest q near p = go (three_ways p q)
    where
      go : (p < q) ⊎ ((p ≡ q) ⊎ (q < p)) → (d * q - x) + (x - d * q) ≤ (d * p - x) + (x - d * p)
      go (inl l) = omega (arith, apart p q l)
      go (inr (inl e)) = let same : d * p ≡ d * q = ap (λ (i : ℕ). d * i) e in omega arith
      go (inr (inr l)) = omega (arith, apart q p l)

  -- the whole number of d in x and half of d
  pub quotient : ℕ
  quotient = (x + d / 2) / d

  quotient_low : d * quotient ≤ x + d / 2
  unfolding quotient
  quotient_low = omega (arith, div-add-mod (x + d / 2) d)

  quotient_high : x + d / 2 < d * quotient + d
  unfolding quotient
  quotient_high = omega (arith, div-add-mod (x + d / 2) d, mod-lt (x + d / 2) positive)

  pub quotient_near : distance (d * quotient) x ≤ d / 2
  unfolding distance
  quotient_near = omega (arith, quotient_low, quotient_high)

  pub rounds_near : (rule : Rule) (q : ℕ) → Rounds rule d x q → distance (d * q) x ≤ d / 2
  rounds_near rule q r = omega (arith, quotient_near, r.nearest quotient)

  -- two different multiples of d that are both at most half of d away are next to each other, and equally near
  both_near : (p q : ℕ) → p < q → distance (d * p) x ≤ d / 2 → distance (d * q) x ≤ d / 2 → (suc p ≡ q) × (distance (d * p) x ≡ distance (d * q) x)
  unfolding distance
  both_near p q l near near' = (go (below_or (suc p) q), omega (arith, apart p q l))
    where
      go : (suc p < q) ⊎ (q ≤ suc p) → suc p ≡ q
      go (inl h) = absurd (omega (arith, mul-suc d p, apart (suc p) q h))
      go (inr h) = omega arith

  -- ---- the formula rounds

  halfway_out : (q : ℕ) → T (halfway d x q) → 2 * x + d ≡ 2 * (d * q)
  unfolding halfway
  halfway_out q t = eqb→eq (2 * x + d) (2 * (d * q)) t

  halfway_in : (q : ℕ) → 2 * x + d ≡ 2 * (d * q) → T (halfway d x q)
  unfolding halfway
  halfway_in q e = subst (λ (i : ℕ). T (eqb (2 * x + d) i)) e (eqb_refl (2 * x + d))

  module _ (rule : Rule) where
    -- halfway between m and the next one, and the rule rounds down
    lower_rounds : (m : ℕ) → 2 * x + d ≡ 2 * (d * suc m) → (T (rule m) → ⊥) → Rounds rule d x m
    unfolding distance
    lower_rounds m half not-up = record {
      nearest = near_nearest m (omega (arith, mul-suc d m));
      up = λ p e same.
          let previous : d * m ≡ d * p + d = ap (λ (i : ℕ). d * i) (sym e) ∙ mul-suc d p in
          absurd (omega (arith, mul-suc d m));
      down = λ same t. not-up t;
    }

    -- the quotient, where x / d is not halfway or the rule rounds up
    upper_rounds : (q : ℕ) → d * q ≤ x + d / 2 → x + d / 2 < d * q + d → ((m : ℕ) → suc m ≡ q → 2 * x + d ≡ 2 * (d * q) → T (rule m)) → Rounds rule d x q
    unfolding distance
    upper_rounds q low high half_up = record {
      nearest = near_nearest q (omega arith);
      up = λ p e same.
          let previous : d * q ≡ d * p + d = ap (λ (i : ℕ). d * i) (sym e) ∙ mul-suc d p in
          half_up p e (omega arith);
      down = λ same t. absurd (omega (arith, mul-suc d q));
    }

    chosen : (q : ℕ) → d * q ≤ x + d / 2 → x + d / 2 < d * q + d → (b : Bool) → b ≡ (not (rule (q - 1)) && halfway d x q)
        → Rounds rule d x (cond b (q - 1) q)
    chosen q low high true e =
        let both = and_out (not (rule (q - 1))) (halfway d x q) (subst (λ (b : Bool). T b) e tt) in
        let half = halfway_out q both.1 in
        let next : suc (q - 1) ≡ q = go (below_or 0 q) half in
        lower_rounds (q - 1) (half ∙ ap (λ (i : ℕ). 2 * (d * i)) (sym next)) (T_not (rule (q - 1)) both.0)
      where
        go : (0 < q) ⊎ (q ≤ 0) → 2 * x + d ≡ 2 * (d * q) → suc (q - 1) ≡ q
        go (inl l) half = omega arith
        go (inr l) half = let none : q ≡ 0 = omega arith in absurd (omega (arith, mul-zero d, ap (λ (i : ℕ). d * i) none))
    chosen q low high false e =
        upper_rounds q low high
        (λ m s half.
        let last : q - 1 ≡ m = omega arith in
        let never_down : T (not (rule (q - 1))) → ⊥ = λ t. subst (λ (b : Bool). T b) (sym e) (and_in (not (rule (q - 1))) (halfway d x q) t (halfway_in q half)) in
        subst (λ (i : ℕ). T (rule i)) last (not_not (rule (q - 1)) (not_T (not (rule (q - 1))) never_down)))

    pub rounded_rounds : Rounds rule d x (rounded rule d x)
    unfolding rounded quotient
    rounded_rounds = chosen quotient quotient_low quotient_high _ refl

    -- ---- only one number does

    never_both : (p q : ℕ) → p < q → Rounds rule d x p → Rounds rule d x q → ⊥
    never_both p q l of-p of-q =
        let next = both_near p q l (rounds_near rule p of-p) (rounds_near rule q of-q) in
        of-p.down (ap (λ (i : ℕ). distance (d * i) x) next.0 ∙ sym next.1) (of-q.up p next.0 next.1)

    pub rounds_alone : (p q : ℕ) → Rounds rule d x p → Rounds rule d x q → p ≡ q
    rounds_alone p q of-p of-q = go (three_ways p q)
      where
        go : (p < q) ⊎ ((p ≡ q) ⊎ (q < p)) → p ≡ q
        go (inl l) = absurd (never_both p q l of-p of-q)
        go (inr (inl e)) = e
        go (inr (inr l)) = absurd (never_both q p l of-q of-p)

  pub halves_up_largest : (q : ℕ) → Rounds halves_up d x q → (p : ℕ) → distance (d * p) x ≤ d / 2 → p ≤ q
  unfolding halves_up
  halves_up_largest q of-q p near = go (below_or q p)
    where
      go : (q < p) ⊎ (p ≤ q) → p ≤ q
      go (inl l) =
          let next = both_near q p l (rounds_near halves_up q of-q) near in
          absurd (of-q.down (ap (λ (i : ℕ). distance (d * i) x) next.0 ∙ sym next.1) tt)
      go (inr h) = h

  -- ---- halves to the even one

  pub to_even_in : (q : ℕ) → Rounds halves_to_even d x q → RoundsToEven d x q
  to_even_in q r = record {
    nearest = r.nearest;
    even = λ p other same. go p other same (three_ways p q);
  }
    where
      near : (p : ℕ) → distance (d * p) x ≡ distance (d * q) x → distance (d * p) x ≤ d / 2
      near p same = omega (arith, rounds_near halves_to_even q r)

      go : (p : ℕ) → (p ≡ q → ⊥) → distance (d * p) x ≡ distance (d * q) x → (p < q) ⊎ ((p ≡ q) ⊎ (q < p)) → Even q
      go p other same (inl l) =
          let next = both_near p q l (near p same) (near q refl) in
          subst Even next.0 (even_up_out p (r.up p next.0 same))
      go p other same (inr (inl e)) = absurd (other e)
      go p other same (inr (inr l)) =
          let next = both_near q p l (near q refl) (near p same) in
          let odd : Even (suc q) → ⊥ = λ e. r.down (ap (λ (i : ℕ). distance (d * i) x) next.0 ∙ same) (even_up_in q e) in
          omega (arith, odd)

  pub to_even_out : (q : ℕ) → RoundsToEven d x q → Rounds halves_to_even d x q
  to_even_out q r = record {
    nearest = r.nearest;
    up = λ p e same. even_up_in p (subst Even (sym e) (r.even p (λ equal. omega arith) same));
    down = λ same t. omega (arith, even_up_out q t, r.even (suc q) (λ equal. omega arith) same);
  }

  pub halfway_even : (q : ℕ) → 2 * x ≡ 2 * (d * q) + d → Even q → RoundsToEven d x q
  unfolding distance
  halfway_even q half even = record { nearest = near_nearest q (omega arith); even = λ p other same. even }

  pub below_halves_up : (rule : Rule) (p q : ℕ) → Rounds rule d x p → Rounds halves_up d x q → (p ≡ q → ⊥) → (suc p ≡ q) × (2 * x ≡ 2 * (d * p) + d)
  unfolding distance
  below_halves_up rule p q of-p of-q differ =
      let most = halves_up_largest q of-q p (rounds_near rule p of-p) in
      let below : p < q = omega arith in
      let next = both_near p q below (rounds_near rule p of-p) (rounds_near halves_up q of-q) in
      let last : d * q ≡ d * p + d = ap (λ (i : ℕ). d * i) (sym next.0) ∙ mul-suc d p in
      (next.0, omega (arith, next.1))
