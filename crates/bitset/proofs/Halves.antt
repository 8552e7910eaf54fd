-- Numbers in blocks of 2 * s, each of a lower and an upper half: the block, the half and the place in the half make the number.
--   halves                                     a number is in a lower half or in an upper one
--   split                                      a number from its block, its half and its place
--   number_block, number_half, number_place    these three from the number
--   low_at, crossed_at                         a number, and one crossed with another, from the one at its place in the lower half
--   crossed_same, crossed_half, crossed_block, low_of_crossed   what crossing changes, and what it leaves
--   first_half, later_block, lower_half        where a number stands in its block, or its block among the others
--   halves_whole                               where blocks fill the square, their halves do
--   crossed_below, pair_below, begin_low, mixed_below   numbers of the square stay in it
--   mixed_crossed                              numbers crossed, then mixed by blocks, are mixed by halves
-- Assumes nothing.
use mathlib.Core.Path.{◌≡◌, sym, ap, ap₂, ◌∙◌, subst}
use mathlib.Core.Logic.{◌⊎◌, inl, inr}
use Prim.Native.Nat.{ℕ, ◌+◌, ◌-◌, ◌*◌, ◌/◌, ◌%◌, ◌≤◌, ◌<◌}
use native.Mathlib.Nat.{div-add-mod', mod-lt, mul-div_cancel, div-lt_iff_lt-mul, mul-le-mul_right}
use native.Mathlib.Omega.{arith}
use lib.Arith.{digits_lt, digits_div, digits_mod, mod-mul}
use Rattle.bitset.specs.Matrix.{IsLow, IsBegin, low_of, crossed, mixed}
use Rattle.bitset.proofs.Tests.{below_or}

abbrev number : ℕ → ℕ → ℕ → ℕ → ℕ
number s k b d = k * (2 * s) + (b * s + d)

pub halves : (s r : ℕ) → (r / s % 2 ≡ 0) ⊎ (r / s % 2 ≡ 1)
halves s r = go (below_or (r / s % 2) 1)
  where
    go : (r / s % 2 < 1) ⊎ (1 ≤ r / s % 2) → (r / s % 2 ≡ 0) ⊎ (r / s % 2 ≡ 1)
    go (inl l) = inl (omega arith)
    go (inr l) = inr (omega arith)

-- a number in the block of another, where blocks of m fill the square
whole_below : {m : ℕ} → 0 < m → 64 / m * m ≡ 64 → {r d : ℕ} → r < 64 → d < m → r / m * m + d < 64
whole_below {m} pos whole {r} {d} l h =
    subst (λ (x : ℕ). r / m * m + d < x) whole (digits_lt ((div-lt_iff_lt-mul pos).1 (subst (λ (x : ℕ). r < x) (sym whole) l)) h)

module _ (s : ℕ) (pos : 0 < s) where
  pub split : (r : ℕ) → r ≡ number s (r / (2 * s)) (r / s % 2) (r % s)
  split r = sym (div-add-mod' r (2 * s)) ∙ ap (λ (x : ℕ). r / (2 * s) * (2 * s) + x) (mod-mul r (omega arith) pos)

  module _ (k : ℕ) {b d : ℕ} (hb : b < 2) (hd : d < s) where
    regrouped : number s k b d ≡ (k * 2 + b) * s + d
    regrouped = omega arith

    pub number_block : number s k b d / (2 * s) ≡ k
    number_block = digits_div k (digits_lt hb hd)

    pub number_half : number s k b d / s % 2 ≡ b
    number_half = ap (λ (x : ℕ). x / s % 2) regrouped ∙ ap (λ (x : ℕ). x % 2) (digits_div (k * 2 + b) hd) ∙ digits_mod k hb

    pub number_place : number s k b d % s ≡ d
    number_place = ap (λ (x : ℕ). x % s) regrouped ∙ digits_mod (k * 2 + b) hd

  module _ (r : ℕ) where
    pub low_at : {b : ℕ} → r / s % 2 ≡ b → r ≡ low_of s r + b * s
    unfolding low_of
    low_at e = let f = ap (λ (x : ℕ). x * s) e in omega (arith, split r)

    pub crossed_at : (c : ℕ) {b : ℕ} → c / s % 2 ≡ b → crossed s r c ≡ low_of s r + b * s
    unfolding low_of crossed
    crossed_at c e = let f = ap (λ (x : ℕ). x * s) e in omega arith

    half_below : r / s % 2 < 2
    half_below = omega arith

    place_below : r % s < s
    place_below = mod-lt r pos

    in_block : (c : ℕ) → c / s % 2 * s + r % s < 2 * s
    in_block c = digits_lt (omega arith) place_below

  pub crossed_same : (r c : ℕ) → r / s % 2 ≡ c / s % 2 → crossed s r c ≡ r
  crossed_same r c e = crossed_at r c (sym e) ∙ sym (low_at r {b = r / s % 2} (omega arith))

  module _ (r c : ℕ) where
    pub crossed_half : crossed s r c / s % 2 ≡ c / s % 2
    unfolding crossed
    crossed_half = number_half (r / (2 * s)) (half_below c) (place_below r)

    pub crossed_block : crossed s r c / (2 * s) ≡ r / (2 * s)
    unfolding crossed
    crossed_block = number_block (r / (2 * s)) (half_below c) (place_below r)

    pub low_of_crossed : low_of s (crossed s r c) ≡ low_of s r
    unfolding low_of crossed
    low_of_crossed = ap₂ (λ (k d : ℕ). k * (2 * s) + d) crossed_block (number_place (r / (2 * s)) (half_below c) (place_below r))

  -- where a block begins
  module _ (begin : ℕ) (first : begin % (2 * s) ≡ 0) (r : ℕ) where
    -- a lower number of the block is in its first half
    pub first_half : low_of s r < begin + 2 * s → low_of s r < begin + s
    unfolding low_of
    first_half h = go (below_or (begin / (2 * s)) (r / (2 * s)))
      where
        go : (begin / (2 * s) < r / (2 * s)) ⊎ (r / (2 * s) ≤ begin / (2 * s)) → low_of s r < begin + s
        go (inl l) = let more = mul-le-mul_right (2 * s) l in absurd (omega (arith, div-add-mod' begin (2 * s)))
        go (inr l) = let less = mul-le-mul_right (2 * s) l in omega (arith, div-add-mod' begin (2 * s), place_below r)

    -- one that is not below the block's begin is in that block or a later one
    pub later_block : begin ≤ low_of s r → begin ≤ r / (2 * s) * (2 * s)
    unfolding low_of
    later_block h = go (below_or (r / (2 * s)) (begin / (2 * s)))
      where
        go : (r / (2 * s) < begin / (2 * s)) ⊎ (begin / (2 * s) ≤ r / (2 * s)) → begin ≤ r / (2 * s) * (2 * s)
        go (inl l) = let less = mul-le-mul_right (2 * s) l in absurd (omega (arith, div-add-mod' begin (2 * s), place_below r))
        go (inr l) = let more = mul-le-mul_right (2 * s) l in omega (arith, div-add-mod' begin (2 * s))

  -- a number at a place below s in its block of 2 * s is in the lower half
  pub lower_half : (r : ℕ) → r % (2 * s) < s → r / s % 2 ≡ 0
  lower_half r h = go (halves s r)
    where
      go : (r / s % 2 ≡ 0) ⊎ (r / s % 2 ≡ 1) → r / s % 2 ≡ 0
      go (inl e) = e
      go (inr e) = let f = ap (λ (x : ℕ). x * s) e in absurd (omega (arith, mod-mul r {m = 2} (omega arith) pos))

  module _ (whole : 64 / (2 * s) * (2 * s) ≡ 64) where
    pub halves_whole : 64 / s * s ≡ 64
    halves_whole =
        let e : 64 ≡ 64 / (2 * s) * 2 * s = omega arith in
        ap (λ (k : ℕ). k * s) (ap (λ (x : ℕ). x / s) e ∙ mul-div_cancel (64 / (2 * s) * 2) pos) ∙ sym e

    pub crossed_below : (r c : ℕ) → r < 64 → crossed s r c < 64
    unfolding crossed
    crossed_below r c l = whole_below (omega arith) whole l (in_block r c)

    -- the other of a pair is in the square too
    pub pair_below : {r : ℕ} → IsLow s r → r + s < 64
    unfolding low_of
    pair_below {r} low =
        omega (arith, low_at r low.lower, place_below r, whole_below {m = 2 * s} (omega arith) whole {d = s + r % s} low.below (omega (arith, place_below r)))

    -- the numbers of a block's first half are lower ones
    pub begin_low : {begin r : ℕ} → IsBegin s begin → begin ≤ r → r < begin + s → IsLow s r
    begin_low {begin} {r} b l h =
        let e : r ≡ number s (begin / (2 * s)) 0 (r - begin) = omega (arith, div-add-mod' begin (2 * s), b.first) in
        record {
          below = omega (arith, div-add-mod' begin (2 * s), b.first, whole_below {m = 2 * s} (omega arith) whole {d = r - begin} b.below (omega arith));
          lower = ap (λ (x : ℕ). x / s % 2) e ∙ number_half (begin / (2 * s)) (omega arith) (omega arith);
        }

  -- this takes the rounds from blocks of 2 * s on to blocks of s
  pub mixed_crossed : (r c : ℕ) → mixed (2 * s) (crossed s c r) (crossed s r c) ≡ mixed s c r
  unfolding mixed crossed
  mixed_crossed r c =
      ap₂ (λ (k d : ℕ). k * (2 * s) + d) (crossed_block c r) (digits_mod (r / (2 * s)) (in_block r c))
      ∙ (let e : c / (2 * s) * (2 * s) + (c / s % 2 * s + r % s) ≡ c / s * s + r % s = omega (arith, split c, div-add-mod' c s) in e)

pub mixed_below : {m : ℕ} → 0 < m → 64 / m * m ≡ 64 → (h l : ℕ) → h < 64 → mixed m h l < 64
unfolding mixed
mixed_below pos whole h l below = whole_below pos whole below (mod-lt l pos)
