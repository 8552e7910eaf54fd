-- The minutes of an ordering, added up position by position, and how many they can be.
--   first_none, later_unless_led   no 7 minutes for the first position; 7 for a later one, unless the vertex before leads to it
--   jump_counted                   one position more is one jump more, or none
--   Added arc w minutes p total    the loop's invariant: the total is the minutes of the first p positions
--   added_start, added_more        at the start, and after one position more;   added_all   at the end
--   minutes_bounded                the minutes of k positions, with at most 999 for each and a jump to all but the first
--   added_bounded                  the total is far from wrapping
-- Assumes nothing.
use mathlib.Core.Path.{◌≡◌, refl, sym, ap, ◌∙◌}
use mathlib.Core.Bool.{Bool, true, false, cond, not, ◌&&◌}
use mathlib.Core.List.{List}
use Prim.Native.Nat.{ℕ, zero, suc, ◌+◌, ◌-◌, ◌*◌, ◌≤◌, ◌<◌}
use native.Mathlib.Nat.{mul-suc}
use native.Mathlib.Numerals.{add-one}
use native.Mathlib.Omega.{arith}
use lib.Dec.{eqb}
use lib.ListN.{length}
use Rattle.bitset.specs.Below.{count_below}
use Rattle.bitset.proofs.Count.{count_bottom, count_le}
use Rattle.searches.specs.Ordering.{at}
use Rattle.minutes.specs.Minutes.{sum_below, jump, jump_minutes, minutes_of}

abbrev seven : Bool → ℕ
seven b = cond b 7 0

module _ (arc : ℕ → ℕ → Bool) (w : List ℕ) (p : ℕ) where
  pub first_none : eqb p 0 ≡ true → jump_minutes arc w p ≡ 0
  unfolding jump_minutes jump
  first_none first = ap (λ (b : Bool). seven (not b && not (arc (at w (p - 1)) (at w p)))) first

  pub later_unless_led : {led : Bool} → eqb p 0 ≡ false → led ≡ arc (at w (p - 1)) (at w p) → jump_minutes arc w p ≡ cond led 0 7
  unfolding jump_minutes jump
  later_unless_led {led} later of-arc =
      ap (λ (b : Bool). seven (not b && not (arc (at w (p - 1)) (at w p)))) later ∙ turned (arc (at w (p - 1)) (at w p)) ∙ ap (λ (b : Bool). cond b 0 7) (sym of-arc)
    where
      turned : (b : Bool) → seven (not b) ≡ cond b 0 7
      turned true = refl
      turned false = refl

  jump_counted : 7 * count_below (suc p) (jump arc w) ≡ 7 * count_below p (jump arc w) + jump_minutes arc w p
  unfolding count_below jump_minutes
  jump_counted = go (jump arc w p) (count_below p (jump arc w))
    where
      go : (b : Bool) (count : ℕ) → 7 * cond b (suc count) count ≡ 7 * count + cond b 7 0
      go true count = omega arith
      go false count = omega arith

module _ (arc : ℕ → ℕ → Bool) (w minutes : List ℕ) where
  pub record Added (p total : ℕ) : Type 0 where
    pub within : p ≤ length w
    pub same : total ≡ minutes_of arc w p minutes

  pub added_start : Added 0 0
  unfolding minutes_of sum_below count_below
  added_start = record { within = omega arith; same = refl }

  pub added_more : {p total own more : ℕ} → Added p total → p < length w → own ≡ at minutes (at w p) → more ≡ jump_minutes arc w p
      → Added (p + 1) (total + own + more)
  unfolding minutes_of sum_below
  added_more {p} {total} {own} {more} added l of-vertex of-jump = record {
    within = omega arith;
    same = rw (add-one p) (omega (arith, added.same, jump_counted arc w p));
  }

  pub added_all : {p total : ℕ} → Added p total → length w ≤ p → total ≡ minutes_of arc w (length w) minutes
  added_all {p} {total} added l =
      let whole : p ≡ length w = omega (arith, added.within) in
      added.same ∙ ap (λ (k : ℕ). minutes_of arc w k minutes) whole

  -- ---- how many they can be

  sum_bounded : (b : ℕ) (f : ℕ → ℕ) → ((p : ℕ) → f p ≤ b) → (k : ℕ) → sum_below k f ≤ b * k
  unfolding sum_below
  sum_bounded b f each zero = omega arith
  sum_bounded b f each (suc k) = omega (arith, each k, sum_bounded b f each k, mul-suc b k)

  -- no jump leads to the first position
  jumps_bounded : (k : ℕ) → count_below k (jump arc w) ≤ k - 1
  unfolding jump
  jumps_bounded zero = count_le zero (jump arc w)
  jumps_bounded (suc k) = omega (arith, count_bottom k (jump arc w), count_le k (λ i. jump arc w (suc i)))

  pub minutes_bounded : ((v : ℕ) → at minutes v ≤ 999) → (k : ℕ) → minutes_of arc w k minutes ≤ 999 * k + 7 * (k - 1)
  unfolding minutes_of
  minutes_bounded each k = omega (arith, sum_bounded 999 (λ p. at minutes (at w p)) (λ p. each (at w p)) k, jumps_bounded k)

  pub added_bounded : ((v : ℕ) → at minutes v ≤ 999) → {p total : ℕ} → Added p total → total ≤ 1006 * length w
  added_bounded each {p} {total} added = omega (arith, added.within, added.same, minutes_bounded each p)
