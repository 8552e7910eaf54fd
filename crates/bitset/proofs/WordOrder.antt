-- Two words compared, and a word shifted down. A word of k bits is a number below 2 ^ k.
--   highest_decides    of two words that agree above m, the one that has m is the greater
--   greater_has        of two words that differ, the one that has the highest number in which they differ is the greater
--   order_decided      the order of two words, as a test of their members
--   within_and         a set lies within another where the `and` of the two is the set itself
--   some_from          the numbers from n up are what a shift by n leaves;   none_from   from the width up there is none
-- Assumes nothing.
use mathlib.Core.Path.{◌≡◌, sym, ap, ◌∙◌, subst}
use mathlib.Core.Bool.{Bool, false, cond, not, ◌&&◌}
use mathlib.Core.Logic.{◌⊎◌, inl, inr}
use Prim.Native.Nat.{ℕ, suc, ◌+◌, ◌/◌, ◌%◌, ◌^◌, ◌≤◌, ◌<◌}
use native.Mathlib.Nat.{lt_of_le_of_lt, lt_of_lt_of_le, div-eq_of_lt, le-add_right, le_dest, eq-zero-or-pos}
use native.Mathlib.Omega.{arith}
use lib.Dec.{T, ltb, leb, eqb, ltb→lt, lt→ltb, leb→le, le→leb, eqb→eq, eqb_refl, not_T}
use lib.Pow.{pow_mono, shr_le, shr_mono}
use lib.Bits.{bit_and, and_le_l}
use Rattle.bitset.specs.Below.{any_below, last_below, differ, within}
use Rattle.bitset.specs.Word.{member, from_up}
use Rattle.bitset.proofs.Tests.{and_in, and_out, decided, same_test, is_true, is_false, below_or}
use Rattle.bitset.proofs.Below.{Some, any_out, any_at, IsLast, last}
use Rattle.bitset.proofs.Sets.{differ_same, differ_one, within_in, within_out}
use Rattle.bitset.proofs.Word.{member_shifted, member_suc, bit_of_member, member_and, member_beyond, member_below, equal_members, empty_back, some_member}

-- of two words that agree above m, the one that has m is the greater
pub highest_decides : (k : ℕ) {a b : ℕ} → a < 2 ^ k → b < 2 ^ k → {m : ℕ} → (T (member a m) → ⊥) → T (member b m)
    → ((p : ℕ) → m < p → member a p ≡ member b p) → a < b
highest_decides k {a} {b} ha hb {m} out inside agree = go (below_or a b)
  where
    above : a / 2 ^ m / 2 ≡ b / 2 ^ m / 2
    above =
        equal_members k (omega (arith, shr_le a m)) (omega (arith, shr_le b m))
        (λ p _. sym (member_suc (a / 2 ^ m) p) ∙ member_shifted a m (suc p) ∙ agree (m + suc p) (omega arith) ∙ sym (member_shifted b m (suc p)) ∙ member_suc (b / 2 ^ m) p)

    go : (a < b) ⊎ (b ≤ a) → a < b
    go (inl l) = l
    go (inr l) =
        let a_digit : a / 2 ^ m % 2 ≡ 0 = bit_of_member a m ∙ ap (λ (t : Bool). cond t 1 0) (is_false (member a m) out) in
        let b_digit : b / 2 ^ m % 2 ≡ 1 = bit_of_member b m ∙ ap (λ (t : Bool). cond t 1 0) (is_true (member b m) inside) in
        absurd (omega (arith, above, shr_mono m l))

-- of two words that differ, the one that has the highest number in which they differ is the greater
pub greater_has : (k : ℕ) {a b : ℕ} → a < 2 ^ k → b < 2 ^ k → {m : ℕ} → IsLast k (differ (member b) (member a)) m
    → (T (member b m) × (a < b)) ⊎ ((T (member b m) → ⊥) × (b < a))
greater_has k {a} {b} ha hb {m} r = go (differ_one (member b) (member a) m r.holds)
  where
    agree : (p : ℕ) → m < p → member b p ≡ member a p
    agree p l = pick (below_or p k)
      where
        pick : (p < k) ⊎ (k ≤ p) → member b p ≡ member a p
        pick (inl inside) = differ_same (member b) (member a) p (λ d. let low = r.greatest p inside d in absurd (omega arith))
        pick (inr outside) = member_beyond k hb p outside ∙ sym (member_beyond k ha p outside)

    go : (T (member b m) × (T (member a m) → ⊥)) ⊎ (T (member a m) × (T (member b m) → ⊥)) → (T (member b m) × (a < b)) ⊎ ((T (member b m) → ⊥) × (b < a))
    go (inl d) = inl (d.0, highest_decides k ha hb d.1 d.0 (λ p l. sym (agree p l)))
    go (inr d) = inr (d.1, highest_decides k hb ha d.1 d.0 agree)

-- so the order of two words is decided by the highest number that is in just one of them
pub order_decided : (k : ℕ) {a b : ℕ} → a < 2 ^ k → b < 2 ^ k
    → ltb a b ≡ (any_below k (differ (member b) (member a)) && member b (last_below k (differ (member b) (member a))))
order_decided k {a} {b} ha hb = same_test (ltb a b) (any_below k apart && member b highest) (λ t. forth (ltb→lt a b t)) (λ t. lt→ltb a b (back t))
  where
    apart : ℕ → Bool
    apart = differ (member b) (member a)

    highest : ℕ
    highest = last_below k apart

    back : T (any_below k apart && member b highest) → a < b
    back t =
        let both = and_out (any_below k apart) (member b highest) t in
        pick both.1 (greater_has k ha hb (last (any_out k apart both.0)))
      where
        pick : T (member b highest) → (T (member b highest) × (a < b)) ⊎ ((T (member b highest) → ⊥) × (b < a)) → a < b
        pick inside (inl g) = g.1
        pick inside (inr g) = absurd (g.0 inside)

    forth : a < b → T (any_below k apart && member b highest)
    forth less = go (decided (any_below k apart))
      where
        pick : (T (member b highest) × (a < b)) ⊎ ((T (member b highest) → ⊥) × (b < a)) → T (member b highest)
        pick (inl g) = g.0
        pick (inr g) = absurd (omega (arith, g.1))

        go : T (any_below k apart) ⊎ (T (any_below k apart) → ⊥) → T (any_below k apart && member b highest)
        go (inl some) = and_in (any_below k apart) (member b highest) some (pick (greater_has k ha hb (last (any_out k apart some))))
        go (inr none) =
            let same = equal_members k hb ha (λ p l. differ_same (member b) (member a) p (λ d. none (any_at k apart p l d))) in
            absurd (omega arith)

-- a word that a mask leaves as it is lies within the mask
pub within_and : (k : ℕ) {a : ℕ} → a < 2 ^ k → (b : ℕ) → eqb (bit_and a b) a ≡ within k (member a) (member b)
within_and k {a} ha b = same_test (eqb (bit_and a b) a) (within k (member a) (member b)) forth back
  where
    forth : T (eqb (bit_and a b) a) → T (within k (member a) (member b))
    forth t =
        within_in k (member a) (member b)
        (λ p _ inside. (and_out (member a p) (member b p)
        (subst (λ (c : Bool). T c) (ap (λ (y : ℕ). member y p) (sym (eqb→eq (bit_and a b) a t)) ∙ member_and a b p) inside)).1)

    back : T (within k (member a) (member b)) → T (eqb (bit_and a b) a)
    back t =
        let kept : (p : ℕ) → p < k → (member a p && member b p) ≡ member a p =
        λ p l.
        same_test (member a p && member b p) (member a p) (λ u. (and_out (member a p) (member b p) u).0)
        (λ inside. and_in (member a p) (member b p) inside (within_out k (member a) (member b) t p l inside))
        in
        let same = equal_members k (lt_of_le_of_lt (and_le_l a b) ha) ha (λ p l. member_and a b p ∙ kept p l) in
        subst (λ (y : ℕ). T (eqb y a)) (sym same) (eqb_refl a)

-- a word shifted down by n is not 0 where it has a number from n up
pub some_from : (k : ℕ) {x : ℕ} → x < 2 ^ k → (n : ℕ) → not (eqb (x / 2 ^ n) 0) ≡ any_below k (from_up n x)
unfolding from_up
some_from k {x} h n = same_test (not (eqb (x / 2 ^ n) 0)) (any_below k (from_up n x)) forth back
  where
    forth : T (not (eqb (x / 2 ^ n) 0)) → T (any_below k (from_up n x))
    forth t = go (eq-zero-or-pos (x / 2 ^ n))
      where
        go : (x / 2 ^ n ≡ 0) ⊎ (0 < x / 2 ^ n) → T (any_below k (from_up n x))
        go (inl e) = absurd (subst (λ (y : ℕ). T (not (eqb y 0))) e t)
        go (inr pos) =
            let s = some_member k (lt_of_le_of_lt (shr_le x n) h) pos in
            let inside = subst (λ (b : Bool). T b) (member_shifted x n s.at) s.holds in
            any_at k (from_up n x) (n + s.at) (member_below k h (n + s.at) inside)
            (and_in (leb n (n + s.at)) (member x (n + s.at)) (le→leb n (n + s.at) (le-add_right n s.at)) inside)

    back : T (any_below k (from_up n x)) → T (not (eqb (x / 2 ^ n) 0))
    back t = not_T (eqb (x / 2 ^ n) 0) (λ z. go (any_out k (from_up n x) t) (eqb→eq (x / 2 ^ n) 0 z))
      where
        go : Some k (from_up n x) → x / 2 ^ n ≡ 0 → ⊥
        go s e =
            let both = and_out (leb n s.at) (member x s.at) s.holds in
            let rest = le_dest (leb→le n s.at both.0) in
            empty_back e rest.0 (subst (λ (b : Bool). T b) (ap (member x) (sym rest.1) ∙ sym (member_shifted x n rest.0)) both.1)

pub none_from : (k : ℕ) {x : ℕ} → x < 2 ^ k → (n : ℕ) → k ≤ n → any_below k (from_up n x) ≡ false
none_from k h n l = sym (some_from k h n) ∙ ap (λ (y : ℕ). not (eqb y 0)) (div-eq_of_lt (lt_of_lt_of_le h (pow_mono l)))
