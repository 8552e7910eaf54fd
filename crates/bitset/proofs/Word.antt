-- What a word holds, number by number. A word of k bits is a number below 2 ^ k: the machine's have k = 64.
--   member_shifted, member_suc, member_lowest          a bit of a shifted word, of its half, and the lowest bit
--   digit_of_test, bit_of_member, lowest_bit           a bit as a number
--   member_and, member_or, member_xor                  a bit of two words put together
--   on_digits, member_op                               the one argument behind those three
--   member_beyond, member_below                        no member from the width up: a member is below it
--   member_zero, member_power                          the members of 0 and of 2 ^ e
--   member_cut, member_raised, member_under            a bit of a word cut off at a width, and of one shifted up
--   ones_digits, member_ones                           the digits and the members of 2 ^ n - 1
--   one_shifted                                        what the machine makes of `1 << e`
--   member_inserted, member_removed, member_difference, member_united, member_common, member_full_below   the members of the sets of specs/Word
--   inserted_word, removed_word, difference_word, common_word, full_below_word   those sets are words of 64 bits
--   equal_members                                      words with the same members are equal
--   empty, empty_back, some_member                     0 has no member, and no other word has none
--   size_counts, trailing_first                        the machine's counts: how many members, and the first
-- Assumes nothing.
use mathlib.Core.Path.{◌≡◌, refl, sym, ap, ap₂, ◌∙◌, subst}
use mathlib.Core.Bool.{Bool, true, false, cond, not, ◌&&◌, ◌||◌, beq, or_comm}
use mathlib.Core.Logic.{◌⊎◌, inl, inr}
use Prim.Native.Nat.{ℕ, zero, suc, ◌+◌, ◌-◌, ◌*◌, ◌/◌, ◌%◌, ◌^◌, ◌≤◌, ◌<◌, min, max}
use native.Mathlib.Nat.{one-mul, mod-eq_of_lt, div-one, mul-add-mod_self_right, pow-suc, mul-div_cancel, mul-mod_left, div-eq_of_lt, lt_of_lt_of_le, lt_of_le_of_lt, min-eq_left, min-le_right, le_dest}
use native.Mathlib.Numerals.{one-add}
use native.Mathlib.Omega.{arith}
use lib.Dec.{T, ltb, eqb, ltb→lt, lt→ltb, eqb→eq, eqb-zero-suc, eqb-suc-zero, eqb-suc-suc, leb-suc-zero, leb-suc-suc, leb-zero}
use lib.Arith.{lt-one}
use lib.Pow.{shr-shr, shl-shr, pow-add, pow_mono, pow-lt, pow_pos, ones_lt, field, mod-mod-pow}
use lib.Bits as bits
use lib.Bits.{bit_and, bit_or, bit_xor, and_step, or_step, xor_step, and_shr, or_shr, xor_shr, or_lt, xor_lt, and_le_l}
use lib.Count.{ones, ones_step, count_trailing_zeros, under}
use Rattle.bitset.specs.Below.{any_below, first_below, count_below, differ}
use Rattle.bitset.specs.Word.{member, inserted, removed, difference, united, common, full_below}
use Rattle.bitset.proofs.Tests.{is_true, is_false, decided, below_or}
use Rattle.bitset.proofs.Below.{Some, any_out, any_at, first_same, first_bottom}
use Rattle.bitset.proofs.Count.{count_same, count_bottom}

-- ---- the bits, one by one

pub member_shifted : (x n p : ℕ) → member (x / 2 ^ n) p ≡ member x (n + p)
unfolding member
member_shifted x n p = rw (shr-shr x n p)

pub member_suc : (x p : ℕ) → member x (suc p) ≡ member (x / 2) p
member_suc x p = ap (member x) (sym (one-add p)) ∙ sym (member_shifted x 1 p)

pub member_lowest : (x : ℕ) → member x 0 ≡ eqb (x % 2) 1
unfolding member
member_lowest x = ap (λ (y : ℕ). eqb (y % 2) 1) (div-one x)

-- a digit, from its test
pub digit_of_test : (n : ℕ) → n < 2 → n ≡ cond (eqb n 1) 1 0
digit_of_test zero h = refl
digit_of_test (suc zero) h = refl
digit_of_test (suc (suc n)) h = absurd (omega arith)

pub bit_of_member : (x p : ℕ) → x / 2 ^ p % 2 ≡ cond (member x p) 1 0
unfolding member
bit_of_member x p = digit_of_test (x / 2 ^ p % 2) (omega arith)

-- an operation that goes digit by digit, by f, sets a bit as the test t says of the operands' bits
module _ (op f : ℕ → ℕ → ℕ) (t : Bool → Bool → Bool)
    (shifted : (a b k : ℕ) → op a b / 2 ^ k ≡ op (a / 2 ^ k) (b / 2 ^ k))
    (step : (a b : ℕ) → op a b ≡ op (a / 2) (b / 2) * 2 + f (a % 2) (b % 2))
    (both : eqb (f 1 1 % 2) 1 ≡ t true true) (left : eqb (f 1 0 % 2) 1 ≡ t true false)
    (right : eqb (f 0 1 % 2) 1 ≡ t false true) (neither : eqb (f 0 0 % 2) 1 ≡ t false false) where
  pub on_digits : (c d : Bool) → eqb (f (cond c 1 0) (cond d 1 0) % 2) 1 ≡ t c d
  on_digits true true = both
  on_digits true false = left
  on_digits false true = right
  on_digits false false = neither

  pub member_op : (a b p : ℕ) → member (op a b) p ≡ t (member a p) (member b p)
  unfolding member
  member_op a b p =
      let m : ℕ = a / 2 ^ p in
      let n : ℕ = b / 2 ^ p in
      ap (λ (y : ℕ). eqb (y % 2) 1) (shifted a b p ∙ step m n)
      ∙ ap (λ (y : ℕ). eqb y 1) (mul-add-mod_self_right (op (m / 2) (n / 2)) 2 (f (m % 2) (n % 2)))
      ∙ ap₂ (λ (y z : ℕ). eqb (f y z % 2) 1) (bit_of_member a p) (bit_of_member b p)
      ∙ on_digits (member a p) (member b p)

pub member_and : (a b p : ℕ) → member (bit_and a b) p ≡ (member a p && member b p)
member_and = member_op bit_and min (λ c d. c && d) and_shr and_step refl refl refl refl

pub member_or : (a b p : ℕ) → member (bit_or a b) p ≡ (member a p || member b p)
member_or = member_op bit_or max (λ c d. c || d) or_shr or_step refl refl refl refl

pub member_xor : (a b p : ℕ) → member (bit_xor a b) p ≡ differ (member a) (member b) p
unfolding differ
member_xor = member_op bit_xor bits.differ (λ c d. not (beq c d)) xor_shr xor_step refl refl refl refl

pub member_beyond : (k : ℕ) {x : ℕ} → x < 2 ^ k → (p : ℕ) → k ≤ p → member x p ≡ false
unfolding member
member_beyond k h p l = ap (λ (y : ℕ). eqb (y % 2) 1) (div-eq_of_lt (lt_of_lt_of_le h (pow_mono l)))

pub member_zero : (p : ℕ) → member 0 p ≡ false
member_zero p = member_beyond 0 (omega arith) p (omega arith)

pub member_power : (e p : ℕ) → member (2 ^ e) p ≡ eqb e p
member_power zero zero = member_lowest 1
member_power zero (suc p) = member_suc 1 p ∙ member_zero p ∙ sym (eqb-zero-suc p)
member_power (suc e) zero =
    member_lowest (2 ^ suc e) ∙ ap (λ (y : ℕ). eqb (y % 2) 1) (pow-suc 2 e) ∙ ap (λ (y : ℕ). eqb y 1) (mul-mod_left (2 ^ e) 2) ∙ sym (eqb-suc-zero e)
member_power (suc e) (suc p) =
    member_suc (2 ^ suc e) p ∙ ap (λ (y : ℕ). member (y / 2) p) (pow-suc 2 e) ∙ ap (λ (y : ℕ). member y p) (mul-div_cancel (2 ^ e) (omega arith))
    ∙ member_power e p ∙ sym (eqb-suc-suc e p)

-- a member of a word is below the word's width
pub member_below : (k : ℕ) {x : ℕ} → x < 2 ^ k → (p : ℕ) → T (member x p) → p < k
member_below k h p t = go (below_or p k)
  where
    go : (p < k) ⊎ (k ≤ p) → p < k
    go (inl l) = l
    go (inr l) = absurd (subst (λ (b : Bool). T b) (member_beyond k h p l) t)

-- a word cut off at a width has the same bits below it
pub member_cut : (k x p : ℕ) → p < k → member (x % 2 ^ k) p ≡ member x p
unfolding member
member_cut k x p l =
    let more = le_dest l in
    let e : k ≡ more.0 + 1 + p = omega (arith, more.1) in
    ap (λ (w : ℕ). eqb (x % 2 ^ w / 2 ^ p % 2) 1) e ∙ ap (λ (y : ℕ). eqb (y % 2) 1) (field x (more.0 + 1) p) ∙ ap (λ (y : ℕ). eqb y 1) (mod-mod-pow (x / 2 ^ p) more.0 1)

-- shifted up by n: bit p comes to n + p, and below n there is none
pub member_raised : (x n p : ℕ) → member (x * 2 ^ n) (n + p) ≡ member x p
member_raised x n p = sym (member_shifted (x * 2 ^ n) n p) ∙ ap (λ (y : ℕ). member y p) (shl-shr x n)

pub member_under : (x n p : ℕ) → p < n → member (x * 2 ^ n) p ≡ false
member_under x n p l =
    let more = le_dest l in
    let high : ℕ = 2 ^ more.0 in
    let e : n ≡ p + suc more.0 = omega (arith, more.1) in
    let here : p ≡ p + 0 = omega arith in
    ap₂ member (ap (λ (w : ℕ). x * 2 ^ w) e ∙ ap (λ (y : ℕ). x * y) (pow-add 2 p (suc more.0) ∙ ap (λ (y : ℕ). 2 ^ p * y) (pow-suc 2 more.0)) ∙ regrouped (2 ^ p) high) here
    ∙ member_raised (x * high * 2) p 0 ∙ member_lowest (x * high * 2) ∙ ap (λ (y : ℕ). eqb y 1) (mul-mod_left (x * high) 2)
  where
    regrouped : (a b : ℕ) → x * (a * (b * 2)) ≡ x * b * 2 * a
    regrouped a b = omega arith

-- ---- one number put in or taken out, and the numbers below a bound

-- the machine's `1 << e`
pub one_shifted : {e : ℕ} → e < 64 → 1 * 2 ^ e % 2 ^ 64 ≡ 2 ^ e
one_shifted {e} h = mod-eq_of_lt (subst (λ (y : ℕ). y < 2 ^ 64) (sym (one-mul (2 ^ e))) (pow-lt h)) ∙ one-mul (2 ^ e)

pub member_inserted : (x : ℕ) {e : ℕ} → e < 64 → (p : ℕ) → member (inserted x e) p ≡ (eqb e p || member x p)
unfolding inserted
member_inserted x {e} h p =
    ap (λ (t : Bool). member (cond t (bit_or x (2 ^ e)) x) p) (is_true (ltb e 64) (lt→ltb e 64 h)) ∙ member_or x (2 ^ e) p
    ∙ or_comm (member x p) (member (2 ^ e) p) ∙ ap (λ (t : Bool). t || member x p) (member_power e p)

pub member_removed : (x e p : ℕ) → member (removed x e) p ≡ (not (eqb e p) && member x p)
unfolding removed differ
member_removed x e p = go (member x e) refl (eqb e p) refl
  where
    differ_false : (b : Bool) → not (beq b false) ≡ b
    differ_false true = refl
    differ_false false = refl

    at_e : eqb e p ≡ true → member x p ≡ member x e
    at_e same = ap (member x) (sym (eqb→eq e p (subst (λ (b : Bool). T b) (sym same) tt)))

    go : (a : Bool) → member x e ≡ a → (b : Bool) → eqb e p ≡ b → member (cond a (bit_xor x (2 ^ e)) x) p ≡ (not b && member x p)
    go true inside true same = member_xor x (2 ^ e) p ∙ ap₂ (λ (c d : Bool). not (beq c d)) (at_e same ∙ inside) (member_power e p ∙ same)
    go true inside false other = member_xor x (2 ^ e) p ∙ ap (λ (d : Bool). not (beq (member x p) d)) (member_power e p ∙ other) ∙ differ_false (member x p)
    go false outside true same = at_e same ∙ outside
    go false outside false other = refl

pub member_difference : (x y p : ℕ) → member (difference x y) p ≡ (member x p && not (member y p))
unfolding difference differ
member_difference x y p =
    member_xor x (bit_and x y) p ∙ ap (λ (d : Bool). not (beq (member x p) d)) (member_and x y p) ∙ go (member x p) (member y p)
  where
    go : (a b : Bool) → not (beq a (a && b)) ≡ (a && not b)
    go true true = refl
    go true false = refl
    go false b = refl

pub member_united : (x y p : ℕ) → member (united x y) p ≡ (member x p || member y p)
unfolding united
member_united = member_or

pub member_common : (x y p : ℕ) → member (common x y) p ≡ (member x p && member y p)
unfolding common
member_common = member_and

-- 2 ^ n - 1 has its n lowest bits set: the lowest, and the rest
pub ones_digits : (n : ℕ) → ((2 ^ suc n - 1) % 2 ≡ 1) × ((2 ^ suc n - 1) / 2 ≡ 2 ^ n - 1)
ones_digits n = omega (arith, pow-suc 2 n, pow_pos n)

pub member_ones : (n p : ℕ) → member (2 ^ n - 1) p ≡ ltb p n
member_ones zero p = member_zero p ∙ sym (leb-suc-zero p)
member_ones (suc n) zero =
    member_lowest (2 ^ suc n - 1) ∙ ap (λ (y : ℕ). eqb y 1) (ones_digits n).0 ∙ sym (leb-suc-suc 0 n ∙ leb-zero n)
member_ones (suc n) (suc p) =
    member_suc (2 ^ suc n - 1) p ∙ ap (λ (y : ℕ). member y p) (ones_digits n).1 ∙ member_ones n p ∙ sym (leb-suc-suc (suc p) n)

pub member_full_below : {n : ℕ} → n ≤ 64 → (p : ℕ) → member (full_below n) p ≡ ltb p n
unfolding full_below
member_full_below {n} h p = ap (λ (m : ℕ). member (2 ^ m - 1) p) (min-eq_left h) ∙ member_ones n p

-- each is a word again
pub inserted_word : {x : ℕ} → x < 2 ^ 64 → (e : ℕ) → inserted x e < 2 ^ 64
unfolding inserted
inserted_word {x} h e = go (ltb e 64) (ltb→lt e 64)
  where
    go : (b : Bool) → (T b → e < 64) → cond b (bit_or x (2 ^ e)) x < 2 ^ 64
    go true l = or_lt 64 x (2 ^ e) h (pow-lt (l tt))
    go false l = h

pub removed_word : {x : ℕ} → x < 2 ^ 64 → (e : ℕ) → removed x e < 2 ^ 64
unfolding removed
removed_word {x} h e = go (member x e) (member_below 64 h e)
  where
    go : (b : Bool) → (T b → e < 64) → cond b (bit_xor x (2 ^ e)) x < 2 ^ 64
    go true l = xor_lt 64 x (2 ^ e) h (pow-lt (l tt))
    go false l = h

pub difference_word : {x : ℕ} → x < 2 ^ 64 → (y : ℕ) → difference x y < 2 ^ 64
unfolding difference
difference_word {x} h y = xor_lt 64 x (bit_and x y) h (lt_of_le_of_lt (and_le_l x y) h)

pub common_word : {x : ℕ} → x < 2 ^ 64 → (y : ℕ) → common x y < 2 ^ 64
unfolding common
common_word {x} h y = lt_of_le_of_lt (and_le_l x y) h

pub full_below_word : (n : ℕ) → full_below n < 2 ^ 64
unfolding full_below
full_below_word n = lt_of_lt_of_le (ones_lt (min n 64)) (pow_mono (min-le_right n 64))

-- ---- the members make the number

pub lowest_bit : (x : ℕ) → x % 2 ≡ cond (member x 0) 1 0
lowest_bit x = digit_of_test (x % 2) (omega arith) ∙ ap (λ (b : Bool). cond b 1 0) (sym (member_lowest x))

pub equal_members : (k : ℕ) {a b : ℕ} → a < 2 ^ k → b < 2 ^ k → ((p : ℕ) → p < k → member a p ≡ member b p) → a ≡ b
equal_members zero ha hb e = omega arith
equal_members (suc k) {a} {b} ha hb e =
    let halves = equal_members k {a = a / 2} {b = b / 2} (omega (arith, pow-suc 2 k)) (omega (arith, pow-suc 2 k)) (λ p l. sym (member_suc a p) ∙ e (suc p) (omega arith) ∙ member_suc b p) in
    let lowest : a % 2 ≡ b % 2 = lowest_bit a ∙ ap (λ (t : Bool). cond t 1 0) (e 0 (omega arith)) ∙ sym (lowest_bit b) in
    omega arith

-- a word with no member is 0, and 0 has no member
pub empty : (k : ℕ) {x : ℕ} → x < 2 ^ k → ((p : ℕ) → p < k → T (member x p) → ⊥) → x ≡ 0
empty k {x} h none = equal_members k h (pow_pos k) (λ p l. is_false (member x p) (none p l) ∙ sym (member_zero p))

pub empty_back : {x : ℕ} → x ≡ 0 → (p : ℕ) → T (member x p) → ⊥
empty_back e p t = subst (λ (b : Bool). T b) (ap (λ (y : ℕ). member y p) e ∙ member_zero p) t

pub some_member : (k : ℕ) {x : ℕ} → x < 2 ^ k → 0 < x → Some k (member x)
some_member k {x} h pos = go (decided (any_below k (member x)))
  where
    go : T (any_below k (member x)) ⊎ (T (any_below k (member x)) → ⊥) → Some k (member x)
    go (inl t) = any_out k (member x) t
    go (inr none) = let zero_word = empty k h (λ p l t. none (any_at k (member x) p l t)) in absurd (omega arith)

-- ---- how many, and the first

pub size_counts : (k : ℕ) {x : ℕ} → x < 2 ^ k → ones x ≡ count_below k (member x)
unfolding ones count_below
size_counts zero h = ap ones (lt-one h)
size_counts (suc k) {x} h =
    ones_step x
    ∙ ap₂ (λ (d r : ℕ). d + r) (lowest_bit x)
    (size_counts k {x = x / 2} (omega (arith, pow-suc 2 k)) ∙ count_same k (member (x / 2)) (λ i. member x (suc i)) (λ i l. sym (member_suc x i)))
    ∙ sym (count_bottom k (member x))

pub trailing_first : (k x : ℕ) → count_trailing_zeros k x ≡ first_below k (member x)
unfolding count_trailing_zeros first_below
trailing_first zero x = refl
trailing_first (suc k) x =
    ap₂ under (lowest_bit x) (trailing_first k (x / 2) ∙ first_same k (member (x / 2)) (λ i. member x (suc i)) (λ i l. sym (member_suc x i)))
    ∙ pick (member x 0) (first_below k (λ i. member x (suc i))) ∙ sym (first_bottom k (member x))
  where
    pick : (b : Bool) (t : ℕ) → under (cond b 1 0) t ≡ cond b 0 (suc t)
    pick true t = refl
    pick false t = refl
