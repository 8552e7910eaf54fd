-- What an exchange does to the bits of two words, and exchanges one after the other.
--   crosswise s mask x y           the bits in which the upper half of x and the lower half of y differ
--   low_word, high_word            the two words after the exchange
--   low_kept, low_taken, high_taken, high_kept     their bits, where they were kept and where they come from the other word
--   low_fits, high_fits, set_words     they are words, and so are all
--   exchanged_pair                 the exchange of one pair
--   exchanged_none, exchanged_both     no exchange; exchanges in some pairs, then in others
-- Assumes nothing.
use mathlib.Core.Path.{◌≡◌, refl, sym, ap, ap₂, ◌∙◌, subst}
use mathlib.Core.Bool.{Bool, true, false, cond, not, ◌&&◌, beq}
use mathlib.Core.Logic.{◌⊎◌, inl, inr}
use mathlib.Core.List.{List}
use Prim.Native.Nat.{ℕ, ◌+◌, ◌-◌, ◌*◌, ◌/◌, ◌%◌, ◌^◌, ◌≤◌, ◌<◌}
use native.Mathlib.Nat.{add-div_left, mod-lt, lt_of_le_of_lt}
use native.Mathlib.Omega.{arith}
use lib.Dec.{T, eqb, eqb→eq, eqb_refl}
use lib.ListN.{length, get_or, set, length-set}
use lib.Seq.{set_out, get_or-set_same, get_or-set_other}
use lib.Pow.{pow_pos, shr_le}
use lib.Bits.{bit_and, bit_xor, and_le_l, xor_lt}
use Rattle.bitset.specs.Below.{differ}
use Rattle.bitset.specs.Word.{member}
use Rattle.bitset.specs.Matrix.{bit, AreWords, Stride, IsLow, low_of, crossed, Exchanged}
use Rattle.bitset.proofs.Tests.{decided, same_test, cond_yes, cond_no, below_or}
use Rattle.bitset.proofs.Sets.{differ_comm}
use Rattle.bitset.proofs.Word.{member_and, member_xor, member_shifted, member_cut, member_raised, member_under}
use Rattle.bitset.proofs.Halves.{halves, low_at, crossed_at, low_of_crossed, crossed_below, pair_below}

abbrev pub crosswise : ℕ → ℕ → ℕ → ℕ → ℕ
crosswise s mask x y = bit_and (bit_xor (x / 2 ^ s) y) mask

abbrev pub low_word : ℕ → ℕ → ℕ → ℕ → ℕ
low_word s mask x y = bit_xor x (crosswise s mask x y * 2 ^ s % 2 ^ 64)

abbrev pub high_word : ℕ → ℕ → ℕ → ℕ → ℕ
high_word s mask x y = bit_xor y (crosswise s mask x y)

-- a bit that is changed where it differs from the other, and the mask has it, becomes the other
chosen : (a b m : Bool) → not (beq a (not (beq b a) && m)) ≡ cond m b a
chosen true true true = refl
chosen true true false = refl
chosen true false true = refl
chosen true false false = refl
chosen false true true = refl
chosen false true false = refl
chosen false false true = refl
chosen false false false = refl

-- the same, with the two compared the other way round
chosen_turned : (a b m : Bool) → not (beq a (not (beq a b) && m)) ≡ cond m b a
unfolding differ
chosen_turned a b m = ap (λ (t : Bool). not (beq a (t && m))) (differ_comm (λ _. a) (λ _. b) 0) ∙ chosen a b m

unchanged : (a : Bool) → not (beq a false) ≡ a
unchanged true = refl
unchanged false = refl

-- words with one of them replaced by a word
set_words : (words : List ℕ) (i w : ℕ) → AreWords words → w < 2 ^ 64 → AreWords (set words i w)
set_words words i w are h r = go (decided (eqb i r)) (below_or i (length words))
  where
    go : T (eqb i r) ⊎ (T (eqb i r) → ⊥) → (i < length words) ⊎ (length words ≤ i) → get_or (set words i w) r 0 < 2 ^ 64
    go (inl e) (inl l) = subst (λ (k : ℕ). get_or (set words i w) k 0 < 2 ^ 64) (eqb→eq i r e) (rw (get_or-set_same words i w 0 l) h)
    go (inl e) (inr l) = rw (set_out words i w l) (are r)
    go (inr other) l = rw (get_or-set_other words i r w 0 (λ e. other (rw e (eqb_refl i)))) (are r)

module _ {s mask : ℕ} (stride : Stride s mask) where
  lower_masked : (c : ℕ) → c < 64 → c / s % 2 ≡ 0 → member mask c ≡ true
  lower_masked c l e = stride.masked c l ∙ ap (λ (b : ℕ). eqb b 0) e

  upper_unmasked : (c : ℕ) → c < 64 → c / s % 2 ≡ 1 → member mask c ≡ false
  upper_unmasked c l e = stride.masked c l ∙ ap (λ (b : ℕ). eqb b 0) e

  -- one stride up is the other half
  half_up : (d : ℕ) → (s + d) / s ≡ d / s + 1
  half_up d = add-div_left d stride.positive

  module _ (x y : ℕ) where
    crosswise_bit : (c : ℕ) → member (crosswise s mask x y) c ≡ (not (beq (member x (s + c)) (member y c)) && member mask c)
    unfolding differ
    crosswise_bit c =
        member_and (bit_xor (x / 2 ^ s) y) mask c ∙ ap (λ (b : Bool). b && member mask c) (member_xor (x / 2 ^ s) y c ∙ ap (λ (b : Bool). not (beq b (member y c))) (member_shifted x s c))

    high_bit : (c : ℕ) → member (high_word s mask x y) c ≡ cond (member mask c) (member x (s + c)) (member y c)
    unfolding differ
    high_bit c =
        member_xor y (crosswise s mask x y) c ∙ ap (λ (b : Bool). not (beq (member y c) b)) (crosswise_bit c)
        ∙ chosen (member y c) (member x (s + c)) (member mask c)

    pub high_taken : (c : ℕ) → c < 64 → c / s % 2 ≡ 0 → member (high_word s mask x y) c ≡ member x (s + c)
    high_taken c l e = high_bit c ∙ ap (λ (b : Bool). cond b (member x (s + c)) (member y c)) (lower_masked c l e)

    pub high_kept : (c : ℕ) → c < 64 → c / s % 2 ≡ 1 → member (high_word s mask x y) c ≡ member y c
    high_kept c l e = high_bit c ∙ ap (λ (b : Bool). cond b (member x (s + c)) (member y c)) (upper_unmasked c l e)

    low_bit : (c : ℕ) → c < 64 → (b : Bool) → member (crosswise s mask x y * 2 ^ s) c ≡ b → member (low_word s mask x y) c ≡ not (beq (member x c) b)
    unfolding differ
    low_bit c l b e =
        member_xor x (crosswise s mask x y * 2 ^ s % 2 ^ 64) c
        ∙ ap (λ (t : Bool). not (beq (member x c) t)) (member_cut 64 (crosswise s mask x y * 2 ^ s) c l ∙ e)

    low_raised : (d : ℕ) → s + d < 64 → member (low_word s mask x y) (s + d) ≡ cond (member mask d) (member y d) (member x (s + d))
    low_raised d l =
        low_bit (s + d) l (not (beq (member x (s + d)) (member y d)) && member mask d) (member_raised (crosswise s mask x y) s d ∙ crosswise_bit d)
        ∙ chosen_turned (member x (s + d)) (member y d) (member mask d)

    pub low_taken : (d : ℕ) → s + d < 64 → d / s % 2 ≡ 0 → member (low_word s mask x y) (s + d) ≡ member y d
    low_taken d l e = low_raised d l ∙ ap (λ (b : Bool). cond b (member y d) (member x (s + d))) (lower_masked d (omega arith) e)

    pub low_kept : (c : ℕ) → c < 64 → c / s % 2 ≡ 0 → member (low_word s mask x y) c ≡ member x c
    low_kept c l e = go (below_or c s)
      where
        go : (c < s) ⊎ (s ≤ c) → member (low_word s mask x y) c ≡ member x c
        go (inl h) = low_bit c l false (member_under (crosswise s mask x y) s c h) ∙ unchanged (member x c)
        go (inr h) =
            let d : ℕ = c - s in
            let up : c ≡ s + d = omega arith in
            let half : d / s % 2 ≡ 1 = omega (arith, half_up d, ap (λ (z : ℕ). z / s) up) in
            ap (member (low_word s mask x y)) up
            ∙ low_raised d (omega arith) ∙ ap (λ (b : Bool). cond b (member y d) (member x (s + d))) (upper_unmasked d (omega arith) half)
            ∙ ap (member x) (sym up)

    low_fits : x < 2 ^ 64 → low_word s mask x y < 2 ^ 64
    low_fits hx = xor_lt 64 x (crosswise s mask x y * 2 ^ s % 2 ^ 64) hx (mod-lt (crosswise s mask x y * 2 ^ s) (pow_pos 64))

    high_fits : x < 2 ^ 64 → y < 2 ^ 64 → high_word s mask x y < 2 ^ 64
    high_fits hx hy =
        xor_lt 64 y (crosswise s mask x y) hy (lt_of_le_of_lt (and_le_l (bit_xor (x / 2 ^ s) y) mask) (xor_lt 64 (x / 2 ^ s) y (lt_of_le_of_lt (shr_le x s) hx) hy))

  -- ---- a pair of rows

  module _ (words : List ℕ) (full : length words ≡ 64) {low : ℕ} (is-low : IsLow s low) where
    abbrev x : ℕ
    x = get_or words low 0

    abbrev y : ℕ
    y = get_or words (low + s) 0

    abbrev after : List ℕ
    after = set (set words low (low_word s mask x y)) (low + s) (high_word s mask x y)

    at_low : get_or after low 0 ≡ low_word s mask x y
    at_low =
        get_or-set_other (set words low (low_word s mask x y)) (low + s) low (high_word s mask x y) 0 (λ e. omega (arith, stride.positive))
        ∙ get_or-set_same words low (low_word s mask x y) 0 (omega (arith, is-low.below))

    at_high : get_or after (low + s) 0 ≡ high_word s mask x y
    at_high =
        get_or-set_same (set words low (low_word s mask x y)) (low + s) (high_word s mask x y) 0
        (omega (arith, length-set words low (low_word s mask x y), pair_below s stride.positive stride.whole is-low))

    -- a row of another pair is as it was
    elsewhere : (r : ℕ) → (low ≡ low_of s r → ⊥) → get_or after r 0 ≡ get_or words r 0
    elsewhere r other =
        get_or-set_other (set words low (low_word s mask x y)) (low + s) r (high_word s mask x y) 0
        (λ e.
        let up : r ≡ s + low = omega arith in
        let upper : r / s % 2 ≡ 1 = omega (arith, ap (λ (z : ℕ). z / s) up, half_up low, is-low.lower) in
        other (omega (arith, low_at s stride.positive r upper)))
        ∙ get_or-set_other words low r (low_word s mask x y) 0
        (λ e. other (omega (arith, low_at s stride.positive r (ap (λ (z : ℕ). z / s % 2) e ∙ is-low.lower))))

    pair : (r c : ℕ) → c < 64 → low_of s r ≡ low → bit after r c ≡ bit words (crossed s r c) (crossed s c r)
    pair r c l e = go (halves s r) (halves s c)
      where
        -- a bit of the pair comes from where row and column are crossed
        moved : (w r' c' : ℕ) → get_or after r 0 ≡ w → member w c ≡ bit words r' c' → crossed s r c ≡ r' → crossed s c r ≡ c'
            → bit after r c ≡ bit words (crossed s r c) (crossed s c r)
        moved w r' c' written same row column = ap (λ (w : ℕ). member w c) written ∙ same ∙ sym (ap₂ (bit words) row column)

        in_low : r / s % 2 ≡ 0 → get_or after r 0 ≡ low_word s mask x y
        in_low lower = let here : r ≡ low = omega (arith, low_at s stride.positive r lower) in ap (λ (k : ℕ). get_or after k 0) here ∙ at_low

        in_high : r / s % 2 ≡ 1 → get_or after r 0 ≡ high_word s mask x y
        in_high upper = let here : r ≡ low + s = omega (arith, low_at s stride.positive r upper) in ap (λ (k : ℕ). get_or after k 0) here ∙ at_high

        row : {b : ℕ} → c / s % 2 ≡ b → crossed s r c ≡ low_of s r + b * s
        row = crossed_at s stride.positive r c

        column : {b : ℕ} → r / s % 2 ≡ b → crossed s c r ≡ low_of s c + b * s
        column = crossed_at s stride.positive c r

        place : {b : ℕ} → c / s % 2 ≡ b → c ≡ low_of s c + b * s
        place = low_at s stride.positive c

        go : (r / s % 2 ≡ 0) ⊎ (r / s % 2 ≡ 1) → (c / s % 2 ≡ 0) ⊎ (c / s % 2 ≡ 1) → bit after r c ≡ bit words (crossed s r c) (crossed s c r)
        go (inl lower) (inl left) =
            moved (low_word s mask x y) low c (in_low lower) (low_kept x y c l left) (omega (arith, row left)) (omega (arith, column lower, place left))
        go (inl lower) (inr right) =
            let up : c ≡ s + low_of s c = omega (arith, place right) in
            let half : low_of s c / s % 2 ≡ 0 = omega (arith, ap (λ (z : ℕ). z / s) up, half_up (low_of s c)) in
            moved (low_word s mask x y) (low + s) (low_of s c) (in_low lower)
            (ap (member (low_word s mask x y)) up ∙ low_taken x y (low_of s c) (omega arith) half) (omega (arith, row right)) (omega (arith, column lower))
        go (inr upper) (inl left) =
            moved (high_word s mask x y) low (s + c) (in_high upper) (high_taken x y c l left) (omega (arith, row left)) (omega (arith, column upper, place left))
        go (inr upper) (inr right) =
            moved (high_word s mask x y) (low + s) c (in_high upper) (high_kept x y c l right) (omega (arith, row right)) (omega (arith, column upper, place right))

    pub exchanged_pair : Exchanged s (eqb low) words after
    exchanged_pair = record {
      as_many = length-set (set words low (low_word s mask x y)) (low + s) (high_word s mask x y) ∙ length-set words low (low_word s mask x y);
      still_words = λ are.
          set_words (set words low (low_word s mask x y)) (low + s) (high_word s mask x y) (set_words words low (low_word s mask x y) are (low_fits x y (are low))) (high_fits x y (are low) (are (low + s)));
      cell = λ r c l h. go r c h (decided (eqb low (low_of s r)));
    }
      where
        go : (r c : ℕ) → c < 64 → T (eqb low (low_of s r)) ⊎ (T (eqb low (low_of s r)) → ⊥)
            → bit after r c ≡ cond (eqb low (low_of s r)) (bit words (crossed s r c) (crossed s c r)) (bit words r c)
        go r c h (inl t) = pair r c h (sym (eqb→eq low (low_of s r) t)) ∙ sym (cond_yes (eqb low (low_of s r)) _ _ t)
        go r c h (inr f) =
            ap (λ (w : ℕ). member w c) (elsewhere r (λ e. f (subst (λ (k : ℕ). T (eqb low k)) e (eqb_refl low))))
            ∙ sym (cond_no (eqb low (low_of s r)) _ _ f)

-- ---- exchanges one after the other

pub exchanged_none : (s : ℕ) {p : ℕ → Bool} (words : List ℕ) → ((k : ℕ) → p k ≡ false) → Exchanged s p words words
exchanged_none s {p} words none = record {
  as_many = refl;
  still_words = λ are. are;
  cell = λ r c l h. sym (ap (λ (b : Bool). cond b (bit words (crossed s r c) (crossed s c r)) (bit words r c)) (none (low_of s r)));
}

-- exchanges in pairs for which p holds, then in others, for which q holds, are exchanges in those for which g holds
module _ {s mask : ℕ} (stride : Stride s mask) {p q : ℕ → Bool} (g : ℕ → Bool) {before words after : List ℕ} (done : Exchanged s p before words) (more : Exchanged s q words after)
    (apart : (k : ℕ) → T (q k) → T (p k) → ⊥) (then : (k : ℕ) → T (q k) → T (g k)) (first : (k : ℕ) → T (p k) → T (g k))
    (only : (r : ℕ) → T (g (low_of s r)) → T (q (low_of s r)) ⊎ T (p (low_of s r))) where
  pub exchanged_both : Exchanged s g before after
  exchanged_both = record { as_many = more.as_many ∙ done.as_many; still_words = λ are. more.still_words (done.still_words are); cell = λ r c l h. more.cell r c l h ∙ go r c l h (decided (q (low_of s r))) }
    where
      below : (r c : ℕ) → r < 64 → crossed s r c < 64
      below = crossed_below s stride.positive stride.whole

      go : (r c : ℕ) → r < 64 → c < 64 → T (q (low_of s r)) ⊎ (T (q (low_of s r)) → ⊥)
          → cond (q (low_of s r)) (bit words (crossed s r c) (crossed s c r)) (bit words r c)
          ≡ cond (g (low_of s r)) (bit before (crossed s r c) (crossed s c r)) (bit before r c)
      go r c l h (inl now) =
          cond_yes (q (low_of s r)) _ _ now ∙ done.cell (crossed s r c) (crossed s c r) (below r c l) (below c r h)
          ∙ cond_no (p (low_of s (crossed s r c))) _ _ (λ t. apart (low_of s r) now (subst (λ (k : ℕ). T (p k)) (low_of_crossed s stride.positive r c) t))
          ∙ sym (cond_yes (g (low_of s r)) _ _ (then (low_of s r) now))
      go r c l h (inr not-now) =
          cond_no (q (low_of s r)) _ _ not-now ∙ done.cell r c l h
          ∙ ap (λ (b : Bool). cond b (bit before (crossed s r c) (crossed s c r)) (bit before r c)) (same_test (p (low_of s r)) (g (low_of s r)) (first (low_of s r)) (λ t. earlier (only r t)))
        where
          earlier : T (q (low_of s r)) ⊎ T (p (low_of s r)) → T (p (low_of s r))
          earlier (inl now) = absurd (not-now now)
          earlier (inr t) = t
