-- Searches and counts in rows and sets, word by word. Word i of a test f on numbers below n is x where f holds at 64 * i + q just where q is in x.
--   only_word, both_word               the word of one row without another, and of a row and a set in common
--   IsPast n f m, past, past_unique    what `past_last` is
--   past_none                          where f holds nowhere
--   past_largest                       the machine's count of leading zeros gives it for a word
--   NoneFrom n f q                     f holds at no number from q up;   none_sooner   nor then from a greater one
--   FirstHere, first_here              a search from word 0 up, which r found in word i, or passed it
--   PastHere, past_here                a search from the last word down likewise
--   count_more, count_here             a count, and one word more of it
-- Assumes nothing.
use mathlib.Core.Path.{◌≡◌, refl, sym, ap, ap₂, ◌∙◌, subst}
use mathlib.Core.Bool.{Bool, true, false, cond, not, ◌&&◌}
use mathlib.Core.Logic.{◌⊎◌, inl, inr}
use mathlib.Core.List.{List}
use Prim.Native.Nat.{ℕ, zero, suc, ◌+◌, ◌*◌, ◌-◌, ◌/◌, ◌%◌, ◌^◌, ◌≤◌, ◌<◌}
use native.Mathlib.Nat.{one-mul, add-zero, eq-zero-or-pos}
use native.Mathlib.Omega.{arith}
use lib.Count.{count_leading_zeros, leading_of_zero, leading_top}
use lib.Dec.{T, eqb}
use lib.ListN.{get_or}
use lib.Pow.{shr_lt, shr_mono, shl-shr}
use Rattle.bitset.specs.Below.{any_below, first_below, last_below, count_below, only, past_last}
use Rattle.bitset.specs.Word.{member, difference, common}
use Rattle.bitset.proofs.Tests.{decided, cond_yes, cond_no, below_or}
use Rattle.bitset.proofs.Below.{any_out, any_at, first, first_unique, last}
use Rattle.bitset.proofs.Count.{count_same}
use Rattle.bitset.proofs.Passed.{Passed}
use Rattle.bitset.proofs.Word.{member_below, member_difference, member_common, empty_back}
use Rattle.searches.specs.Table.{arcs_wide}
use Rattle.tables.specs.Rows.{in_set}
use Rattle.tables.proofs.Bits.{arc_word_at, in_word_at_lem}

pub only_word : (labels : List ℕ) (c b i q : ℕ) → i < 8 → q < 64
    → only (arcs_wide 8 labels c) (arcs_wide 8 labels b) (64 * i + q) ≡ member (difference (get_or labels (8 * c + i) 0) (get_or labels (8 * b + i) 0)) q
unfolding only
only_word labels c b i q l h =
    ap₂ (λ (x y : Bool). x && not y) (arc_word_at 8 labels c i q l h) (arc_word_at 8 labels b i q l h)
    ∙ sym (member_difference (get_or labels (8 * c + i) 0) (get_or labels (8 * b + i) 0) q)

pub both_word : (table : List ℕ) (v : ℕ) (words : List ℕ) (i q : ℕ) → i < 8 → q < 64
    → (arcs_wide 8 table v (64 * i + q) && in_set words (64 * i + q)) ≡ member (common (get_or table (8 * v + i) 0) (get_or words i 0)) q
both_word table v words i q l h =
    ap₂ (λ (x y : Bool). x && y) (arc_word_at 8 table v i q l h) (in_word_at_lem words i q l h) ∙ sym (member_common (get_or table (8 * v + i) 0) (get_or words i 0) q)

-- ---- one more than the last

pub record IsPast (n : ℕ) (f : ℕ → Bool) (m : ℕ) : Type 0 where
  pub within : m ≤ n
  pub holds : (p : ℕ) → m ≡ suc p → T (f p)
  pub greatest : (i : ℕ) → i < n → T (f i) → i < m

pub past : (n : ℕ) (f : ℕ → Bool) → IsPast n f (past_last n f)
unfolding past_last
past n f = go (decided (any_below n f))
  where
    go : T (any_below n f) ⊎ (T (any_below n f) → ⊥) → IsPast n f (cond (any_below n f) (suc (last_below n f)) 0)
    go (inl t) =
        let r = last (any_out n f t) in
        subst (λ (m : ℕ). IsPast n f m) (sym (cond_yes (any_below n f) (suc (last_below n f)) 0 t)) (record {
          within = omega (arith, r.below);
          holds = λ p e. let same : last_below n f ≡ p = omega arith in subst (λ (x : ℕ). T (f x)) same r.holds;
          greatest = λ i l h. omega (arith, r.greatest i l h);
        })
    go (inr none) =
        subst (λ (m : ℕ). IsPast n f m) (sym (cond_no (any_below n f) (suc (last_below n f)) 0 none)) (record {
          within = omega arith;
          holds = λ p e. absurd (omega arith);
          greatest = λ i l h. absurd (none (any_at n f i l h));
        })

past_le : (n : ℕ) (f : ℕ → Bool) (a b : ℕ) → IsPast n f a → IsPast n f b → a ≤ b
past_le n f zero b r s = omega arith
past_le n f (suc p) b r s = omega (arith, s.greatest p (omega (arith, r.within)) (r.holds p refl))

pub past_unique : {n : ℕ} {f : ℕ → Bool} {m : ℕ} → IsPast n f m → m ≡ past_last n f
past_unique {n} {f} {m} r = omega (arith, past_le n f m (past_last n f) r (past n f), past_le n f (past_last n f) m (past n f) r)

pub record NoneFrom (n : ℕ) (f : ℕ → Bool) (q : ℕ) : Type 0 where
  pub none : (j : ℕ) → q ≤ j → j < n → T (f j) → ⊥

pub past_none : {n : ℕ} {f : ℕ → Bool} {q : ℕ} → NoneFrom n f q → q ≤ 0 → 0 ≡ past_last n f
past_none r l = past_unique (record { within = omega arith; holds = λ p e. absurd (omega arith); greatest = λ i h t. absurd (r.none i (omega arith) h t) })

pub none_sooner : {n : ℕ} {f : ℕ → Bool} {q : ℕ} (r : ℕ) → NoneFrom n f q → q ≤ r → NoneFrom n f r
none_sooner r none l = record { none = λ j g h t. none.none j (omega arith) h t }

top_member : (x j : ℕ) → 2 ^ j ≤ x → x < 2 ^ suc j → T (member x j)
unfolding member
top_member x j l h =
    let most : x / 2 ^ j < 2 ^ 1 = shr_lt 1 j (subst (λ (k : ℕ). x < 2 ^ k) (omega arith) h) in
    let least : 1 ≤ x / 2 ^ j = subst (λ (y : ℕ). y ≤ x / 2 ^ j) (shl-shr 1 j) (shr_mono j (subst (λ (y : ℕ). y ≤ x) (sym (one-mul (2 ^ j))) l)) in
    let one : x / 2 ^ j ≡ 1 = omega arith in
    subst (λ (y : ℕ). T (eqb (y % 2) 1)) (sym one) tt

pub past_largest : (x : ℕ) → x < 2 ^ 64 → 64 - count_leading_zeros 64 x ≡ past_last 64 (member x)
past_largest x h = go (eq-zero-or-pos x)
  where
    go : (x ≡ 0) ⊎ (0 < x) → 64 - count_leading_zeros 64 x ≡ past_last 64 (member x)
    go (inl e) =
        let all : count_leading_zeros 64 x ≡ 64 = ap (count_leading_zeros 64) e ∙ leading_of_zero 64 in
        let none : 64 - count_leading_zeros 64 x ≡ 0 = omega arith in
        none ∙ past_none {q = 0} (record { none = λ i g l t. empty_back e i t }) (omega arith)
    go (inr pos) =
        let top = leading_top 64 x pos h in
        let j : ℕ = top.0 in
        let sum : count_leading_zeros 64 x + suc j ≡ 64 = top.1 in
        let past_top : 64 - count_leading_zeros 64 x ≡ suc j = omega arith in
        past_top ∙ past_unique (record {
          within = omega arith;
          holds = λ p e. let same : j ≡ p = omega arith in subst (λ (y : ℕ). T (member x y)) same (top_member x j top.2 top.3);
          greatest = λ i l t. member_below (suc j) top.3 i t;
        })

-- ---- one word of a search or a count

pub record FirstHere (n : ℕ) (f : ℕ → Bool) (i r : ℕ) : Type 0 where
  pub found : r < 64 → 64 * i + r ≡ first_below n f
  pub passed : 64 ≤ r → Passed n f (64 * (i + 1))

pub record PastHere (n : ℕ) (f : ℕ → Bool) (i r : ℕ) : Type 0 where
  pub found : 0 < r → 64 * i + r ≡ past_last n f
  pub passed : r ≤ 0 → NoneFrom n f (64 * i)

module _ (n : ℕ) (f : ℕ → Bool) (i x : ℕ) (here : (q : ℕ) → q < 64 → f (64 * i + q) ≡ member x q) where
  in_here : (j : ℕ) → 64 * i ≤ j → j < 64 * i + 64 → T (f j) → T (member x (j - 64 * i))
  in_here j l h t =
      let split : j ≡ 64 * i + (j - 64 * i) = omega arith in
      subst (λ (b : Bool). T b) (ap f split ∙ here (j - 64 * i) (omega arith)) t

  out_here : (q : ℕ) → q < 64 → T (member x q) → T (f (64 * i + q))
  out_here q l t = subst (λ (b : Bool). T b) (sym (here q l)) t

  module _ (r : ℕ) (room : 64 * i + 64 ≤ n) where
    pub first_here : Passed n f (64 * i) → r ≡ first_below 64 (member x) → FirstHere n f i r
    first_here p e = record {
      found = λ l. first_unique (record {
        within = omega arith;
        holds = λ _. out_here r l (subst (λ (y : ℕ). T (member x y)) (sym e) ((first 64 (member x)).holds (omega arith)));
        least = λ j h t. out j h (omega arith) t (below_or j (64 * i));
      });
      passed = λ l. record { within = omega arith; none = λ j h t. out j (omega arith) (omega arith) t (below_or j (64 * i)) };
    }
      where
        out : (j : ℕ) → j < 64 * i + r → j < 64 * i + 64 → T (f j) → (j < 64 * i) ⊎ (64 * i ≤ j) → ⊥
        out j h g t (inl b) = p.none j b t
        out j h g t (inr b) = (first 64 (member x)).least (j - 64 * i) (omega arith) (in_here j b g t)

    pub past_here : NoneFrom n f (64 * i + 64) → r ≡ past_last 64 (member x) → PastHere n f i r
    past_here none e = record {
      found = λ l. past_unique (record {
        within = omega (arith, last_one.within);
        holds = λ p h.
            let same : 64 * i + (r - 1) ≡ p = omega arith in
            subst (λ (y : ℕ). T (f y)) same (out_here (r - 1) (omega (arith, last_one.within)) (last_one.holds (r - 1) (omega arith)));
        greatest = λ j h t. under j h t (below_or j (64 * i));
      });
      passed = λ l. record { none = λ j b h t. let g = under j h t (inr b) in omega arith };
    }
      where
        last_one : IsPast 64 (member x) (past_last 64 (member x))
        last_one = past 64 (member x)

        here_or_none : (j : ℕ) → j < n → T (f j) → 64 * i ≤ j → (j < 64 * i + 64) ⊎ (64 * i + 64 ≤ j) → j < 64 * i + r
        here_or_none j h t b (inl c) = omega (arith, last_one.greatest (j - 64 * i) (omega arith) (in_here j b c t))
        here_or_none j h t b (inr c) = absurd (none.none j c h t)

        under : (j : ℕ) → j < n → T (f j) → (j < 64 * i) ⊎ (64 * i ≤ j) → j < 64 * i + r
        under j h t (inl b) = omega arith
        under j h t (inr b) = here_or_none j h t b (below_or j (64 * i + 64))

pub count_more : (n k : ℕ) (f : ℕ → Bool) → count_below (n + k) f ≡ count_below n f + count_below k (λ q. f (n + q))
unfolding count_below
count_more n zero f = ap (λ (m : ℕ). count_below m f) (add-zero n) ∙ sym (add-zero (count_below n f))
count_more n (suc k) f = ap (λ (m : ℕ). count_below m f) next ∙ go (f (n + k)) (count_more n k f)
  where
    next : n + suc k ≡ suc (n + k)
    next = omega arith

    go : (b : Bool) {s : ℕ} → s ≡ count_below n f + count_below k (λ q. f (n + q)) → cond b (suc s) s ≡ count_below n f + cond b (suc (count_below k (λ q. f (n + q)))) (count_below k (λ q. f (n + q)))
    go true e = omega arith
    go false e = e

pub count_here : (f : ℕ → Bool) (i x : ℕ) → ((q : ℕ) → q < 64 → f (64 * i + q) ≡ member x q) → {total r : ℕ} → total ≡ count_below (64 * i) f → r ≡ count_below 64 (member x)
    → total + r ≡ count_below (64 * (i + 1)) f
count_here f i x here e g =
    let more : 64 * i + 64 ≡ 64 * (i + 1) = omega arith in
    ap₂ (λ (a b : ℕ). a + b) e (g ∙ sym (count_same 64 (λ q. f (64 * i + q)) (member x) here)) ∙ sym (count_more (64 * i) 64 f) ∙ ap (λ (m : ℕ). count_below m f) more
