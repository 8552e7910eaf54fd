-- Labels of digits read as sets of positions: algorithm 3 writes the position p as n - (p + 1), algorithm 5 as p + 1.
--   Spells digit k f xs            the digits xs are those of the positions f below k, and they fall
--   Falling k digit before         of positions below k the one that is before another has the larger digit
--   spelled_ahead, ahead_spelled   lexicographically larger is ahead
--   appended_reading, prepended_reading   so algorithms 3 and 5 go by LexBFS' and LexDFS' rule
-- Assumes nothing.
use mathlib.Core.Path.{◌≡◌, refl, sym, subst}
use mathlib.Core.Bool.{Bool, not, ◌&&◌}
use mathlib.Core.Logic.{◌⊎◌, inl, inr, ◌↔◌}
use mathlib.Core.List.{List, [], ◌∷◌, ◌++◌}
use Prim.Native.Nat.{ℕ, suc, ◌≤◌, ◌<◌}
use native.Mathlib.Omega.{arith}
use lib.Dec.{T, ltb→lt, lt→ltb, not_T, T_not}
use Rattle.bitset.proofs.Tests.{and_in, and_out, decided, below_suc}
use Rattle.searches.specs.Kind.{Search, lex_bfs, lex_dfs}
use Rattle.searches.specs.Label.{outranks}
use Rattle.searches.specs.Violation.{none_excuses, condition}
use Rattle.searches.proofs.Reason.{Reason, outranks→reason, reason→outranks, earlier, later}
use Rattle.algorithms.specs.Lists.{among}
use Rattle.algorithms.specs.Digits.{lex_larger, digit_labels}
use Rattle.algorithms.specs.LexBfsDigits.{digit_of, appended}
use Rattle.algorithms.specs.LexDfsDigits.{prepended}
use Rattle.algorithms.proofs.Lists.{among_here, among_later, among_none, among_out, among_append_left, among_last, among_last_out, pairwise_last}
use Rattle.algorithms.proofs.Digits.{Descending, LargestDifference, larger_out, larger_in, single_itself}
use Rattle.algorithms.proofs.Labelling.{Reading}

pub record Spells (digit : ℕ → ℕ) (k : ℕ) (f : ℕ → Bool) (xs : List ℕ) : Type 0 where
  pub only : (x : ℕ) → T (among xs x) → (p : ℕ) × (p < k) × T (f p) × (digit p ≡ x)
  pub all : (p : ℕ) → p < k → T (f p) → T (among xs (digit p))
  pub falling : Descending xs

-- ---- larger is ahead

pub record Falling (k : ℕ) (digit : ℕ → ℕ) (before : ℕ → ℕ → Bool) : Type 0 where
  pub apart : (p q : ℕ) → p < k → q < k → digit p ≡ digit q → p ≡ q
  pub above : (p q : ℕ) → p < k → q < k → T (before p q) → digit q < digit p
  pub under : (p q : ℕ) → p < k → q < k → digit q < digit p → T (before p q)

module _ (digit : ℕ → ℕ) (before : ℕ → ℕ → Bool) (k : ℕ) (law : Falling k digit before) (c b : ℕ → Bool) (xs ys : List ℕ)
    (cs : Spells digit k c xs) (bs : Spells digit k b ys) where
  -- a position whose digit is there is in the label
  spelled : (f : ℕ → Bool) (zs : List ℕ) → Spells digit k f zs → (p : ℕ) → p < k → T (among zs (digit p)) → T (f p)
  spelled f zs s p l t = let q = s.only (digit p) t in subst (λ (x : ℕ). T (f x)) (law.apart q.0 p q.1 l q.3) q.2

  spelled_ahead : T (lex_larger xs ys) → Reason (λ i. none_excuses (λ d in_c. before d i && not in_c)) k c b
  spelled_ahead t =
      let most : LargestDifference xs ys = larger_out xs ys cs.falling bs.falling t in
      let p = cs.only most.digit most.ours in
      record {
        position = p.0;
        below = p.1;
        ours = p.2;
        theirs = λ t'. most.theirs (subst (λ (x : ℕ). T (among ys x)) p.3 (bs.all p.0 p.1 t'));
        unexcused = λ d l in_b x.
            let both = and_out (before d p.0) (not (c d)) x in
            let higher : digit p.0 < digit d = law.above d p.0 l p.1 both.0 in
            T_not (c d) both.1 (spelled c xs cs d l (most.above (digit d) (bs.all d l in_b) (omega (arith, p.3))));
      }

  ahead_spelled : Reason (λ i. none_excuses (λ d in_c. before d i && not in_c)) k c b → T (lex_larger xs ys)
  ahead_spelled r = larger_in xs ys cs.falling bs.falling (record {
    digit = digit r.position;
    ours = cs.all r.position r.below r.ours;
    theirs = λ t. r.theirs (spelled b ys bs r.position r.below t);
    above = λ y t l. let d = bs.only y t in subst (λ (x : ℕ). T (among xs x)) d.3 (go d.0 d.1 d.2 (omega (arith, d.3)) (decided (c d.0)));
  })
    where
      go : (d : ℕ) → d < k → T (b d) → digit r.position < digit d → T (c d) ⊎ (T (c d) → ⊥) → T (among xs (digit d))
      go d l in_b h (inl t) = cs.all d l t
      go d l in_b h (inr out) =
          absurd (r.unexcused d l in_b (and_in (before d r.position) (not (c d)) (law.under d r.position l r.below h) (not_T (c d) out)))

-- ---- what the digits say, as vertices are numbered

module _ (digit : ℕ → ℕ) (k : ℕ) (f : ℕ → Bool) where
  spells_none : Spells digit 0 f []
  spells_none = record { only = λ x t. absurd (among_none x t); all = λ p l. absurd (omega arith); falling = tt }

  spells_same : (g : ℕ → Bool) (xs : List ℕ) → ((p : ℕ) → p < k → f p ≡ g p) → Spells digit k f xs → Spells digit k g xs
  spells_same g xs same s = record {
    only = λ x t. let p = s.only x t in (p.0, p.1, subst (λ (b : Bool). T b) (same p.0 p.1) p.2, p.3);
    all = λ p l t. s.all p l (subst (λ (b : Bool). T b) (sym (same p l)) t);
    falling = s.falling;
  }

  spells_kept : (xs : List ℕ) → (T (f k) → ⊥) → Spells digit k f xs → Spells digit (suc k) f xs
  spells_kept xs none s = record {
    only = λ x t. let p = s.only x t in (p.0, omega (arith, p.1), p.2, p.3);
    all = λ p l t. go p t (below_suc k p l);
    falling = s.falling;
  }
    where
      go : (p : ℕ) → T (f p) → (p < k) ⊎ (p ≡ k) → T (among xs (digit p))
      go p t (inl l) = s.all p l t
      go p t (inr e) = absurd (none (subst (λ (x : ℕ). T (f x)) e t))

  -- ys is xs with k's digit put in somewhere
  spells_put : (xs ys : List ℕ) → T (f k) → Spells digit k f xs → Descending ys → T (among ys (digit k))
      → ((x : ℕ) → T (among xs x) → T (among ys x)) → ((x : ℕ) → T (among ys x) → T (among xs x) ⊎ (digit k ≡ x)) → Spells digit (suc k) f ys
  spells_put xs ys new s falls there more back = record {
    only = λ x t. out x (back x t);
    all = λ p l t. put p t (below_suc k p l);
    falling = falls;
  }
    where
      out : (x : ℕ) → T (among xs x) ⊎ (digit k ≡ x) → (p : ℕ) × (p < suc k) × T (f p) × (digit p ≡ x)
      out x (inl t) = let p = s.only x t in (p.0, omega (arith, p.1), p.2, p.3)
      out x (inr e) = (k, omega arith, new, e)

      put : (p : ℕ) → T (f p) → (p < k) ⊎ (p ≡ k) → T (among ys (digit p))
      put p t (inl l) = more (digit p) (s.all p l t)
      put p t (inr e) = subst (λ (q : ℕ). T (among ys (digit q))) (sym e) there

-- ---- both at once

module _ (s : Search) (n first : ℕ) (put : ℕ → List ℕ → List ℕ) (digit : ℕ → ℕ) (before : ℕ → ℕ → Bool) where
  digits_reading : ((k : ℕ) → k ≤ n → Falling k digit before)
      → ((k : ℕ) (f : ℕ → Bool) (xs : List ℕ) → k < n → T (f k) → Spells digit k f xs → Spells digit (suc k) f (put (suc k) xs))
      → ((k : ℕ) (c b : ℕ → Bool) → Reason (λ i. none_excuses (λ d in_c. before d i && not in_c)) k c b ↔ T (outranks s k c b))
      → Reading s n (digit_labels first put) (Spells digit)
  unfolding lex_larger
  digits_reading law puts rule = record {
    blank_means = λ f. spells_none digit 0 f;
    put_means = puts;
    kept_means = λ k f xs none m. spells_kept digit k f xs none m;
    means_same = λ k f g xs same m. spells_same digit k f g xs same m;
    larger_ahead = λ k c b xs ys l cs bs t. (rule k c b).0 (spelled_ahead digit before k (law k l) c b xs ys cs bs t);
    ahead_larger = λ k c b xs ys l cs bs t. ahead_spelled digit before k (law k l) c b xs ys cs bs ((rule k c b).1 t);
    first_larger = tt;
    blank_smaller = λ t. t;
    first_itself = single_itself first;
  }

-- ---- algorithm 3

module _ (n : ℕ) where
  abbrev pub from_n : ℕ → ℕ
  from_n p = digit_of n (suc p)

  from_n_falls : (k : ℕ) → k ≤ n → Falling k from_n earlier
  from_n_falls k l = record {
    apart = λ p q i j e. omega arith;
    above = λ p q i j t. let h = ltb→lt p q t in omega arith;
    under = λ p q i j h. lt→ltb p q (omega arith);
  }

  spells_appended : (k : ℕ) (f : ℕ → Bool) (xs : List ℕ) → k < n → T (f k) → Spells from_n k f xs → Spells from_n (suc k) f (xs ++ from_n k ∷ [])
  spells_appended k f xs l new m =
      spells_put from_n k f xs (xs ++ from_n k ∷ []) new m
      (pairwise_last (λ x y. y < x) xs (from_n k) m.falling (λ x t. let p = m.only x t in omega (arith, p.1, p.3)))
      (among_last xs (from_n k) (from_n k) refl) (λ x t. among_append_left xs (from_n k ∷ []) x t) (λ x t. among_last_out xs (from_n k) x t)

  lex_bfs_rule : (k : ℕ) (c b : ℕ → Bool) → Reason (λ i. none_excuses (λ d in_c. earlier d i && not in_c)) k c b ↔ T (outranks lex_bfs k c b)
  unfolding condition
  lex_bfs_rule k c b = (reason→outranks k c b lex_bfs, outranks→reason k c b lex_bfs)

  pub appended_reading : Reading lex_bfs n (appended n) (Spells from_n)
  appended_reading = digits_reading lex_bfs n (suc n) (λ i digits. digits ++ digit_of n i ∷ []) from_n earlier from_n_falls spells_appended lex_bfs_rule

-- ---- algorithm 5

suc_falls : (k : ℕ) → Falling k suc later
suc_falls k = record {
  apart = λ p q i j e. omega arith;
  above = λ p q i j t. let h = ltb→lt q p t in omega arith;
  under = λ p q i j h. lt→ltb q p (omega arith);
}

spells_prepended : (k : ℕ) (f : ℕ → Bool) (xs : List ℕ) → T (f k) → Spells suc k f xs → Spells suc (suc k) f (suc k ∷ xs)
spells_prepended k f xs new m =
    spells_put suc k f xs (suc k ∷ xs) new m
    (λ x t. let p = m.only x t in omega (arith, p.1, p.3), m.falling)
    (among_here (suc k) (suc k) xs refl) (λ x t. among_later (suc k) x xs t) (λ x t. turn (among_out (suc k) x xs t))
  where
    turn : {x : ℕ} → (suc k ≡ x) ⊎ T (among xs x) → T (among xs x) ⊎ (suc k ≡ x)
    turn (inl e) = inr e
    turn (inr t) = inl t

lex_dfs_rule : (k : ℕ) (c b : ℕ → Bool) → Reason (λ i. none_excuses (λ d in_c. later d i && not in_c)) k c b ↔ T (outranks lex_dfs k c b)
unfolding condition
lex_dfs_rule k c b = (reason→outranks k c b lex_dfs, outranks→reason k c b lex_dfs)

pub prepended_reading : (n : ℕ) → Reading lex_dfs n prepended (Spells suc)
prepended_reading n =
    digits_reading lex_dfs n 0 (λ i digits. i ∷ digits) suc later (λ k l. suc_falls k) (λ k f xs l new m. spells_prepended k f xs new m) lex_dfs_rule
