-- Two labels compared, search by search, by numbers taken of them. A label is a set of positions: a test, with any bound k beside it.
--   only_in, only_out                  what one set has and the other has not
--   first_past                         the first number of a set, or its bound where it is empty
--   none_first                         a set is empty where that is the bound
--   bfs_first, dfs_past                BFS compares the first positions, DFS the last ones
--   lex_bfs_only, lex_dfs_only           LexBFS and LexDFS do so with what one label has and the other has not
--   within_none, within_first          an inclusion, told by what the one has and the other has not
--   fewer_within, upto_ahead           a set that has more numbers is not within the other;   in MNS one that has no more is not ahead
--   ranked_compared, lex_bfs_compared, lex_dfs_compared, mns_compared   what is told of these tests is how the one stands to the other
-- Assumes nothing.
use mathlib.Core.Path.{◌≡◌, refl, sym, ap, ap₂, ◌∙◌, subst}
use mathlib.Core.Bool.{Bool, true, false, cond, not, ◌&&◌, ◌||◌}
use mathlib.Core.Logic.{◌⊎◌, inl, inr, ◌≢◌}
use Prim.Native.Nat.{ℕ, suc, ◌≤◌, ◌<◌}
use native.Mathlib.Omega.{arith}
use lib.Dec.{T, ltb, eqb, ltb→lt, lt→ltb, eqb→eq, eqb_refl, leb-suc-suc, not_T, T_not}
use Rattle.bitset.specs.Below.{any_below, first_below, last_below, count_below, within, only, past_last}
use Rattle.bitset.proofs.Tests.{and_in, and_out, decided, same_test, is_true, is_false}
use Rattle.bitset.proofs.Below.{any_out, any_at, first, first_found, first_unique}
use Rattle.bitset.proofs.Count.{count_extra, count_proper}
use Rattle.bitset.proofs.Sets.{within_in, within_out, not_within}
use Rattle.searches.specs.Kind.{Search, bfs, dfs, lex_bfs, lex_dfs, mns, kind_of}
use Rattle.searches.specs.Label.{empty, nearer, outranks}
use Rattle.searches.specs.Comparison.{told_by, compared}
use Rattle.searches.specs.Violation.{none_excuses, condition}
use Rattle.searches.proofs.Reason.{Reason, outranks→reason, reason→outranks}
use Rattle.searches.proofs.Level.{alike_within, not_mns}
use Rattle.searches.proofs.Comparing.{compared_mns, compared_ranked}

-- ---- what one set has and the other has not

module _ (f g : ℕ → Bool) where
  pub only_in : (p : ℕ) → T (f p) → (T (g p) → ⊥) → T (only f g p)
  unfolding only
  only_in p inside out = and_in (f p) (not (g p)) inside (not_T (g p) out)

  pub only_out : (p : ℕ) → T (only f g p) → T (f p) × (T (g p) → ⊥)
  unfolding only
  only_out p t = let both = and_out (f p) (not (g p)) t in (both.0, T_not (g p) both.1)

-- ---- the first number, and the last

module _ (k : ℕ) (f : ℕ → Bool) where
  -- where there is none, the search ends at the bound
  pub first_past : (T (any_below k f) → ⊥) → k ≡ first_below k f
  first_past out = first_unique (record { within = omega arith; holds = λ l. absurd (omega arith); least = λ i l p. out (any_at k f i l p) })

  pub none_first : not (any_below k f) ≡ eqb (first_below k f) k
  none_first = same_test (not (any_below k f)) (eqb (first_below k f) k) forth back
    where
      forth : T (not (any_below k f)) → T (eqb (first_below k f) k)
      forth t = subst (λ (x : ℕ). T (eqb x k)) (first_past (T_not (any_below k f) t)) (eqb_refl k)

      back : T (eqb (first_below k f) k) → T (not (any_below k f))
      back t = not_T (any_below k f) (λ u. let l = first_found (any_out k f u) in let e = eqb→eq (first_below k f) k t in omega arith)

module _ (k : ℕ) (c b : ℕ → Bool) where
  pub bfs_first : outranks bfs k c b ≡ ltb (first_below k c) (first_below k b)
  unfolding outranks nearer empty
  bfs_first =
      go (any_below k c) (any_below k b) (λ t. first_found (any_out k c t)) (first_past k c) (first_past k b) (first k b).within
    where
      p : ℕ
      p = first_below k c

      q : ℕ
      q = first_below k b

      go : (x y : Bool) → (T x → p < k) → ((T x → ⊥) → k ≡ p) → ((T y → ⊥) → k ≡ q) → q ≤ k → (not (not x) && (not y || ltb p q)) ≡ ltb p q
      go true true some_c none-c none-b l = refl
      go true false some_c none-c none-b l =
          let h : p < k = some_c tt in
          let e : k ≡ q = none-b (λ t. t) in
          sym (is_true (ltb p q) (lt→ltb p q (omega arith)))
      go false y some_c none-c none-b l =
          let e : k ≡ p = none-c (λ t. t) in
          sym (is_false (ltb p q) (λ t. omega (arith, ltb→lt p q t)))

  pub dfs_past : outranks dfs k c b ≡ ltb (past_last k b) (past_last k c)
  unfolding outranks nearer empty past_last
  dfs_past = go (any_below k c) (any_below k b) (last_below k c) (last_below k b)
    where
      go : (x y : Bool) (p q : ℕ) → (not (not x) && (not y || ltb q p)) ≡ ltb (cond y (suc q) 0) (cond x (suc p) 0)
      go true true p q = sym (leb-suc-suc (suc q) p)
      go true false p q = sym (is_true (ltb 0 (suc p)) (lt→ltb 0 (suc p) (omega arith)))
      go false true p q = sym (is_false (ltb (suc q) 0) (λ t. omega (arith, ltb→lt (suc q) 0 t)))
      go false false p q = refl

-- ---- LexBFS and LexDFS: what is in both labels does not matter

module _ (before : ℕ → ℕ → Bool) (k : ℕ) (c b : ℕ → Bool) where
  apart_in : Reason (λ i. none_excuses (λ d in_c. before d i && not in_c)) k c b → Reason (λ i. none_excuses (λ d in_c. before d i)) k (only c b) (only b c)
  apart_in r = record {
    position = r.position;
    below = r.below;
    ours = only_in c b r.position r.ours r.theirs;
    theirs = λ t. r.theirs (only_out b c r.position t).0;
    unexcused = λ d l t x.
        let at = only_out b c d t in
        r.unexcused d l at.0 (and_in (before d r.position) (not (c d)) x (not_T (c d) at.1));
  }

  apart_out : Reason (λ i. none_excuses (λ d in_c. before d i)) k (only c b) (only b c) → Reason (λ i. none_excuses (λ d in_c. before d i && not in_c)) k c b
  apart_out r =
      let at = only_out c b r.position r.ours in
      record {
        position = r.position;
        below = r.below;
        ours = at.0;
        theirs = at.1;
        unexcused = λ d l p x.
            let both = and_out (before d r.position) (not (c d)) x in
            r.unexcused d l (only_in b c d p (T_not (c d) both.1)) both.0;
      }

module _ (k : ℕ) (c b : ℕ → Bool) where
  pub lex_bfs_only : outranks lex_bfs k c b ≡ ltb (first_below k (only c b)) (first_below k (only b c))
  unfolding condition
  lex_bfs_only =
      same_test (outranks lex_bfs k c b) (outranks bfs k (only c b) (only b c))
      (λ t. reason→outranks k (only c b) (only b c) bfs (apart_in (λ d i. ltb d i) k c b (outranks→reason k c b lex_bfs t)))
      (λ t. reason→outranks k c b lex_bfs (apart_out (λ d i. ltb d i) k c b (outranks→reason k (only c b) (only b c) bfs t)))
      ∙ bfs_first k (only c b) (only b c)

  pub lex_dfs_only : outranks lex_dfs k c b ≡ ltb (past_last k (only b c)) (past_last k (only c b))
  unfolding condition
  lex_dfs_only =
      same_test (outranks lex_dfs k c b) (outranks dfs k (only c b) (only b c))
      (λ t. reason→outranks k (only c b) (only b c) dfs (apart_in (λ d i. ltb i d) k c b (outranks→reason k c b lex_dfs t)))
      (λ t. reason→outranks k c b lex_dfs (apart_out (λ d i. ltb i d) k c b (outranks→reason k (only c b) (only b c) dfs t)))
      ∙ dfs_past k (only c b) (only b c)

  -- ---- MNS, by inclusions

  pub within_none : within k b c ≡ not (any_below k (only b c))
  within_none = same_test (within k b c) (not (any_below k (only b c))) forth back
    where
      forth : T (within k b c) → T (not (any_below k (only b c)))
      forth t = not_T (any_below k (only b c)) (λ u.
          let s = any_out k (only b c) u in
          let at = only_out b c s.at s.holds in
          at.1 (within_out k b c t s.at s.below at.0))

      back : T (not (any_below k (only b c))) → T (within k b c)
      back t = within_in k b c (λ d l x. in_c d l x (decided (c d)))
        where
          in_c : (d : ℕ) → d < k → T (b d) → T (c d) ⊎ (T (c d) → ⊥) → T (c d)
          in_c d l x (inl y) = y
          in_c d l x (inr out) = absurd (T_not (any_below k (only b c)) t (any_at k (only b c) d l (only_in b c d x out)))

  pub within_first : within k b c ≡ eqb (first_below k (only b c)) k
  within_first = within_none ∙ none_first k (only b c)

  pub fewer_within : count_below k c < count_below k b → within k b c ≡ false
  fewer_within l = is_false (within k b c) (λ t.
      let s = count_extra k b c l in
      let at = and_out (b s.at) (not (c s.at)) s.holds in
      T_not (c s.at) at.1 (within_out k b c t s.at s.below at.0))

  pub upto_ahead : count_below k c ≤ count_below k b → outranks mns k c b ≡ false
  unfolding outranks
  upto_ahead l = is_false (within k b c && not (within k c b)) (λ t.
      let both = and_out (within k b c) (not (within k c b)) t in
      let more = not_within k c b (T_not (within k c b) both.1) in
      omega (arith, count_proper k b c (within_out k b c both.0) more.0 more.1 more.2 more.3))

-- ---- how the one stands to the other

module _ (k : ℕ) (c b : ℕ → Bool) where
  -- who is ahead tells it, except in MNS
  pub ranked_compared : (s : Search) → s ≢ mns → {ahead behind : Bool} → ahead ≡ outranks s k c b → behind ≡ outranks s k b c
      → told_by ahead behind true ≡ compared s k c b
  ranked_compared s other is is' = ap₂ (λ (x y : Bool). told_by x y true) is is' ∙ compared_ranked s k c b other

  pub lex_bfs_compared : {ours theirs : ℕ} → ours ≡ first_below k (only c b) → theirs ≡ first_below k (only b c)
      → told_by (ltb ours theirs) (ltb theirs ours) true ≡ compared lex_bfs k c b
  unfolding kind_of
  lex_bfs_compared e e' =
      ranked_compared lex_bfs (not_mns (λ t. t)) (ap₂ (λ (x y : ℕ). ltb x y) e e' ∙ sym (lex_bfs_only k c b))
      (ap₂ (λ (x y : ℕ). ltb x y) e' e ∙ sym (lex_bfs_only k b c))

  pub lex_dfs_compared : {ours theirs : ℕ} → ours ≡ past_last k (only c b) → theirs ≡ past_last k (only b c)
      → told_by (ltb theirs ours) (ltb ours theirs) true ≡ compared lex_dfs k c b
  unfolding kind_of
  lex_dfs_compared e e' =
      ranked_compared lex_dfs (not_mns (λ t. t)) (ap₂ (λ (x y : ℕ). ltb x y) e' e ∙ sym (lex_dfs_only k c b))
      (ap₂ (λ (x y : ℕ). ltb x y) e e' ∙ sym (lex_dfs_only k b c))

  -- where none is ahead, each inclusion holds or none does
  pub mns_compared : {covers covered : Bool} → covers ≡ within k b c → covered ≡ within k c b
      → told_by (covers && not covered) (covered && not covers) covers ≡ compared mns k c b
  unfolding outranks told_by
  mns_compared {covers} {covered} e e' =
      one_inclusion covers covered
      ∙ ap₂ (λ (x y : Bool). told_by (x && not y) (y && not x) (x && y)) e e'
      ∙ ap (told_by (outranks mns k c b) (outranks mns k b c)) (alike_within k c b) ∙ compared_mns k c b
    where
      one_inclusion : (x y : Bool) → told_by (x && not y) (y && not x) x ≡ told_by (x && not y) (y && not x) (x && y)
      one_inclusion true true = refl
      one_inclusion true false = refl
      one_inclusion false true = refl
      one_inclusion false false = refl
