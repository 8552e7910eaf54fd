-- The search's own condition of a violation, told by numbers taken of the two labels, search by search, for positions below any bound k.
--   none_sooner, none_later     a set has no number before i exactly when its first is not, and none after i exactly when its last is not
--   only_turned                 a test on what b has and c has not, made together with c's
--   unexcused_*                 the conditions of LexBFS, LexDFS and MNS, by what b has and c has not
-- Assumes nothing.
use mathlib.Core.Path.{◌≡◌, refl, sym, ap, ◌∙◌}
use mathlib.Core.Bool.{Bool, true, false, not, ◌&&◌}
use mathlib.Core.Logic.{◌⊎◌, inl, inr}
use Prim.Native.Nat.{ℕ, suc, ◌≤◌, ◌<◌}
use native.Mathlib.Omega.{arith}
use lib.Dec.{T, ltb, leb, eqb, ltb→lt, lt→ltb, leb→le, le→leb, not_T, T_not}
use Rattle.bitset.specs.Below.{any_below, first_below, last_below, only, past_last}
use Rattle.bitset.proofs.Tests.{and_in, and_out, decided, same_test, below_or, cond_yes, cond_no}
use Rattle.bitset.proofs.Below.{Some, IsLast, any_out, any_at, any_in, any_same, first, first_earliest, last}
use Rattle.searches.specs.Kind.{lex_bfs, lex_dfs, mns}
use Rattle.searches.specs.Violation.{condition, meets}
use Rattle.searches.proofs.ByNumbers.{none_first}

-- ---- no number before i, and none after i

module _ (k i : ℕ) (f : ℕ → Bool) where
  pub none_sooner : i ≤ k → leb i (first_below k f) ≡ not (any_below k (λ d. f d && ltb d i))
  none_sooner l = same_test (leb i p) (not (any_below k low)) forth back
    where
      p : ℕ
      p = first_below k f

      low : ℕ → Bool
      low d = f d && ltb d i

      forth : T (leb i p) → T (not (any_below k low))
      forth t = not_T (any_below k low) (λ u.
          let s = any_out k low u in
          let both = and_out (f s.at) (ltb s.at i) s.holds in
          omega (arith, leb→le i p t, ltb→lt s.at i both.1, first_earliest k f s.at both.0))

      back : T (not (any_below k low)) → T (leb i p)
      back t = le→leb i p (go (below_or p i))
        where
          go : (p < i) ⊎ (i ≤ p) → i ≤ p
          go (inl h) =
              let g : p < k = omega arith in
              absurd (T_not (any_below k low) t (any_at k low p g (and_in (f p) (ltb p i) ((first k f).holds g) (lt→ltb p i h))))
          go (inr h) = h

  pub none_later : leb (past_last k f) (suc i) ≡ not (any_below k (λ d. f d && ltb i d))
  unfolding past_last
  none_later =
      same_test (leb (past_last k f) (suc i)) (not (any_below k high)) (λ t. not_T (any_below k high) (λ u. above (any_out k high u) (leb→le (past_last k f) (suc i) t)))
      (λ t. le→leb (past_last k f) (suc i) (back t (decided (any_below k f))))
    where
      q : ℕ
      q = last_below k f

      high : ℕ → Bool
      high d = f d && ltb i d

      past : T (any_below k f) → past_last k f ≡ suc q
      past t = cond_yes (any_below k f) (suc q) 0 t

      above : Some k high → past_last k f ≤ suc i → ⊥
      above x l =
          let both = and_out (f x.at) (ltb i x.at) x.holds in
          let there : Some k f = record { at = x.at; below = x.below; holds = both.0 } in
          omega (arith, past (any_in there), (last there).greatest x.at x.below both.0, ltb→lt i x.at both.1)

      back : T (not (any_below k high)) → T (any_below k f) ⊎ (T (any_below k f) → ⊥) → past_last k f ≤ suc i
      back t (inr out) = omega (arith, cond_no (any_below k f) (suc q) 0 out)
      back t (inl u) = go (below_or i q)
        where
          top : IsLast k f q
          top = last (any_out k f u)

          go : (i < q) ⊎ (q ≤ i) → past_last k f ≤ suc i
          go (inl l) = absurd (T_not (any_below k high) t (any_at k high q top.below (and_in (f q) (ltb i q) top.holds (lt→ltb i q l))))
          go (inr l) = omega (arith, past u)

-- ---- the conditions

module _ (k i : ℕ) (c b : ℕ → Bool) where
  -- a test on b's positions that c has not may be made on either side
  pub only_turned : (e : ℕ → Bool) → not (any_below k (λ d. only b c d && e d)) ≡ not (any_below k (λ d. b d && (e d && not (c d))))
  unfolding only
  only_turned e = ap not (any_same k (λ d. only b c d && e d) (λ d. b d && (e d && not (c d))) (λ d _. go (b d) (not (c d)) (e d)))
    where
      go : (x y z : Bool) → ((x && y) && z) ≡ (x && (z && y))
      go true true true = refl
      go true true false = refl
      go true false true = refl
      go true false false = refl
      go false y z = refl

  pub unexcused_lex_bfs : i ≤ k → leb i (first_below k (only b c)) ≡ meets (condition lex_bfs i) k c b
  unfolding condition meets
  unexcused_lex_bfs l = none_sooner k i (only b c) l ∙ only_turned (λ d. ltb d i)

  pub unexcused_lex_dfs : leb (past_last k (only b c)) (suc i) ≡ meets (condition lex_dfs i) k c b
  unfolding condition meets
  unexcused_lex_dfs = none_later k i (only b c) ∙ only_turned (λ d. ltb i d)

  pub unexcused_mns : eqb (first_below k (only b c)) k ≡ meets (condition mns i) k c b
  unfolding condition meets only
  unexcused_mns = sym (none_first k (only b c))
