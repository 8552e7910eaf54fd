-- Judging: the verdict is the first violation, or that there is none.
--   third_rank, rank_third, rank_below, third_vertex   the candidates for c, and where each first stands among them
--   rank_placed, rank_unplaced                         the rank of a placed and of an unplaced vertex
--   middle_met                                         the middle of a violation is found
--   Judged s arc n w k v                               what a verdict says; judge_says: that judge's verdict does
--   passes_unviolated, unviolated_passes               passes exactly when there is no violation
-- Assumes nothing.
use mathlib.Core.Path.{◌≡◌, refl, sym, ap, ◌∙◌, subst}
use mathlib.Core.Bool.{Bool, cond}
use mathlib.Core.Logic.{◌⊎◌, inl, inr}
use mathlib.Core.List.{List}
use Prim.Native.Nat.{ℕ, ◌+◌, ◌-◌, ◌≤◌, ◌<◌}
use native.Mathlib.Omega.{arith}
use lib.Dec.{T, ltb, eqb, lt→ltb, ltb→lt, eqb→eq, eqb_refl}
use Rattle.bitset.specs.Below.{first_below}
use Rattle.bitset.proofs.Tests.{decided, cond_yes, cond_no, below_or, three_ways}
use Rattle.bitset.proofs.Below.{any_out, any_at, first, first_found, first_earliest}
use Rattle.searches.specs.Kind.{Search}
use Rattle.searches.specs.Ordering.{at, placed, IsOrdering}
use Rattle.searches.specs.Violation.{violates, Violates, rank, Precedes, FirstViolation}
use Rattle.searches.specs.Violation.{Verdict, passes, fails, refused, third, is_last, is_first, is_middle, judge}
use Rattle.searches.proofs.Ordering.{placed_in}
use Rattle.searches.proofs.Violations.{violates_in_lem, violates_out}

-- ---- the candidates for the third vertex

module _ (w : List ℕ) (k : ℕ) where
  stands : ℕ → ℕ → Bool
  stands v p = eqb (at w p) v

  -- where a vertex is placed, its rank is its position; else it is k and its number
  rank_first : (v : ℕ) → T (placed w k v) → rank w k v ≡ first_below k (stands v)
  unfolding rank stands
  rank_first v t = cond_yes (placed w k v) _ _ t

  pub rank_unplaced : (v : ℕ) → (T (placed w k v) → ⊥) → rank w k v ≡ k + v
  unfolding rank stands
  rank_unplaced v out = cond_no (placed w k v) (first_below k (stands v)) (k + v) out

  pub rank_placed : (v : ℕ) → T (placed w k v) → (rank w k v < k) × (at w (rank w k v) ≡ v)
  unfolding placed stands
  rank_placed v t =
      let l = first_found (any_out k (stands v) t) in
      subst (λ (r : ℕ). (r < k) × (at w r ≡ v)) (sym (rank_first v t)) (l, eqb→eq (at w (first_below k (stands v))) v ((first k (stands v)).holds l))

  pub third_placed : (e : ℕ) → e < k → third w k e ≡ at w e
  unfolding third
  third_placed e l = cond_yes (ltb e k) (at w e) (e - k) (lt→ltb e k l)

  pub third_other : (e : ℕ) → k ≤ e → third w k e ≡ e - k
  unfolding third
  third_other e l = cond_no (ltb e k) (at w e) (e - k) (λ t. omega (arith, ltb→lt e k t))

  third_rank : (v : ℕ) → third w k (rank w k v) ≡ v
  third_rank v = go (decided (placed w k v))
    where
      go : T (placed w k v) ⊎ (T (placed w k v) → ⊥) → third w k (rank w k v) ≡ v
      go (inl t) = let r = rank_placed v t in third_placed (rank w k v) r.0 ∙ r.1
      go (inr out) = let e = rank_unplaced v out in third_other (rank w k v) (omega arith) ∙ omega arith

  rank_below : (n v : ℕ) → v < n → rank w k v < k + n
  rank_below n v l = go (decided (placed w k v))
    where
      go : T (placed w k v) ⊎ (T (placed w k v) → ⊥) → rank w k v < k + n
      go (inl t) = let r = (rank_placed v t).0 in omega arith
      go (inr out) = let e = rank_unplaced v out in omega arith

  -- a candidate's rank is where it first stands
  rank_third : (e : ℕ) → rank w k (third w k e) ≤ e
  unfolding stands
  rank_third e = go (below_or e k) (decided (placed w k (third w k e)))
    where
      go : (e < k) ⊎ (k ≤ e) → T (placed w k (third w k e)) ⊎ (T (placed w k (third w k e)) → ⊥) → rank w k (third w k e) ≤ e
      go (inl l) (inl t) =
          let v = third w k e in
          let h = first_earliest k (stands v) e (subst (λ (x : ℕ). T (eqb (at w e) x)) (sym (third_placed e l)) (eqb_refl (at w e))) in
          omega (arith, rank_first v t)
      go (inl l) (inr out) = absurd (out (placed_in w k (third w k e) e l (sym (third_placed e l))))
      go (inr l) (inl t) = let r = (rank_placed (third w k e) t).0 in omega arith
      go (inr l) (inr out) = let a = rank_unplaced (third w k e) out in let b = third_other e l in omega arith

  pub third_vertex : (n : ℕ) → ((p : ℕ) → p < k → at w p < n) → (e : ℕ) → e < k + n → third w k e < n
  third_vertex n vertices e l = go (below_or e k)
    where
      go : (e < k) ⊎ (k ≤ e) → third w k e < n
      go (inl h) = subst (λ (v : ℕ). v < n) (sym (third_placed e h)) (vertices e h)
      go (inr h) = let b = third_other e h in omega arith

-- ---- the first violation

-- what a verdict says of the first k positions; a refusal is never a verdict on an ordering
abbrev pub Judged : Search → (ℕ → ℕ → Bool) → ℕ → List ℕ → ℕ → Verdict → Type 0
Judged s arc n w k passes = (i j c : ℕ) → Violates s arc n w k i j c → ⊥
Judged s arc n w k (fails a b c) = FirstViolation s arc n w k a b c
Judged s arc n w k (refused r) = ⊥

module _ (s : Search) (arc : ℕ → ℕ → Bool) (n : ℕ) (w : List ℕ) (k : ℕ) where
  abbrev last_at : ℕ → ℕ → ℕ → Bool
  last_at j i = is_last s arc n w k j i

  abbrev first_at : ℕ → ℕ → Bool
  first_at j = is_first s arc n w k j

  abbrev middle_at : ℕ → Bool
  middle_at = is_middle s arc n w k

  -- each vertex of a violation is met by its search
  last_met : {i j c : ℕ} → Violates s arc n w k i j c → T (last_at j i (rank w k c))
  unfolding is_last
  last_met {i} {j} {c} v = subst (λ (x : ℕ). T (violates s arc w i j x)) (sym (third_rank w k c)) (violates_in_lem s arc w i j c v)

  first_met : {i j c : ℕ} → Violates s arc n w k i j c → T (first_at j i)
  unfolding is_first
  first_met {i} {j} {c} v = any_at (k + n) (last_at j i) (rank w k c) (rank_below w k n c v.vertex) (last_met v)

  pub middle_met : {i j c : ℕ} → Violates s arc n w k i j c → T (middle_at j)
  unfolding is_middle
  middle_met {i} {j} v = any_at j (first_at j) i v.before (first_met v)

  -- what the three searches find first is the first violation
  module _ (j i e : ℕ) (least-j : (x : ℕ) → T (middle_at x) → j ≤ x) (least-i : (x : ℕ) → T (first_at j x) → i ≤ x) (least-e : (x : ℕ) → T (last_at j i x) → e ≤ x) where
    later_third : {c : ℕ} → Violates s arc n w k i j c → (c ≡ third w k e) ⊎ (rank w k (third w k e) < rank w k c)
    later_third {c} v = go (three_ways (rank w k (third w k e)) (rank w k c))
      where
        go : (rank w k (third w k e) < rank w k c) ⊎ ((rank w k (third w k e) ≡ rank w k c) ⊎ (rank w k c < rank w k (third w k e)))
            → (c ≡ third w k e) ⊎ (rank w k (third w k e) < rank w k c)
        go (inl l) = inr l
        go (inr (inl same)) = inl (sym (third_rank w k c) ∙ ap (λ (r : ℕ). third w k r) (sym same) ∙ third_rank w k (third w k e))
        go (inr (inr l)) = let a = rank_third w k e in let b = least-e (rank w k c) (last_met v) in absurd (omega arith)

    later_first : {i' c : ℕ} → Violates s arc n w k i' j c
        → ((i' ≡ i) × (c ≡ third w k e)) ⊎ ((i < i') ⊎ ((i ≡ i') × (rank w k (third w k e) < rank w k c)))
    later_first {i'} {c} v = go (three_ways i i')
      where
        at_i : i ≡ i' → (c ≡ third w k e) ⊎ (rank w k (third w k e) < rank w k c)
            → ((i' ≡ i) × (c ≡ third w k e)) ⊎ ((i < i') ⊎ ((i ≡ i') × (rank w k (third w k e) < rank w k c)))
        at_i same (inl e) = inl (sym same, e)
        at_i same (inr l) = inr (inr (same, l))

        go : (i < i') ⊎ ((i ≡ i') ⊎ (i' < i)) → ((i' ≡ i) × (c ≡ third w k e)) ⊎ ((i < i') ⊎ ((i ≡ i') × (rank w k (third w k e) < rank w k c)))
        go (inl l) = inr (inl l)
        go (inr (inl same)) = at_i same (later_third (subst (λ (x : ℕ). Violates s arc n w k x j c) (sym same) v))
        go (inr (inr l)) = let a = least-i i' (first_met v) in absurd (omega arith)

    later_middle : (i' j' c : ℕ) → Violates s arc n w k i' j' c
        → ((i' ≡ i) × (j' ≡ j) × (c ≡ third w k e)) ⊎ Precedes w k i j (third w k e) i' j' c
    later_middle i' j' c v = go (three_ways j j')
      where
        at_j : j ≡ j' → ((i' ≡ i) × (c ≡ third w k e)) ⊎ ((i < i') ⊎ ((i ≡ i') × (rank w k (third w k e) < rank w k c)))
            → ((i' ≡ i) × (j' ≡ j) × (c ≡ third w k e)) ⊎ Precedes w k i j (third w k e) i' j' c
        at_j same (inl x) = inl (x.0, sym same, x.1)
        at_j same (inr x) = inr (inr (same, x))

        go : (j < j') ⊎ ((j ≡ j') ⊎ (j' < j)) → ((i' ≡ i) × (j' ≡ j) × (c ≡ third w k e)) ⊎ Precedes w k i j (third w k e) i' j' c
        go (inl l) = inr (inl l)
        go (inr (inl same)) = at_j same (later_first (subst (λ (x : ℕ). Violates s arc n w k i' x c) (sym same) v))
        go (inr (inr l)) = let a = least-j j' (middle_met v) in absurd (omega arith)

    first_violation : IsOrdering n w k → i < j → j < k → e < k + n → T (last_at j i e) → FirstViolation s arc n w k (at w i) (at w j) (third w k e)
    unfolding is_last
    first_violation o before middle below t = record {
      i = i;
      j = j;
      is = violates_out s arc w i j (third w k e) n k before middle (third_vertex w k n o.vertices e below) t;
      a_stands = refl;
      b_stands = refl;
      others_later = later_middle;
    }

  pub judge_says : IsOrdering n w k → Judged s arc n w k (judge s arc n w k)
  unfolding judge is_middle is_first
  judge_says o = go (below_or j k)
    where
      j : ℕ
      j = first_below k middle_at

      i : ℕ
      i = first_below j (first_at j)

      e : ℕ
      e = first_below (k + n) (last_at j i)

      go : (j < k) ⊎ (k ≤ j) → Judged s arc n w k (cond (ltb j k) (fails (at w i) (at w j) (third w k e)) passes)
      go (inl l) =
          let some_i = first_found (any_out j (first_at j) ((first k middle_at).holds l)) in
          let some_e = first_found (any_out (k + n) (last_at j i) ((first j (first_at j)).holds some_i)) in
          subst (λ (v : Verdict). Judged s arc n w k v) (sym (cond_yes (ltb j k) (fails (at w i) (at w j) (third w k e)) passes (lt→ltb j k l)))
          (first_violation j i e (first_earliest k middle_at) (first_earliest j (first_at j)) (first_earliest (k + n) (last_at j i)) o some_i l some_e
          ((first (k + n) (last_at j i)).holds some_e))
      go (inr l) =
          subst (λ (v : Verdict). Judged s arc n w k v) (sym (cond_no (ltb j k) (fails (at w i) (at w j) (third w k e)) passes (λ t. omega (arith, ltb→lt j k t))))
          (λ i' j' c v. let a = first_earliest k middle_at j' (middle_met v) in omega (arith, v.middle))

  pub passes_unviolated : IsOrdering n w k → judge s arc n w k ≡ passes → (i j c : ℕ) → Violates s arc n w k i j c → ⊥
  passes_unviolated o p = subst (λ (v : Verdict). Judged s arc n w k v) p (judge_says o)

  pub unviolated_passes : IsOrdering n w k → ((i j c : ℕ) → Violates s arc n w k i j c → ⊥) → judge s arc n w k ≡ passes
  unviolated_passes o none = go (judge s arc n w k) (judge_says o)
    where
      go : (v : Verdict) → Judged s arc n w k v → v ≡ passes
      go passes x = refl
      go (fails a b c) x = absurd (none x.i x.j c x.is)
      go (refused r) x = absurd x
