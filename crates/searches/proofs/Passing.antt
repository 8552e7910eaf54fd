-- The three readings of "passes", and what follows for prefixes of an ordering.
--   judge_agree, judge_take         only the judged positions matter: a prefix is an ordering itself
--   passes_run                      a full ordering that passes is a run
--   passes_begins, begins_passes, begins_ordering   passes exactly when some run begins so
--   fails_first                     a failed ordering is shown its first violation
--   cut_before_passes, cut_after_fails   where a failed ordering may be cut
--   offered_grows, grows_offered    the offered vertices are those with which a passed ordering passes when it grows by one
-- Assumes nothing.
use mathlib.Core.Path.{◌≡◌, refl, sym, ap, ◌∙◌, subst}
use mathlib.Core.Bool.{Bool, cond}
use mathlib.Core.Logic.{◌⊎◌, inl, inr}
use mathlib.Core.List.{List, [], ◌∷◌, ◌++◌}
use Prim.Native.Nat.{ℕ, suc, ◌+◌, ◌-◌, ◌≤◌, ◌<◌}
use native.Mathlib.Omega.{arith}
use lib.Dec.{T, ltb, ltb→lt}
use lib.ListN.{length, take}
use lib.Seq.{take_all}
use Rattle.bitset.specs.Below.{first_below}
use Rattle.bitset.proofs.Tests.{below_or, cond_no}
use Rattle.bitset.proofs.Below.{any_same, first, first_same, first_found, any_out}
use Rattle.searches.specs.Kind.{Search}
use Rattle.searches.specs.Ordering.{at, placed, IsOrdering, IsFullOrdering}
use Rattle.searches.specs.Label.{label}
use Rattle.searches.specs.Run.{offered, Reached, Run, BeginsRun}
use Rattle.searches.specs.Violation.{condition, meets, violates, Violates, Precedes, FirstViolation}
use Rattle.searches.specs.Violation.{Verdict, passes, fails, refused, Fails, third, is_last, is_first, is_middle, judge}
use Rattle.searches.specs.CarryOn.{carry_on}
use Rattle.searches.proofs.Ordering.{Agree, agree_fewer, placed_agree, take_agree, begins_agree, ordering_prefix, ordering_fits, length_grown, grown_agree, grown_last, up_to, up_to_full}
use Rattle.searches.proofs.Reason.{meets_same}
use Rattle.searches.proofs.Run.{Greedy, greedy_agree, greedy_ordering, greedy_reached, greedy_grown, reached_greedy, offered_agree}
use Rattle.searches.proofs.Judge.{Judged, judge_says, unviolated_passes}
use Rattle.searches.proofs.CarryOn.{greedy_passes, passes_greedy, carry_on_carries}

module _ (s : Search) (arc : ℕ → ℕ → Bool) (n : ℕ) where
  -- ---- only the judged positions matter

  module _ (k : ℕ) (w w' : List ℕ) (a : Agree k w w') where
    label_agree : (v v' j : ℕ) → v ≡ v' → j < k → (d : ℕ) → d < j → label arc w v d ≡ label arc w' v' d
    unfolding label
    label_agree v v' j same l d h =
        let e : at w d ≡ at w' d = a d (omega arith) in
        cc

    violates_agree : (i j c : ℕ) → i < j → j < k → violates s arc w i j c ≡ violates s arc w' i j c
    unfolding violates
    violates_agree i j c h l =
        let e : at w i ≡ at w' i = a i (omega arith) in
        let f : at w j ≡ at w' j = a j l in
        let p : placed w (suc j) c ≡ placed w' (suc j) c = placed_agree (suc j) c w w' (agree_fewer (suc j) k w w' l a) in
        let x : meets (condition s i) j (label arc w c) (label arc w (at w j)) ≡ meets (condition s i) j (label arc w' c) (label arc w' (at w' j)) =
        meets_same j (label arc w c) (label arc w (at w j)) (label arc w' c) (label arc w' (at w' j)) (label_agree c c j refl l)
        (label_agree (at w j) (at w' j) j f l) (condition s i)
        in
        cc

    third_agree : (e : ℕ) → third w k e ≡ third w' k e
    unfolding third
    third_agree e = go (below_or e k)
      where
        go : (e < k) ⊎ (k ≤ e) → cond (ltb e k) (at w e) (e - k) ≡ cond (ltb e k) (at w' e) (e - k)
        go (inl l) = ap (λ (v : ℕ). cond (ltb e k) v (e - k)) (a e l)
        go (inr l) =
            let out : T (ltb e k) → ⊥ = λ t. omega (arith, ltb→lt e k t) in
            cond_no (ltb e k) (at w e) (e - k) out ∙ sym (cond_no (ltb e k) (at w' e) (e - k) out)

    last_agree : (j i e : ℕ) → i < j → j < k → is_last s arc n w k j i e ≡ is_last s arc n w' k j i e
    unfolding is_last
    last_agree j i e h l = ap (λ (c : ℕ). violates s arc w i j c) (third_agree e) ∙ violates_agree i j (third w' k e) h l

    first_agree : (j i : ℕ) → i < j → j < k → is_first s arc n w k j i ≡ is_first s arc n w' k j i
    unfolding is_first
    first_agree j i h l = any_same (k + n) (is_last s arc n w k j i) (is_last s arc n w' k j i) (λ e _. last_agree j i e h l)

    middle_agree : (j : ℕ) → j < k → is_middle s arc n w k j ≡ is_middle s arc n w' k j
    unfolding is_middle
    middle_agree j l = any_same j (is_first s arc n w k j) (is_first s arc n w' k j) (λ i h. first_agree j i h l)

    -- the verdict from the positions that the searches find
    shown : List ℕ → ℕ → ℕ → ℕ → Verdict
    shown u j i e = cond (ltb j k) (fails (at u i) (at u j) (third u k e)) passes

    pub judge_agree : judge s arc n w k ≡ judge s arc n w' k
    unfolding judge shown is_middle
    judge_agree = start ∙ ap (λ (x : ℕ). from x) (first_same k (is_middle s arc n w k) (is_middle s arc n w' k) middle_agree)
      where
        from : ℕ → Verdict
        from j =
            let i = first_below j (is_first s arc n w' k j) in
            shown w' j i (first_below (k + n) (is_last s arc n w' k j i))

        j : ℕ
        j = first_below k (is_middle s arc n w k)

        i : ℕ
        i = first_below j (is_first s arc n w k j)

        e : ℕ
        e = first_below (k + n) (is_last s arc n w k j i)

        start : shown w j i e ≡ from j
        start = go (below_or j k)
          where
            go : (j < k) ⊎ (k ≤ j) → shown w j i e ≡ from j
            go (inl l) =
                let h : i < j = first_found (any_out j (is_first s arc n w k j) ((first k (is_middle s arc n w k)).holds l)) in
                let same_i : i ≡ first_below j (is_first s arc n w' k j) = first_same j (is_first s arc n w k j) (is_first s arc n w' k j) (λ x g. first_agree j x g l) in
                let same_e : e ≡ first_below (k + n) (is_last s arc n w' k j i) = first_same (k + n) (is_last s arc n w k j i) (is_last s arc n w' k j i) (λ x _. last_agree j i x h l) in
                let a_i : at w i ≡ at w' i = a i (omega arith) in
                let a_j : at w j ≡ at w' j = a j l in
                let t_e : third w k e ≡ third w' k e = third_agree e in
                let here : shown w j i e ≡ shown w' j i e = cc in
                here ∙ ap (λ (x : ℕ). shown w' j i x) same_e ∙ ap (λ (x : ℕ). shown w' j x (first_below (k + n) (is_last s arc n w' k j x))) same_i
            go (inr l) =
                let out : T (ltb j k) → ⊥ = λ t. omega (arith, ltb→lt j k t) in
                let i' = first_below j (is_first s arc n w' k j) in
                let e' = first_below (k + n) (is_last s arc n w' k j i') in
                cond_no (ltb j k) (fails (at w i) (at w j) (third w k e)) passes out
                ∙ sym (cond_no (ltb j k) (fails (at w' i') (at w' j) (third w' k e')) passes out)

  -- a part of an ordering is judged as the list of its own vertices
  pub judge_take : (w : List ℕ) (k : ℕ) → judge s arc n (take k w) k ≡ judge s arc n w k
  judge_take w k = judge_agree k (take k w) w (take_agree k w)

  -- ---- passes exactly when some run begins so

  pub passes_run : (r : List ℕ) → IsFullOrdering n r → judge s arc n r n ≡ passes → Run s arc n r
  passes_run r f p = record {
    reached =
        subst (λ (x : List ℕ). Reached s arc n x) (take_all n r (omega (arith, f.full)))
        (greedy_reached s arc n r n f.ordering.long (passes_greedy s arc n r n f.ordering p));
    full = f.full;
  }

  pub passes_begins : (w : List ℕ) (k : ℕ) → IsOrdering n w k → judge s arc n w k ≡ passes → BeginsRun s arc n w k
  passes_begins w k o p =
      let x = carry_on_carries s arc n (up_to n) (up_to_full n) w k o.long (ordering_fits n o) (passes_greedy s arc n w k o p) in
      record { run = carry_on s arc n (up_to n) w k; is = passes_run (carry_on s arc n (up_to n) w k) x.full x.passing; begins = x.begins }

  begins_greedy : (w : List ℕ) (k : ℕ) → k ≤ length w → BeginsRun s arc n w k → Greedy s arc n w k
  begins_greedy w k l b =
      let a = begins_agree k w b.run l b.begins in
      let g = reached_greedy s arc n b.is.reached in
      greedy_agree s arc n k b.run w a.1 (λ j h. g j (omega (arith, a.0)))

  -- what a run begins with are distinct vertices
  pub begins_ordering : (w : List ℕ) (k : ℕ) → k ≤ length w → BeginsRun s arc n w k → IsOrdering n w k
  begins_ordering w k l b = greedy_ordering s arc n w k l (begins_greedy w k l b)

  pub begins_passes : (w : List ℕ) (k : ℕ) → k ≤ length w → BeginsRun s arc n w k → judge s arc n w k ≡ passes
  begins_passes w k l b = greedy_passes s arc n w k l (begins_greedy w k l b)

  -- ---- cuts of a failed ordering

  pub recut : {w : List ℕ} {k i j c : ℕ} (m : ℕ) → j < m → Violates s arc n w k i j c → Violates s arc n w m i j c
  recut m l v = record {
    before = v.before;
    middle = l;
    vertex = v.vertex;
    later = v.later;
    linked = v.linked;
    apart = v.apart;
    unexcused = v.unexcused;
  }

  pub fails_first : (w : List ℕ) (k a b c : ℕ) → IsOrdering n w k → judge s arc n w k ≡ fails a b c → FirstViolation s arc n w k a b c
  fails_first w k a b c o e = subst (λ (v : Verdict). Judged s arc n w k v) e (judge_says s arc n w k o)

  module _ (w : List ℕ) (k a b c : ℕ) (o : IsOrdering n w k) (f : FirstViolation s arc n w k a b c) where
    pub cut_before_passes : judge s arc n w f.j ≡ passes
    cut_before_passes =
        unviolated_passes s arc n w f.j (ordering_prefix n f.j (omega (arith, f.is.middle)) o)
        (λ i' j' c' v. late v.middle (f.others_later i' j' c' (recut k (omega (arith, v.middle, f.is.middle)) v)))
      where
        late : {i' j' c' : ℕ} → j' < f.j → ((i' ≡ f.i) × (j' ≡ f.j) × (c' ≡ c)) ⊎ Precedes w k f.i f.j c i' j' c' → ⊥
        late l (inl same) = omega (arith, same.1)
        late l (inr (inl h)) = omega arith
        late l (inr (inr h)) = omega (arith, h.0)

    pub cut_after_fails : (m : ℕ) → f.j < m → m ≤ k → Fails (judge s arc n w m)
    cut_after_fails m l h = go (judge s arc n w m) (judge_says s arc n w m (ordering_prefix n m h o))
      where
        go : (v : Verdict) → Judged s arc n w m v → Fails v
        go passes none = absurd (none f.i f.j c (recut m l f.is))
        go (fails a' b' c') x = (a', b', c', refl)
        go (refused r) x = absurd x

  -- ---- growing by one

  module _ (w : List ℕ) (v : ℕ) where
    pub offered_grows : IsOrdering n w (length w) → judge s arc n w (length w) ≡ passes → T (offered s arc n w (length w) v)
        → IsOrdering n (w ++ v ∷ []) (suc (length w)) × (judge s arc n (w ++ v ∷ []) (suc (length w)) ≡ passes)
    offered_grows o p t =
        let g = greedy_grown s arc n w v (passes_greedy s arc n w (length w) o p) t in
        let l : suc (length w) ≤ length (w ++ v ∷ []) = omega (arith, length_grown w v) in
        (greedy_ordering s arc n (w ++ v ∷ []) (suc (length w)) l g, greedy_passes s arc n (w ++ v ∷ []) (suc (length w)) l g)

    pub grows_offered : IsOrdering n (w ++ v ∷ []) (suc (length w)) → judge s arc n (w ++ v ∷ []) (suc (length w)) ≡ passes
        → T (offered s arc n w (length w) v)
    grows_offered o p =
        subst (λ (x : ℕ). T (offered s arc n w (length w) x)) (grown_last w v)
        (offered_agree s arc n (length w) (at (w ++ v ∷ []) (length w)) (w ++ v ∷ []) w (grown_agree w v)
        (passes_greedy s arc n (w ++ v ∷ []) (suc (length w)) o p (length w) (omega arith)))
