-- Offered vertices and runs.
--   Offered s arc n w k v            offered, condition by condition; offered_in, offered_out
--   unoffered_beaten                 an unplaced vertex that is not offered has one ahead of it
--   outranks_agree, offered_agree    only the first k positions matter
--   some_offered                     where a vertex is unplaced, one is offered
--   all_offered_first, restart_allowed, restart_only_then   where a piece of the graph may be started
--   Greedy s arc n w k               each of the first k vertices was offered at its time
--   greedy_ordering                  such vertices are distinct vertices of n
--   reached_greedy, greedy_reached   greedy prefixes are what a search reaches
-- Assumes nothing.
use mathlib.Core.Path.{◌≡◌, sym, subst}
use mathlib.Core.Bool.{Bool, not, ◌&&◌}
use mathlib.Core.Logic.{◌⊎◌, inl, inr}
use mathlib.Core.List.{List, [], ◌∷◌, ◌++◌}
use Prim.Native.Nat.{ℕ, zero, suc, ◌≤◌, ◌<◌}
use native.Mathlib.Omega.{arith}
use lib.Dec.{T, ltb, ltb→lt, lt→ltb, not_T, T_not}
use lib.ListN.{length, take}
use lib.Seq.{length-take-le, take-suc}
use Rattle.bitset.specs.Below.{any_below}
use Rattle.bitset.proofs.Tests.{and_in, and_out, decided, below_suc}
use Rattle.bitset.proofs.Below.{Some, any_out, any_at}
use Rattle.searches.specs.Kind.{Search}
use Rattle.searches.specs.Ordering.{at, placed, IsOrdering}
use Rattle.searches.specs.Label.{label, outranks}
use Rattle.searches.specs.Run.{offered, Reached, nothing, next}
use Rattle.searches.specs.Violation.{condition}
use Rattle.searches.proofs.Maximal.{Maximal, some_maximal}
use Rattle.searches.proofs.Reason.{meets_in, meets_out, meets_same, outranks→reason, reason→outranks}
use Rattle.searches.proofs.AheadToo.{ahead_of_none}
use Rattle.searches.proofs.StrictOrder.{outranks_irreflexive, outranks_transitive}
use Rattle.searches.proofs.Ordering.{Agree, agree_sym, agree_fewer, placed_in, placed_agree, take_agree, some_unplaced}
use Rattle.searches.proofs.Ordering.{length_grown, grown_agree, grown_last}

module _ (s : Search) (arc : ℕ → ℕ → Bool) (n : ℕ) where
  pub record Offered (w : List ℕ) (k v : ℕ) : Type 0 where
    pub vertex : v < n
    pub unplaced : T (placed w k v) → ⊥
    pub unbeaten : (u : ℕ) → u < n → (T (placed w k u) → ⊥) → T (outranks s k (label arc w u) (label arc w v)) → ⊥

  module _ (w : List ℕ) (k v : ℕ) where
    beats : ℕ → Bool
    beats u = not (placed w k u) && outranks s k (label arc w u) (label arc w v)

    pub offered_out : T (offered s arc n w k v) → Offered w k v
    unfolding offered beats
    offered_out t =
        let outer = and_out (ltb v n && not (placed w k v)) (not (any_below n beats)) t in
        let inner = and_out (ltb v n) (not (placed w k v)) outer.0 in
        record {
          vertex = ltb→lt v n inner.0;
          unplaced = T_not (placed w k v) inner.1;
          unbeaten = λ u l out ahead. T_not (any_below n beats) outer.1 (any_at n beats u l (and_in (not (placed w k u)) (outranks s k (label arc w u) (label arc w v)) (not_T (placed w k u) out) ahead));
        }

    pub offered_in : Offered w k v → T (offered s arc n w k v)
    unfolding offered beats
    offered_in o =
        and_in (ltb v n && not (placed w k v)) (not (any_below n beats))
        (and_in (ltb v n) (not (placed w k v)) (lt→ltb v n o.vertex) (not_T (placed w k v) o.unplaced))
        (not_T (any_below n beats) (λ t.
        let u = any_out n beats t in
        let both = and_out (not (placed w k u.at)) (outranks s k (label arc w u.at) (label arc w v)) u.holds in
        o.unbeaten u.at u.below (T_not (placed w k u.at) both.0) both.1))

    -- an unplaced vertex that is not offered has an unplaced one ahead of it
    pub record Beaten : Type 0 where
      pub by : ℕ
      pub vertex : by < n
      pub unplaced : T (placed w k by) → ⊥
      pub ahead : T (outranks s k (label arc w by) (label arc w v))

    pub unoffered_beaten : v < n → (T (placed w k v) → ⊥) → (T (offered s arc n w k v) → ⊥) → Beaten
    unfolding beats
    unoffered_beaten l out refused = go (decided (any_below n beats))
      where
        go : T (any_below n beats) ⊎ (T (any_below n beats) → ⊥) → Beaten
        go (inl t) =
            let u = any_out n beats t in
            let both = and_out (not (placed w k u.at)) (outranks s k (label arc w u.at) (label arc w v)) u.holds in
            record { by = u.at; vertex = u.below; unplaced = T_not (placed w k u.at) both.0; ahead = both.1 }
        go (inr none) = absurd (refused (offered_in (record { vertex = l; unplaced = out; unbeaten = λ u h free ahead. none (any_at n beats u h (and_in (not (placed w k u)) (outranks s k (label arc w u) (label arc w v)) (not_T (placed w k u) free) ahead)) })))

  -- ---- only the first k positions matter

  label_agree : (k v : ℕ) (w w' : List ℕ) → Agree k w w' → (p : ℕ) → p < k → label arc w v p ≡ label arc w' v p
  unfolding label
  label_agree k v w w' a p l = cc (a p l)

  pub outranks_agree : (k u v : ℕ) (w w' : List ℕ) → Agree k w w' → T (outranks s k (label arc w u) (label arc w v)) → T (outranks s k (label arc w' u) (label arc w' v))
  outranks_agree k u v w w' a t =
      let r = outranks→reason k (label arc w u) (label arc w v) s t in
      let u_same = label_agree k u w w' a in
      let v_same = label_agree k v w w' a in
      let own = condition s r.position in
      reason→outranks k (label arc w' u) (label arc w' v) s (record {
        position = r.position;
        below = r.below;
        ours = subst (λ (b : Bool). T b) (u_same r.position r.below) r.ours;
        theirs = λ p. r.theirs (subst (λ (b : Bool). T b) (sym (v_same r.position r.below)) p);
        unexcused =
            meets_out k (label arc w' u) (label arc w' v) own
            (subst (λ (b : Bool). T b) (meets_same k (label arc w u) (label arc w v) (label arc w' u) (label arc w' v) u_same v_same own)
            (meets_in k (label arc w u) (label arc w v) own r.unexcused));
      })

  pub offered_agree : (k v : ℕ) (w w' : List ℕ) → Agree k w w' → T (offered s arc n w k v) → T (offered s arc n w' k v)
  offered_agree k v w w' a t =
      let o = offered_out w k v t in
      let back : (u : ℕ) → T (placed w k u) → T (placed w' k u) = λ u. subst (λ (b : Bool). T b) (placed_agree k u w w' a) in
      let forth : (u : ℕ) → T (placed w' k u) → T (placed w k u) = λ u. subst (λ (b : Bool). T b) (sym (placed_agree k u w w' a)) in
      offered_in w' k v (record {
        vertex = o.vertex;
        unplaced = λ p. o.unplaced (forth v p);
        unbeaten = λ u l out ahead. o.unbeaten u l (λ p. out (back u p)) (outranks_agree k u v w' w (agree_sym k w w' a) ahead);
      })

  -- ---- somebody is offered

  pub some_offered : {w : List ℕ} {k : ℕ} → IsOrdering n w k → k < n → Some n (offered s arc n w k)
  some_offered {w} {k} o l = go (some_maximal ahead (λ x. outranks_irreflexive s k (label arc w x)) (λ x y z. outranks_transitive s k (label arc w x) (label arc w y) (label arc w z)) n free)
    where
      ahead : ℕ → ℕ → Bool
      ahead u v = outranks s k (label arc w u) (label arc w v)

      free : ℕ → Bool
      free v = not (placed w k v)

      go : Maximal ahead n free ⊎ ((v : ℕ) → v < n → T (free v) → ⊥) → Some n (offered s arc n w k)
      go (inl m) = record {
        at = m.at;
        below = m.below;
        holds = offered_in w k m.at (record {
          vertex = m.below;
          unplaced = T_not (placed w k m.at) m.holds;
          unbeaten = λ u l out t. m.topmost u l (not_T (placed w k u) out) t;
        });
      }
      go (inr none) = let u = some_unplaced n o l in absurd (none u.at u.below u.holds)

  -- ---- where a piece starts

  -- with nothing placed all are offered
  pub all_offered_first : (w : List ℕ) (v : ℕ) → v < n → T (offered s arc n w 0 v)
  unfolding placed any_below
  all_offered_first w v l = offered_in w 0 v (record {
    vertex = l;
    unplaced = λ t. t;
    unbeaten = λ u h out t. let r = outranks→reason 0 (label arc w u) (label arc w v) s t in omega (arith, r.below);
  })

  -- no vertex among the first k leads to v
  abbrev pub Unreached : List ℕ → ℕ → ℕ → Type 0
  Unreached w k v = (p : ℕ) → p < k → T (label arc w v p) → ⊥

  -- an unplaced vertex that nothing leads to is offered exactly when nothing leads to any unplaced vertex
  pub restart_allowed : (w : List ℕ) (k v : ℕ) → v < n → (T (placed w k v) → ⊥)
      → ((u : ℕ) → u < n → (T (placed w k u) → ⊥) → Unreached w k u) → T (offered s arc n w k v)
  restart_allowed w k v l out none = offered_in w k v (record {
    vertex = l;
    unplaced = out;
    unbeaten = λ u h free t. let r = outranks→reason k (label arc w u) (label arc w v) s t in none u h free r.position r.below r.ours;
  })

  pub restart_only_then : (w : List ℕ) (k v : ℕ) → Unreached w k v → T (offered s arc n w k v)
      → (u : ℕ) → u < n → (T (placed w k u) → ⊥) → Unreached w k u
  restart_only_then w k v none t u l out p h inside =
      (offered_out w k v t).unbeaten u l out (ahead_of_none s k (label arc w u) (label arc w v) p h inside none)

  -- ---- prefixes of runs

  abbrev pub Greedy : List ℕ → ℕ → Type 0
  Greedy w k = (j : ℕ) → j < k → T (offered s arc n w j (at w j))

  pub greedy_ordering : (w : List ℕ) (k : ℕ) → k ≤ length w → Greedy w k → IsOrdering n w k
  greedy_ordering w k l g = record {
    long = l;
    vertices = λ p h. (offered_out w p (at w p) (g p h)).vertex;
    distinct = λ p q h i e. (offered_out w q (at w q) (g q i)).unplaced (placed_in w q (at w q) p h e);
  }

  pub greedy_agree : (k : ℕ) (w w' : List ℕ) → Agree k w w' → Greedy w k → Greedy w' k
  greedy_agree k w w' a g j l =
      subst (λ (v : ℕ). T (offered s arc n w' j v)) (a j l) (offered_agree j (at w j) w w' (agree_fewer j k w w' (omega arith) a) (g j l))

  pub greedy_grown : (w : List ℕ) (v : ℕ) → Greedy w (length w) → T (offered s arc n w (length w) v) → Greedy (w ++ v ∷ []) (suc (length w))
  greedy_grown w v g o j l = go (below_suc (length w) j l)
    where
      same : Agree (length w) w (w ++ v ∷ [])
      same = agree_sym (length w) (w ++ v ∷ []) w (grown_agree w v)

      go : (j < length w) ⊎ (j ≡ length w) → T (offered s arc n (w ++ v ∷ []) j (at (w ++ v ∷ []) j))
      go (inl h) = greedy_agree (length w) w (w ++ v ∷ []) same g j h
      go (inr e) =
          subst (λ (i : ℕ). T (offered s arc n (w ++ v ∷ []) i (at (w ++ v ∷ []) i))) (sym e)
          (subst (λ (x : ℕ). T (offered s arc n (w ++ v ∷ []) (length w) x)) (sym (grown_last w v)) (offered_agree (length w) v w (w ++ v ∷ []) same o))

  pub reached_greedy : {w : List ℕ} → Reached s arc n w → Greedy w (length w)
  reached_greedy nothing = λ j l. absurd (omega arith)
  reached_greedy (next {w = w} v r o) = subst (λ (k : ℕ). Greedy (w ++ v ∷ []) k) (sym (length_grown w v)) (greedy_grown w v (reached_greedy r) o)

  pub greedy_reached : (w : List ℕ) (k : ℕ) → k ≤ length w → Greedy w k → Reached s arc n (take k w)
  greedy_reached w zero l g = nothing
  greedy_reached w (suc k) l g =
      subst (λ (x : List ℕ). Reached s arc n x) (sym (take-suc w k 0 l))
      (next (at w k) (greedy_reached w k (omega arith) (λ j h. g j (omega arith)))
      (subst (λ (i : ℕ). T (offered s arc n (take k w) i (at w k))) (sym (length-take-le k w (omega arith)))
      (offered_agree k (at w k) w (take k w) (agree_sym k (take k w) w (take_agree k w)) (g k (omega arith)))))
