-- Violations: what the test means, and that an ordering has none exactly when each vertex was offered at its time.
--   violates_in_lem, violates_out    the test, condition by condition
--   violation_refutes            the middle vertex of a violation was not offered
--   unoffered_violation          a vertex that was not offered is the middle of a violation
--   greedy_unviolated, unviolated_greedy
-- Assumes nothing.
use mathlib.Core.Path.{◌≡◌, sym, subst}
use mathlib.Core.Bool.{Bool, not, ◌&&◌}
use mathlib.Core.Logic.{◌⊎◌, inl, inr}
use mathlib.Core.List.{List}
use Prim.Native.Nat.{ℕ, suc, ◌<◌}
use native.Mathlib.Omega.{arith}
use lib.Dec.{T, not_T, T_not}
use Rattle.bitset.proofs.Tests.{and_in, and_out, decided, below_suc}
use Rattle.searches.specs.Kind.{Search}
use Rattle.searches.specs.Ordering.{at, placed, IsOrdering}
use Rattle.searches.specs.Label.{label}
use Rattle.searches.specs.Run.{offered}
use Rattle.searches.specs.Violation.{condition, meets, violates, Violates}
use Rattle.searches.proofs.Reason.{meets_in, meets_out, outranks→reason, reason→outranks}
use Rattle.searches.proofs.Ordering.{placed_in, placed_out, placed_more, ordering_unplaced}
use Rattle.searches.proofs.Run.{offered_out, unoffered_beaten, Greedy}

module _ (s : Search) (arc : ℕ → ℕ → Bool) (w : List ℕ) where
  module _ (i j c : ℕ) where
    -- the search's own condition on the labels of c and of b
    abbrev own : Bool
    own = meets (condition s i) j (label arc w c) (label arc w (at w j))

    pub violates_out : (n k : ℕ) → i < j → j < k → c < n → T (violates s arc w i j c) → Violates s arc n w k i j c
    unfolding violates
    violates_out n k before middle vertex t =
        let x = and_out (arc (at w i) c && not (arc (at w i) (at w j)) && not (placed w (suc j) c)) own t in
        let y = and_out (arc (at w i) c && not (arc (at w i) (at w j))) (not (placed w (suc j) c)) x.0 in
        let z = and_out (arc (at w i) c) (not (arc (at w i) (at w j))) y.0 in
        record {
          before = before;
          middle = middle;
          vertex = vertex;
          later = T_not (placed w (suc j) c) y.1;
          linked = z.0;
          apart = T_not (arc (at w i) (at w j)) z.1;
          unexcused = meets_out j (label arc w c) (label arc w (at w j)) (condition s i) x.1;
        }

    pub violates_in_lem : {n k : ℕ} → Violates s arc n w k i j c → T (violates s arc w i j c)
    unfolding violates
    violates_in_lem v =
        and_in (arc (at w i) c && not (arc (at w i) (at w j)) && not (placed w (suc j) c)) own
        (and_in (arc (at w i) c && not (arc (at w i) (at w j))) (not (placed w (suc j) c))
        (and_in (arc (at w i) c) (not (arc (at w i) (at w j))) v.linked (not_T (arc (at w i) (at w j)) v.apart))
        (not_T (placed w (suc j) c) v.later))
        (meets_in j (label arc w c) (label arc w (at w j)) (condition s i) v.unexcused)

  module _ (n : ℕ) where
    pub violation_refutes : {k i j c : ℕ} → Violates s arc n w k i j c → T (offered s arc n w j (at w j)) → ⊥
    unfolding label
    violation_refutes {k} {i} {j} {c} v t =
        (offered_out s arc n w j (at w j) t).unbeaten c v.vertex (λ p. v.later (placed_more w j (suc j) c (omega arith) p))
        (reason→outranks j (label arc w c) (label arc w (at w j)) s (record {
          position = i;
          below = v.before;
          ours = v.linked;
          theirs = v.apart;
          unexcused = v.unexcused;
        }))

    -- a violation whose middle vertex stands at position j
    pub record ViolatedAt (k j : ℕ) : Type 0 where
      pub i : ℕ
      pub c : ℕ
      pub is : Violates s arc n w k i j c

    pub unoffered_violation : {k : ℕ} → IsOrdering n w k → (j : ℕ) → j < k → (T (offered s arc n w j (at w j)) → ⊥) → ViolatedAt k j
    unfolding label
    unoffered_violation {k} o j l refused =
        let b = unoffered_beaten s arc n w j (at w j) (o.vertices j l) (ordering_unplaced n o j l) refused in
        let r = outranks→reason j (label arc w b.by) (label arc w (at w j)) s b.ahead in
        record {
          i = r.position;
          c = b.by;
          is = record {
            before = r.below;
            middle = l;
            vertex = b.vertex;
            later = λ t. let p = placed_out w (suc j) b.by t in standing b.by b.unplaced p.0 p.2 (λ e. r.theirs (subst (λ (x : ℕ). T (arc (at w r.position) x)) (sym e) r.ours)) (below_suc j p.0 p.1);
            linked = r.ours;
            apart = r.theirs;
            unexcused = r.unexcused;
          };
        }
      where
        -- a vertex that is not placed before position j and is not the vertex there stands at none of the positions up to j
        standing : (u : ℕ) → (T (placed w j u) → ⊥) → (p : ℕ) → at w p ≡ u → (at w j ≡ u → ⊥) → (p < j) ⊎ (p ≡ j) → ⊥
        standing u out p e other (inl h) = out (placed_in w j u p h e)
        standing u out p e other (inr same) = other (subst (λ (x : ℕ). at w x ≡ u) same e)

    pub greedy_unviolated : (k : ℕ) → Greedy s arc n w k → (i j c : ℕ) → Violates s arc n w k i j c → ⊥
    greedy_unviolated k g i j c v = violation_refutes v (g j v.middle)

    pub unviolated_greedy : (k : ℕ) → IsOrdering n w k → ((i j c : ℕ) → Violates s arc n w k i j c → ⊥) → Greedy s arc n w k
    unviolated_greedy k o none j l = go (decided (offered s arc n w j (at w j)))
      where
        go : T (offered s arc n w j (at w j)) ⊎ (T (offered s arc n w j (at w j)) → ⊥) → T (offered s arc n w j (at w j))
        go (inl t) = t
        go (inr refused) = let v = unoffered_violation o j l refused in absurd (none v.i j v.c v.is)
