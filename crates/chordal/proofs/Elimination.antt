-- Elimination orders: none exists where there is a chordless cycle, and an ordering without a gap, turned round, is one. For any symmetric relation and
-- any n.
--   Earliest, earliest              the vertex of a cycle that stands first in an order of all vertices; the others stand later
--   Neighbours, neighbours          the two vertices next to one on a chordless cycle are not linked
--   order_excludes_cycle            so a graph with an elimination order has no chordless cycle
--   gap_in, first_gap               the test for a gap: it holds where there is one, and then the first one is one
--   eliminates                      without a gap, the vertices from the last to the first are an elimination order
-- Assumes nothing.
use Prim.Native.Nat.{ℕ, zero, suc, ◌-◌, ◌≤◌, ◌<◌}
use mathlib.Core.Path.{◌≡◌, refl, sym, ap, ap₂, ◌∙◌, subst}
use mathlib.Core.Bool.{Bool, not, ◌&&◌}
use mathlib.Core.Logic.{◌⊎◌, inl, inr}
use mathlib.Core.List.{List}
use native.Mathlib.Omega.{arith}
use lib.Arith.{lt_of_le-ne}
use lib.Dec.{T, T_not, not_T}
use lib.ListN.{length}
use Rattle.bitset.specs.Below.{any_below, first_below}
use Rattle.bitset.proofs.Tests.{and_in, and_out, decided, below_or, three_ways}
use Rattle.bitset.proofs.Below.{any_out, any_at, first, first_found, first_earliest}
use Rattle.searches.specs.Ordering.{at, placed, IsOrdering}
use Rattle.searches.proofs.Ordering.{placed_in, placed_out, all_placed, same_position}
use Rattle.chordal.specs.Chordal.{Symmetric, NextTo, IsChordlessCycle, Chordal, IsEliminationOrder}
use Rattle.chordal.specs.Descent.{joined, Gap, is_gap, is_middle, is_top, first_low, first_middle, first_top, turned}

module _ (arc : ℕ → ℕ → Bool) (n : ℕ) (symmetric : Symmetric arc n) where
  -- ---- no elimination order where there is a chordless cycle

  module _ (c : List ℕ) (m : ℕ) (cycle : IsChordlessCycle arc n c m) where
    record Earliest (e : List ℕ) : Type 0 where
      x : ℕ
      p : ℕ
      inside : p < m
      same : at e x ≡ at c p
      others : (q : ℕ) → q < m → (q ≡ p → ⊥) → (y : ℕ) × (x < y) × (y < n) × (at e y ≡ at c q)

    earliest : (e : List ℕ) → IsOrdering n e n → Earliest e
    earliest e all =
        let start = place 0 (omega (arith, cycle.four)) in
        let found = first_found (any_out n on (any_at n on start.0 start.1 (placed_in c m (at e start.0) 0 (omega (arith, cycle.four)) (sym start.2)))) in
        let x = first_below n on in
        let there = placed_out c m (at e x) ((first n on).holds found) in
        record {
          x = x;
          p = there.0;
          inside = there.1;
          same = sym there.2;
          others = λ q h other.
              let y = place q h in
              let no_earlier = first_earliest n on y.0 (placed_in c m (at e y.0) q h (sym y.2)) in
              (y.0, lt_of_le-ne no_earlier (λ same. other (same_position n cycle.distinct q there.0 h there.1 (sym y.2 ∙ ap (λ (z : ℕ). at e z) (sym same) ∙ sym there.2))), y.1, y.2);
        }
      where
        -- the vertex there is on the cycle
        on : ℕ → Bool
        on x = placed c m (at e x)

        place : (q : ℕ) → q < m → (y : ℕ) × (y < n) × (at e y ≡ at c q)
        place q h = placed_out e n (at c q) (all_placed n all (at c q) (cycle.distinct.vertices q h))

    record Neighbours (p : ℕ) : Type 0 where
      q : ℕ
      r : ℕ
      ordered : q < r
      inside : r < m
      q_other : q ≡ p → ⊥
      r_other : r ≡ p → ⊥
      q_linked : T (arc (at c p) (at c q))
      r_linked : T (arc (at c p) (at c r))
      apart : T (arc (at c q) (at c r)) → ⊥

    -- from a later position back to an earlier one
    back : (p q : ℕ) → p < q → q < m → NextTo m p q → T (arc (at c q) (at c p))
    back p q h k x =
        subst (λ (b : Bool). T b) (symmetric (at c p) (at c q) (cycle.distinct.vertices p (omega arith)) (cycle.distinct.vertices q k))
        ((cycle.linked p q h k).1 x)

    unlinked : (q r : ℕ) → suc q < r → r < m → (q ≡ 0 → suc r ≡ m → ⊥) → T (arc (at c q) (at c r)) → ⊥
    unlinked q r h k ends t = go ((cycle.linked q r (omega arith) k).0 t)
      where
        go : NextTo m q r → ⊥
        go (inl e) = omega arith
        go (inr x) = ends x.0 x.1

    neighbours : (p : ℕ) → p < m → Neighbours p
    neighbours zero h =
        let four = cycle.four in
        record {
          q = 1;
          r = m - 1;
          ordered = omega arith;
          inside = omega arith;
          q_other = λ x. omega arith;
          r_other = λ x. omega arith;
          q_linked = (cycle.linked 0 1 (omega arith) (omega arith)).1 (inl refl);
          r_linked = (cycle.linked 0 (m - 1) (omega arith) (omega arith)).1 (inr (refl, omega arith));
          apart = unlinked 1 (m - 1) (omega arith) (omega arith) (λ x y. omega arith);
        }
    neighbours (suc p) h = go (below_or (suc (suc p)) m)
      where
        go : (suc (suc p) < m) ⊎ (m ≤ suc (suc p)) → Neighbours (suc p)
        go (inl l) =
            let four = cycle.four in
            record {
              q = p;
              r = suc (suc p);
              ordered = omega arith;
              inside = l;
              q_other = λ x. omega arith;
              r_other = λ x. omega arith;
              q_linked = back p (suc p) (omega arith) h (inl refl);
              r_linked = (cycle.linked (suc p) (suc (suc p)) (omega arith) l).1 (inl refl);
              apart = unlinked p (suc (suc p)) (omega arith) l (λ x y. omega arith);
            }
        go (inr l) =
            let four = cycle.four in
            record {
              q = 0;
              r = p;
              ordered = omega arith;
              inside = omega arith;
              q_other = λ x. omega arith;
              r_other = λ x. omega arith;
              q_linked = back 0 (suc p) (omega arith) h (inr (refl, omega arith));
              r_linked = back p (suc p) (omega arith) h (inl refl);
              apart = unlinked 0 p (omega arith) (omega arith) (λ x y. omega arith);
            }

  -- of the cycle's vertices take the one that stands first: its two neighbours stand later, and would have to be linked
  pub order_excludes_cycle : (e : List ℕ) → IsEliminationOrder arc n e → Chordal arc n
  order_excludes_cycle e order c m cycle =
      let f = earliest c m cycle e order.all in
      let two = neighbours c m cycle f.p f.inside in
      let y = f.others two.q (omega (arith, two.ordered, two.inside)) two.q_other in
      let z = f.others two.r two.inside two.r_other in
      go f.x y.0 z.0 y.1 y.2 z.1 z.2
      (subst (λ (b : Bool). T b) (sym (ap₂ arc f.same y.3)) two.q_linked)
      (subst (λ (b : Bool). T b) (sym (ap₂ arc f.same z.3)) two.r_linked)
      (λ t. two.apart (subst (λ (b : Bool). T b) (ap₂ arc y.3 z.3) t))
      (λ e. cycle.distinct.distinct two.q two.r two.ordered two.inside (sym y.3 ∙ e ∙ z.3))
    where
      go : (x y z : ℕ) → x < y → y < n → x < z → z < n → T (arc (at e x) (at e y)) → T (arc (at e x) (at e z)) → (T (arc (at e y) (at e z)) → ⊥)
          → (at e y ≡ at e z → ⊥) → ⊥
      go x y z xy yn xz zn to-y to-z apart other = further (three_ways y z)
        where
          further : (y < z) ⊎ ((y ≡ z) ⊎ (z < y)) → ⊥
          further (inl l) = apart (order.later x y z xy l zn to-y to-z)
          further (inr (inl same)) = other (ap (λ (p : ℕ). at e p) same)
          further (inr (inr l)) =
              apart (subst (λ (b : Bool). T b) (symmetric (at e z) (at e y) (order.all.vertices z zn) (order.all.vertices y yn))
              (order.later x z y xz l yn to-z to-y))

  -- ---- gaps

  module _ (w : List ℕ) where
    pub gap_in : (i j l : ℕ) → Gap arc w n i j l → T (any_below n (is_top arc w))
    unfolding is_top is_middle is_gap
    gap_in i j l g =
        any_at n (is_top arc w) l g.inside
        (any_at l (is_middle arc w l) j g.high
        (any_at j (is_gap arc w l j) i g.low
        (and_in (joined arc w j l) (joined arc w i l && not (joined arc w i j)) g.inner
        (and_in (joined arc w i l) (not (joined arc w i j)) g.outer (not_T (joined arc w i j) g.apart)))))

    pub first_gap : (l : ℕ) → l ≡ first_top arc w n → l < n
        → Gap arc w n (first_low arc w l (first_middle arc w l)) (first_middle arc w l) l
    unfolding first_top first_middle first_low is_top is_middle is_gap
    first_gap l is inside =
        let l_holds = (first n (is_top arc w)).holds (subst (λ (x : ℕ). x < n) is inside) in
        let j = first_below l (is_middle arc w l) in
        let j_found = first_found (any_out l (is_middle arc w l) (subst (λ (x : ℕ). T (is_top arc w x)) (sym is) l_holds)) in
        let j_holds = (first l (is_middle arc w l)).holds j_found in
        let i = first_below j (is_gap arc w l j) in
        let i_found = first_found (any_out j (is_gap arc w l j) j_holds) in
        let x = and_out (joined arc w j l) (joined arc w i l && not (joined arc w i j)) ((first j (is_gap arc w l j)).holds i_found) in
        let y = and_out (joined arc w i l) (not (joined arc w i j)) x.1 in
        record {
          low = i_found;
          high = j_found;
          inside = inside;
          outer = y.0;
          inner = x.0;
          apart = T_not (joined arc w i j) y.1;
        }

    -- whatever list has the vertices in front, turned round
    pub eliminates : IsOrdering n w n → (T (any_below n (is_top arc w)) → ⊥) → (e : List ℕ) → n ≤ length e → ((p : ℕ) → p < n → at e p ≡ turned w n p)
        → IsEliminationOrder arc n e
    eliminates all gapless e room same = record {
      all = record {
        long = room;
        vertices = vertices;
        distinct = λ p q h k eq. all.distinct (n - suc q) (n - suc p) (omega arith) (omega arith) (sym (same q k) ∙ sym eq ∙ same p (omega arith));
      };
      later = λ p q r h k l a b.
          subst (λ (x : Bool). T x) (sym (there q r (omega arith) l))
          (filled (n - suc r) (n - suc q) (n - suc p) (omega arith) (omega arith) (omega arith)
          (subst (λ (x : Bool). T x) (there p r (omega arith) l) b)
          (subst (λ (x : Bool). T x) (there p q (omega arith) (omega arith)) a));
    }
      where
        vertices : (p : ℕ) → p < n → at e p < n
        vertices p h = subst (λ (v : ℕ). v < n) (sym (same p h)) (all.vertices (n - suc p) (omega arith))

        there : (p q : ℕ) → p < n → q < n → arc (at e p) (at e q) ≡ joined arc w (n - suc q) (n - suc p)
        there p q h k = symmetric (at e p) (at e q) (vertices p h) (vertices q k) ∙ ap₂ arc (same q k) (same p h)

        filled : (i j l : ℕ) → i < j → j < l → l < n → T (joined arc w i l) → T (joined arc w j l) → T (joined arc w i j)
        filled i j l h k inside outer inner = go (decided (joined arc w i j))
          where
            go : T (joined arc w i j) ⊎ (T (joined arc w i j) → ⊥) → T (joined arc w i j)
            go (inl t) = t
            go (inr apart) = absurd (gapless (gap_in i j l (record { low = h; high = k; inside = inside; outer = outer; inner = inner; apart = apart })))
