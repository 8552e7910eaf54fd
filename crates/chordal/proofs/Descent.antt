-- A gap of a LexDFS ordering leads to a chordless cycle: from the two vertices at l and j the descent goes down to the one at i. For any symmetric
-- relation and any n.
--   Between, between                  where i is linked to l and not to j, some vertex between them is linked to j and not to l: LexDFS's own condition
--   IsNext, next_is                   where the descent goes next
--   Descended, descends, stays_over, moves   it stays above i until it is there
--   stops_in_time, stops_at           it comes to i;   long_enough   in two steps or more
--   falls, no_chord, no_top           its positions fall; each is linked to the one before it, to none before that, and except for the first and the last not to l
--   under_top, cycle_fits             the cycle stays below l, and is no longer than n
--   linked_next, next_linked          its vertices are linked exactly where they are next to each other
--   cycle                             so it is a chordless cycle
-- Assumes nothing.
use Prim.Native.Nat.{ℕ, zero, suc, ◌+◌, ◌≤◌, ◌<◌}
use mathlib.Core.Path.{◌≡◌, refl, sym, ap, ◌∙◌, subst}
use mathlib.Core.Bool.{Bool, not, ◌&&◌}
use mathlib.Core.Logic.{◌⊎◌, inl, inr}
use mathlib.Core.List.{List}
use native.Mathlib.Omega.{arith}
use lib.Arith.{lt_of_le-ne}
use lib.Dec.{T, ltb, eqb, T_not, not_T, ltb→lt, lt→ltb, eqb→eq, eqb_refl}
use lib.ListN.{length}
use Rattle.bitset.specs.Below.{any_below, first_below}
use Rattle.bitset.proofs.Tests.{and_in, and_out, or_inl, or_inr, or_out, decided, below_or, below_suc, three_ways}
use Rattle.bitset.proofs.Below.{Some, any_out, any_at, first, first_found}
use Rattle.searches.specs.Kind.{lex_dfs}
use Rattle.searches.specs.Ordering.{at, IsOrdering}
use Rattle.searches.specs.Label.{label}
use Rattle.searches.specs.Violation.{condition, passes, judge}
use Rattle.searches.proofs.Ordering.{placed_out}
use Rattle.searches.proofs.Judge.{passes_unviolated}
use Rattle.chordal.specs.Chordal.{Symmetric, NextTo, IsChordlessCycle}
use Rattle.chordal.specs.Descent.{joined, Gap, opened, step, next, stop, steps, cycle_at, cycle_length}

module _ (arc : ℕ → ℕ → Bool) (n : ℕ) (w : List ℕ) (all : IsOrdering n w n) (passing : judge lex_dfs arc n w n ≡ passes) where
  record Between (i j l : ℕ) : Type 0 where
    d : ℕ
    over : i < d
    under : d < j
    linked : T (joined arc w d j)
    unlinked : T (joined arc w d l) → ⊥

  between : (i j l : ℕ) → i < j → j < l → l < n → T (joined arc w i l) → (T (joined arc w i j) → ⊥) → Between i j l
  unfolding condition label
  between i j l low high inside outer apart = go (decided (any_below j excuse))
    where
      excuse : ℕ → Bool
      excuse d = joined arc w d j && (ltb i d && not (joined arc w d l))

      go : T (any_below j excuse) ⊎ (T (any_below j excuse) → ⊥) → Between i j l
      go (inl t) =
          let s = any_out j excuse t in
          let x = and_out (joined arc w s.at j) (ltb i s.at && not (joined arc w s.at l)) s.holds in
          let y = and_out (ltb i s.at) (not (joined arc w s.at l)) x.1 in
          record {
            d = s.at;
            over = ltb→lt i s.at y.0;
            under = s.below;
            linked = x.0;
            unlinked = T_not (joined arc w s.at l) y.1;
          }
      go (inr unexcused) =
          absurd (passes_unviolated lex_dfs arc n w n all passing i j (at w l) (record {
            before = low;
            middle = omega arith;
            vertex = all.vertices l inside;
            later = λ t. let p = placed_out w (suc j) (at w l) t in all.distinct p.0 l (omega (arith, p.1)) inside p.2;
            linked = outer;
            apart = apart;
            unexcused = λ d below a b. unexcused (any_at j excuse d below (and_in (joined arc w d j) (ltb i d && not (joined arc w d l)) a b));
          }))

  module _ (i j l : ℕ) (gap : Gap arc w n i j l) where
    pub record IsNext (q d : ℕ) : Type 0 where
      pub under : d < q
      pub linked : T (joined arc w d q)
      pub place : (d ≡ i) ⊎ ((i < d) × (T (joined arc w d l) → ⊥))
      pub open_to : T (opened arc w i l d)
      pub least : (x : ℕ) → x < d → T (opened arc w i l x) → T (joined arc w x q) → ⊥

    opened_out : (d : ℕ) → T (opened arc w i l d) → (d ≡ i) ⊎ ((i < d) × (T (joined arc w d l) → ⊥))
    unfolding opened
    opened_out d t = go (or_out (eqb d i) (ltb i d && not (joined arc w d l)) t)
      where
        go : T (eqb d i) ⊎ T (ltb i d && not (joined arc w d l)) → (d ≡ i) ⊎ ((i < d) × (T (joined arc w d l) → ⊥))
        go (inl e) = inl (eqb→eq d i e)
        go (inr r) = let y = and_out (ltb i d) (not (joined arc w d l)) r in inr (ltb→lt i d y.0, T_not (joined arc w d l) y.1)

    some_step : (q : ℕ) → i < q → q ≤ j → Some q (step arc w i l q)
    unfolding step opened
    some_step q above below = go (decided (joined arc w i q))
      where
        go : T (joined arc w i q) ⊎ (T (joined arc w i q) → ⊥) → Some q (step arc w i l q)
        go (inl t) = record {
          at = i;
          below = above;
          holds = and_in (opened arc w i l i) (joined arc w i q) (or_inl (eqb i i) (ltb i i && not (joined arc w i l)) (eqb_refl i)) t;
        }
        go (inr apart) =
            let b = between i q l above (omega (arith, gap.high)) gap.inside gap.outer apart in
            record {
              at = b.d;
              below = b.under;
              holds =
                  and_in (opened arc w i l b.d) (joined arc w b.d q)
                  (or_inr (eqb b.d i) (ltb i b.d && not (joined arc w b.d l))
                  (and_in (ltb i b.d) (not (joined arc w b.d l)) (lt→ltb i b.d b.over) (not_T (joined arc w b.d l) b.unlinked)))
                  b.linked;
            }

    next_is : (q : ℕ) → i < q → q ≤ j → IsNext q (next arc w i l q)
    unfolding next step
    next_is q above below =
        let d = first_below q (step arc w i l q) in
        let found = first_found (some_step q above below) in
        let is = first q (step arc w i l q) in
        let both = and_out (opened arc w i l d) (joined arc w d q) (is.holds found) in
        record {
          under = found;
          linked = both.1;
          place = opened_out d both.0;
          open_to = both.0;
          least = λ x h o t. is.least x h (and_in (opened arc w i l x) (joined arc w x q) o t);
        }

    -- ---- the stops

    abbrev after : ℕ → ℕ
    after s = stop arc w i l j s

    abbrev t : ℕ
    t = steps arc w i l j

    pub record Descended (s : ℕ) : Type 0 where
      pub over : i ≤ after s
      pub under : after s + s ≤ j

    not_yet : (s : ℕ) → s < t → after s ≡ i → ⊥
    unfolding steps
    not_yet s h e = (first (suc j) (λ s. eqb (after s) i)).least s h (subst (λ (x : ℕ). T (eqb (after s) x)) e (eqb_refl (after s)))

    is_over : {q d : ℕ} → IsNext q d → i ≤ d
    is_over {q} {d} x = go x.place
      where
        go : (d ≡ i) ⊎ ((i < d) × (T (joined arc w d l) → ⊥)) → i ≤ d
        go (inl e) = omega arith
        go (inr o) = let h = o.0 in omega arith

    pub descends : (s : ℕ) → s ≤ t → Descended s
    unfolding stop
    descends zero h = record { over = omega (arith, gap.low); under = omega arith }
    descends (suc s) h =
        let d = descends s (omega arith) in
        let x = next_is (after s) (lt_of_le-ne d.over (λ e. not_yet s (omega arith) (sym e))) (omega (arith, d.under)) in
        record { over = is_over x; under = omega (arith, x.under, d.under) }

    pub stays_over : (s : ℕ) → s < t → i < after s
    stays_over s h = lt_of_le-ne (descends s (omega arith)).over (λ e. not_yet s h (sym e))

    pub moves : (s : ℕ) → s < t → IsNext (after s) (after (suc s))
    unfolding stop
    moves s h = let d = descends s (omega arith) in next_is (after s) (stays_over s h) (omega (arith, d.under))

    stops_in_time : t ≤ j
    unfolding steps
    stops_in_time = go (below_or t (suc j)) (first (suc j) (λ s. eqb (after s) i)).within
      where
        go : (t < suc j) ⊎ (suc j ≤ t) → t ≤ suc j → t ≤ j
        go (inl l) h = omega arith
        go (inr l) h = let d = descends t (omega arith) in omega (arith, d.under)

    pub stops_at : after t ≡ i
    unfolding steps
    stops_at = let h = stops_in_time in eqb→eq (after t) i ((first (suc j) (λ s. eqb (after s) i)).holds (omega arith))

    -- not at once, as i is below j, and not in one step, as they are not linked
    long_enough : 2 ≤ t
    unfolding stop
    long_enough = go (three_ways t 1)
      where
        go : (t < 1) ⊎ ((t ≡ 1) ⊎ (1 < t)) → 2 ≤ t
        go (inl l) =
            let e : t ≡ 0 = omega arith in
            let same : j ≡ i = ap (λ (s : ℕ). after s) (sym e) ∙ stops_at in
            absurd (omega (arith, gap.low))
        go (inr (inl e)) =
            absurd (gap.apart (subst (λ (d : ℕ). T (joined arc w d j)) (ap (λ (s : ℕ). after s) (sym e) ∙ stops_at) (moves 0 (omega arith)).linked))
        go (inr (inr l)) = omega arith

    falls : (r s : ℕ) → r < s → s ≤ t → after s < after r
    falls r zero h k = absurd (omega arith)
    falls r (suc s) h k = go (below_suc s r h) (moves s (omega arith)).under (λ l. falls r s l (omega arith))
      where
        go : (r < s) ⊎ (r ≡ s) → after (suc s) < after s → (r < s → after s < after r) → after (suc s) < after r
        go (inl l) u rest = let x = rest l in omega arith
        go (inr e) u rest = subst (λ (x : ℕ). after (suc s) < after x) (sym e) u

    no_chord : (r s : ℕ) → suc r < s → s ≤ t → T (joined arc w (after s) (after r)) → ⊥
    no_chord r zero h k = absurd (omega arith)
    no_chord r (suc s) h k = (moves r (omega arith)).least (after (suc s)) (falls (suc r) (suc s) h k) (moves s (omega arith)).open_to

    no_top : (s : ℕ) → 0 < s → s < t → T (joined arc w (after s) l) → ⊥
    no_top zero h k = absurd (omega arith)
    no_top (suc s) h k = go (moves s (omega arith)).place
      where
        go : (after (suc s) ≡ i) ⊎ ((i < after (suc s)) × (T (joined arc w (after (suc s)) l) → ⊥)) → T (joined arc w (after (suc s)) l) → ⊥
        go (inl e) = absurd (not_yet (suc s) k e)
        go (inr o) = o.1

    -- ---- the cycle, by its positions

    abbrev place_of : ℕ → ℕ
    place_of p = cycle_at arc w i l j p

    abbrev m : ℕ
    m = cycle_length arc w i l j

    pub cycle_fits : m ≤ n
    cycle_fits = let h = stops_in_time in omega (arith, gap.high, gap.inside)

    pub under_top : (s : ℕ) → s ≤ t → after s < l
    under_top s h = let d = descends s h in omega (arith, d.under, gap.high)

    cycle_falls : (p q : ℕ) → p < q → q < m → place_of q < place_of p
    unfolding cycle_at
    cycle_falls p zero h k = absurd (omega arith)
    cycle_falls zero (suc s) h k = under_top s (omega arith)
    cycle_falls (suc r) (suc s) h k = falls r s (omega arith) (omega arith)

    cycle_inside : (p : ℕ) → p < m → place_of p < n
    unfolding cycle_at
    cycle_inside zero h = gap.inside
    cycle_inside (suc s) h = let x = under_top s (omega arith) in omega (arith, gap.inside)

    -- the later of two, which stands at the earlier position, is linked to the one before it, and the last to the first
    linked_next : (p q : ℕ) → p < q → q < m → NextTo m p q → T (joined arc w (place_of q) (place_of p))
    unfolding cycle_at stop
    linked_next p zero h k x = absurd (omega arith)
    linked_next zero (suc s) h k (inl e) =
        let first : s ≡ 0 = omega arith in subst (λ (r : ℕ). T (joined arc w (after r) l)) (sym first) gap.inner
    linked_next zero (suc s) h k (inr x) =
        let last : s ≡ t = omega (arith, x.1) in
        subst (λ (d : ℕ). T (joined arc w d l)) (sym (ap (λ (r : ℕ). after r) last ∙ stops_at)) gap.outer
    linked_next (suc r) (suc s) h k (inl e) =
        let following : s ≡ suc r = omega arith in
        subst (λ (x : ℕ). T (joined arc w (after x) (after r))) (sym following) (moves r (omega arith)).linked
    linked_next (suc r) (suc s) h k (inr x) = absurd (omega (arith, x.0))

    -- and no others are
    next_linked : (p q : ℕ) → p < q → q < m → T (joined arc w (place_of q) (place_of p)) → NextTo m p q
    unfolding cycle_at
    next_linked p zero h k x = absurd (omega arith)
    next_linked zero (suc s) h k x = go (below_or 0 s) (below_suc t s (omega arith))
      where
        go : (0 < s) ⊎ (s ≤ 0) → (s < t) ⊎ (s ≡ t) → NextTo m zero (suc s)
        go (inr first) last = inl (omega arith)
        go (inl later) (inl within) = absurd (no_top s later within x)
        go (inl later) (inr last) = inr (refl, omega arith)
    next_linked (suc r) (suc s) h k x = go (below_suc s (suc r) (omega arith))
      where
        go : (suc r < s) ⊎ (suc r ≡ s) → NextTo m (suc r) (suc s)
        go (inl further) = absurd (no_chord r s further (omega arith) x)
        go (inr following) = inl (ap suc following)

    -- whatever list has these vertices in front
    pub cycle : Symmetric arc n → (c : List ℕ) → m ≤ length c → ((p : ℕ) → p < m → at c p ≡ at w (place_of p)) → IsChordlessCycle arc n c m
    cycle symmetric c room same =
        let long = long_enough in
        record {
          four = omega arith;
          distinct = record {
            long = room;
            vertices = vertices;
            distinct = λ p q h k e.
                all.distinct (place_of q) (place_of p) (cycle_falls p q h k) (cycle_inside p (omega arith)) (sym (same q k) ∙ sym e ∙ same p (omega arith));
          };
          linked = λ p q h k. (
            λ x. next_linked p q h k (subst (λ (b : Bool). T b) (there p q h k) x),
            λ x. subst (λ (b : Bool). T b) (sym (there p q h k)) (linked_next p q h k x),
          );
        }
      where
        vertices : (p : ℕ) → p < m → at c p < n
        vertices p h = subst (λ (v : ℕ). v < n) (sym (same p h)) (all.vertices (place_of p) (cycle_inside p h))

        there : (p q : ℕ) → p < q → q < m → arc (at c p) (at c q) ≡ joined arc w (place_of q) (place_of p)
        there p q h k =
            symmetric (at c p) (at c q) (vertices p (omega arith)) (vertices q k) ∙ ap (λ (u : ℕ). arc u (at c p)) (same q k)
            ∙ ap (λ (v : ℕ). arc (at w (place_of q)) v) (same p (omega arith))
