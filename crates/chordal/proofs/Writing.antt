-- The cycle while it is written.
--   Writing arc w i l j out₀ out q written   the first vertices of the cycle are written, as many as are told, and the descent has come to q
--   low_first, low_last                  the descent goes to no position before i, and only from one above i
--   begun                                the first two
--   writing_start, writing_next          where the loop begins, and after one step more
--   writing_inside, writing_falls, writing_room   the descent stays below l, its positions fall, and while it is above i there is room for one vertex more
--   writing_stops                        from a position from which it goes nowhere it has come to i
--   writing_end                          at i, the cycle is as long as was counted
-- Assumes nothing.
use Prim.Native.Nat.{ℕ, suc, ◌+◌, ◌≤◌, ◌<◌}
use mathlib.Core.Path.{◌≡◌, refl, sym, ap, ◌∙◌, subst}
use mathlib.Core.Bool.{Bool, not, ◌&&◌, ◌||◌}
use mathlib.Core.Logic.{◌⊎◌, inl, inr}
use mathlib.Core.List.{List}
use native.Mathlib.Omega.{arith}
use native.Mathlib.Numerals.{add-one}
use lib.Dec.{T, eqb, eqb→eq, ltb, ltb→lt}
use lib.ListN.{length, set}
use Rattle.bitset.specs.Below.{first_below}
use Rattle.bitset.proofs.Tests.{and_out, or_out, below_or}
use Rattle.bitset.proofs.Below.{first}
use Rattle.searches.specs.Ordering.{arcs, at}
use Rattle.chordal.specs.Descent.{Gap, joined, opened, step, next, stop, steps, cycle_at, cycle_length, cycle_vertex}
use Rattle.chordal.specs.Lists.{Ordered}
use Rattle.chordal.proofs.Descent.{stays_over, moves, stops_at, under_top, cycle_fits}
use Rattle.chordal.proofs.Listing.{Filled, filled_none, filled_more, filled_anew}

pub record Writing (arc : ℕ → ℕ → Bool) (w : List ℕ) (i l j : ℕ) (out₀ out : List ℕ) (q written : ℕ) : Type 0 where
  pub s : ℕ
  pub count : written ≡ suc (suc s)
  pub upto : s ≤ steps arc w i l j
  pub here : q ≡ stop arc w i l j s
  pub filled : Filled (cycle_vertex arc w i l j) out₀ out written

module _ (arc : ℕ → ℕ → Bool) (w : List ℕ) (i l : ℕ) where
  pub low_first : (q d : ℕ) → d < i → T (step arc w i l q d) → ⊥
  unfolding step opened
  low_first q d under t =
      go (or_out (eqb d i) (ltb i d && not (joined arc w d l)) (and_out (eqb d i || (ltb i d && not (joined arc w d l))) (joined arc w d q) t).0)
    where
      go : T (eqb d i) ⊎ T (ltb i d && not (joined arc w d l)) → ⊥
      go (inl here) = omega (arith, eqb→eq d i here, under)
      go (inr above) = omega (arith, ltb→lt i d (and_out (ltb i d) (not (joined arc w d l)) above).0, under)

  pub low_last : (q : ℕ) → next arc w i l q < q → i < q
  unfolding next
  low_last q falls = go (below_or i q)
    where
      go : (i < q) ⊎ (q ≤ i) → i < q
      go (inl over) = over
      go (inr under) =
          let x = first q (step arc w i l q) in
          absurd (low_first q (first_below q (step arc w i l q)) (omega (arith, falls, under)) (x.holds falls))

module _ (arc : ℕ → ℕ → Bool) (w : List ℕ) (i l j : ℕ) where
  pub begun : {u v : ℕ} (out : List ℕ) → 2 ≤ length out → u ≡ at w l → v ≡ at w j → Filled (cycle_vertex arc w i l j) out (set (set out 0 u) 1 v) 2
  unfolding cycle_at stop
  begun out room first second =
      filled_more (cycle_vertex arc w i l j) _ (filled_more (cycle_vertex arc w i l j) _ (filled_none (cycle_vertex arc w i l j) out) (omega arith) first) (omega arith) second

  pub writing_start : {out₀ out : List ℕ} → Filled (cycle_vertex arc w i l j) out₀ out 2 → Writing arc w i l j out out j 2
  unfolding stop
  writing_start x = record { s = 0; count = refl; upto = omega arith; here = refl; filled = filled_anew (cycle_vertex arc w i l j) x }

module _ (rows w : List ℕ) (i j l : ℕ) (ordered : Ordered rows w) (gap : Gap (arcs rows) w (length rows) i j l) where
  abbrev n : ℕ
  n = length rows

  abbrev t : ℕ
  t = steps (arcs rows) w i l j

  abbrev after : ℕ → ℕ
  after s = stop (arcs rows) w i l j s

  module _ {out₀ out : List ℕ} {q written : ℕ} (x : Writing (arcs rows) w i l j out₀ out q written) where
    -- above i the descent has not come to its end
    going : i < q → x.s < t
    going over = go (below_or x.s t)
      where
        go : (x.s < t) ⊎ (t ≤ x.s) → x.s < t
        go (inl h) = h
        go (inr h) =
            let e : x.s ≡ t = omega (arith, x.upto) in
            let there : q ≡ i = x.here ∙ ap (λ (s : ℕ). after s) e ∙ stops_at (arcs rows) n w ordered.all ordered.passing i j l gap in
            absurd (omega (arith, there, over))

    pub writing_inside : q < l
    writing_inside = let h = under_top (arcs rows) n w ordered.all ordered.passing i j l gap x.s x.upto in omega (arith, x.here)

    pub writing_room : i < q → written < n
    writing_room over =
        let h = going over in let k = cycle_fits (arcs rows) n w ordered.all ordered.passing i j l gap in omega (arith, x.count)

    pub writing_falls : i < q → next (arcs rows) w i l q < q
    unfolding stop
    writing_falls over =
        subst (λ (p : ℕ). next (arcs rows) w i l p < p) (sym x.here)
        (moves (arcs rows) n w ordered.all ordered.passing i j l gap x.s (going over)).under

    pub writing_stops : next (arcs rows) w i l q ≡ q → q ≤ i
    writing_stops none = go (below_or i q)
      where
        go : (i < q) ⊎ (q ≤ i) → q ≤ i
        go (inl over) = absurd (omega (arith, writing_falls over, none))
        go (inr low) = low

    pub writing_next : {d v : ℕ} → i < q → n ≤ length out₀ → d ≡ next (arcs rows) w i l q → v ≡ at w d
        → Writing (arcs rows) w i l j out₀ (set out written v) d (written + 1)
    unfolding cycle_at stop
    writing_next {d} {v} over room of-next of-vertex =
        let h = going over in
        let k = writing_room over in
        let here : d ≡ after (suc x.s) = of-next ∙ ap (λ (p : ℕ). next (arcs rows) w i l p) x.here in
        record {
          s = suc x.s;
          count = add-one written ∙ ap suc x.count;
          upto = omega arith;
          here = here;
          filled =
              filled_more (cycle_vertex (arcs rows) w i l j) v x.filled (omega arith)
              (of-vertex ∙ ap (λ (p : ℕ). at w p) (here ∙ ap (λ (p : ℕ). cycle_at (arcs rows) w i l j p) (sym x.count)));
        }

    pub writing_end : q ≤ i → written ≡ cycle_length (arcs rows) w i l j
    writing_end low = go (below_or x.s t)
      where
        go : (x.s < t) ⊎ (t ≤ x.s) → written ≡ cycle_length (arcs rows) w i l j
        go (inl h) = let k = stays_over (arcs rows) n w ordered.all ordered.passing i j l gap x.s h in absurd (omega (arith, x.here))
        go (inr h) = omega (arith, x.count, x.upto)
