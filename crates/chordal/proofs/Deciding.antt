-- What is decided from a LexDFS ordering, and what the tests of the call say of the graph.
--   valid              a graph that is not refused is a valid two-way graph, and the output list has room
--   gap_found          the positions that the code finds are a gap
--   cycle_shown        what is written from a gap is what is to be shown
--   order_shown        and so are the vertices turned round where there is none
--   output_length      an output list that is left so is as long as it was
-- Assumes nothing.
use Prim.Native.Nat.{ℕ, ◌≤◌, ◌<◌}
use mathlib.Core.Path.{◌≡◌, sym, ap, ◌∙◌, subst}
use mathlib.Core.Logic.{◌⊎◌, inl, inr}
use mathlib.Core.List.{List, ◌++◌}
use native.Mathlib.Omega.{arith}
use lib.Dec.{lt→ltb}
use lib.ListN.{length, drop, length-drop}
use Rattle.bitset.proofs.Tests.{below_or}
use Rattle.bitset.proofs.Passed.{none_found}
use Rattle.searches.specs.Kind.{lex_dfs, kind_of}
use Rattle.searches.specs.Ordering.{arcs}
use Rattle.searches.specs.Answer.{is_two_way, open_tests, two_way_tests, first_refusal, Accepts}
use Rattle.searches.specs.declared.Mark.{Mark}
use Rattle.searches.proofs.Ordering.{ordering_fits}
use Rattle.searches.proofs.Refusals.{none_accepts}
use Rattle.chordal.specs.Descent.{Gap, is_top, first_low, first_middle, first_top, cycle_length, listed, cycle_vertex, cycle_of, turned}
use Rattle.chordal.specs.Lists.{Ordered, Descendable}
use Rattle.chordal.specs.Chordal.{IsChordlessCycle}
use Rattle.chordal.specs.Answer.{chordal_tests, Answer, chordal, cycle, refused, refusal_in, Shown}
use Rattle.chordal.proofs.Descent as descent
use Rattle.chordal.proofs.Elimination.{order_excludes_cycle, first_gap, eliminates}
use Rattle.chordal.proofs.Listing.{Filled, filled_length, filled_at, filled_behind}

pub valid : (mark : Mark) (rows : List ℕ) (room : ℕ) → Accepts (chordal_tests mark rows room) → Accepts (open_tests (kind_of lex_dfs) Mark.TwoWay rows) × (length rows ≤ room)
unfolding chordal_tests two_way_tests open_tests is_two_way kind_of
valid mark rows room a = ((λ t. t, (a.0, (a.1.0, (a.1.1.0, (a.1.1.1.1.0, tt))))), go (below_or room (length rows)))
  where
    go : (room < length rows) ⊎ (length rows ≤ room) → length rows ≤ room
    go (inl l) = absurd (a.1.1.1.1.1.0 (lt→ltb room (length rows) l))
    go (inr l) = l

module _ (rows w before : List ℕ) (ordered : Ordered rows w) (room : length rows ≤ length before) where
  pub gap_found : {i j l : ℕ} → l ≡ first_top (arcs rows) w (length rows) → l < length rows → j ≡ first_middle (arcs rows) w l → i ≡ first_low (arcs rows) w l j
      → Descendable rows w before i j l
  gap_found {i} {j} {l} top inside middle low = record {
    ordered = ordered;
    gap =
        subst (λ (x : ℕ). Gap (arcs rows) w (length rows) x j l) (sym low)
        (subst (λ (x : ℕ). Gap (arcs rows) w (length rows) (first_low (arcs rows) w l x) x l) (sym middle)
        (first_gap (arcs rows) (length rows) ordered.both_ways w l top inside));
    room = room;
  }

  pub cycle_shown : {i j l m : ℕ} {after : List ℕ} → Gap (arcs rows) w (length rows) i j l → m ≡ cycle_length (arcs rows) w i l j
      → after ≡ cycle_of (arcs rows) w i l j m ++ drop m before → Shown (arcs rows) (length rows) before (cycle m) after
  cycle_shown {i} {j} {l} {m} {after} gap length-is written =
      let fits = descent.cycle_fits (arcs rows) (length rows) w ordered.all ordered.passing i j l gap in
      let x : Filled (cycle_vertex (arcs rows) w i l j) before after m = record { within = omega (arith, length-is); written = written } in (
        subst (λ (k : ℕ). IsChordlessCycle (arcs rows) (length rows) after k) (sym length-is)
            (descent.cycle (arcs rows) (length rows) w ordered.all ordered.passing i j l gap ordered.both_ways after
            (omega (arith, filled_length _ x)) (λ p h. filled_at _ x p (omega (arith, length-is)))),
        filled_behind _ x,
      )

  pub order_shown : {l : ℕ} {after : List ℕ} → l ≡ first_top (arcs rows) w (length rows) → length rows ≤ l
      → after ≡ listed (length rows) (turned w (length rows)) ++ drop (length rows) before → Shown (arcs rows) (length rows) before chordal after
  unfolding first_top
  order_shown {l} {after} top none written =
      let x : Filled (turned w (length rows)) before after (length rows) = record { within = room; written = written } in
      let order =
      eliminates (arcs rows) (length rows) ordered.both_ways w ordered.all (none_found (length rows) (is_top (arcs rows) w) l top none) after
      (omega (arith, filled_length _ x)) (filled_at _ x)
      in
      (order_excludes_cycle (arcs rows) (length rows) ordered.both_ways after order, order, filled_behind _ x)

-- two lists that have the same behind their first k entries
same_length : (before after : List ℕ) (k : ℕ) → k ≤ length after → k ≤ length before → drop k after ≡ drop k before → length after ≡ length before
same_length before after k l h e = let d = sym (length-drop k after) ∙ ap length e ∙ length-drop k before in omega (arith, d)

pub output_length : (mark : Mark) (rows before : List ℕ) (answer : Answer) (after : List ℕ) → refusal_in answer ≡ first_refusal (chordal_tests mark rows (length before))
    → Shown (arcs rows) (length rows) before answer after → length after ≡ length before
unfolding refusal_in
output_length mark rows before chordal after told shown =
    let n = length rows in
    let room = (valid mark rows (length before) (none_accepts (chordal_tests mark rows (length before)) (sym told))).1 in
    same_length before after n shown.1.all.long room shown.2
output_length mark rows before (cycle m) after told shown =
    let n = length rows in
    let room = (valid mark rows (length before) (none_accepts (chordal_tests mark rows (length before)) (sym told))).1 in
    same_length before after m shown.0.distinct.long (omega (arith, room, ordering_fits n shown.0.distinct)) shown.1
output_length mark rows before (refused r) after told shown = ap length shown
