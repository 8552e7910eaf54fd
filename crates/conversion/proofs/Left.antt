-- What the conversions leave in an output list.
--   Stays k before after     the list is as long as it was, and from entry k on it is what it was
--   stays_same, stays_front  a list that is left alone, and one of which only the front was written
--   front_taken              the front is what was written
--   lists_answer, rows_answer   the answer is that of the first test that holds
--   lists_room, rows_room    an output list that is accepted has room for what is written
--   lists_stay, rows_stay    what stays, for every input
-- Assumes nothing.
use Prim.Native.Nat.{ℕ, suc, ◌≤◌, ◌<◌}
use mathlib.Core.Path.{◌≡◌, refl, sym, ap, ◌∙◌}
use mathlib.Core.List.{List, ◌++◌}
use mathlib.Core.Logic.{◌⊎◌, inl, inr}
use mathlib.Core.Option.{some}
use native.Mathlib.Omega.{arith}
use lib.Dec.{T, ltb, lt→ltb}
use lib.ListN.{length, take, drop, length-append, length-drop}
use lib.Seq.{take_at, drop_at}
use Rattle.bitset.proofs.Tests.{or_inl, or_inr, below_or}
use Rattle.searches.specs.Answer.{Accepts, Refuses}
use Rattle.searches.specs.declared.Mark.{Mark}
use Rattle.searches.proofs.Refusals.{refuses_first, accepts_none, accepts_or_refuses}
use Rattle.searches.proofs.Answers.{accepts_both}
use Rattle.adjacency.specs.Layout.{size_of, listed_tests, rows_listed}
use Rattle.adjacency.proofs.Layouts.{rows_length}
use Rattle.conversion.specs.Conversion.{neighbours_of, offsets_of, rows_tests, to_lists_tests, to_lists_answer, offsets_left, neighbours_left, to_rows_tests, to_rows_answer, rows_left}
use Rattle.conversion.proofs.Neighbours.{offsets_length}
use Rattle.conversion.proofs.Answers.{lists_kept, lists_done, rows_kept, rows_done}

pub record Stays (k : ℕ) (before after : List ℕ) : Type 0 where
  pub as_long : length after ≡ length before
  pub behind : drop k after ≡ drop k before

pub stays_same : (k : ℕ) {before after : List ℕ} → before ≡ after → Stays k before after
stays_same k e = record { as_long = ap length (sym e); behind = ap (λ (l : List ℕ). drop k l) (sym e) }

module _ {k : ℕ} (front before : List ℕ) {after : List ℕ} (long : length front ≡ k) (e : front ++ drop k before ≡ after) where
  pub stays_front : k ≤ length before → Stays k before after
  stays_front l = record {
    as_long = ap length (sym e) ∙ length-append front (drop k before) ∙ omega (arith, length-drop k before);
    behind = ap (λ (x : List ℕ). drop k x) (sym e) ∙ drop_at front (drop k before) k long;
  }

  pub front_taken : take k after ≡ front
  front_taken = ap (λ (x : List ℕ). take k x) (sym e) ∙ take_at front (drop k before) k long

module _ (mark : Mark) (rows offsets neighbours : List ℕ) where
  pub lists_answer : (r : ℕ) → Refuses r (to_lists_tests mark rows offsets neighbours) → to_lists_answer mark rows offsets neighbours ≡ some r
  unfolding to_lists_answer
  lists_answer r x = refuses_first (to_lists_tests mark rows offsets neighbours) r x

  pub lists_room : Accepts (to_lists_tests mark rows offsets neighbours) → (length rows < length offsets) × (length (neighbours_of rows) ≤ length neighbours)
  unfolding to_lists_tests
  lists_room a = (more (below_or (length rows) (length offsets)), enough (below_or (length neighbours) (length (neighbours_of rows))))
    where
      full : T (ltb (length offsets) (suc (length rows))) ⊎ T (ltb (length neighbours) (length (neighbours_of rows))) → ⊥
      full (inl t) = (accepts_both (rows_tests mark rows) _ a).1.0 (or_inl (ltb (length offsets) (suc (length rows))) _ t)
      full (inr t) = (accepts_both (rows_tests mark rows) _ a).1.0 (or_inr (ltb (length offsets) (suc (length rows))) _ t)

      more : (length rows < length offsets) ⊎ (length offsets ≤ length rows) → length rows < length offsets
      more (inl l) = l
      more (inr l) = absurd (full (inl (lt→ltb (length offsets) (suc (length rows)) (omega arith))))

      enough : (length neighbours < length (neighbours_of rows)) ⊎ (length (neighbours_of rows) ≤ length neighbours) → length (neighbours_of rows) ≤ length neighbours
      enough (inl l) = absurd (full (inr (lt→ltb (length neighbours) (length (neighbours_of rows)) l)))
      enough (inr l) = l

  pub lists_stay : Stays (suc (length rows)) offsets (offsets_left mark rows offsets neighbours) × Stays (length (neighbours_of rows)) neighbours (neighbours_left mark rows offsets neighbours)
  unfolding to_lists_answer
  lists_stay = go (accepts_or_refuses (to_lists_tests mark rows offsets neighbours))
    where
      go : Accepts (to_lists_tests mark rows offsets neighbours) ⊎ ((r : ℕ) × Refuses r (to_lists_tests mark rows offsets neighbours))
          → Stays (suc (length rows)) offsets (offsets_left mark rows offsets neighbours) × Stays (length (neighbours_of rows)) neighbours (neighbours_left mark rows offsets neighbours)
      go (inl a) =
          let done = lists_done mark rows offsets neighbours (sym (accepts_none (to_lists_tests mark rows offsets neighbours) a)) in
          let room = lists_room a in
          (stays_front (offsets_of rows) offsets (offsets_length rows) done.0 room.0, stays_front (neighbours_of rows) neighbours refl done.1 room.1)
      go (inr x) =
          let kept = lists_kept mark rows offsets neighbours (sym (lists_answer x.0 x.1)) in
          (stays_same (suc (length rows)) kept.0, stays_same (length (neighbours_of rows)) kept.1)

module _ (mark : Mark) (offsets neighbours rows : List ℕ) where
  pub rows_answer : (r : ℕ) → Refuses r (to_rows_tests mark offsets neighbours rows) → to_rows_answer mark offsets neighbours rows ≡ some r
  unfolding to_rows_answer
  rows_answer r x = refuses_first (to_rows_tests mark offsets neighbours rows) r x

  pub rows_room : Accepts (to_rows_tests mark offsets neighbours rows) → size_of offsets ≤ length rows
  unfolding to_rows_tests
  rows_room a = go (below_or (length rows) (size_of offsets))
    where
      go : (length rows < size_of offsets) ⊎ (size_of offsets ≤ length rows) → size_of offsets ≤ length rows
      go (inl l) = absurd ((accepts_both (listed_tests mark offsets neighbours) _ a).1.0 (lt→ltb (length rows) (size_of offsets) l))
      go (inr l) = l

  pub rows_stay : Stays (size_of offsets) rows (rows_left mark offsets neighbours rows)
  unfolding to_rows_answer
  rows_stay = go (accepts_or_refuses (to_rows_tests mark offsets neighbours rows))
    where
      go : Accepts (to_rows_tests mark offsets neighbours rows) ⊎ ((r : ℕ) × Refuses r (to_rows_tests mark offsets neighbours rows))
          → Stays (size_of offsets) rows (rows_left mark offsets neighbours rows)
      go (inl a) =
          stays_front (rows_listed offsets neighbours) rows (rows_length offsets neighbours)
          (rows_done mark offsets neighbours rows (sym (accepts_none (to_rows_tests mark offsets neighbours rows) a))) (rows_room a)
      go (inr x) = stays_same (size_of offsets) (rows_kept mark offsets neighbours rows (sym (rows_answer x.0 x.1)))
