-- What the conversions make of a graph that is accepted, where the output lists have room.
--   lists_made         `to_lists` is done;   offsets_made_lem, last_made, neighbours_made_lem   the entries that it writes are the layout of the rows
--   neighbours_front   the same of the neighbours, with their number
--   rows_made_lem          `to_rows` is done;    taken_made   the rows that it writes are those of the layout
--   back_to_rows       of the layout of rows `to_rows` makes the rows;   back_to_lists   of the rows of a layout `to_lists` makes the layout
-- Assumes nothing.
use Prim.Native.Nat.{ℕ, suc, ◌≤◌, ◌<◌}
use mathlib.Core.Path.{◌≡◌, refl, sym, ap, ◌∙◌}
use mathlib.Core.List.{List}
use mathlib.Core.Option.{none}
use native.Mathlib.Omega.{arith}
use lib.ListN.{length, take}
use lib.Seq.{get_or-take}
use Rattle.bitset.specs.Matrix.{AreWords}
use Rattle.searches.specs.Ordering.{at}
use Rattle.searches.specs.Answer.{Accepts}
use Rattle.searches.specs.declared.Mark.{Mark}
use Rattle.searches.proofs.Refusals.{accepts_none}
use Rattle.adjacency.specs.Layout.{size_of, listed_tests, rows_listed}
use Rattle.adjacency.proofs.Layouts.{size_suc, rows_length}
use Rattle.conversion.specs.Conversion.{neighbours_of, offsets_of, rows_tests, to_lists_answer, offsets_left, neighbours_left, to_rows_answer, rows_left}
use Rattle.conversion.proofs.Neighbours.{offsets_length, offsets_at, size_rows}
use Rattle.conversion.proofs.Answers.{lists_fit, lists_done, rows_fit, rows_done}
use Rattle.conversion.proofs.OfRows.{rows_back}
use Rattle.conversion.proofs.OfLists.{offsets_back, neighbours_back}
use Rattle.conversion.proofs.Accepted.{rows_within, lists_accepted, accepted_layout, rows_accepted}
use Rattle.conversion.proofs.Left.{front_taken}

module _ (mark : Mark) (rows : List ℕ) (accepted : Accepts (rows_tests mark rows)) (offsets neighbours : List ℕ)
    (long : length rows < length offsets) (room : length (neighbours_of rows) ≤ length neighbours) where
  pub lists_made : to_lists_answer mark rows offsets neighbours ≡ none
  lists_made = sym (lists_fit mark rows offsets neighbours (sym (accepts_none (rows_tests mark rows) accepted)) long room)

  pub offsets_made_lem : take (suc (length rows)) (offsets_left mark rows offsets neighbours) ≡ offsets_of rows
  offsets_made_lem = front_taken (offsets_of rows) offsets (offsets_length rows) (lists_done mark rows offsets neighbours (sym lists_made)).0

  -- the last offset is the number of neighbours
  pub last_made : at (offsets_left mark rows offsets neighbours) (length rows) ≡ length (neighbours_of rows)
  unfolding neighbours_of
  last_made =
      sym (get_or-take (suc (length rows)) (offsets_left mark rows offsets neighbours) (length rows) 0 (omega arith))
      ∙ ap (λ (l : List ℕ). at l (length rows)) offsets_made_lem ∙ offsets_at rows (length rows) (omega arith)

  pub neighbours_front : take (length (neighbours_of rows)) (neighbours_left mark rows offsets neighbours) ≡ neighbours_of rows
  neighbours_front = front_taken (neighbours_of rows) neighbours refl (lists_done mark rows offsets neighbours (sym lists_made)).1

  pub neighbours_made_lem : take (at (offsets_left mark rows offsets neighbours) (length rows)) (neighbours_left mark rows offsets neighbours) ≡ neighbours_of rows
  neighbours_made_lem = ap (λ (m : ℕ). take m (neighbours_left mark rows offsets neighbours)) last_made ∙ neighbours_front

module _ (mark : Mark) (offsets neighbours : List ℕ) (accepted : Accepts (listed_tests mark offsets neighbours)) (rows : List ℕ) (room : size_of offsets ≤ length rows) where
  pub rows_made_lem : to_rows_answer mark offsets neighbours rows ≡ none
  rows_made_lem = sym (rows_fit mark offsets neighbours rows (sym (accepts_none (listed_tests mark offsets neighbours) accepted)) room)

  pub taken_made : take (size_of offsets) (rows_left mark offsets neighbours rows) ≡ rows_listed offsets neighbours
  taken_made = front_taken (rows_listed offsets neighbours) rows (rows_length offsets neighbours) (rows_done mark offsets neighbours rows (sym rows_made_lem))

-- ---- and back

pub back_to_rows : (mark : Mark) (rows : List ℕ) → AreWords rows → Accepts (rows_tests mark rows) → (output : List ℕ) → length rows ≤ length output
    → (to_rows_answer mark (offsets_of rows) (neighbours_of rows) output ≡ none) × (take (length rows) (rows_left mark (offsets_of rows) (neighbours_of rows) output) ≡ rows)
back_to_rows mark rows words valid output l =
    let again = lists_accepted mark rows valid in
    let room : size_of (offsets_of rows) ≤ length output = omega (arith, size_rows rows) in (
      rows_made_lem mark (offsets_of rows) (neighbours_of rows) again output room,
      ap (λ (m : ℕ). take m (rows_left mark (offsets_of rows) (neighbours_of rows) output)) (sym (size_rows rows))
          ∙ taken_made mark (offsets_of rows) (neighbours_of rows) again output room ∙ rows_back rows (rows_within mark rows valid) words,
    )

module _ (mark : Mark) (offsets neighbours : List ℕ) (valid : Accepts (listed_tests mark offsets neighbours)) where
  abbrev rows : List ℕ
  rows = rows_listed offsets neighbours

  long : suc (length (rows_listed offsets neighbours)) ≡ length offsets
  long = ap suc (rows_length offsets neighbours) ∙ size_suc (accepted_layout mark offsets neighbours valid).cover

  pub back_to_lists : (first second : List ℕ) → length offsets ≤ length first → length neighbours ≤ length second
      → (to_lists_answer mark (rows_listed offsets neighbours) first second ≡ none)
      × (take (length offsets) (offsets_left mark (rows_listed offsets neighbours) first second) ≡ offsets)
      × (take (length neighbours) (neighbours_left mark (rows_listed offsets neighbours) first second) ≡ neighbours)
  back_to_lists first second l h =
      let layout = accepted_layout mark offsets neighbours valid in
      let again = rows_accepted mark offsets neighbours valid in
      let as_many : length (neighbours_of rows) ≡ length neighbours = ap length (neighbours_back layout) in
      let more : length rows < length first = omega (arith, long) in
      let room : length (neighbours_of rows) ≤ length second = omega arith in (
        lists_made mark rows again first second more room,
        ap (λ (m : ℕ). take m (offsets_left mark rows first second)) (sym long) ∙ offsets_made_lem mark rows again first second more room ∙ offsets_back layout,
        ap (λ (m : ℕ). take m (neighbours_left mark rows first second)) (sym as_many) ∙ neighbours_front mark rows again first second more room ∙ neighbours_back layout,
      )
