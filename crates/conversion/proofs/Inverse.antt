-- The two conversions, for every input, and that each undoes the other.                                             [02, K10: a conversion each way]
--   formed_exactly                   what 26 leaves
--   rows_of_layout, layout_of_rows   the layout of rows and the rows of a layout
--   lists_order, lists_refuse, lists_accept, lists_unchanged, lists_behind   `to_lists`: what it refuses, in which order, and what it leaves alone
--   rows_order, rows_refuse, rows_accept, rows_unchanged, rows_behind   `to_rows` likewise
--   rows_to_lists, lists_accepted, rows_again   from rows to lists and back
--   lists_to_rows, rows_accepted, lists_again   from lists to rows and back
-- Assumes nothing.
use Prim.Native.Nat.{ℕ, suc, ◌≤◌, ◌<◌}
use mathlib.Core.Path.{◌≡◌, refl, sym, subst}
use mathlib.Core.List.{List, [], ◌∷◌}
use mathlib.Core.Logic.{◌↔◌}
use mathlib.Core.Option.{none, some}
use lib.ListN.{length, take}
use Rattle.bitset.specs.Matrix.{AreWords, Within}
use Rattle.searches.specs.Ordering.{at}
use Rattle.searches.specs.Answer.{Accepts, Refuses}
use Rattle.searches.specs.declared.Mark.{Mark}
use Rattle.searches.proofs.Refusals.{numbers, first_refuses, accepts_none, none_accepts}
use Rattle.adjacency.specs.Layout.{size_of, form_tests, listed_tests, rows_listed, IsLayout}
use Rattle.adjacency.proofs.Layouts.{layout_of}
use Rattle.conversion.specs.Conversion.{neighbours_of, offsets_of, rows_tests, to_lists_tests, to_lists_answer, offsets_left, neighbours_left, to_rows_tests, to_rows_answer, rows_left}
use Rattle.conversion.proofs.Accepted as accepted
use Rattle.conversion.proofs.Answers.{lists_kept, rows_kept}
use Rattle.conversion.proofs.Left.{Stays, lists_answer, lists_stay, rows_answer, rows_stay}
use Rattle.conversion.proofs.Made as made
use Rattle.conversion.proofs.OfLists.{offsets_back, neighbours_back}
use Rattle.conversion.proofs.OfRows.{rows_back}

-- ---- the two layouts of a plan

-- no case of refusal 26 holds exactly if the lists are a layout: the offsets start at 0, do not fall and end at the length of the neighbour list, and each
-- point's neighbours are strictly ascending and below n
pub formed_exactly : (offsets neighbours : List ℕ) → length offsets ≤ 65 → Accepts (form_tests offsets neighbours) ↔ IsLayout offsets neighbours
formed_exactly offsets neighbours few = (layout_of offsets neighbours few, accepted.form_accepted)

-- the rows of the layout of rows are these rows: 64-bit words, at most 64 of them, with no bit outside
pub rows_of_layout : (rows : List ℕ) → AreWords rows → Within rows → rows_listed (offsets_of rows) (neighbours_of rows) ≡ rows
rows_of_layout rows words within = rows_back rows within words

-- the layout of the rows of a layout is this layout
pub layout_of_rows : (offsets neighbours : List ℕ) → IsLayout offsets neighbours
    → (offsets_of (rows_listed offsets neighbours) ≡ offsets) × (neighbours_of (rows_listed offsets neighbours) ≡ neighbours)
layout_of_rows offsets neighbours x = (offsets_back x, neighbours_back x)

-- ---- every input

module _ (mark : Mark) (rows offsets neighbours : List ℕ) where
  -- `to_lists` tries 2 to 5, then whether the output lists have room
  pub lists_order : numbers (to_lists_tests mark rows offsets neighbours) ≡ 2 ∷ 3 ∷ 4 ∷ 5 ∷ 10 ∷ []
  unfolding numbers to_lists_tests rows_tests
  lists_order = refl

  -- it answers with refusal r exactly when the first of these tests that holds has the number r
  pub lists_refuse : (r : ℕ) → (to_lists_answer mark rows offsets neighbours ≡ some r) ↔ Refuses r (to_lists_tests mark rows offsets neighbours)
  unfolding to_lists_answer
  lists_refuse r = (first_refuses (to_lists_tests mark rows offsets neighbours) r, lists_answer mark rows offsets neighbours r)

  -- and it is done exactly when none of them holds
  pub lists_accept : (to_lists_answer mark rows offsets neighbours ≡ none) ↔ Accepts (to_lists_tests mark rows offsets neighbours)
  unfolding to_lists_answer
  lists_accept = (none_accepts (to_lists_tests mark rows offsets neighbours), accepts_none (to_lists_tests mark rows offsets neighbours))

  -- refused, both output lists are what they were
  pub lists_unchanged : (r : ℕ) → to_lists_answer mark rows offsets neighbours ≡ some r
      → (offsets_left mark rows offsets neighbours ≡ offsets) × (neighbours_left mark rows offsets neighbours ≡ neighbours)
  lists_unchanged r e = let kept = lists_kept mark rows offsets neighbours (sym e) in (sym kept.0, sym kept.1)

  -- refused or not, both keep their lengths, and their entries behind the layout keep their values
  pub lists_behind : Stays (suc (length rows)) offsets (offsets_left mark rows offsets neighbours)
      × Stays (length (neighbours_of rows)) neighbours (neighbours_left mark rows offsets neighbours)
  lists_behind = lists_stay mark rows offsets neighbours

module _ (mark : Mark) (offsets neighbours rows : List ℕ) where
  -- `to_rows` tries 2, the six cases of 26, 4 and 5, then whether the output list has room
  pub rows_order : numbers (to_rows_tests mark offsets neighbours rows) ≡ 2 ∷ 26 ∷ 26 ∷ 26 ∷ 26 ∷ 26 ∷ 26 ∷ 4 ∷ 5 ∷ 10 ∷ []
  unfolding numbers to_rows_tests listed_tests form_tests
  rows_order = refl

  -- it answers with refusal r exactly when the first of these tests that holds has the number r
  pub rows_refuse : (r : ℕ) → (to_rows_answer mark offsets neighbours rows ≡ some r) ↔ Refuses r (to_rows_tests mark offsets neighbours rows)
  unfolding to_rows_answer
  rows_refuse r = (first_refuses (to_rows_tests mark offsets neighbours rows) r, rows_answer mark offsets neighbours rows r)

  -- and it is done exactly when none of them holds
  pub rows_accept : (to_rows_answer mark offsets neighbours rows ≡ none) ↔ Accepts (to_rows_tests mark offsets neighbours rows)
  unfolding to_rows_answer
  rows_accept = (none_accepts (to_rows_tests mark offsets neighbours rows), accepts_none (to_rows_tests mark offsets neighbours rows))

  -- refused, the output list is what it was
  pub rows_unchanged : (r : ℕ) → to_rows_answer mark offsets neighbours rows ≡ some r → rows_left mark offsets neighbours rows ≡ rows
  rows_unchanged r e = sym (rows_kept mark offsets neighbours rows (sym e))

  -- refused or not, it keeps its length, and its entries behind the rows keep their values
  pub rows_behind : Stays (size_of offsets) rows (rows_left mark offsets neighbours rows)
  rows_behind = rows_stay mark offsets neighbours rows

-- ---- from rows to lists and back

-- rows that are accepted with a mark, and two output lists with room
module _ (mark : Mark) (rows : List ℕ) (valid : Accepts (rows_tests mark rows)) (offsets neighbours : List ℕ)
    (long : length rows < length offsets) (room : length (neighbours_of rows) ≤ length neighbours) where
  -- the offsets that are written, and the neighbours up to the last one
  abbrev pub offsets_made : List ℕ
  offsets_made = take (suc (length rows)) (offsets_left mark rows offsets neighbours)

  abbrev pub neighbours_made : List ℕ
  neighbours_made = take (at (offsets_left mark rows offsets neighbours) (length rows)) (neighbours_left mark rows offsets neighbours)

  -- they are the layout of the rows
  laid : (offsets_made ≡ offsets_of rows) × (neighbours_made ≡ neighbours_of rows)
  laid = (made.offsets_made_lem mark rows valid offsets neighbours long room, made.neighbours_made_lem mark rows valid offsets neighbours long room)

  -- so what is true of that layout is true of them
  along : (P : List ℕ → List ℕ → Type 0) → (offsets_made ≡ offsets_of rows) × (neighbours_made ≡ neighbours_of rows) → P (offsets_of rows) (neighbours_of rows) → P offsets_made neighbours_made
  along P e p = subst (λ (n : List ℕ). P offsets_made n) (sym e.1) (subst (λ (o : List ℕ). P o (neighbours_of rows)) (sym e.0) p)

  -- `to_lists` is done,
  pub rows_to_lists : to_lists_answer mark rows offsets neighbours ≡ none
  rows_to_lists = made.lists_made mark rows valid offsets neighbours long room

  -- what it wrote is accepted with the same mark,
  pub lists_accepted : Accepts (listed_tests mark offsets_made neighbours_made)
  lists_accepted = along (λ (o n : List ℕ). Accepts (listed_tests mark o n)) laid (accepted.lists_accepted mark rows valid)

  -- and `to_rows` makes the rows of it again, words of 64 bits, in any output list with room
  pub rows_again : AreWords rows → (output : List ℕ) → length rows ≤ length output
      → (to_rows_answer mark offsets_made neighbours_made output ≡ none) × (take (length rows) (rows_left mark offsets_made neighbours_made output) ≡ rows)
  rows_again words output l =
      along (λ (o n : List ℕ). (to_rows_answer mark o n output ≡ none) × (take (length rows) (rows_left mark o n output) ≡ rows)) laid
      (made.back_to_rows mark rows words valid output l)

-- ---- from lists to rows and back

-- lists that are accepted with a mark, and an output list with room
module _ (mark : Mark) (offsets neighbours : List ℕ) (valid : Accepts (listed_tests mark offsets neighbours)) (rows : List ℕ) (room : size_of offsets ≤ length rows) where
  -- the rows that are written
  abbrev pub rows_made : List ℕ
  rows_made = take (size_of offsets) (rows_left mark offsets neighbours rows)

  -- `to_rows` is done,
  pub lists_to_rows : to_rows_answer mark offsets neighbours rows ≡ none
  lists_to_rows = made.rows_made_lem mark offsets neighbours valid rows room

  -- what it wrote is accepted with the same mark,
  pub rows_accepted : Accepts (rows_tests mark rows_made)
  rows_accepted = subst (λ (r : List ℕ). Accepts (rows_tests mark r)) (sym (made.taken_made mark offsets neighbours valid rows room)) (accepted.rows_accepted mark offsets neighbours valid)

  -- and `to_lists` makes the lists of it again, in any output lists with room
  pub lists_again : (first second : List ℕ) → length offsets ≤ length first → length neighbours ≤ length second
      → (to_lists_answer mark rows_made first second ≡ none)
      × (take (length offsets) (offsets_left mark rows_made first second) ≡ offsets)
      × (take (length neighbours) (neighbours_left mark rows_made first second) ≡ neighbours)
  lists_again first second l h =
      subst
      (λ (r : List ℕ).
      (to_lists_answer mark r first second ≡ none)
      × (take (length offsets) (offsets_left mark r first second) ≡ offsets)
      × (take (length neighbours) (neighbours_left mark r first second) ≡ neighbours))
      (sym (made.taken_made mark offsets neighbours valid rows room)) (made.back_to_lists mark offsets neighbours valid first second l h)
