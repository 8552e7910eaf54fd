-- What the conversions answer and leave, refused and done.
--   open_rows                    the tests on rows are those of an open with nothing barred
--   rows_refused, offsets_short, neighbours_short, lists_fit   what `to_lists` answers: refused for the rows, for a list that is too short, and done
--   lists_kept, lists_done       what is left in the lists, refused and done
--   layout_refused, rows_short, rows_fit   what `to_rows` answers
--   rows_kept, rows_done         what is left in the rows, refused and done
-- Assumes nothing.
use Prim.Native.Nat.{ℕ, suc, ◌≤◌, ◌<◌}
use mathlib.Core.Path.{◌≡◌, refl, sym, ap}
use mathlib.Core.Bool.{Bool, false, cond, ◌||◌}
use mathlib.Core.List.{List, [], ◌∷◌, ◌++◌}
use mathlib.Core.Logic.{◌⊎◌, inl, inr}
use mathlib.Core.Option.{Option, none, some}
use native.Mathlib.Omega.{arith}
use lib.Dec.{T, ltb, ltb→lt, lt→ltb}
use lib.ListN.{length, drop}
use Rattle.bitset.proofs.Tests.{or_inl, or_inr, or_out, is_true, is_false}
use Rattle.bitset.proofs.Word.{empty_back}
use Rattle.searches.specs.Answer.{barred_outside, open_tests, open_tests_barring, first_refusal}
use Rattle.searches.specs.declared.Mark.{Mark}
use Rattle.searches.proofs.Barring.{barred_outside_out}
use Rattle.checks.proofs.Tried.{Tried, tried_one, tried_first, refused_here, refused_before, accepted_here}
use Rattle.adjacency.specs.Layout.{size_of, rows_listed, listed_tests}
use Rattle.conversion.specs.Conversion.{neighbours_of, offsets_of, rows_tests, to_lists_tests, to_lists_answer, offsets_left, neighbours_left, to_rows_tests, to_rows_answer, rows_left}

-- a test that does not hold, behind others
none_behind : (tests : List (ℕ × Bool)) (r : ℕ) (b : Bool) → b ≡ false → first_refusal (tests ++ (r, b) ∷ []) ≡ first_refusal tests
unfolding first_refusal
none_behind [] r b fails = ap (λ (x : Bool). cond x (some r) none) fails
none_behind (test ∷ tests) r b fails = ap (λ (later : Option ℕ). cond test.1 (some test.0) later) (none_behind tests r b fails)

pub open_rows : (mark : Mark) (rows : List ℕ) → first_refusal (open_tests_barring 0 mark rows 0) ≡ first_refusal (rows_tests mark rows)
unfolding open_tests_barring open_tests rows_tests first_refusal
open_rows mark rows =
    none_behind (rows_tests mark rows) 23 (barred_outside (length rows) 0)
    (is_false (barred_outside (length rows) 0) (λ t. let x = barred_outside_out 0 (length rows) t in empty_back refl x.0 x.3))

module _ (mark : Mark) (rows offsets neighbours : List ℕ) where
  abbrev short : Bool
  short = ltb (length offsets) (suc (length rows)) || ltb (length neighbours) (length (neighbours_of rows))

  pub rows_refused : {r : ℕ} → some r ≡ first_refusal (rows_tests mark rows) → some r ≡ to_lists_answer mark rows offsets neighbours
  unfolding to_lists_answer to_lists_tests
  rows_refused e = refused_before (rows_tests mark rows) ((10, short) ∷ []) e

  last : none ≡ first_refusal (rows_tests mark rows)
      → Tried (to_lists_tests mark rows offsets neighbours) ((10, ltb (length offsets) (suc (length rows)) || ltb (length neighbours) (length (neighbours_of rows))) ∷ [])
  unfolding to_lists_tests
  last e = tried_first (rows_tests mark rows) ((10, short) ∷ []) e

  pub offsets_short : none ≡ first_refusal (rows_tests mark rows) → length offsets ≤ length rows → some 10 ≡ to_lists_answer mark rows offsets neighbours
  unfolding to_lists_answer
  offsets_short e l =
      refused_here (last e) (is_true short (or_inl (ltb (length offsets) (suc (length rows))) _ (lt→ltb (length offsets) (suc (length rows)) (omega arith))))

  pub neighbours_short : none ≡ first_refusal (rows_tests mark rows) → length neighbours < length (neighbours_of rows) → some 10 ≡ to_lists_answer mark rows offsets neighbours
  unfolding to_lists_answer
  neighbours_short e l =
      refused_here (last e) (is_true short (or_inr (ltb (length offsets) (suc (length rows))) _ (lt→ltb (length neighbours) (length (neighbours_of rows)) l)))

  room : length rows < length offsets → length (neighbours_of rows) ≤ length neighbours → T short → ⊥
  room l h t = go (or_out (ltb (length offsets) (suc (length rows))) (ltb (length neighbours) (length (neighbours_of rows))) t)
    where
      go : T (ltb (length offsets) (suc (length rows))) ⊎ T (ltb (length neighbours) (length (neighbours_of rows))) → ⊥
      go (inl t) = let less : length offsets < suc (length rows) = ltb→lt _ _ t in omega arith
      go (inr t) = let less : length neighbours < length (neighbours_of rows) = ltb→lt _ _ t in omega arith

  pub lists_fit : none ≡ first_refusal (rows_tests mark rows) → length rows < length offsets → length (neighbours_of rows) ≤ length neighbours
      → none ≡ to_lists_answer mark rows offsets neighbours
  unfolding to_lists_answer
  lists_fit e l h = accepted_here (tried_one (last e) (is_false short (room l h)))

  pub lists_kept : {r : ℕ} → some r ≡ to_lists_answer mark rows offsets neighbours
      → (offsets ≡ offsets_left mark rows offsets neighbours) × (neighbours ≡ neighbours_left mark rows offsets neighbours)
  unfolding to_lists_answer offsets_left neighbours_left
  lists_kept e = (sym (rw (sym e, offsets_left)), sym (rw (sym e, neighbours_left)))

  pub lists_done : none ≡ to_lists_answer mark rows offsets neighbours
      → (offsets_of rows ++ drop (suc (length rows)) offsets ≡ offsets_left mark rows offsets neighbours)
      × (neighbours_of rows ++ drop (length (neighbours_of rows)) neighbours ≡ neighbours_left mark rows offsets neighbours)
  unfolding to_lists_answer offsets_left neighbours_left
  lists_done e = (sym (rw (sym e, offsets_left)), sym (rw (sym e, neighbours_left)))

module _ (mark : Mark) (offsets neighbours rows : List ℕ) where
  pub layout_refused : {r : ℕ} → some r ≡ first_refusal (listed_tests mark offsets neighbours) → some r ≡ to_rows_answer mark offsets neighbours rows
  unfolding to_rows_answer to_rows_tests
  layout_refused e = refused_before (listed_tests mark offsets neighbours) ((10, ltb (length rows) (size_of offsets)) ∷ []) e

  output : none ≡ first_refusal (listed_tests mark offsets neighbours) → Tried (to_rows_tests mark offsets neighbours rows) ((10, ltb (length rows) (size_of offsets)) ∷ [])
  unfolding to_rows_tests
  output e = tried_first (listed_tests mark offsets neighbours) ((10, ltb (length rows) (size_of offsets)) ∷ []) e

  pub rows_short : none ≡ first_refusal (listed_tests mark offsets neighbours) → length rows < size_of offsets → some 10 ≡ to_rows_answer mark offsets neighbours rows
  unfolding to_rows_answer
  rows_short e l = refused_here (output e) (is_true (ltb (length rows) (size_of offsets)) (lt→ltb (length rows) (size_of offsets) l))

  pub rows_fit : none ≡ first_refusal (listed_tests mark offsets neighbours) → size_of offsets ≤ length rows → none ≡ to_rows_answer mark offsets neighbours rows
  unfolding to_rows_answer
  rows_fit e l =
      accepted_here (tried_one (output e) (is_false (ltb (length rows) (size_of offsets)) (λ t. let less : length rows < size_of offsets = ltb→lt _ _ t in omega arith)))

  pub rows_kept : {r : ℕ} → some r ≡ to_rows_answer mark offsets neighbours rows → rows ≡ rows_left mark offsets neighbours rows
  unfolding to_rows_answer rows_left
  rows_kept e = sym (rw (sym e, rows_left))

  pub rows_done : none ≡ to_rows_answer mark offsets neighbours rows
      → rows_listed offsets neighbours ++ drop (size_of offsets) rows ≡ rows_left mark offsets neighbours rows
  unfolding to_rows_answer rows_left
  rows_done e = sym (rw (sym e, rows_left))
