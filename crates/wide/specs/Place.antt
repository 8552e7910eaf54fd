-- What the steps of placing a vertex ask for, in the wide form.
--   Weighable s mark table placed labels v smallest largest weight   the running values are those of v's label, which is not empty, and on two-way graphs so many ones are in row AND placed
--                                 mask as there are positions in it; in MNS the weight was one less than there are now
--   Spreadable s mark table placed labels smallest largest weights word i p   p may be put into the label of each vertex of the word
use Rattle.std.specs.Prelude.{ℕ, suc, ◌+◌, ◌*◌, ◌<◌, ◌≤◌, ◌^◌, ◌≡◌, ◌&&◌, List, T, length}
use Rattle.bitset.specs.Below.{count_below}
use Rattle.searches.specs.Kind.{Search, mns}
use Rattle.searches.specs.Table.{arcs_wide}
use Rattle.searches.specs.Running.{smallest_in, largest_in}
use Rattle.searches.specs.Answer.{is_two_way}
use Rattle.searches.specs.declared.Mark.{Mark}
use Rattle.tables.specs.Rows.{in_set, row_of, in_word}
use Rattle.wide.specs.Store.{smallest_kept, largest_kept, Stored, Tallied}

pub record Weighable (s : Search) (mark : Mark) (table placed labels : List ℕ) (v smallest largest weight : ℕ) : Type 0 where
  pub vertex : v < 512
  pub inside : 8 * v + 8 ≤ length table
  pub tallied : T (is_two_way mark) → count_below 512 (λ u. arcs_wide 8 table v u && in_set placed u) ≡ count_below 512 (row_of labels v)
  pub keeps_smallest : smallest ≡ smallest_kept (smallest_in 512 (row_of labels v))
  pub keeps_largest : largest ≡ largest_kept (largest_in 512 (row_of labels v))
  pub some : 0 < largest
  pub counted : s ≡ mns → suc weight ≡ count_below 512 (row_of labels v)

pub record Spreadable (s : Search) (mark : Mark) (table placed labels smallest largest weights : List ℕ) (word i p : ℕ) : Type 0 where
  pub place : p < 512
  pub index : i < 8
  pub fits : word < 2 ^ 64
  pub stored : Stored s labels smallest largest weights
  pub inside : (v : ℕ) → T (in_word word i v) → 8 * v + 8 ≤ length table
  pub earlier : (v q : ℕ) → T (in_word word i v) → T (row_of labels v q) → q < p
  pub tallied : (v : ℕ) → T (in_word word i v) → Tallied mark table placed labels v p
