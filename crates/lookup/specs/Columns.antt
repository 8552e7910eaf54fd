-- The columns of a graph: its rows, transposed.                                          [02, K4: the points that lead to a point]
--   tally columns placed v     how many of `placed` are in v's column, its row in the transposed graph: ones counted in row AND placed
--                              mask                                                                                 [01: the form for MCS]
--   Transposed rows columns    there are as many columns as rows, and column v holds exactly the vertices that lead to v
use Rattle.std.specs.Prelude.{ℕ, ◌<◌, ◌≡◌, List, length, get_or}
use Rattle.bitset.specs.Below.{count_below}
use Rattle.bitset.specs.Word.{member, common}
use Rattle.searches.specs.Ordering.{arcs}

pub record Transposed (rows columns : List ℕ) : Type 0 where
  pub as_many : length columns ≡ length rows
  pub swapped : (u v : ℕ) → u < length rows → v < length rows → arcs columns v u ≡ arcs rows u v

unfoldable pub tally : List ℕ → ℕ → ℕ → ℕ
tally columns placed v = count_below 64 (member (common (get_or columns v 0) placed))
