-- What is kept beside a label: the running values, and the weight, by which it is compared in every search but MNS. `columns` are the graph's rows,
-- transposed: column v holds the vertices that lead to v.
--   tally columns placed v        how many of `placed` are in v's column, its row in the transposed graph: ones counted in row AND placed
--                                 mask                                                                              [01: the form for MCS]
--   smallest_byte x, largest_byte x   how a running value is kept: the smallest position as it is, 64 where there is none; one more than the
--                                 largest, 0 where there is none
--   mirrored_below k x, mirrored x   the set x, or its numbers below k, counted from the other end: 63 - p for p
--   weight_of s label              the weight of a label: except in MNS, the greater one is ahead
--   Consistent columns placed row labels smallest largest   of 64 vertices, for every one in `row`: so many positions as there are ones in row AND placed
--                                 mask are in its label, and the running values are the smallest and the largest of them
--   Weighable s columns placed v p label smallest largest weight   p was put into v's label, which had this weight; the running values are those of the
--                                 label, and it has so many positions as there are ones in row AND placed mask
use Rattle.std.specs.Prelude.{ℕ, zero, suc, ◌-◌, ◌<◌, ◌≡◌, cond, List, T, eqb, length, get_or}
use Rattle.std.proofs.Math.Option.{Option, none, some}
use Rattle.bitset.specs.Below.{count_below}
use Rattle.bitset.specs.Word.{member, inserted}
use Rattle.searches.specs.Kind.{Search, generic, bfs, dfs, lex_bfs, lex_dfs, mns, mcs}
use Rattle.searches.specs.Running.{smallest_in, largest_in}
unfoldable pub use Rattle.lookup.specs.Columns.{tally}

unfoldable pub smallest_byte : Option ℕ → ℕ
smallest_byte none = 64
smallest_byte (some p) = p

unfoldable pub largest_byte : Option ℕ → ℕ
largest_byte none = 0
largest_byte (some p) = suc p

unfoldable pub mirrored_below : ℕ → ℕ → ℕ
mirrored_below zero x = 0
mirrored_below (suc p) x = let rest = mirrored_below p x in cond (member x p) (inserted rest (63 - p)) rest

unfoldable pub mirrored : ℕ → ℕ
mirrored x = mirrored_below 64 x

unfoldable pub weight_of : Search → ℕ → ℕ
weight_of generic label = cond (eqb label 0) 0 1
weight_of bfs label = 64 - smallest_byte (smallest_in 64 (member label))
weight_of dfs label = largest_byte (largest_in 64 (member label))
weight_of lex_bfs label = mirrored label
weight_of lex_dfs label = label
weight_of mns label = label
weight_of mcs label = count_below 64 (member label)

pub record Consistent (columns : List ℕ) (placed row : ℕ) (labels smallest largest : List ℕ) : Type 0 where
  pub long : (length labels ≡ 64) × (length smallest ≡ 64) × (length largest ≡ 64)
  pub tallied : (v : ℕ) → v < 64 → T (member row v) → tally columns placed v ≡ count_below 64 (member (get_or labels v 0))
  pub keeps_smallest : (v : ℕ) → v < 64 → T (member row v) → get_or smallest v 0 ≡ smallest_byte (smallest_in 64 (member (get_or labels v 0)))
  pub keeps_largest : (v : ℕ) → v < 64 → T (member row v) → get_or largest v 0 ≡ largest_byte (largest_in 64 (member (get_or labels v 0)))

pub record Weighable (s : Search) (columns : List ℕ) (placed v p label smallest largest weight : ℕ) : Type 0 where
  pub before : ℕ
  pub place : p < 64
  pub joined : label ≡ inserted before p
  pub weighed : weight ≡ weight_of s before
  pub tallied : tally columns placed v ≡ count_below 64 (member label)
  pub keeps_smallest : smallest ≡ smallest_byte (smallest_in 64 (member label))
  pub keeps_largest : largest ≡ largest_byte (largest_in 64 (member label))
