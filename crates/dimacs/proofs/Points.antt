-- Points of a file, and the links between them.
--   point_out, point_in        what the test for a point means
--   Linking n x y              x and y are points from 1 to n
--   edge_out, edge_in          what the test for a link between points means
-- Assumes nothing.
use Prim.Native.Nat.{ℕ, ◌≤◌}
use lib.Dec.{T, leb, leb→le, le→leb}
use Rattle.bitset.proofs.Tests.{and_in, and_out}
use Rattle.edge_lines.specs.declared.Line.{Line}
use Rattle.dimacs.specs.Import.{is_point, is_edge}

module _ (n x : ℕ) where
  pub point_out : T (is_point n x) → (1 ≤ x) × (x ≤ n)
  unfolding is_point
  point_out t = let both = and_out (leb 1 x) (leb x n) t in (leb→le 1 x both.0, leb→le x n both.1)

  pub point_in : 1 ≤ x → x ≤ n → T (is_point n x)
  unfolding is_point
  point_in l h = and_in (leb 1 x) (leb x n) (le→leb 1 x l) (le→leb x n h)

pub record Linking (n x y : ℕ) : Type 0 where
  pub from_low : 1 ≤ x
  pub from_high : x ≤ n
  pub to_low : 1 ≤ y
  pub to_high : y ≤ n

module _ (n x y : ℕ) where
  pub edge_out : T (is_edge n (Line.Edge x y)) → Linking n x y
  unfolding is_edge
  edge_out t =
      let both = and_out (is_point n x) (is_point n y) t in
      let from = point_out n x both.0 in
      let to = point_out n y both.1 in
      record { from_low = from.0; from_high = from.1; to_low = to.0; to_high = to.1 }

  pub edge_in : Linking n x y → T (is_edge n (Line.Edge x y))
  unfolding is_edge
  edge_in e = and_in (is_point n x) (is_point n y) (point_in n x e.from_low e.from_high) (point_in n y e.to_low e.to_high)
