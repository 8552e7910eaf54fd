-- Paths in a graph, over any of its vertices, placed or not.
--   arc_count x           how many arcs a path of the vertices x has                                                [02: K5, its number of links]
--   IsPath arc n u v x   x is a path from u to v: vertices of n, each leading to the next; a vertex may come twice  [02: K5, a way over links]
use Rattle.std.specs.Prelude.{ℕ, suc, ◌-◌, ◌<◌, ◌≡◌, Bool, List, T, length}
use Rattle.searches.specs.Ordering.{at}

unfoldable pub arc_count : List ℕ → ℕ
arc_count x = length x - 1

pub record IsPath (arc : ℕ → ℕ → Bool) (n u v : ℕ) (x : List ℕ) : Type 0 where
  pub some : 0 < length x
  pub vertices : (p : ℕ) → p < length x → at x p < n
  pub first : at x 0 ≡ u
  pub last : at x (arc_count x) ≡ v
  pub leads : (p : ℕ) → p < arc_count x → T (arc (at x p) (at x (suc p)))
