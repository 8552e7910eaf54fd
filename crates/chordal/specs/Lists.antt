-- What the functions require of their lists.
--   Ordered rows w                 w begins with a LexDFS ordering of all vertices of a graph whose links go both ways, at most 64
--   Descendable rows w out i j l   i, j and l are a gap of such an ordering, and the output list has a byte for each vertex
use Rattle.std.specs.Prelude.{ℕ, ◌≤◌, ◌≡◌, List, length}
use Rattle.searches.specs.Kind.{lex_dfs}
use Rattle.searches.specs.Ordering.{arcs, IsOrdering}
use Rattle.searches.specs.Violation.{passes, judge}
use Rattle.searches.specs.Answer.{BothWays}
use Rattle.chordal.specs.Descent.{Gap}

pub record Ordered (rows w : List ℕ) : Type 0 where
  pub small : length rows ≤ 64
  pub both_ways : BothWays rows
  pub all : IsOrdering (length rows) w (length rows)
  pub passing : judge lex_dfs (arcs rows) (length rows) w (length rows) ≡ passes

pub record Descendable (rows w out : List ℕ) (i j l : ℕ) : Type 0 where
  pub ordered : Ordered rows w
  pub gap : Gap (arcs rows) w (length rows) i j l
  pub room : length rows ≤ length out
