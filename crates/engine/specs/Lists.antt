-- The lists that were not refused.
--   Judgeable rows columns barred w k    the first k entries of w are an ordering of a graph of at most 64 vertices, with these columns, and none is barred
--   Extendable rows columns barred t out k   likewise, t is a tie-break for it, and out has room for all vertices
use Rattle.std.specs.Prelude.{ℕ, ◌≤◌, ◌<◌, List, T, length}
use Rattle.searches.specs.Ordering.{at, IsOrdering, IsFullOrdering}
use Rattle.searches.specs.Answer.{unbarred}
use Rattle.lookup.specs.Columns.{Transposed}

pub record Judgeable (rows columns : List ℕ) (barred : ℕ) (w : List ℕ) (k : ℕ) : Type 0 where
  pub small : length rows ≤ 64
  pub transpose : Transposed rows columns
  pub ordering : IsOrdering (length rows) w k
  pub stays : (p : ℕ) → p < k → T (unbarred barred (at w p))

pub record Extendable (rows columns : List ℕ) (barred : ℕ) (t out : List ℕ) (k : ℕ) : Type 0 where
  pub start : Judgeable rows columns barred out k
  pub room : length rows ≤ length out
  pub names : IsFullOrdering (length rows) t
