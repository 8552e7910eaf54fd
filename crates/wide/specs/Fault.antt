-- What the search for the first violation asks for, in the wide form.
--   completes s labels i b c      c is another vertex than b, and the search's own condition holds for c against b, with a at position i
--   Faulty s table n w k labels weights free j   what is kept is that at the turn of the vertex at position j of the ordering
use Rattle.std.specs.Prelude.{ℕ, ◌*◌, ◌≤◌, ◌<◌, ◌≡◌, Bool, not, ◌&&◌, List, T, ltb, eqb, length}
use Rattle.searches.specs.Kind.{Search}
use Rattle.searches.specs.Ordering.{placed, IsOrdering}
use Rattle.searches.specs.Table.{arcs_wide}
use Rattle.searches.specs.Label.{label}
use Rattle.searches.specs.Violation.{condition, meets}
use Rattle.tables.specs.Rows.{in_set, row_of}
use Rattle.wide.specs.Store.{Weighed}

unfoldable pub completes : Search → List ℕ → ℕ → ℕ → ℕ → Bool
completes s labels i b c = not (eqb c b) && meets (condition s i) 512 (row_of labels c) (row_of labels b)

pub record Faulty (s : Search) (table : List ℕ) (n : ℕ) (w : List ℕ) (k : ℕ) (labels weights free : List ℕ) (j : ℕ) : Type 0 where
  pub small : n ≤ 512
  pub whole : length table ≡ 8 * n
  pub inside : (u v : ℕ) → u < n → T (arcs_wide 8 table u v) → v < n
  pub ordering : IsOrdering n w k
  pub turn : j < k
  pub weighed : Weighed s labels weights
  pub labelled : (v p : ℕ) → v < n → (T (placed w j v) → ⊥) → row_of labels v p ≡ (ltb p j && label (arcs_wide 8 table) w v p)
  pub free_is : (v : ℕ) → v < 512 → in_set free v ≡ (ltb v n && not (placed w j v))
  pub size : length free ≡ 8
