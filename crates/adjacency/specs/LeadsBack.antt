-- The test that every arc has an arc back, made in one pass over the neighbour list. The vertices that lead to v come up in ascending order, and v's own
-- list has its neighbours in ascending order; so where each of them leads back, the two agree one by one.
--   Looked offsets neighbours e x v   the arc from x to v stands at one of the first e positions of the neighbour list
--   Met offsets neighbours due x v    x stands in v's list before the position that is due there
--   Due offsets neighbours due e      `due` has for each vertex a position of its list: before it stand exactly the vertices whose arc to it stands at one of
--                                     the first e positions
--   LedBack offsets neighbours due u r   what is known once the neighbours of u were looked at, with r whether u was due in the list of each
use Rattle.std.specs.Prelude.{ℕ, suc, ◌≤◌, ◌<◌, ◌≡◌, Bool, true, false, List, T, length}
use Rattle.searches.specs.Ordering.{at}
use Rattle.adjacency.specs.Layout.{size_of, arcs_listed, one_way_in}

pub record Looked (offsets neighbours : List ℕ) (e x v : ℕ) : Type 0 where
  pub position : ℕ
  pub before : position < e
  pub begun : at offsets x ≤ position
  pub within : position < at offsets (suc x)
  pub names : at neighbours position ≡ v

pub record Met (offsets neighbours due : List ℕ) (x v : ℕ) : Type 0 where
  pub position : ℕ
  pub begun : at offsets v ≤ position
  pub before : position < at due v
  pub names : at neighbours position ≡ x

pub record Due (offsets neighbours due : List ℕ) (e : ℕ) : Type 0 where
  pub full : length due ≡ 64
  pub begun : (v : ℕ) → v < size_of offsets → at offsets v ≤ at due v
  pub within : (v : ℕ) → v < size_of offsets → at due v ≤ at offsets (suc v)
  pub looked : (x v : ℕ) → v < size_of offsets → Met offsets neighbours due x v → Looked offsets neighbours e x v
  pub met : (x v : ℕ) → v < size_of offsets → Looked offsets neighbours e x v → Met offsets neighbours due x v

pub record LedBack (offsets neighbours due : List ℕ) (u : ℕ) (r : Bool) : Type 0 where
  pub full : length due ≡ 64
  pub all : r ≡ true → Due offsets neighbours due (at offsets (suc u))
  pub not_all : r ≡ false → T (one_way_in (size_of offsets) (arcs_listed offsets neighbours))
