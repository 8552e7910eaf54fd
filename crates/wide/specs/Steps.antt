-- An ordering placed step by step on what is kept of the vertices, in the wide form.
--   beats s arc w j v u           after the first j vertices of w, u is unplaced and ahead of v
--   beaten s arc n w j v          some vertex is so
--   stops s arc n w j             the vertex at position j is beaten when its turn comes
--   IsGraph mark n table          the table has n rows, at most 512, no bit at or above n, and on two-way graphs every arc has one back
--   Staged s table n w j ...      what is kept after the first j vertices of w
--   Placeable s mark table ... v p   what placing v at position p asks for
--   Replayable mark table n w k ...   the first k entries of w are distinct vertices, and nothing is kept yet
--   Ranked t ranks                `ranks` says where each entry of t stands in it
--   Choosable s labels weights free reached t ranks   what the choice by a tie-break asks for
--   Begun s mark table n t tail k ... w   w, of k vertices, has left what is kept, and `tail` has room for the others
--   Fillable s mark table n t tail k ...   some ordering has
use Rattle.std.specs.Prelude.{ℕ, ◌+◌, ◌*◌, ◌≤◌, ◌<◌, ◌≡◌, Bool, not, ◌&&◌, List, T, ltb, length, get_or, replicate}
use Rattle.bitset.specs.Below.{any_below}
use Rattle.searches.specs.Kind.{Search}
use Rattle.searches.specs.Ordering.{at, placed, IsOrdering, IsFullOrdering}
use Rattle.searches.specs.Table.{arcs_wide}
use Rattle.searches.specs.Label.{label, outranks}
use Rattle.searches.specs.Answer.{is_two_way}
use Rattle.searches.specs.declared.Mark.{Mark}
use Rattle.tables.specs.Rows.{in_set, row_of, with_bit}
use Rattle.wide.specs.Store.{Weighed, Stored, Covers, Bare, Tallied}

unfoldable pub beats : Search → (ℕ → ℕ → Bool) → List ℕ → ℕ → ℕ → ℕ → Bool
beats s arc w j v u = not (placed w j u) && outranks s j (label arc w u) (label arc w v)

module _ (s : Search) (arc : ℕ → ℕ → Bool) (n : ℕ) (w : List ℕ) where
  unfoldable pub beaten : ℕ → ℕ → Bool
  beaten j v = any_below n (beats s arc w j v)

  unfoldable pub stops : ℕ → Bool
  stops j = beaten j (at w j)

pub record IsGraph (mark : Mark) (n : ℕ) (table : List ℕ) : Type 0 where
  pub small : n ≤ 512
  pub whole : length table ≡ 8 * n
  pub inside : (u v : ℕ) → u < n → T (arcs_wide 8 table u v) → v < n
  pub both_ways : T (is_two_way mark) → (u v : ℕ) → u < n → v < n → arcs_wide 8 table u v ≡ arcs_wide 8 table v u

pub record Staged (s : Search) (table : List ℕ) (n : ℕ) (w : List ℕ) (j : ℕ) (labels smallest largest weights placed' free reached : List ℕ) : Type 0 where
  pub stored : Stored s labels smallest largest weights
  pub labelled : (v p : ℕ) → v < n → (T (placed w j v) → ⊥) → row_of labels v p ≡ (ltb p j && label (arcs_wide 8 table) w v p)
  pub earlier : (v p : ℕ) → v < 512 → T (row_of labels v p) → p < j
  pub placed_is : (v : ℕ) → v < 512 → in_set placed' v ≡ placed w j v
  pub free_is : (v : ℕ) → v < 512 → in_set free v ≡ (ltb v n && not (placed w j v))
  pub covers : Covers labels free reached
  pub bare : Bare labels free
  pub sizes : (length placed' ≡ 8) × (length free ≡ 8) × (length reached ≡ 8)

-- what is kept is consistent, and will be once v is placed at position p
pub record Placeable (s : Search) (mark : Mark) (table labels smallest largest weights placed' free reached : List ℕ) (v p : ℕ) : Type 0 where
  pub position : p < 512
  pub vertex : 8 * v + 8 ≤ length table
  pub graph : (n : ℕ) × IsGraph mark n table
  pub stored : Stored s labels smallest largest weights
  pub earlier : (u q : ℕ) → u < 512 → T (row_of labels u q) → q < p
  pub tallied : (u : ℕ) → T (in_set free u) → T (arcs_wide 8 table v u) → Tallied mark table (with_bit placed' 0 v) labels u p
  pub vertices : (u : ℕ) → u < 512 → T (in_set free u) → 8 * u + 8 ≤ length table
  pub sizes : (length placed' ≡ 8) × (length free ≡ 8) × (length reached ≡ 8)

pub record Replayable (mark : Mark) (table : List ℕ) (n : ℕ) (w : List ℕ) (k : ℕ) (labels smallest largest weights placed' free reached : List ℕ) : Type 0 where
  pub graph : IsGraph mark n table
  pub ordering : IsOrdering n w k
  pub no_label : labels ≡ replicate 4096 0
  pub no_smallest : smallest ≡ replicate 512 512
  pub no_largest : largest ≡ replicate 512 0
  pub no_weight : weights ≡ replicate 512 0
  pub none_placed : placed' ≡ replicate 8 0
  pub all_free : (length free ≡ 8) × ((v : ℕ) → v < 512 → in_set free v ≡ ltb v n)
  pub none_reached : reached ≡ replicate 8 0

-- each entry of t stands in it once, and ranks says where
pub record Ranked (t ranks : List ℕ) : Type 0 where
  pub size : length ranks ≡ 512
  pub entry : (q : ℕ) → q < length t → (at t q < 512) × (get_or ranks (at t q) 0 ≡ q)

pub record Choosable (s : Search) (labels weights free reached t ranks : List ℕ) : Type 0 where
  pub weighed : Weighed s labels weights
  pub covers : Covers labels free reached
  pub bare : Bare labels free
  pub sizes : (length free ≡ 8) × (length reached ≡ 8)
  pub ranked : Ranked t ranks
  pub short : length t ≤ 512
  pub named : (v : ℕ) → v < 512 → T (in_set free v) → (get_or ranks v 0 < length t) × (at t (get_or ranks v 0) ≡ v)
  pub some : (v : ℕ) × (v < 512) × T (in_set free v)

-- w is the walk so far, of k vertices
pub record Begun (s : Search) (mark : Mark) (table : List ℕ) (n : ℕ) (t tail : List ℕ) (k : ℕ) (labels smallest largest weights placed' free reached w : List ℕ) : Type 0 where
  pub graph : IsGraph mark n table
  pub tie_break : IsFullOrdering n t
  pub ordering : IsOrdering n w k
  pub upto : length w ≡ k
  pub room : n ≤ k + length tail
  pub staged : Staged s table n w k labels smallest largest weights placed' free reached

abbrev pub Fillable : Search → Mark → List ℕ → ℕ → List ℕ → List ℕ → ℕ → List ℕ → List ℕ → List ℕ → List ℕ → List ℕ → List ℕ → List ℕ → Type 0
Fillable s mark table n t tail k labels smallest largest weights placed' free reached =
    (w : List ℕ) × Begun s mark table n t tail k labels smallest largest weights placed' free reached w
