-- The choice among the offered vertices, in the wide form: a vertex that leads those that it was compared with.
--   Fronted free reached set      `set` holds those of `free` that are in `reached`, or all of `free` where none is
--   Leading s labels weights ranks   what comparing for the lead asks for; not for MNS, where two vertices may be neither ahead nor level
--   Leads s labels ranks among v  v is in `among`; nobody in it is ahead of v, and whoever v is not ahead of does not stand behind v in the tie-break
--   LastAt weights ranks most r   of the vertices with the weight `most`, r is the greatest place in the tie-break
--   seen set i v                  v is in `set`, in a word below i
use Rattle.std.specs.Prelude.{ℕ, ◌/◌, ◌≤◌, ◌<◌, ◌≡◌, Bool, ◌&&◌, List, ◌≢◌, ◌⊎◌, T, ltb, length, get_or}
use Rattle.searches.specs.Kind.{Search, mns}
use Rattle.searches.specs.Label.{outranks}
use Rattle.tables.specs.Rows.{in_set, row_of}
use Rattle.wide.specs.Store.{Weighed}

pub record Fronted (free reached set : List ℕ) : Type 0 where
  pub size : length set ≡ 8
  pub part : (v : ℕ) → v < 512 → T (in_set set v) → T (in_set free v)
  pub others : (u v : ℕ) → u < 512 → v < 512 → T (in_set free u) → (T (in_set set u) → ⊥) → T (in_set set v) → (T (in_set reached u) → ⊥) × T (in_set reached v)
  pub some : (u : ℕ) → u < 512 → T (in_set free u) → (v : ℕ) × (v < 512) × T (in_set set v)

pub record Leading (s : Search) (labels weights ranks : List ℕ) : Type 0 where
  pub weighed : Weighed s labels weights
  pub other : s ≢ mns
  pub size : length ranks ≡ 512

pub record Leads (s : Search) (labels ranks : List ℕ) (among : ℕ → Bool) (v : ℕ) : Type 0 where
  pub vertex : v < 512
  pub member : T (among v)
  pub unbeaten : (u : ℕ) → u < 512 → T (among u) → T (outranks s 512 (row_of labels u) (row_of labels v)) → ⊥
  pub last : (u : ℕ) → u < 512 → T (among u) → (T (outranks s 512 (row_of labels v) (row_of labels u)) → ⊥) → get_or ranks u 0 ≤ get_or ranks v 0

pub record LastAt (weights ranks : List ℕ) (most r : ℕ) : Type 0 where
  pub upto : (v : ℕ) → v < 512 → get_or weights v 0 ≡ most → get_or ranks v 0 ≤ r
  pub found : (r ≡ 0) ⊎ ((v : ℕ) × (v < 512) × (get_or weights v 0 ≡ most) × (get_or ranks v 0 ≡ r))

unfoldable pub seen : List ℕ → ℕ → ℕ → Bool
seen set i v = ltb (v / 64) i && in_set set v
