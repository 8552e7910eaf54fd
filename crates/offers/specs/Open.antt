-- Who is open, what the code keeps of that from one placing to the next, and who is chosen. `labels` is the list of the 64 labels as words, `free` is the
-- set of the unplaced vertices.
--   beaten_in s labels free mine   a free vertex has a label ahead of `mine`
--   open_in s labels free v        v is free and not beaten
--   chosen_in s labels free t      of the open vertices, the one that stands last in t
--   Offers s labels free set      except in MNS, `set` holds exactly the open vertices
--   Level s labels set            nobody of `set` is ahead of another of it
--   Narrows s labels free stay grown   except in MNS: who is neither in `stay` nor in `grown` is behind everyone of `stay`, and those of `stay` that are
--                                 not in `grown` are level
--   Leads s labels free set       everyone of `set` is free, level with the others of it, and ahead of every free vertex that is not in it
--   by_rule kind front early grown   the set that leads by the rule of a search; empty where it has none
--   Covers reached labels         every vertex whose label is not empty is in `reached`
--   Reaches reached free labels   every free vertex in `reached` has a label that is not empty
use Rattle.std.specs.Prelude.{ℕ, zero, suc, ◌<◌, ◌^◌, ◌≡◌, Bool, not, ◌&&◌, List, ◌≢◌, T, length, get_or}
use Rattle.bitset.specs.Below.{any_below, last_below}
use Rattle.bitset.specs.Word.{member, difference}
use Rattle.searches.specs.Kind.{Search, mns}
use Rattle.searches.specs.Ordering.{at}
use Rattle.labels.specs.Words.{ahead_in}

module _ (s : Search) where
  unfoldable pub beaten_in : List ℕ → ℕ → ℕ → Bool
  beaten_in labels free mine = any_below 64 (λ u. member free u && ahead_in s (get_or labels u 0) mine)

  unfoldable pub open_in : List ℕ → ℕ → ℕ → Bool
  open_in labels free v = member free v && not (beaten_in labels free (get_or labels v 0))

  unfoldable pub chosen_in : List ℕ → ℕ → List ℕ → ℕ
  chosen_in labels free t = at t (last_below (length t) (λ q. open_in labels free (at t q)))

pub record Offers (s : Search) (labels : List ℕ) (free set : ℕ) : Type 0 where
  pub word : set < 2 ^ 64
  pub exact : s ≢ mns → (v : ℕ) → v < 64 → member set v ≡ open_in s labels free v

abbrev pub Level : Search → List ℕ → ℕ → Type 0
Level s labels set =
    (u v : ℕ) → u < 64 → v < 64 → T (member set u) → T (member set v) → T (ahead_in s (get_or labels u 0) (get_or labels v 0)) → ⊥

pub record Narrows (s : Search) (labels : List ℕ) (free stay grown : ℕ) : Type 0 where
  pub stays : s ≢ mns → (u : ℕ) → u < 64 → T (member stay u) → T (member free u)
  pub grows : (u : ℕ) → T (member grown u) → T (member free u)
  pub level : s ≢ mns → Level s labels (difference stay grown)
  pub behind : s ≢ mns → (u v : ℕ) → u < 64 → v < 64 → T (member stay u) → T (member free v) → (T (member stay v) → ⊥) → (T (member grown v) → ⊥)
      → T (ahead_in s (get_or labels u 0) (get_or labels v 0))

pub record Leads (s : Search) (labels : List ℕ) (free set : ℕ) : Type 0 where
  pub inside : (u : ℕ) → u < 64 → T (member set u) → T (member free u)
  pub level : Level s labels set
  pub ahead : (u v : ℕ) → u < 64 → v < 64 → T (member set u) → T (member free v) → (T (member set v) → ⊥) → T (ahead_in s (get_or labels u 0) (get_or labels v 0))

-- Generic, BFS and DFS have one
unfoldable pub by_rule : ℕ → ℕ → ℕ → ℕ → ℕ
by_rule zero front early grown = front
by_rule (suc zero) front early grown = early
by_rule (suc (suc zero)) front early grown = grown
by_rule (suc (suc (suc kind))) front early grown = 0

abbrev pub Covers : ℕ → List ℕ → Type 0
Covers reached labels = (v : ℕ) → v < 64 → (T (member reached v) → ⊥) → get_or labels v 0 ≡ 0

abbrev pub Reaches : ℕ → ℕ → List ℕ → Type 0
Reaches reached free labels = (v : ℕ) → v < 64 → T (member free v) → T (member reached v) → T (any_below 64 (member (get_or labels v 0)))
