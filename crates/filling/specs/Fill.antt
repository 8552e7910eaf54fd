-- The filling step of carry-on, on labels that are kept as words.
--   fill_in s rows t m p labels free   the m vertices chosen from position p on
--   Along rows p labels smallest largest placed free   words and bytes are those after the p vertices of an ordering of some set of vertices
--   Fillable s rows columns t tail k labels smallest largest weights stage   the graph has these columns, t is a tie-break, tail has room for the unplaced
--                                 vertices, and all that is kept is that after k vertices
use Rattle.std.specs.Prelude.{ℕ, zero, suc, ◌≤◌, ◌<◌, ◌≡◌, List, [], ◌∷◌, T, length}
use Rattle.bitset.specs.Below.{count_below}
use Rattle.bitset.specs.Word.{member, removed}
use Rattle.searches.specs.Kind.{Search}
use Rattle.searches.specs.Ordering.{at, IsOrdering, IsFullOrdering}
use Rattle.labels.specs.Words.{spread_to}
use Rattle.offers.specs.Open.{chosen_in}
use Rattle.lookup.specs.Columns.{Transposed}
use Rattle.steps.specs.Steps.{AreVertices, grown_by, labels_after, smallest_after, largest_after, placed_after, free_after, Staged}
use Rattle.steps.specs.declared.place.Stage.{Stage}

module _ (s : Search) where
  unfoldable pub fill_in : List ℕ → List ℕ → ℕ → ℕ → List ℕ → ℕ → List ℕ
  fill_in rows t zero p labels free = []
  fill_in rows t (suc m) p labels free =
      let v = chosen_in s labels free t in
      v ∷ fill_in rows t m (suc p) (spread_to (grown_by rows free v) p labels) (removed free v)

pub record Along (rows : List ℕ) (p : ℕ) (labels smallest largest : List ℕ) (placed free : ℕ) : Type 0 where
  pub all : ℕ
  pub inside : AreVertices (length rows) all
  pub walk : List ℕ
  pub long : length walk ≡ p
  pub ordering : IsOrdering (length rows) walk p
  pub stays : (q : ℕ) → q < p → T (member all (at walk q))
  pub labelled : labels ≡ labels_after rows all walk p
  pub after_smallest : smallest ≡ smallest_after rows all walk p
  pub after_largest : largest ≡ largest_after rows all walk p
  pub set : placed ≡ placed_after walk p
  pub unplaced : free ≡ free_after all walk p

pub record Fillable (s : Search) (rows columns t tail : List ℕ) (k : ℕ) (labels smallest largest weights : List ℕ) (stage : Stage) : Type 0 where
  pub small : length rows ≤ 64
  pub transpose : Transposed rows columns
  pub names : IsFullOrdering (length rows) t
  pub room : count_below 64 (member stage.free) ≤ length tail
  pub along : Along rows k labels smallest largest stage.set stage.free
  pub staged : Staged s labels weights stage k
