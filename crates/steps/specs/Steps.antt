-- An ordering placed step by step on labels that are kept as words, and on the running values beside them.
--   grown_by rows free v           the vertices that v leads to, of `free` without v
--   whole n barred                the vertices below n that are not barred                                    [02, K8: the unbarred points]
--   AreVertices n all             the members of `all` are vertices: they are below n
--   kept_after put start rows all w j   what is kept of the vertices of `all` after the first j vertices of w: `start` at first, then changed by `put p` for
--                                 the unplaced ones that the vertex at position p leads to
--   labels_after rows all w j      the labels after the first j vertices of w
--   smallest_after, largest_after   the running values after the first j vertices of w, as bytes                  [02, K3: smallest, largest place]
--   free_after all w j             the vertices of `all` that are not among the first j of w
--   placed_after w j               the first j vertices of w                                             [01: the placed mask]
--   stops_at s rows all w j        the vertex at position j of w is beaten when its turn comes
--   Staged s labels weights stage p   the labels have positions below p, and the weights are theirs; of the stage's sets, the offered vertices are those
--                                 that no unplaced one is ahead of, and the reached ones are those whose label is not empty
--   Placeable s rows columns labels smallest largest weights stage v p   so it is, and what is kept beside the labels will agree with them once v is placed
--                                 at position p
--   Replayable rows columns all w k labels smallest largest weights   the first k entries of w are distinct vertices of `all`, in a graph of at most 64, with
--                                 these columns; the labels are empty, there is no smallest and no largest position, and no weight
use Rattle.std.specs.Prelude.{ℕ, zero, suc, ◌≤◌, ◌<◌, ◌≡◌, Bool, List, T, length, get_or, replicate}
use Rattle.bitset.specs.Word.{member, inserted, removed, difference, common, full_below}
use Rattle.searches.specs.Kind.{Search}
use Rattle.searches.specs.Ordering.{at}
use Rattle.labels.specs.Weights.{Consistent}
use Rattle.labels.specs.Words.{Weighed, label_with, smallest_with, largest_with, spread_by, spread_to, smallest_to, largest_to}
use Rattle.offers.specs.Open.{beaten_in, Offers, Covers, Reaches}
use Rattle.lookup.specs.Columns.{Transposed}
use Rattle.steps.specs.declared.place.Stage.{Stage}

unfoldable pub whole : ℕ → ℕ → ℕ
whole n barred = difference (full_below n) barred

abbrev pub AreVertices : ℕ → ℕ → Type 0
AreVertices n all = (v : ℕ) → T (member all v) → v < n

unfoldable pub free_after : ℕ → List ℕ → ℕ → ℕ
free_after all w zero = all
free_after all w (suc j) = removed (free_after all w j) (at w j)

unfoldable pub grown_by : List ℕ → ℕ → ℕ → ℕ
grown_by rows free v = common (get_or rows v 0) (removed free v)

unfoldable pub kept_after : (ℕ → ℕ → ℕ) → ℕ → List ℕ → ℕ → List ℕ → ℕ → List ℕ
kept_after put start rows all w zero = replicate 64 start
kept_after put start rows all w (suc j) = spread_by (put j) (grown_by rows (free_after all w j) (at w j)) 64 (kept_after put start rows all w j)

abbrev pub labels_after : List ℕ → ℕ → List ℕ → ℕ → List ℕ
labels_after rows all w j = kept_after label_with 0 rows all w j

abbrev pub smallest_after : List ℕ → ℕ → List ℕ → ℕ → List ℕ
smallest_after rows all w j = kept_after smallest_with 64 rows all w j

abbrev pub largest_after : List ℕ → ℕ → List ℕ → ℕ → List ℕ
largest_after rows all w j = kept_after largest_with 0 rows all w j

unfoldable pub placed_after : List ℕ → ℕ → ℕ
placed_after w zero = 0
placed_after w (suc j) = inserted (placed_after w j) (at w j)

module _ (s : Search) where
  unfoldable pub stops_at : List ℕ → ℕ → List ℕ → ℕ → Bool
  stops_at rows all w j =
      let labels = labels_after rows all w j in
      beaten_in s labels (free_after all w j) (get_or labels (at w j) 0)

pub record Staged (s : Search) (labels weights : List ℕ) (stage : Stage) (p : ℕ) : Type 0 where
  pub earlier : (v q : ℕ) → v < 64 → T (member (get_or labels v 0) q) → q < p
  pub weighed : Weighed s labels weights
  pub offers : Offers s labels stage.free stage.offered
  pub covers : Covers stage.reached labels
  pub reaches : Reaches stage.reached stage.free labels

pub record Placeable (s : Search) (rows columns labels smallest largest weights : List ℕ) (stage : Stage) (v p : ℕ) : Type 0 where
  pub bit : p < 64
  pub staged : Staged s labels weights stage p
  pub consistent :
      let grown = grown_by rows stage.free v in
      Consistent columns (inserted stage.set v) grown (spread_to grown p labels) (smallest_to grown p smallest) (largest_to grown p largest)

pub record Replayable (rows columns : List ℕ) (all : ℕ) (w : List ℕ) (k : ℕ) (labels smallest largest weights : List ℕ) : Type 0 where
  pub long : k ≤ length w
  pub fits : k ≤ length rows
  pub small : length rows ≤ 64
  pub vertices : (p : ℕ) → p < k → at w p < length rows
  pub stays : (p : ℕ) → p < k → T (member all (at w p))
  pub distinct : (p q : ℕ) → p < q → q < k → at w p ≡ at w q → ⊥
  pub transpose : Transposed rows columns
  pub empty : labels ≡ replicate 64 0
  pub no_smallest : smallest ≡ replicate 64 64
  pub no_largest : largest ≡ replicate 64 0
  pub no_weight : weights ≡ replicate 64 0
