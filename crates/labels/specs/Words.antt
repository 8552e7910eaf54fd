-- What the code computes on labels that are kept as words. `labels` is the list of the 64 words, `weights` that of their weights.
--   profile_of s label             what a comparison looks at, of a vertex with this label
--   profile_at labels weights v    the same, as it is kept of v
--   Weighed s labels weights      what is kept as the weight of each label is its weight
--   ahead_in s c b                 label c is ahead of label b
--   compared_in s c b              how label c stands to label b
--   unexcused_in s i c b           nothing in b's label, nor its size, excuses position i against c's
--   label_with p x                 the label x, with p put in
--   smallest_with, largest_with p x   the byte x of a smallest or largest position, once p is put into the label
--   changed_by put row v x         what is kept of v, changed by `put` where v is in row
--   spread_by put row i kept       what is kept of the vertices, changed by `put` for those below i that are in row
--   joined_in row p v label        v's label, with p put in where v is in row
--   spread_to row p labels         the labels, with p put into those of the vertices in row
--   smallest_to, largest_to row p kept   the running values as bytes, with p put into those of the vertices in row
use Rattle.std.specs.Prelude.{ℕ, zero, suc, ◌≡◌, Bool, cond, List, map, eqb, get_or, set}
use Rattle.bitset.specs.Word.{member, inserted}
use Rattle.searches.specs.Kind.{Search}
use Rattle.searches.specs.Label.{outranks}
use Rattle.searches.specs.Comparison.{compared}
use Rattle.searches.specs.Violation.{condition, meets}
use Rattle.searches.specs.declared.Comparison.{Comparison}
use Rattle.labels.specs.Weights.{weight_of}
use Rattle.labels.specs.declared.profile.Profile.{Profile}

unfoldable pub profile_of : Search → ℕ → Profile
profile_of s label = record { label = label; weight = weight_of s label }

unfoldable pub profile_at : List ℕ → List ℕ → ℕ → Profile
profile_at labels weights v = record { label = get_or labels v 0; weight = get_or weights v 0 }

pub record Weighed (s : Search) (labels weights : List ℕ) : Type 0 where
  pub same : weights ≡ map (weight_of s) labels

unfoldable pub ahead_in : Search → ℕ → ℕ → Bool
ahead_in s c b = outranks s 64 (member c) (member b)

unfoldable pub compared_in : Search → ℕ → ℕ → Comparison
compared_in s c b = compared s 64 (member c) (member b)

unfoldable pub unexcused_in : Search → ℕ → ℕ → ℕ → Bool
unexcused_in s i c b = meets (condition s i) 64 (member c) (member b)

abbrev pub label_with : ℕ → ℕ → ℕ
label_with p x = inserted x p

unfoldable pub smallest_with : ℕ → ℕ → ℕ
smallest_with p x = cond (eqb x 64) p x

abbrev pub largest_with : ℕ → ℕ → ℕ
largest_with p x = suc p

unfoldable pub changed_by : (ℕ → ℕ) → ℕ → ℕ → ℕ → ℕ
changed_by put row v x = cond (member row v) (put x) x

unfoldable pub spread_by : (ℕ → ℕ) → ℕ → ℕ → List ℕ → List ℕ
spread_by put row zero kept = kept
spread_by put row (suc i) kept = let rest = spread_by put row i kept in set rest i (changed_by put row i (get_or rest i 0))

abbrev pub joined_in : ℕ → ℕ → ℕ → ℕ → ℕ
joined_in row p v label = changed_by (label_with p) row v label

abbrev pub spread_to : ℕ → ℕ → List ℕ → List ℕ
spread_to row p labels = spread_by (label_with p) row 64 labels

abbrev pub smallest_to : ℕ → ℕ → List ℕ → List ℕ
smallest_to row p smallest = spread_by (smallest_with p) row 64 smallest

abbrev pub largest_to : ℕ → ℕ → List ℕ → List ℕ
largest_to row p largest = spread_by (largest_with p) row 64 largest
