-- Algorithm 6 of document 001, maximal neighbourhood search. Of the algorithm the copy at hand has the heading and the sentences around it:
-- each turn picks a vertex whose numbered neighbours are a maximal set under inclusion. A label is that set, as in NeighbourSets.
--   neighbour_sets n               its labels: sets of numbers from 0 to n, compared by inclusion
--   maximal_neighbourhood arc n    the algorithm
use Rattle.std.specs.Prelude.{ℕ, suc, Bool, not, ◌&&◌}
use Rattle.bitset.specs.Below.{within}
use Rattle.algorithms.specs.Algorithm.{Algorithm}
use Rattle.algorithms.specs.Labelling.{Labels, labelling}
use Rattle.algorithms.specs.NeighbourSets.{set_labels}

abbrev pub neighbour_sets : ℕ → Labels
neighbour_sets n = set_labels (λ f g. within (suc n) g f && not (within (suc n) f g))

abbrev pub maximal_neighbourhood : (ℕ → ℕ → Bool) → ℕ → Algorithm
maximal_neighbourhood arc n = labelling (neighbour_sets n) arc n
