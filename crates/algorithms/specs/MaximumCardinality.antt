-- Algorithm 7, maximum cardinality search. No document prints it; documents 001 (end of section 2) and 004 (section 2) have a sentence each:
-- the next vertex is one with the most numbered neighbours. So it is algorithm 6 but for the comparison: of two labels the one that holds
-- more numbers is larger.
--   counted_sets n               its labels: sets of numbers from 0 to n, compared by how many they hold
--   maximum_cardinality arc n    the algorithm
use Rattle.std.specs.Prelude.{ℕ, suc, Bool, ltb}
use Rattle.bitset.specs.Below.{count_below}
use Rattle.algorithms.specs.Algorithm.{Algorithm}
use Rattle.algorithms.specs.Labelling.{Labels, labelling}
use Rattle.algorithms.specs.NeighbourSets.{set_labels}

abbrev pub counted_sets : ℕ → Labels
counted_sets n = set_labels (λ f g. ltb (count_below (suc n) g) (count_below (suc n) f))

abbrev pub maximum_cardinality : (ℕ → ℕ → Bool) → ℕ → Algorithm
maximum_cardinality arc n = labelling (counted_sets n) arc n
