-- The running values of a vertex: its smallest and its largest position, kept from placing to placing.
--   smallest_in k f               the smallest position below k in the label f; none where the label is empty
--   largest_in k f                the largest one, likewise
--   keep_first kept p             a value that is kept once there is one, else p
--   running_smallest arc w v k    v's smallest position, as it is kept while the first k of w are placed      [02, K3: smallest place]
--   running_largest arc w v k     v's largest position, likewise                                              [02, K3: largest place]
use Rattle.std.specs.Prelude.{ℕ, zero, suc, Bool, cond, List}
use Rattle.std.proofs.Math.Option.{Option, none, some}
use Rattle.bitset.specs.Below.{first_below, last_below}
use Rattle.searches.specs.Label.{label, empty}

unfoldable pub smallest_in : ℕ → (ℕ → Bool) → Option ℕ
smallest_in k f = cond (empty k f) none (some (first_below k f))

unfoldable pub largest_in : ℕ → (ℕ → Bool) → Option ℕ
largest_in k f = cond (empty k f) none (some (last_below k f))

unfoldable pub keep_first : Option ℕ → ℕ → Option ℕ
keep_first none p = some p
keep_first (some q) p = some q

module _ (arc : ℕ → ℕ → Bool) (w : List ℕ) (v : ℕ) where
  unfoldable pub running_smallest : ℕ → Option ℕ
  running_smallest zero = none
  running_smallest (suc k) = let kept = running_smallest k in cond (label arc w v k) (keep_first kept k) kept

  unfoldable pub running_largest : ℕ → Option ℕ
  running_largest zero = none
  running_largest (suc k) = let kept = running_largest k in cond (label arc w v k) (some k) kept
