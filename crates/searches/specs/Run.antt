-- Which vertex may come next, and the runs of a search.
--   offered s arc n w k v    after the first k vertices of w, v is unplaced and no unplaced vertex is ahead of it   [01: offered]
--   Reached s arc n w        w is placed vertex by vertex, each offered at its time
--   Run s arc n w            w is reached and has all n vertices                                                     [01: run]
--   BeginsRun s arc n w k    some run begins with the first k vertices of w                                          [01: begins]
use Rattle.std.specs.Prelude.{ℕ, ◌≡◌, Bool, not, ◌&&◌, List, [], ◌∷◌, ◌++◌, T, ltb, length}
use Rattle.bitset.specs.Below.{any_below}
use Rattle.searches.specs.Kind.{Search}
use Rattle.searches.specs.Ordering.{placed, Begins}
use Rattle.searches.specs.Label.{label, outranks}

module _ (s : Search) (arc : ℕ → ℕ → Bool) (n : ℕ) where
  -- nobody is ahead of itself, so 01's "no other" needs no test
  unfoldable pub offered : List ℕ → ℕ → ℕ → Bool
  offered w k v =
      ltb v n && not (placed w k v)
      && not (any_below n (λ u. not (placed w k u) && outranks s k (label arc w u) (label arc w v)))

  pub data Reached : List ℕ → Type 0 where
    nothing : Reached []
    next : {w : List ℕ} (v : ℕ) → Reached w → T (offered w (length w) v) → Reached (w ++ v ∷ [])

  pub record Run (w : List ℕ) : Type 0 where
    pub reached : Reached w
    pub full : length w ≡ n

  pub record BeginsRun (w : List ℕ) (k : ℕ) : Type 0 where
    pub run : List ℕ
    pub is : Run run
    pub begins : Begins w k run
