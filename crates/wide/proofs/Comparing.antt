-- The running values and the weights of labels, as they are kept of the positions below 512, compared.
--   smallest_first, largest_past       the running values as they are kept
--   weight_ahead                       in every search but LexBFS, LexDFS and MNS the greater weight is ahead
--   weight_small                       no weight is above 512
--   weights_compared                   what is told of the weights is how the one stands to the other
-- Assumes nothing.
use mathlib.Core.Path.{◌≡◌, refl, sym, ap, ap₂, ◌∙◌, subst}
use mathlib.Core.Bool.{Bool, true, false, cond, not, ◌&&◌}
use mathlib.Core.Logic.{◌⊎◌, inl, inr, ◌≢◌}
use mathlib.Core.Option.{none, some}
use Prim.Native.Nat.{ℕ, zero, suc, ◌-◌, ◌≤◌, ◌<◌}
use native.Mathlib.Omega.{arith}
use lib.Dec.{T, ltb, ltb→lt, lt→ltb}
use Rattle.bitset.specs.Below.{any_below, first_below, last_below, past_last}
use Rattle.bitset.proofs.Tests.{decided, same_test}
use Rattle.bitset.proofs.Below.{any_out, first, last}
use Rattle.bitset.proofs.Count.{count_le}
use Rattle.searches.specs.Kind.{Search, generic, bfs, dfs, lex_bfs, lex_dfs, mns, mcs, search_of}
use Rattle.searches.specs.Label.{empty, outranks}
use Rattle.searches.specs.Running.{smallest_in, largest_in}
use Rattle.searches.specs.Comparison.{told_by, compared}
use Rattle.searches.proofs.Running.{smallest_found, smallest_absent}
use Rattle.searches.proofs.ByNumbers.{first_past, bfs_first, dfs_past, ranked_compared}
use Rattle.labels.proofs.Comparison.{search_of_mns}
use Rattle.wide.specs.Store.{smallest_kept, largest_kept, weight_in}

-- the running values, as they are kept
pub smallest_first : (f : ℕ → Bool) → smallest_kept (smallest_in 512 f) ≡ first_below 512 f
unfolding smallest_kept
smallest_first f = go (decided (any_below 512 f))
  where
    go : T (any_below 512 f) ⊎ (T (any_below 512 f) → ⊥) → smallest_kept (smallest_in 512 f) ≡ first_below 512 f
    go (inl t) = ap smallest_kept (smallest_found 512 f t)
    go (inr out) = ap smallest_kept (smallest_absent 512 f out) ∙ first_past 512 f out

pub largest_past : (k : ℕ) (f : ℕ → Bool) → largest_kept (largest_in k f) ≡ past_last k f
unfolding largest_kept largest_in empty past_last
largest_past k f = go (any_below k f)
  where
    go : (x : Bool) → largest_kept (cond (not x) none (some (last_below k f))) ≡ cond x (suc (last_below k f)) 0
    go true = refl
    go false = refl

module _ (c b : ℕ → Bool) where
  generic_weight : ltb (weight_in generic 512 b) (weight_in generic 512 c) ≡ outranks generic 512 c b
  unfolding weight_in outranks
  generic_weight = go (empty 512 c) (empty 512 b)
    where
      go : (x y : Bool) → ltb (cond y 0 1) (cond x 0 1) ≡ (not x && y)
      go true true = refl
      go true false = refl
      go false true = refl
      go false false = refl

  bfs_weight : ltb (weight_in bfs 512 b) (weight_in bfs 512 c) ≡ outranks bfs 512 c b
  unfolding weight_in
  bfs_weight =
      ap₂ (λ (x y : ℕ). ltb (512 - x) (512 - y)) (smallest_first b) (smallest_first c)
      ∙ turned (first_below 512 c) (first_below 512 b) (first 512 b).within ∙ sym (bfs_first 512 c b)
    where
      turned : (p q : ℕ) → q ≤ 512 → ltb (512 - q) (512 - p) ≡ ltb p q
      turned p q l =
          same_test (ltb (512 - q) (512 - p)) (ltb p q) (λ t. lt→ltb p q (omega (arith, ltb→lt (512 - q) (512 - p) t)))
          (λ t. lt→ltb (512 - q) (512 - p) (omega (arith, ltb→lt p q t)))

  dfs_weight : ltb (weight_in dfs 512 b) (weight_in dfs 512 c) ≡ outranks dfs 512 c b
  unfolding weight_in
  dfs_weight = ap₂ (λ (x y : ℕ). ltb x y) (largest_past 512 b) (largest_past 512 c) ∙ sym (dfs_past 512 c b)

  mcs_weight : ltb (weight_in mcs 512 b) (weight_in mcs 512 c) ≡ outranks mcs 512 c b
  unfolding weight_in outranks
  mcs_weight = refl

  -- for every kind but LexBFS, LexDFS and MNS
  pub weight_ahead : (kind : ℕ) → kind ≢ 3 → kind ≢ 4 → kind ≢ 5
      → ltb (weight_in (search_of kind) 512 b) (weight_in (search_of kind) 512 c) ≡ outranks (search_of kind) 512 c b
  unfolding search_of
  weight_ahead zero x y z = generic_weight
  weight_ahead (suc zero) x y z = bfs_weight
  weight_ahead (suc (suc zero)) x y z = dfs_weight
  weight_ahead (suc (suc (suc zero))) x y z = absurd (x refl)
  weight_ahead (suc (suc (suc (suc zero)))) x y z = absurd (y refl)
  weight_ahead (suc (suc (suc (suc (suc zero))))) x y z = absurd (z refl)
  weight_ahead (suc (suc (suc (suc (suc (suc zero)))))) x y z = mcs_weight
  weight_ahead (suc (suc (suc (suc (suc (suc (suc more))))))) x y z = generic_weight

pub weight_small : (s : Search) (f : ℕ → Bool) → weight_in s 512 f ≤ 512
unfolding weight_in past_last
weight_small generic f = go (empty 512 f)
  where
    go : (x : Bool) → cond x 0 1 ≤ 512
    go true = omega arith
    go false = omega arith
weight_small bfs f = omega arith
weight_small dfs f = subst (λ (x : ℕ). x ≤ 512) (sym (largest_past 512 f)) (go (any_below 512 f) (λ t. (last (any_out 512 f t)).below))
  where
    go : (x : Bool) → (T x → last_below 512 f < 512) → cond x (suc (last_below 512 f)) 0 ≤ 512
    go true below = let l : last_below 512 f < 512 = below tt in omega arith
    go false below = omega arith
weight_small lex_bfs f = omega arith
weight_small lex_dfs f = omega arith
weight_small mns f = count_le 512 f
weight_small mcs f = count_le 512 f

pub weights_compared : (kind : ℕ) → kind ≢ 3 → kind ≢ 4 → kind ≢ 5 → (c b : ℕ → Bool) {ours theirs : ℕ}
    → ours ≡ weight_in (search_of kind) 512 c → theirs ≡ weight_in (search_of kind) 512 b
    → told_by (ltb theirs ours) (ltb ours theirs) true ≡ compared (search_of kind) 512 c b
weights_compared kind x y z c b e e' =
    ranked_compared 512 c b (search_of kind) (search_of_mns kind z) (ap₂ (λ (m n : ℕ). ltb m n) e' e ∙ weight_ahead c b kind x y z)
    (ap₂ (λ (m n : ℕ). ltb m n) e e' ∙ weight_ahead b c kind x y z)
