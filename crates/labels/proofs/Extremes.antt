-- The smallest and the largest position of a label, as they are kept in a byte each: all that BFS and DFS look at.
--   smallest_byte_lem                     the byte of the smallest position is where the search for the first one ends
--   largest_byte_lem, largest_empty       the byte of the largest position is one more than the last one, and 0 where the label is empty
--   largest_past                      both of it in one
--   dfs_bytes                         the comparison of two such bytes is DFS's
--   unexcused_dfs                     that byte tells whether a position behind i is in the label
-- Assumes nothing.
use mathlib.Core.Path.{◌≡◌, sym, ap, ap₂, ◌∙◌}
use mathlib.Core.Bool.{Bool}
use mathlib.Core.Logic.{◌⊎◌, inl, inr}
use Prim.Native.Nat.{ℕ, suc}
use lib.Dec.{T, ltb, leb}
use Rattle.bitset.specs.Below.{any_below, first_below, last_below, past_last}
use Rattle.bitset.specs.Word.{member}
use Rattle.bitset.proofs.Tests.{decided, cond_yes, cond_no}
use Rattle.searches.specs.Kind.{dfs}
use Rattle.searches.specs.Running.{smallest_in, largest_in}
use Rattle.searches.specs.Violation.{condition, meets}
use Rattle.searches.proofs.Running.{smallest_found, smallest_absent, largest_found, largest_absent}
use Rattle.searches.proofs.ByNumbers.{first_past, dfs_past}
use Rattle.searches.proofs.Unexcused.{none_later}
use Rattle.labels.specs.Weights.{smallest_byte, largest_byte}
use Rattle.labels.specs.Words.{ahead_in, unexcused_in}

-- ---- the two bytes of a label

module _ (f : ℕ → Bool) where
  pub smallest_byte_lem : smallest_byte (smallest_in 64 f) ≡ first_below 64 f
  unfolding smallest_byte
  smallest_byte_lem = go (decided (any_below 64 f))
    where
      go : T (any_below 64 f) ⊎ (T (any_below 64 f) → ⊥) → smallest_byte (smallest_in 64 f) ≡ first_below 64 f
      go (inl t) = ap smallest_byte (smallest_found 64 f t)
      go (inr out) = ap smallest_byte (smallest_absent 64 f out) ∙ first_past 64 f out

  pub largest_byte_lem : T (any_below 64 f) → largest_byte (largest_in 64 f) ≡ suc (last_below 64 f)
  unfolding largest_byte
  largest_byte_lem t = ap largest_byte (largest_found 64 f t)

  pub largest_empty : (T (any_below 64 f) → ⊥) → largest_byte (largest_in 64 f) ≡ 0
  unfolding largest_byte
  largest_empty out = ap largest_byte (largest_absent 64 f out)

  pub largest_past : largest_byte (largest_in 64 f) ≡ past_last 64 f
  unfolding past_last
  largest_past = go (decided (any_below 64 f))
    where
      go : T (any_below 64 f) ⊎ (T (any_below 64 f) → ⊥) → largest_byte (largest_in 64 f) ≡ past_last 64 f
      go (inl t) = largest_byte_lem t ∙ sym (cond_yes (any_below 64 f) (suc (last_below 64 f)) 0 t)
      go (inr out) = largest_empty out ∙ sym (cond_no (any_below 64 f) (suc (last_below 64 f)) 0 out)

-- ---- DFS, by the largest position of each label

module _ (c b : ℕ) where
  abbrev byte : ℕ → ℕ
  byte x = largest_byte (largest_in 64 (member x))

  pub dfs_bytes : ltb (byte b) (byte c) ≡ ahead_in dfs c b
  unfolding ahead_in
  dfs_bytes = ap₂ (λ (x y : ℕ). ltb x y) (largest_past (member b)) (largest_past (member c)) ∙ sym (dfs_past 64 (member c) (member b))

  pub unexcused_dfs : (i : ℕ) → leb (byte b) (suc i) ≡ unexcused_in dfs i c b
  unfolding unexcused_in condition meets
  unexcused_dfs i = ap (λ (x : ℕ). leb x (suc i)) (largest_past (member b)) ∙ none_later 64 i (member b)
