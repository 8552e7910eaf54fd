-- Two labels compared, with four answers. A label is a set of positions: a test, with the number k of placed vertices beside it.
--   alike k c b                 the labels c and b are equal: each position below k is in both or in neither
--   same_value x y               two positions are equal, or both are none
--   level s k c b               two labels of positions below k are level                                    [02, K6: level]
--   stands s k c b answer       c stands to b as the answer says: ahead, behind, level, or what is left      [02, K6]
--   told_by ahead behind level   the answer of three tests: the first that holds, and where none does, neither
--   compared s k c b            how c stands to b                                                            [02, K6]
--   is_ahead, is_level answer     it says that the first is ahead, that the two are level
--   turned answer               the answer where the two are turned round
use Rattle.std.specs.Prelude.{ℕ, Bool, true, false, cond, not, ◌&&◌, ◌||◌, eqb}
use Rattle.std.proofs.Math.Option.{Option, none, some}
use Rattle.bitset.specs.Below.{any_below, count_below, differ}
use Rattle.searches.specs.Kind.{Search, generic, bfs, dfs, lex_bfs, lex_dfs, mns, mcs}
use Rattle.searches.specs.Label.{empty, outranks}
use Rattle.searches.specs.Running.{smallest_in, largest_in}
use Rattle.searches.specs.declared.Comparison.{Comparison}

unfoldable pub alike : ℕ → (ℕ → Bool) → (ℕ → Bool) → Bool
alike k c b = not (any_below k (differ c b))

unfoldable pub same_value : Option ℕ → Option ℕ → Bool
same_value none none = true
same_value none (some q) = false
same_value (some p) none = false
same_value (some p) (some q) = eqb p q

unfoldable pub level : Search → ℕ → (ℕ → Bool) → (ℕ → Bool) → Bool
level generic k c b = (empty k c && empty k b) || (not (empty k c) && not (empty k b))
level bfs k c b = same_value (smallest_in k c) (smallest_in k b)
level dfs k c b = same_value (largest_in k c) (largest_in k b)
level lex_bfs k c b = alike k c b
level lex_dfs k c b = alike k c b
level mns k c b = alike k c b
level mcs k c b = eqb (count_below k c) (count_below k b)

module _ (s : Search) (k : ℕ) (c b : ℕ → Bool) where
  unfoldable pub stands : Comparison → Bool
  stands Comparison.Ahead = outranks s k c b
  stands Comparison.Behind = outranks s k b c
  stands Comparison.Level = level s k c b
  stands Comparison.Neither = not (outranks s k c b) && not (outranks s k b c) && not (level s k c b)

unfoldable pub told_by : Bool → Bool → Bool → Comparison
told_by ahead behind is_level = cond ahead Comparison.Ahead (cond behind Comparison.Behind (cond is_level Comparison.Level Comparison.Neither))

unfoldable pub compared : Search → ℕ → (ℕ → Bool) → (ℕ → Bool) → Comparison
compared s k c b = told_by (outranks s k c b) (outranks s k b c) (level s k c b)

unfoldable pub is_ahead : Comparison → Bool
is_ahead Comparison.Ahead = true
is_ahead Comparison.Behind = false
is_ahead Comparison.Level = false
is_ahead Comparison.Neither = false

unfoldable pub is_level : Comparison → Bool
is_level Comparison.Ahead = false
is_level Comparison.Behind = false
is_level Comparison.Level = true
is_level Comparison.Neither = false

unfoldable pub turned : Comparison → Comparison
turned Comparison.Ahead = Comparison.Behind
turned Comparison.Behind = Comparison.Ahead
turned Comparison.Level = Comparison.Level
turned Comparison.Neither = Comparison.Neither
