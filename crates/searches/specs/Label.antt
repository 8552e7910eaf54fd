-- Labels, and which of two is ahead. A label is a set of positions: a test, with the number k of placed vertices beside it.
--   label arc w v p        position p is in v's label: the vertex there leads to v                 [01: label]
--   outranks s k c b       of two labels of positions below k, c is ahead of b                     [01: ahead; 02: K1]
--   empty k f              no position below k is in f
--   nearer, settled        the two rules that BFS and DFS, LexBFS and LexDFS share
use Rattle.std.specs.Prelude.{ℕ, Bool, not, ◌&&◌, ◌||◌, List, ltb}
use Rattle.bitset.specs.Below.{any_below, first_below, last_below, count_below, differ, within}
use Rattle.searches.specs.Kind.{Search, generic, bfs, dfs, lex_bfs, lex_dfs, mns, mcs}
use Rattle.searches.specs.Ordering.{at}

unfoldable pub label : (ℕ → ℕ → Bool) → List ℕ → ℕ → ℕ → Bool
label arc w v p = arc (at w p) v

unfoldable pub empty : ℕ → (ℕ → Bool) → Bool
empty k f = not (any_below k f)

-- c has a position; b has none, or c's by `pick` comes before b's by `before`
unfoldable pub nearer : (ℕ → ℕ → Bool) → (ℕ → (ℕ → Bool) → ℕ) → ℕ → (ℕ → Bool) → (ℕ → Bool) → Bool
nearer before pick k c b = not (empty k c) && (empty k b || before (pick k c) (pick k b))

-- the labels differ, and the position by `pick` in which they do is in c
unfoldable pub settled : (ℕ → (ℕ → Bool) → ℕ) → ℕ → (ℕ → Bool) → (ℕ → Bool) → Bool
settled pick k c b = any_below k (differ c b) && c (pick k (differ c b))

unfoldable pub outranks : Search → ℕ → (ℕ → Bool) → (ℕ → Bool) → Bool
outranks generic k c b = not (empty k c) && empty k b
outranks bfs k c b = nearer (λ p q. ltb p q) first_below k c b
outranks dfs k c b = nearer (λ p q. ltb q p) last_below k c b
outranks lex_bfs k c b = settled first_below k c b
outranks lex_dfs k c b = settled last_below k c b
outranks mns k c b = within k b c && not (within k c b)
outranks mcs k c b = ltb (count_below k b) (count_below k c)
