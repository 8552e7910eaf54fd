-- The seven searches.
--   Search           generic, bfs, dfs, lex_bfs, lex_dfs, mns, mcs
--   search_of kind    the search that a kind byte names                                        [01: kind; 02: K1]
--   kind_of s         the kind byte that names s
use Rattle.std.specs.Prelude.{ℕ, [], ◌∷◌, get_or}

pub data Search : Type 0 where
  generic bfs dfs lex_bfs lex_dfs mns mcs : Search

-- above 6 a byte names none, and refusal 1 comes first
unfoldable pub search_of : ℕ → Search
search_of kind = get_or (generic ∷ bfs ∷ dfs ∷ lex_bfs ∷ lex_dfs ∷ mns ∷ mcs ∷ []) kind generic

unfoldable pub kind_of : Search → ℕ
kind_of generic = 0
kind_of bfs = 1
kind_of dfs = 2
kind_of lex_bfs = 3
kind_of lex_dfs = 4
kind_of mns = 5
kind_of mcs = 6
