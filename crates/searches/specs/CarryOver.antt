-- Which passes carry over: an ordering that passes one search passes these others too.
--   further s       the searches that a pass of s carries over to, besides s itself and Generic
--   carries_to s     all searches that a pass of s carries over to                             [02: K1, which passes carry over]
--   one_of s ss      s is one of the searches ss
--   carries s s'    a pass of s carries over to s'
use Rattle.std.specs.Prelude.{Bool, false, ◌||◌, List, [], ◌∷◌, eqb}
use Rattle.searches.specs.Kind.{Search, generic, bfs, dfs, lex_bfs, lex_dfs, mns, mcs, kind_of}

unfoldable pub further : Search → List Search
further generic = []
further bfs = []
further dfs = []
further lex_bfs = bfs ∷ mns ∷ []
further lex_dfs = dfs ∷ mns ∷ []
further mns = []
further mcs = mns ∷ []

unfoldable pub carries_to : Search → List Search
carries_to s = s ∷ generic ∷ further s

unfoldable pub one_of : Search → List Search → Bool
one_of s [] = false
one_of s (x ∷ xs) = eqb (kind_of s) (kind_of x) || one_of s xs

unfoldable pub carries : Search → Search → Bool
carries s s' = one_of s' (carries_to s)
