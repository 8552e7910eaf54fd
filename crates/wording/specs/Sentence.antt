-- The sentence for a search and a verdict, as a list of bytes.
--   name s            the name of a search in words                                                  [02: K11, the seven search names]
--   sentence s v      what is said of a walk that was judged by s with the verdict v                 [02: K11, the two forms]
--   Decided v         v is a verdict on a walk, and no refusal
--   PointsBelow m v   the points that v names are below m
use Rattle.std.specs.Prelude.{ℕ, ◌<◌, List, [], ◌++◌}
use Rattle.searches.specs.Kind.{Search, generic, bfs, dfs, lex_bfs, lex_dfs, mns, mcs}
use Rattle.searches.specs.Violation.{Verdict, passes, fails, refused}
use Rattle.wording.specs.Text.{bytes}
use Rattle.wording.specs.Decimal.{decimal}

unfoldable pub name : Search → List ℕ
name generic = bytes "Generic"
name bfs = bytes "BFS"
name dfs = bytes "DFS"
name lex_bfs = bytes "LexBFS"
name lex_dfs = bytes "LexDFS"
name mns = bytes "MNS"
name mcs = bytes "MCS"

-- a refusal is answered by its number, and has no sentence
unfoldable pub sentence : Search → Verdict → List ℕ
sentence s passes = name s ++ bytes " passes."
sentence s (fails a b c) =
    name s
    ++ bytes " fails at " ++ decimal b
    ++ bytes ": " ++ decimal a
    ++ bytes " leads to " ++ decimal c
    ++ bytes " and not to " ++ decimal b
    ++ bytes "."
sentence s (refused r) = []

abbrev pub Decided : Verdict → Type 0
Decided passes = Unit {0}
Decided (fails a b c) = Unit {0}
Decided (refused r) = ⊥

abbrev pub PointsBelow : ℕ → Verdict → Type 0
PointsBelow m passes = Unit {0}
PointsBelow m (fails a b c) = (a < m) × (b < m) × (c < m)
PointsBelow m (refused r) = Unit {0}
