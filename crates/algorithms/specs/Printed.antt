-- The algorithms by search: those of document 001, and that of MCS, which documents 001 and 004 do not print but say in a sentence.
--   printed s arc n    algorithm 1 for generic search, 2 for BFS, 4 for DFS, 3 for LexBFS, 5 for LexDFS, 6 for MNS, 7 for MCS
use Rattle.std.specs.Prelude.{ℕ, Bool}
use Rattle.searches.specs.Kind.{Search, generic, bfs, dfs, lex_bfs, lex_dfs, mns, mcs}
use Rattle.algorithms.specs.Algorithm.{Algorithm}
use Rattle.algorithms.specs.GenericSet.{generic_set}
use Rattle.algorithms.specs.BreadthQueue.{breadth_queue}
use Rattle.algorithms.specs.LexBfsDigits.{lex_bfs_digits}
use Rattle.algorithms.specs.DepthStack.{depth_stack}
use Rattle.algorithms.specs.LexDfsDigits.{lex_dfs_digits}
use Rattle.algorithms.specs.MaximalNeighbourhood.{maximal_neighbourhood}
use Rattle.algorithms.specs.MaximumCardinality.{maximum_cardinality}

abbrev pub printed : Search → (ℕ → ℕ → Bool) → ℕ → Algorithm
printed generic arc n = generic_set arc n
printed bfs arc n = breadth_queue arc n
printed dfs arc n = depth_stack arc n
printed lex_bfs arc n = lex_bfs_digits arc n
printed lex_dfs arc n = lex_dfs_digits arc n
printed mns arc n = maximal_neighbourhood arc n
printed mcs arc n = maximum_cardinality arc n
