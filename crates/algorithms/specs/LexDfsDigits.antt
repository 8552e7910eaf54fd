-- Algorithm 5 of document 001, lexicographic depth-first search. As algorithm 3, but the start vertex begins with the one digit 0 (line 2),
-- and the vertex that gets number i puts the digit i in front of the labels of the unnumbered vertices to which it leads (6, 7).
-- Restart: as in Labelling, no rule is needed, since the empty list is the smallest.
--   prepended            its labels
--   lex_dfs_digits arc n   the algorithm
use Rattle.std.specs.Prelude.{ℕ, Bool, ◌∷◌}
use Rattle.algorithms.specs.Algorithm.{Algorithm}
use Rattle.algorithms.specs.Labelling.{Labels, labelling}
use Rattle.algorithms.specs.Digits.{digit_labels}

abbrev pub prepended : Labels
prepended = digit_labels 0 (λ i digits. i ∷ digits)

abbrev pub lex_dfs_digits : (ℕ → ℕ → Bool) → ℕ → Algorithm
lex_dfs_digits arc n = labelling prepended arc n
