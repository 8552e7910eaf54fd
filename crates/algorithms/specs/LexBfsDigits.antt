-- Algorithm 3 of document 001, lexicographic breadth-first search. A label is a list of digits. Every vertex begins with the empty list
-- (line 1), the start vertex with the one digit n + 1 (2). Picked is an unnumbered vertex with lexicographically largest label (4); the
-- vertex that gets number i puts the digit n - i at the end of the labels of the unnumbered vertices to which it leads (6, 7).
-- Restart: as in Labelling, no rule is needed, since the empty list is the smallest.
--   digit_of n i          the digit that the vertex with number i puts
--   appended n           its labels
--   lex_bfs_digits arc n   the algorithm
use Rattle.std.specs.Prelude.{ℕ, suc, ◌-◌, Bool, [], ◌∷◌, ◌++◌}
use Rattle.algorithms.specs.Algorithm.{Algorithm}
use Rattle.algorithms.specs.Labelling.{Labels, labelling}
use Rattle.algorithms.specs.Digits.{digit_labels}

abbrev pub digit_of : ℕ → ℕ → ℕ
digit_of n i = n - i

abbrev pub appended : ℕ → Labels
appended n = digit_labels (suc n) (λ i digits. digits ++ digit_of n i ∷ [])

abbrev pub lex_bfs_digits : (ℕ → ℕ → Bool) → ℕ → Algorithm
lex_bfs_digits arc n = labelling (appended n) arc n
