-- Algorithm 2 of document 001, breadth-first search, on a queue, beginning first. The start vertex is in it (line 1). Each turn the vertex at
-- its beginning leaves it (3) and gets the next number (4); every unnumbered vertex to which it leads (5) that is not in the queue
-- already (6) goes to its end (7). In which order line 5 takes them is left open. Restart: as in FrontFirst.
--   enqueue queue u        lines 6 and 7
--   breadth_queue arc n     the algorithm
use Rattle.std.specs.Prelude.{ℕ, Bool, cond, List, [], ◌∷◌, ◌++◌}
use Rattle.algorithms.specs.Lists.{among}
use Rattle.algorithms.specs.Algorithm.{Algorithm}
use Rattle.algorithms.specs.FrontFirst.{front_first}

unfoldable pub enqueue : List ℕ → ℕ → List ℕ
enqueue queue u = cond (among queue u) queue (queue ++ u ∷ [])

abbrev pub breadth_queue : (ℕ → ℕ → Bool) → ℕ → Algorithm
breadth_queue arc n = front_first enqueue arc n
