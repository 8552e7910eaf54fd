-- Algorithm 4 of document 001, depth-first search, on a stack, top first. The start vertex is in it (line 1). Each turn the vertex at its
-- top leaves it (3) and gets the next number (4); every unnumbered vertex to which it leads (5) is taken out of the stack if it is there
-- (6), and goes on its top (7). In which order line 5 takes them is left open. Restart: as in FrontFirst.
--   push stack u         lines 6 and 7
--   depth_stack arc n     the algorithm
use Rattle.std.specs.Prelude.{ℕ, Bool, not, List, ◌∷◌, eqb}
use Rattle.algorithms.specs.Lists.{keep}
use Rattle.algorithms.specs.Algorithm.{Algorithm}
use Rattle.algorithms.specs.FrontFirst.{front_first}

unfoldable pub push : List ℕ → ℕ → List ℕ
push stack u = u ∷ keep (λ x. not (eqb u x)) stack

abbrev pub depth_stack : (ℕ → ℕ → Bool) → ℕ → Algorithm
depth_stack arc n = front_first push arc n
