-- The tree that an ordering makes of a graph: each placed vertex hangs from its parent. Vertices are given by their positions.
--   parent arc w q        where the parent of the vertex at position q stands: the earliest-placed of the vertices placed before it that lead to
--                         it; q itself where there is none                                                              [02: K5]
--   is_root arc w q        the vertex at position q has no parent
--   ancestor arc w q m    where m steps to the parent lead from position q
--   depth arc w q         how many steps lead from position q to a vertex without a parent;   root arc w q   where that stands
--   path_down arc w q m    the vertex at position q and its m - 1 nearest ancestors, turned round: the given vertex comes last
--   tree_path arc w q      all of them, from the vertex without a parent to the one at position q                      [02: K5, the way]
use Rattle.std.specs.Prelude.{ℕ, zero, suc, Bool, List, [], ◌∷◌, eqb}
use Rattle.bitset.specs.Below.{first_below}
use Rattle.searches.specs.Ordering.{at}
use Rattle.searches.specs.Label.{label}

module _ (arc : ℕ → ℕ → Bool) (w : List ℕ) where
  unfoldable pub parent : ℕ → ℕ
  parent q = first_below q (label arc w (at w q))

  unfoldable pub is_root : ℕ → Bool
  is_root q = eqb (parent q) q

  unfoldable pub ancestor : ℕ → ℕ → ℕ
  ancestor q zero = q
  ancestor q (suc m) = parent (ancestor q m)

  -- a step leads to an earlier position, so there are at most q
  unfoldable pub depth : ℕ → ℕ
  depth q = first_below q (λ m. is_root (ancestor q m))

  abbrev pub root : ℕ → ℕ
  root q = ancestor q (depth q)

  unfoldable pub path_down : ℕ → ℕ → List ℕ
  path_down q zero = []
  path_down q (suc m) = at w (ancestor q m) ∷ path_down q m

  unfoldable pub tree_path : ℕ → List ℕ
  tree_path q = path_down q (suc (depth q))
