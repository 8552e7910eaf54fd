-- An algorithm followed along an ordering r, by computation: each turn the next vertex of r has to be one that may be picked, and where the
-- order of line 5 is open, it is chosen as r has these vertices.
--   Follower a                  may v be picked, and what is the data then
--   follows a f r w d vs        with w numbered and data d, the vertices vs may be picked one after the other
--   free n w v                  v is an unnumbered vertex
--   is_candidate, is_front, is_largest   v may be picked: of the set, of the list, by its label
--   behind_front xs              xs without its front
--   set_follower, front_follower, label_follower   of algorithm 1, of 2 and 4, of 3, 5, 6 and 7
--   follower s arc n            of the algorithm that is printed for s
--   full_list n r                r has each vertex once
--   producible s arc n r        r has each vertex once, and the algorithm printed for s can be followed along it
use Rattle.std.specs.Prelude.{ℕ, Bool, true, not, ◌&&◌, ◌||◌, List, [], ◌∷◌, ◌++◌, ltb, eqb, length}
use Rattle.bitset.specs.Below.{any_below}
use Rattle.searches.specs.Kind.{Search, generic, bfs, dfs, lex_bfs, lex_dfs, mns, mcs}
use Rattle.searches.specs.Ordering.{at}
use Rattle.searches.specs.Answer.{vertex_outside, repeated}
use Rattle.algorithms.specs.Lists.{keep, each, backward}
use Rattle.algorithms.specs.Algorithm.{Algorithm, numbered, awaits}
use Rattle.algorithms.specs.GenericSet.{added, generic_set}
use Rattle.algorithms.specs.FrontFirst.{front_first}
use Rattle.algorithms.specs.BreadthQueue.{enqueue}
use Rattle.algorithms.specs.DepthStack.{push}
use Rattle.algorithms.specs.Labelling.{Labels, relabelled, labelling}
use Rattle.algorithms.specs.LexBfsDigits.{appended}
use Rattle.algorithms.specs.LexDfsDigits.{prepended}
use Rattle.algorithms.specs.MaximalNeighbourhood.{neighbour_sets}
use Rattle.algorithms.specs.MaximumCardinality.{counted_sets}
use Rattle.algorithms.specs.Printed.{printed}

pub record Follower (a : Algorithm) : Type 0 where
  pub allowed : List ℕ → a.Data → ℕ → Bool
  pub after : List ℕ → List ℕ → a.Data → ℕ → a.Data

module _ (a : Algorithm) (f : Follower a) (r : List ℕ) where
  unfoldable pub follows : List ℕ → a.Data → List ℕ → Bool
  follows w d [] = true
  follows w d (v ∷ vs) = f.allowed w d v && follows (w ++ v ∷ []) (f.after r w d v) vs

unfoldable pub free : ℕ → List ℕ → ℕ → Bool
free n w v = ltb v n && not (numbered w v)

-- at the front, or the list is empty
unfoldable pub is_front : ℕ → List ℕ → List ℕ → ℕ → Bool
is_front n w [] v = free n w v
is_front n w (x ∷ xs) v = eqb x v

unfoldable pub behind_front : List ℕ → List ℕ
behind_front [] = []
behind_front (x ∷ xs) = xs

-- in the set, or the set has no unnumbered vertex
unfoldable pub is_candidate : ℕ → List ℕ → (ℕ → Bool) → ℕ → Bool
is_candidate n w set v = free n w v && (set v || not (any_below n (λ u. set u && not (numbered w u))))

unfoldable pub is_largest : (ls : Labels) → ℕ → List ℕ → (ℕ → ls.Label) → ℕ → Bool
is_largest ls n w d v = free n w v && not (any_below n (λ u. not (numbered w u) && ls.larger (d u) (d v)))

module _ (arc : ℕ → ℕ → Bool) (n : ℕ) where
  abbrev pub set_follower : Follower (generic_set arc n)
  set_follower = record { allowed = is_candidate n; after = λ r. added arc }

  -- line: from the order of r to the order in which line 5 has to take the vertices
  abbrev pub front_follower : (add : List ℕ → ℕ → List ℕ) → (List ℕ → List ℕ) → Follower (front_first add arc n)
  front_follower add line = record { allowed = is_front n; after = λ r w xs v. each add (behind_front xs) (line (keep (awaits arc w v) r)) }

  abbrev pub label_follower : (ls : Labels) → Follower (labelling ls arc n)
  label_follower ls = record { allowed = is_largest ls n; after = λ r w d v. relabelled ls arc w v d }

  abbrev pub follower : (s : Search) → Follower (printed s arc n)
  follower generic = set_follower
  follower bfs = front_follower enqueue backward
  follower dfs = front_follower push (λ xs. xs)
  follower lex_bfs = label_follower (appended n)
  follower lex_dfs = label_follower prepended
  follower mns = label_follower (neighbour_sets n)
  follower mcs = label_follower (counted_sets n)

unfoldable pub full_list : ℕ → List ℕ → Bool
full_list n r = eqb (length r) n && (not (vertex_outside n r n) && not (repeated r n))

unfoldable pub producible : Search → (ℕ → ℕ → Bool) → ℕ → List ℕ → Bool
producible s arc n r = full_list n r && follows (printed s arc n) (follower arc n s) r [] ((printed s arc n).start (at r 0)) r
