-- The 3-sun of document 001 (figure 2.1) run through the seven algorithms by computation: a triangle 2, 3, 5 with a vertex on each of its edges,
-- 1 on 2-3, 4 on 2-5 and 6 on 3-5. Written as there, from 1 on; the definitions count from 0.
--   rows                 the orderings that document 001 names in sections 2.1 to 2.6, and for each algorithm whether it produces them
--   rows_right           every entry of the table is right
--   after_1_2            which orderings that begin with 1, 2 are produced by algorithms 2, 3, 5, 6 and 7
--   how_many             how many of the orderings that begin with 1 each algorithm produces
--   two_pieces           beside it a graph in two pieces: the second is started when the first is done, and no earlier
--   labels_of_5_and_4    the labels that section 2.3 gives
--   queue_turn, stack_turn   a turn on the queue and on the stack
-- Assumes nothing.
use mathlib.Core.Path.{◌≡◌, refl}
use mathlib.Core.Bool.{Bool, true, false, cond, not, ◌&&◌, ◌||◌}
use mathlib.Core.List.{List, [], ◌∷◌, ◌++◌, map}
use Prim.Native.Nat.{ℕ, ◌-◌}
use lib.Dec.{T, eqb, T_not}
use lib.ListN.{length}
use Rattle.bitset.specs.Below.{any_below, all_below, count_below, within}
use Rattle.bitset.proofs.Tests.{and_out}
use Rattle.searches.specs.Kind.{Search, generic, bfs, dfs, lex_bfs, lex_dfs, mns, mcs}
use Rattle.searches.specs.Ordering.{placed}
use Rattle.searches.specs.Answer.{vertex_outside, repeated}
use Rattle.algorithms.specs.Lists.{among, keep, backward, each}
use Rattle.algorithms.specs.Algorithm.{awaits, Produced}
use Rattle.algorithms.specs.GenericSet.{added}
use Rattle.algorithms.specs.BreadthQueue.{enqueue}
use Rattle.algorithms.specs.DepthStack.{push}
use Rattle.algorithms.specs.Labelling.{first_labels, relabelled}
use Rattle.algorithms.specs.Digits.{lex_larger}
use Rattle.algorithms.specs.LexBfsDigits.{appended}
use Rattle.algorithms.specs.Printed.{printed}
use Rattle.algorithms.specs.Following.{follows, free, is_candidate, is_front, behind_front, is_largest, full_list, producible}
use Rattle.algorithms.proofs.Algorithms.{producible_produced}

-- ---- the graph

from_0 : List ℕ → List ℕ
from_0 w = map (λ v. v - 1) w

edges : List (ℕ × ℕ)
edges = (1, 2) ∷ (1, 3) ∷ (2, 3) ∷ (2, 4) ∷ (2, 5) ∷ (3, 5) ∷ (3, 6) ∷ (4, 5) ∷ (5, 6) ∷ []

joined : List (ℕ × ℕ) → ℕ → ℕ → Bool
joined [] u v = false
joined (e ∷ es) u v =
    let rest = joined es u v in
    let a = e.0 - 1 in
    let b = e.1 - 1 in
    (eqb u a && eqb v b) || (eqb v a && eqb u b) || rest

sun : ℕ → ℕ → Bool
sun = joined edges

-- ---- the orderings that are named

record Row : Type 0 where
  ordering : List ℕ
  -- by algorithms 1, 2, 4, 3, 5, 6, 7
  produced : List Bool

searches : List Search
searches = generic ∷ bfs ∷ dfs ∷ lex_bfs ∷ lex_dfs ∷ mns ∷ mcs ∷ []

rows : List Row
rows =
    -- 2.1: no search ordering; a search ordering that is neither BFS nor DFS
    record { ordering = 1 ∷ 6 ∷ 2 ∷ 3 ∷ 4 ∷ 5 ∷ []; produced = false ∷ false ∷ false ∷ false ∷ false ∷ false ∷ false ∷ [] }
    ∷ record { ordering = 1 ∷ 2 ∷ 4 ∷ 3 ∷ 5 ∷ 6 ∷ []; produced = true ∷ false ∷ false ∷ false ∷ false ∷ false ∷ false ∷ [] }
    -- 2.2 and 2.3: BFS, and not LexBFS; not BFS
    ∷ record { ordering = 1 ∷ 2 ∷ 3 ∷ 4 ∷ 5 ∷ 6 ∷ []; produced = true ∷ true ∷ false ∷ false ∷ false ∷ false ∷ false ∷ [] }
    ∷ record { ordering = 1 ∷ 2 ∷ 3 ∷ 6 ∷ 5 ∷ 4 ∷ []; produced = true ∷ false ∷ true ∷ false ∷ false ∷ false ∷ false ∷ [] }
    -- 2.3 and 2.5: LexBFS, so BFS; not LexDFS
    ∷ record { ordering = 1 ∷ 2 ∷ 3 ∷ 5 ∷ 4 ∷ 6 ∷ []; produced = true ∷ true ∷ true ∷ true ∷ false ∷ true ∷ true ∷ [] }
    -- 2.5: LexDFS, so DFS; DFS, and not LexDFS
    ∷ record { ordering = 1 ∷ 2 ∷ 3 ∷ 5 ∷ 6 ∷ 4 ∷ []; produced = true ∷ false ∷ true ∷ false ∷ true ∷ true ∷ true ∷ [] }
    ∷ record { ordering = 1 ∷ 2 ∷ 4 ∷ 5 ∷ 6 ∷ 3 ∷ []; produced = true ∷ false ∷ true ∷ false ∷ false ∷ false ∷ false ∷ [] }
    ∷ []

-- ---- the test, and what it says

expects : Bool → Bool → Bool
expects true b = b
expects false b = not b

abbrev Says : Bool → Type 0 → Type 0
Says true P = P
Says false P = P → ⊥

module _ (w : List ℕ) where
  answered : List Search → List Bool → Bool
  answered (s ∷ ss) (b ∷ bs) = let rest = answered ss bs in expects b (producible s sun 6 w) && rest
  answered [] [] = true
  answered [] (b ∷ bs) = false
  answered (s ∷ ss) [] = false

  abbrev Answered : List Search → List Bool → Type 0
  Answered (s ∷ ss) (b ∷ bs) = Says b (Produced (printed s sun 6) 6 w) × Answered ss bs
  Answered [] [] = Unit {0}
  Answered [] (b ∷ bs) = ⊥
  Answered (s ∷ ss) [] = ⊥

  expects_out : (s : Search) (b : Bool) → T (expects b (producible s sun 6 w)) → Says b (Produced (printed s sun 6) 6 w)
  unfolding expects
  expects_out s true t = (producible_produced sun 6 w s).0 t
  expects_out s false t = λ p. T_not (producible s sun 6 w) t ((producible_produced sun 6 w s).1 p)

  answered_out : (ss : List Search) (bs : List Bool) → T (answered ss bs) → Answered ss bs
  unfolding answered
  answered_out (s ∷ ss) (b ∷ bs) t =
      let both = and_out (expects b (producible s sun 6 w)) (answered ss bs) t in
      (expects_out s b both.0, answered_out ss bs both.1)
  answered_out [] [] t = tt
  answered_out [] (b ∷ bs) t = t
  answered_out (s ∷ ss) [] t = t

right : List Row → Bool
right [] = true
right (x ∷ xs) = answered (from_0 x.ordering) searches x.produced && right xs

abbrev Right : List Row → Type 0
Right [] = Unit {0}
Right (x ∷ xs) = Answered (from_0 x.ordering) searches x.produced × Right xs

right_out : (xs : List Row) → T (right xs) → Right xs
unfolding right
right_out [] t = tt
right_out (x ∷ xs) t =
    let both = and_out (answered (from_0 x.ordering) searches x.produced) (right xs) t in
    (answered_out (from_0 x.ordering) searches x.produced both.0, right_out xs both.1)

computed : T (right rows)
unfolding right answered expects rows searches from_0 sun joined edges
    producible full_list follows free is_candidate is_front behind_front is_largest any_below all_below count_below within placed vertex_outside repeated
    among keep backward each awaits added enqueue push first_labels relabelled lex_larger
computed = tt

rows_right : Right rows
rows_right = right_out rows computed

-- ---- all orderings

-- x put at each place of each list
put_anywhere : ℕ → List (List ℕ) → List (List ℕ)
put_anywhere x [] = []
put_anywhere x (w ∷ ws) = from [] w ++ put_anywhere x ws
  where
    from : List ℕ → List ℕ → List (List ℕ)
    from before [] = (before ++ x ∷ []) ∷ []
    from before (y ∷ ys) = (before ++ x ∷ y ∷ ys) ∷ from (before ++ y ∷ []) ys

in_every_order : List ℕ → List (List ℕ)
in_every_order [] = [] ∷ []
in_every_order (x ∷ xs) = put_anywhere x (in_every_order xs)

those : (List ℕ → Bool) → List (List ℕ) → List (List ℕ)
those f [] = []
those f (w ∷ ws) = let rest = those f ws in cond (f w) (w ∷ rest) rest

-- of the orderings that begin with 1, 2
after_1_2_by : Search → List (List ℕ)
after_1_2_by s = those (λ w. producible s sun 6 (from_0 w)) (map (λ w. 1 ∷ 2 ∷ w) (in_every_order (3 ∷ 4 ∷ 5 ∷ 6 ∷ [])))

-- 2.5: behind 1, 2 there is one way on for LexDFS; and so there is for LexBFS
after_1_2 : map after_1_2_by (bfs ∷ lex_bfs ∷ lex_dfs ∷ mns ∷ mcs ∷ [])
    ≡ ((1 ∷ 2 ∷ 3 ∷ 4 ∷ 5 ∷ 6 ∷ []) ∷ (1 ∷ 2 ∷ 3 ∷ 5 ∷ 4 ∷ 6 ∷ []) ∷ [])
    ∷ ((1 ∷ 2 ∷ 3 ∷ 5 ∷ 4 ∷ 6 ∷ []) ∷ [])
    ∷ ((1 ∷ 2 ∷ 3 ∷ 5 ∷ 6 ∷ 4 ∷ []) ∷ [])
    ∷ ((1 ∷ 2 ∷ 3 ∷ 5 ∷ 4 ∷ 6 ∷ []) ∷ (1 ∷ 2 ∷ 3 ∷ 5 ∷ 6 ∷ 4 ∷ []) ∷ [])
    ∷ ((1 ∷ 2 ∷ 3 ∷ 5 ∷ 4 ∷ 6 ∷ []) ∷ (1 ∷ 2 ∷ 3 ∷ 5 ∷ 6 ∷ 4 ∷ []) ∷ [])
    ∷ []
unfolding after_1_2_by those in_every_order put_anywhere from_0 sun joined edges
    producible full_list follows free is_candidate is_front behind_front is_largest any_below all_below count_below within placed vertex_outside repeated
    among keep backward each awaits added enqueue push first_labels relabelled lex_larger
after_1_2 = refl

-- how many of the 120 orderings that begin with 1 each algorithm produces: 1, 2, 4, 3, 5, 6, 7
how_many : map (λ s. length (those (λ w. producible s sun 6 (from_0 w)) (map (λ w. 1 ∷ w) (in_every_order (2 ∷ 3 ∷ 4 ∷ 5 ∷ 6 ∷ []))))) searches
    ≡ 32 ∷ 4 ∷ 18 ∷ 2 ∷ 2 ∷ 4 ∷ 4 ∷ []
unfolding searches those in_every_order put_anywhere from_0 sun joined edges
    producible full_list follows free is_candidate is_front behind_front is_largest any_below all_below count_below within placed vertex_outside repeated
    among keep backward each awaits added enqueue push first_labels relabelled lex_larger
how_many = refl

-- ---- a graph in two pieces

-- three vertices, 1 and 2 joined: 3 comes before both or behind both, never between them
two_pieces : map (λ s. map (λ w. producible s (joined ((1, 2) ∷ [])) 3 (from_0 w)) ((1 ∷ 2 ∷ 3 ∷ []) ∷ (3 ∷ 1 ∷ 2 ∷ []) ∷ (1 ∷ 3 ∷ 2 ∷ []) ∷ [])) searches
    ≡ map (λ s. true ∷ true ∷ false ∷ []) searches
unfolding searches from_0 joined
    producible full_list follows free is_candidate is_front behind_front is_largest any_below all_below count_below within placed vertex_outside repeated
    among keep backward each awaits added enqueue push first_labels relabelled lex_larger
two_pieces = refl

-- ---- the data on the way

-- 2.3: with 1, 2, 3 numbered, vertex 5 has the label 4, 3 and vertex 4 the label 4
digits_after : List ℕ → List ℕ → (ℕ → List ℕ) → ℕ → List ℕ
digits_after w [] d = d
digits_after w (v ∷ vs) d = digits_after (w ++ v ∷ []) vs (relabelled (appended 6) sun w v d)

labels_of_5_and_4 : map (digits_after [] (from_0 (1 ∷ 2 ∷ 3 ∷ [])) (first_labels (appended 6) 0)) (from_0 (5 ∷ 4 ∷ [])) ≡ (4 ∷ 3 ∷ []) ∷ (4 ∷ []) ∷ []
unfolding digits_after from_0 sun joined edges first_labels relabelled awaits placed any_below
labels_of_5_and_4 = refl

-- 3 is numbered next: a queue 4, 5 gets 6 behind it; on a stack 4, 5 the vertex 5 moves to the top, under it 6
queue_turn : each enqueue (4 ∷ 5 ∷ []) (5 ∷ 6 ∷ []) ≡ 4 ∷ 5 ∷ 6 ∷ []
unfolding each enqueue among
queue_turn = refl

stack_turn : each push (4 ∷ 5 ∷ []) (5 ∷ 6 ∷ []) ≡ 5 ∷ 6 ∷ 4 ∷ []
unfolding each push keep
stack_turn = refl
