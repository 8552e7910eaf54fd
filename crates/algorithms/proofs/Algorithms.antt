-- Each of the seven algorithms produces exactly the runs of its search, for any relation `arc` and any n, so for graphs in one piece and in
-- several. An ordering is produced when some start vertex and some choices, wherever the algorithm leaves one open, number the vertices so.
-- The work is done in the modules that the proofs cite.
-- Assumes nothing.
use mathlib.Core.Path.{◌≡◌, refl}
use mathlib.Core.Logic.{◌↔◌}
use mathlib.Core.Bool.{Bool}
use mathlib.Core.List.{List, []}
use Prim.Native.Nat.{ℕ, suc}
use lib.Dec.{T}
use Rattle.bitset.proofs.Tests.{and_in, and_out}
use Rattle.searches.specs.Kind.{Search, generic, bfs, dfs, lex_bfs, lex_dfs, mns, mcs}
use Rattle.searches.specs.Ordering.{at, IsFullOrdering}
use Rattle.searches.specs.Run.{Run}
use Rattle.searches.specs.Violation.{Violates, passes, judge}
use Rattle.searches.proofs.Passing.{passes_run, begins_passes}
use Rattle.searches.proofs.Judge.{passes_unviolated, unviolated_passes}
use Rattle.algorithms.specs.Algorithm.{Produced}
use Rattle.algorithms.specs.GenericSet.{generic_set}
use Rattle.algorithms.specs.BreadthQueue.{enqueue, breadth_queue}
use Rattle.algorithms.specs.LexBfsDigits.{appended, lex_bfs_digits}
use Rattle.algorithms.specs.DepthStack.{push, depth_stack}
use Rattle.algorithms.specs.LexDfsDigits.{prepended, lex_dfs_digits}
use Rattle.algorithms.specs.MaximalNeighbourhood.{neighbour_sets, maximal_neighbourhood}
use Rattle.algorithms.specs.MaximumCardinality.{counted_sets, maximum_cardinality}
use Rattle.algorithms.specs.Printed.{printed}
use Rattle.algorithms.specs.Following.{follows, follower, full_list, producible}
use Rattle.algorithms.specs.Lists.{backward, Pairwise}
use Rattle.algorithms.proofs.GenericSet.{set_agrees}
use Rattle.algorithms.proofs.FrontFirst.{front_agrees}
use Rattle.algorithms.proofs.BreadthQueue.{LastFirst, enqueue_adding}
use Rattle.algorithms.proofs.DepthStack.{push_adding}
use Rattle.algorithms.proofs.Labelling.{labelling_agrees}
use Rattle.algorithms.proofs.DigitLabels.{Spells, from_n, appended_reading, prepended_reading}
use Rattle.algorithms.proofs.NeighbourSets.{Numbers, neighbour_reading, counted_reading}
use Rattle.algorithms.proofs.Lift.{run_full, Agrees, agrees_runs, agrees_follows}
use Rattle.algorithms.proofs.Lists.{full_list_in, full_list_out}

module _ (arc : ℕ → ℕ → Bool) (n : ℕ) where
  agrees : (s : Search) → Agrees s arc n (printed s arc n) (follower arc n s)
  agrees generic = set_agrees arc n
  agrees bfs = front_agrees bfs enqueue backward LastFirst enqueue_adding arc n
  agrees dfs = front_agrees dfs push (λ xs. xs) Pairwise push_adding arc n
  agrees lex_bfs = labelling_agrees lex_bfs arc n (appended n) (Spells (from_n n)) (appended_reading n)
  agrees lex_dfs = labelling_agrees lex_dfs arc n prepended (Spells suc) (prepended_reading n)
  agrees mns = labelling_agrees mns arc n (neighbour_sets n) Numbers (neighbour_reading n)
  agrees mcs = labelling_agrees mcs arc n (counted_sets n) Numbers (counted_reading n)

  module _ (w : List ℕ) where
    -- the algorithm printed for a search produces an ordering exactly when it is a run of that search
    pub produced_runs : (s : Search) → Produced (printed s arc n) n w ↔ Run s arc n w
    produced_runs s = agrees_runs (agrees s) w

    -- algorithm 1, generic search, on a set
    pub generic_set_lem : Produced (generic_set arc n) n w ↔ Run generic arc n w
    generic_set_lem = produced_runs generic

    -- algorithm 2, BFS, on a queue
    pub breadth_queue_lem : Produced (breadth_queue arc n) n w ↔ Run bfs arc n w
    breadth_queue_lem = produced_runs bfs

    -- algorithm 3, LexBFS, on digits n - i appended
    pub lex_bfs-digits : Produced (lex_bfs_digits arc n) n w ↔ Run lex_bfs arc n w
    lex_bfs-digits = produced_runs lex_bfs

    -- algorithm 4, DFS, on a stack
    pub depth_stack_lem : Produced (depth_stack arc n) n w ↔ Run dfs arc n w
    depth_stack_lem = produced_runs dfs

    -- algorithm 5, LexDFS, on digits i prepended
    pub lex_dfs-digits : Produced (lex_dfs_digits arc n) n w ↔ Run lex_dfs arc n w
    lex_dfs-digits = produced_runs lex_dfs

    -- algorithm 6, MNS, on sets of numbered neighbours
    pub maximal_neighbourhood_lem : Produced (maximal_neighbourhood arc n) n w ↔ Run mns arc n w
    maximal_neighbourhood_lem = produced_runs mns

    -- algorithm 7, MCS, on the same sets, by how many numbers they hold
    pub maximum_cardinality_lem : Produced (maximum_cardinality arc n) n w ↔ Run mcs arc n w
    maximum_cardinality_lem = produced_runs mcs

    module _ (s : Search) where
      -- what is produced has each vertex once,
      pub produced_full : Produced (printed s arc n) n w → IsFullOrdering n w
      produced_full p = run_full s arc n ((produced_runs s).0 p)

      -- an ordering of all vertices is produced exactly when judge passes it,
      pub produced_passes : IsFullOrdering n w → Produced (printed s arc n) n w ↔ (judge s arc n w n ≡ passes)
      produced_passes full = (
        λ p. begins_passes s arc n w n full.ordering.long (record { run = w; is = (produced_runs s).0 p; begins = refl }),
        λ p. (produced_runs s).1 (passes_run s arc n w full p),
      )

      -- and exactly when no three vertices stand in the fault relation: theorems 2.1, 2.2, 2.4, 2.5, 2.7 and 2.8 of document 001, and the same of MCS
      pub produced_unfaulted : IsFullOrdering n w → Produced (printed s arc n) n w ↔ ((i j c : ℕ) → Violates s arc n w n i j c → ⊥)
      produced_unfaulted full = (
        λ p. passes_unviolated s arc n w n full.ordering ((produced_passes full).0 p),
        λ none. (produced_passes full).1 (unviolated_passes s arc n w n full.ordering none),
      )

      -- a list is produced exactly when it has each vertex once and the algorithm can be followed along it, which computes
      pub producible_produced : T (producible s arc n w) ↔ Produced (printed s arc n) n w
      unfolding producible
      producible_produced = (
        λ t. let both = and_out (full_list n w) along t in (agrees_follows (agrees s) w (full_list_out n w both.0)).0 both.1,
        λ p. let full = produced_full p in and_in (full_list n w) along (full_list_in n w full) ((agrees_follows (agrees s) w full).1 p),
      )
        where
          along : Bool
          along = follows (printed s arc n) (follower arc n s) w [] ((printed s arc n).start (at w 0)) w
