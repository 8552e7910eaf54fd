-- What is kept of the vertices: a label each, a row of positions in a table of eight words a row, and beside it the running values and a weight.
--   smallest_kept x, largest_kept x   how a running value is kept: the smallest position as it is, 512 where there is none; one more than the largest, 0
--                                 where there is none                                                          [02, K3: smallest, largest place]
--   weight_in s k f                one number of a label f of positions below k: in Generic, BFS, DFS and MCS the greater one is ahead; in MNS only a greater
--                                 one can be
--   by_weight s                    the search compares weights alone: Generic, BFS, DFS, MCS
--   Weighed s labels weights      what is kept as the weight of each label is its weight
--   Stored s labels smallest largest weights   so are the running values those of the labels
--   beats_in s labels free v u     u is in `free` and its label is ahead of v's
--   beaten_in s labels free v      some vertex is so
--   open_in s labels free v        v is in `free` and not beaten
--   chosen_in s labels free t      of the open vertices, the one that stands last in t
--   Covers labels free reached    every vertex of `free` whose label is not empty is in `reached`, and no other of `free`
--   Bare labels free              only vertices of `free` have a label that is not empty
--   IsMost weights x              x is the greatest weight
--   Cleared v before after        the label of v is empty then, and those of the others are as they were
--   Tallied mark table placed labels v p   the ones in row AND placed mask are as many as the positions in v's label, once p is put in; on two-way graphs
--   Raisable s mark table placed labels smallest largest weights v p   what putting p into the label of v asks for
--   Raised p f before after       the label of each vertex in f has p and what it had, that of each other vertex what it had
--   Placed table v p ...          what placing v at position p changes in labels and sets
use Rattle.std.specs.Prelude.{ℕ, suc, ◌+◌, ◌*◌, ◌-◌, ◌≤◌, ◌<◌, ◌≡◌, Bool, true, false, cond, not, ◌&&◌, ◌||◌, List, T, eqb, length, get_or}
use Rattle.std.proofs.Math.Option.{Option, none, some}
use Rattle.bitset.specs.Below.{any_below, last_below, count_below}
use Rattle.searches.specs.Kind.{Search, generic, bfs, dfs, lex_bfs, lex_dfs, mns, mcs}
use Rattle.searches.specs.Ordering.{at}
use Rattle.searches.specs.Table.{arcs_wide}
use Rattle.searches.specs.Label.{empty, outranks}
use Rattle.searches.specs.Running.{smallest_in, largest_in}
use Rattle.searches.specs.Answer.{is_two_way}
use Rattle.searches.specs.declared.Mark.{Mark}
use Rattle.tables.specs.Rows.{in_set, row_of, with_bit, without_bit}

unfoldable pub smallest_kept : Option ℕ → ℕ
smallest_kept none = 512
smallest_kept (some p) = p

unfoldable pub largest_kept : Option ℕ → ℕ
largest_kept none = 0
largest_kept (some p) = suc p

unfoldable pub weight_in : Search → ℕ → (ℕ → Bool) → ℕ
weight_in generic k f = cond (empty k f) 0 1
weight_in bfs k f = 512 - smallest_kept (smallest_in k f)
weight_in dfs k f = largest_kept (largest_in k f)
weight_in lex_bfs k f = 0
weight_in lex_dfs k f = 0
weight_in mns k f = count_below k f
weight_in mcs k f = count_below k f

unfoldable pub by_weight : Search → Bool
by_weight generic = true
by_weight bfs = true
by_weight dfs = true
by_weight lex_bfs = false
by_weight lex_dfs = false
by_weight mns = false
by_weight mcs = true

pub record Weighed (s : Search) (labels weights : List ℕ) : Type 0 where
  pub size : length weights ≡ 512
  pub room : length labels ≡ 4096
  pub is : (v : ℕ) → v < 512 → get_or weights v 0 ≡ weight_in s 512 (row_of labels v)

pub record Stored (s : Search) (labels smallest largest weights : List ℕ) : Type 0 where
  pub weighed : Weighed s labels weights
  pub sizes : (length smallest ≡ 512) × (length largest ≡ 512)
  pub keeps_smallest : (v : ℕ) → v < 512 → get_or smallest v 0 ≡ smallest_kept (smallest_in 512 (row_of labels v))
  pub keeps_largest : (v : ℕ) → v < 512 → get_or largest v 0 ≡ largest_kept (largest_in 512 (row_of labels v))

module _ (s : Search) (labels : List ℕ) (free : List ℕ) where
  unfoldable pub beats_in : ℕ → ℕ → Bool
  beats_in v u = in_set free u && outranks s 512 (row_of labels u) (row_of labels v)

  unfoldable pub beaten_in : ℕ → Bool
  beaten_in v = any_below 512 (beats_in v)

  unfoldable pub open_in : ℕ → Bool
  open_in v = in_set free v && not (beaten_in v)

  unfoldable pub chosen_in : List ℕ → ℕ
  chosen_in t = at t (last_below (length t) (λ q. open_in (at t q)))

abbrev pub Covers : List ℕ → List ℕ → List ℕ → Type 0
Covers labels free reached = (v : ℕ) → v < 512 → T (in_set free v) → in_set reached v ≡ any_below 512 (row_of labels v)

abbrev pub Bare : List ℕ → List ℕ → Type 0
Bare labels free = (v p : ℕ) → v < 512 → T (row_of labels v p) → T (in_set free v)

pub record IsMost (weights : List ℕ) (x : ℕ) : Type 0 where
  pub most : (v : ℕ) → v < 512 → get_or weights v 0 ≤ x
  pub found : (v : ℕ) × (v < 512) × (get_or weights v 0 ≡ x)

pub record Cleared (v : ℕ) (before after : List ℕ) : Type 0 where
  pub label : (u q : ℕ) → u < 512 → row_of after u q ≡ (not (eqb v u) && row_of before u q)

abbrev pub Tallied : Mark → List ℕ → List ℕ → List ℕ → ℕ → ℕ → Type 0
Tallied mark table placed labels v p =
    T (is_two_way mark) → count_below 512 (λ u. arcs_wide 8 table v u && in_set placed u) ≡ count_below 512 (row_of (with_bit labels v p) v)

-- the positions are put in ascending order
pub record Raisable (s : Search) (mark : Mark) (table placed labels smallest largest weights : List ℕ) (v p : ℕ) : Type 0 where
  pub place : p < 512
  pub inside : 8 * v + 8 ≤ length table
  pub vertex : v < 512
  pub stored : Stored s labels smallest largest weights
  pub earlier : (q : ℕ) → T (row_of labels v q) → q < p
  pub tallied : Tallied mark table placed labels v p

pub record Raised (p : ℕ) (f : ℕ → Bool) (before after : List ℕ) : Type 0 where
  pub label : (v q : ℕ) → v < 512 → row_of after v q ≡ (row_of before v q || (eqb q p && f v))

pub record Placed (table : List ℕ) (v p : ℕ) (labels placed free reached labels' placed' free' reached' : List ℕ) : Type 0 where
  pub placed_then : placed' ≡ with_bit placed 0 v
  pub free_then : free' ≡ without_bit free 0 v
  pub sizes : (length placed' ≡ 8) × (length free' ≡ 8) × (length reached' ≡ 8)
  pub reached_then : (u : ℕ) → u < 512 → in_set reached' u ≡ (in_set reached u || arcs_wide 8 table v u)
  -- the label of v is cleared first
  pub label : (u q : ℕ) → u < 512 → row_of labels' u q ≡ ((not (eqb v u) && row_of labels u q) || (eqb q p && (arcs_wide 8 table v u && in_set free' u)))
