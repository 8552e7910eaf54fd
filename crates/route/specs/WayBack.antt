-- The shortest way back from a vertex of a BFS ordering, turned round: what is refused, and the answer and the output list for every input.
--   position_of w v                  the position at which v stands in w; the length of w where it stands nowhere
--   way_to arc w v                   the way: the vertices from the one without a parent to v                         [02: K5]
--   ShortestWay arc n w v x         x is a way over links to v, a shortest one from its first point, which has no parent  [02: K5, proved]
--   tests_after_bfs n w v room passing   what is refused after judge's tests: numbers and tests in 02's order; the output list has room bytes
--   way_tests mark rows w v room     all tests: judge's own for BFS, then these
--   Traceable mark rows w v room    what is not refused, condition by condition
--   Way                             points m: so many are written; refused r: the refusal with number r
--   way_answer mark rows w v out     what is answered                                                                [02: K5]
--   way_output mark rows w v out     what the output list then holds
--   way_of                           an answer of the code as 02's number and value
use Rattle.std.specs.Prelude.{ℕ, ◌≤◌, ◌<◌, ◌≡◌, Bool, not, List, [], ◌∷◌, ◌++◌, T, ltb, eqb, length, drop, Result, Ok, Err}
use Rattle.std.proofs.Math.Option.{none, some}
use Rattle.bitset.specs.Below.{first_below}
use Rattle.searches.specs.Kind.{bfs, kind_of}
use Rattle.searches.specs.Ordering.{arcs, at, placed, IsOrdering}
use Rattle.searches.specs.Violation.{passes, judge}
use Rattle.searches.specs.Answer.{is_pass, judge_tests, first_refusal, Accepts, number}
use Rattle.searches.specs.declared.Refusal.{Refusal}
use Rattle.searches.specs.declared.Mark.{Mark}
use Rattle.route.specs.Tree.{tree_path}
use Rattle.route.specs.Path.{arc_count, IsPath}

unfoldable pub position_of : List ℕ → ℕ → ℕ
position_of w v = first_below (length w) (λ p. eqb (at w p) v)

unfoldable pub way_to : (ℕ → ℕ → Bool) → List ℕ → ℕ → List ℕ
way_to arc w v = tree_path arc w (position_of w v)

pub record ShortestWay (arc : ℕ → ℕ → Bool) (n : ℕ) (w : List ℕ) (v : ℕ) (x : List ℕ) : Type 0 where
  -- a way over links, in their direction, to v
  pub path : IsPath arc n (at x 0) v x
  -- of distinct points
  pub distinct : IsOrdering n x (length x)
  -- from a point to which none of those placed before it leads
  pub parentless : (p : ℕ) → p < position_of w (at x 0) → T (arc (at w p) (at x 0)) → ⊥
  -- its points are in the order in which they were walked
  pub in_order : (i j : ℕ) → i < j → j < length x → position_of w (at x i) < position_of w (at x j)
  -- and no way over links from its first point to v, through any points of the plan, has fewer links
  pub none_shorter : (y : List ℕ) → IsPath arc n (at x 0) v y → arc_count x ≤ arc_count y

unfoldable pub tests_after_bfs : ℕ → List ℕ → ℕ → ℕ → Bool → List (ℕ × Bool)
tests_after_bfs n w v room passing =
    (21, not passing)
    ∷ (22, not (placed w (length w) v))
    ∷ (10, ltb room n)
    ∷ []

unfoldable pub way_tests : Mark → List ℕ → List ℕ → ℕ → ℕ → List (ℕ × Bool)
way_tests mark rows w v room =
    judge_tests (kind_of bfs) mark rows w
    ++ tests_after_bfs (length rows) w v room (is_pass (judge bfs (arcs rows) (length rows) w (length w)))

pub record Traceable (mark : Mark) (rows w : List ℕ) (v room : ℕ) : Type 0 where
  -- judge refuses nothing
  pub judged : Accepts (judge_tests (kind_of bfs) mark rows w)
  -- the walk passes BFS
  pub passing : judge bfs (arcs rows) (length rows) w (length w) ≡ passes
  -- the point is in the walk
  pub stands : T (placed w (length w) v)
  -- the output list has n bytes or more
  pub long : length rows ≤ room

pub data Way : Type 0 where
  points : ℕ → Way
  refused : ℕ → Way

module _ (mark : Mark) (rows w : List ℕ) (v : ℕ) (out : List ℕ) where
  unfoldable pub way_answer : Way
  way_answer =
      elim (first_refusal (way_tests mark rows w v (length out))) [
        | none ↦ points (length (way_to (arcs rows) w v))
        | some r ↦ refused r
      ]

  -- on success the way, and behind it the bytes that stood there; on refusal what it was
  unfoldable pub way_output : List ℕ
  way_output =
      elim (first_refusal (way_tests mark rows w v (length out))) [
        | none ↦ way_to (arcs rows) w v ++ drop (length (way_to (arcs rows) w v)) out
        | some r ↦ out
      ]

unfoldable pub way_of : Result ℕ Refusal → Way
way_of (Ok m) = points m
way_of (Err r) = refused (number r)
