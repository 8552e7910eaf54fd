-- What 02 asks of the way back, over the definitions that the promise of `way_back` cites. Each theorem's comment says which sentence it is; the work
-- is done in the modules that the proofs cite. First for any graph, that is any relation `arc` on the vertices below n; then as the call answers.
-- That plan and walk are not altered: they are passed as `&`. That the call ends is part of its proof.
-- Assumes nothing.
use mathlib.Core.Path.{◌≡◌, refl, sym, ap, ◌∙◌, subst}
use mathlib.Core.Logic.Iff
use mathlib.Core.Logic.{◌↔◌}
use mathlib.Core.Bool.{Bool}
use mathlib.Core.List.{List, [], ◌∷◌, ◌++◌, map}
use Prim.Native.Nat.{ℕ, ◌≤◌, ◌<◌}
use native.Mathlib.Omega.{arith}
use lib.Dec.{T}
use lib.ListN.{length, take, drop}
use lib.Seq.{take_at, drop_at}
use Rattle.searches.specs.Kind.{bfs, kind_of}
use Rattle.searches.specs.Ordering.{arcs, at, placed, IsOrdering}
use Rattle.searches.specs.Violation.{passes, Fails, judge}
use Rattle.searches.specs.declared.Mark.{Mark}
use Rattle.searches.specs.Answer.{BothWays, open_tests, judge_tests, first_refusal, Refuses, judge_answer}
use Rattle.searches.proofs.Refusals.{refuses_first, accepts_none}
use Rattle.searches.proofs.Marks.{judge_tests_lem}
use Rattle.route.specs.Tree.{parent, is_root}
use Rattle.route.specs.WayBack.{position_of, way_to, ShortestWay, tests_after_bfs, way_tests, Traceable, points, refused, way_answer, way_output}
use Rattle.route.proofs.Tree as tree
use Rattle.route.proofs.Ways as ways
use Rattle.route.proofs.Tracing as tracing
use Rattle.route.proofs.Stated as stated

-- ---- for any graph

module _ (arc : ℕ → ℕ → Bool) (w : List ℕ) where
  -- the parent is placed before the point, leads to it, and is the earliest such,
  pub parent_earliest : (q : ℕ) → parent arc w q < q → T (arc (at w (parent arc w q)) (at w q)) × ((p : ℕ) → T (arc (at w p) (at w q)) → parent arc w q ≤ p)
  parent_earliest q l = (tree.parent_leads arc w q l, λ p. tree.parent_earliest arc w p q)

  -- and there is none exactly where none of the points placed before leads to it
  pub parent_none : (q : ℕ) → T (is_root arc w q) ↔ ((p : ℕ) → p < q → T (arc (at w p) (at w q)) → ⊥)
  parent_none q = (tree.root_unled arc w q, tree.unled_root arc w q)

-- of a walk of distinct points that passes BFS, broken off or not, and a point of it: from a point without a parent a way over links goes to the given
-- one, over distinct points in the order in which they were walked, and no way over links from that first point, through any points, has fewer links
pub shortest_way : (arc : ℕ → ℕ → Bool) (n : ℕ) (w : List ℕ) (v : ℕ) → IsOrdering n w (length w) → judge bfs arc n w (length w) ≡ passes
    → T (placed w (length w) v) → ShortestWay arc n w v (way_to arc w v)
shortest_way arc n w v o passing stands = ways.shortest_way arc w v stands n o passing

-- ---- as the call answers

module _ (mark : Mark) (rows w : List ℕ) (v : ℕ) (out : List ℕ) where
  -- ---- refusals

  -- judge's own checks, then 21, 22 and 10, in this order
  pub way_order : map (λ (test : ℕ × Bool). test.0) (way_tests mark rows w v (length out)) ≡ 1 ∷ 2 ∷ 3 ∷ 4 ∷ 5 ∷ 6 ∷ 8 ∷ 9 ∷ 21 ∷ 22 ∷ 10 ∷ []
  unfolding open_tests judge_tests tests_after_bfs way_tests
  way_order = refl

  -- each refusal in its stated case and no other: the answer is refusal r exactly when r's test holds and no earlier one does
  pub way_refuses : (r : ℕ) → (way_answer mark rows w v out ≡ refused r) ↔ Refuses r (way_tests mark rows w v (length out))
  way_refuses r = (
    tracing.refused_way mark rows w v out r,
    λ x. sym (tracing.way_refused mark rows w v out r (sym (refuses_first (way_tests mark rows w v (length out)) r x))).0,
  )

  -- what judge refuses for BFS is refused, with its number,
  pub refused_by_judge : (r : ℕ) → r < 10 → (way_answer mark rows w v out ≡ refused r) ↔ Refuses r (judge_tests (kind_of bfs) mark rows w)
  refused_by_judge r l = Iff.trans (way_refuses r) (stated.judge_stated mark rows w v (length out) r l)

  -- which is never 1, as no kind is handed in;
  pub refused_for_no_kind : way_answer mark rows w v out ≡ refused 1 → ⊥
  refused_for_no_kind e = stated.one_never mark rows w v (length out) ((refused_by_judge 1 (omega arith)).0 e)

  -- 21 when the walk fails BFS,
  pub refused_for_walk : (way_answer mark rows w v out ≡ refused 21) ↔ Fails (judge_answer (kind_of bfs) mark rows w)
  refused_for_walk = Iff.trans (way_refuses 21) (stated.walk_stated mark rows w v (length out))

  -- 22 when the given point, whatever its number, is not in the walk,
  pub refused_for_point : (way_answer mark rows w v out ≡ refused 22) ↔ ((judge_answer (kind_of bfs) mark rows w ≡ passes) × (T (placed w (length w) v) → ⊥))
  refused_for_point = Iff.trans (way_refuses 22) (stated.point_stated mark rows w v (length out))

  -- then 10 when the output has fewer than n bytes
  pub refused_for_room : (way_answer mark rows w v out ≡ refused 10)
      ↔ ((judge_answer (kind_of bfs) mark rows w ≡ passes) × T (placed w (length w) v) × (length out < length rows))
  refused_for_room = Iff.trans (way_refuses 10) (stated.room_stated mark rows w v (length out))

  -- ---- the answer and the output list

  -- a way is given exactly where nothing is refused, and what is answered is how many points it has
  pub written_exactly : (m : ℕ) → (way_answer mark rows w v out ≡ points m) ↔ (Traceable mark rows w v (length out) × (m ≡ length (way_to (arcs rows) w v)))
  written_exactly m = (
    tracing.points_way mark rows w v out m,
    λ x.
        sym (tracing.way_accepted mark rows w v out (sym (accepts_none _ (tracing.traceable_in mark rows w v (length out) x.0)))).0
        ∙ ap points (sym x.1),
  )

  -- refused, the output list is what it was
  pub refused_keeps : (r : ℕ) → Refuses r (way_tests mark rows w v (length out)) → way_output mark rows w v out ≡ out
  refused_keeps r x = sym (tracing.way_refused mark rows w v out r (sym (refuses_first (way_tests mark rows w v (length out)) r x))).1

  module _ (m : ℕ) (given : way_answer mark rows w v out ≡ points m) where
    able : Traceable mark rows w v (length out)
    able = ((written_exactly m).0 given).0

    len : m ≡ length (way_to (arcs rows) w v)
    len = ((written_exactly m).0 given).1

    output : way_output mark rows w v out ≡ way_to (arcs rows) w v ++ drop m out
    output =
        sym (tracing.way_accepted mark rows w v out (sym (accepts_none _ (tracing.traceable_in mark rows w v (length out) able)))).1
        ∙ ap (λ (i : ℕ). way_to (arcs rows) w v ++ drop i out) (sym len)

    -- the way is written to the front of the output list, and later bytes stay
    pub written_front : (take m (way_output mark rows w v out) ≡ way_to (arcs rows) w v) × (drop m (way_output mark rows w v out) ≡ drop m out)
    written_front = (
      ap (λ (x : List ℕ). take m x) output ∙ take_at (way_to (arcs rows) w v) (drop m out) m (sym len),
      ap (λ (x : List ℕ). drop m x) output ∙ drop_at (way_to (arcs rows) w v) (drop m out) m (sym len),
    )

    -- what is written is such a shortest way
    pub written_shortest : ShortestWay (arcs rows) (length rows) w v (take m (way_output mark rows w v out))
    written_shortest =
        subst (ShortestWay (arcs rows) (length rows) w v) (sym written_front.0)
        (shortest_way (arcs rows) (length rows) w v (tracing.traced_ordering mark rows w v (length out) able) able.passing able.stands)

    -- one byte is written, the given point, exactly where it has no parent
    pub written_alone : (m ≡ 1) ↔ ((p : ℕ) → p < position_of w v → T (arcs rows (at w p) v) → ⊥)
    written_alone = (
      λ one. ways.way_alone (arcs rows) w v able.stands (sym len ∙ one),
      λ unled. len ∙ ways.alone_way (arcs rows) w v able.stands unled,
    )

  -- the output list is as long as it was, refused or not
  pub output_length : length (way_output mark rows w v out) ≡ length out
  output_length = tracing.output_length mark rows w v out

-- ---- the mark

-- 02: K4, on a plan whose every link goes both ways the way is the same, or refused alike, under either mark
module _ (mark mark' : Mark) (rows : List ℕ) (both : BothWays rows) (w : List ℕ) (v : ℕ) (out : List ℕ) where
  way_tests_lem : (room : ℕ) → way_tests mark rows w v room ≡ way_tests mark' rows w v room
  unfolding way_tests
  way_tests_lem room = rw (judge_tests_lem (kind_of bfs) mark mark' rows both w)

  pub either_way : (way_answer mark rows w v out ≡ way_answer mark' rows w v out) × (way_output mark rows w v out ≡ way_output mark' rows w v out)
  unfolding way_answer way_output
  either_way = (rw (ap first_refusal (way_tests_lem (length out)), way_answer), rw (ap first_refusal (way_tests_lem (length out)), way_output))
