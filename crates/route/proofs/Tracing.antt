-- What the way back refuses, what it answers, and what it leaves in the output list.
--   way_found                                the way, from the position and the depth that the code finds
--   traceable_in, traceable_out              nothing is refused exactly where every condition holds
--   traced_ordering                          then the ordering is one of distinct vertices;   room_enough   and the way fits the output list
--   way_refused, way_accepted                answer and output from the tests;   refused_way, points_way   the tests from the answer
--   output_length                            the output list is as long as it was
-- Assumes nothing.
use mathlib.Core.Path.{◌≡◌, sym, ap, ◌∙◌, subst}
use mathlib.Core.Logic.{◌⊎◌, inl, inr}
use mathlib.Core.Bool.{Bool, not}
use mathlib.Core.List.{List, ◌++◌}
use mathlib.Core.Option.{none, some}
use Prim.Native.Nat.{ℕ, suc, ◌+◌, ◌≤◌}
use native.Mathlib.Numerals.{add-one}
use native.Mathlib.Omega.{arith}
use lib.Dec.{ltb, ltb→lt, nltb→le, not_T, T_not}
use lib.ListN.{length, drop, length-append, length-drop}
use Rattle.bitset.proofs.Tests.{not_not}
use Rattle.searches.specs.Kind.{bfs, kind_of}
use Rattle.searches.specs.Ordering.{arcs, placed, IsOrdering}
use Rattle.searches.specs.Violation.{Verdict, judge}
use Rattle.searches.specs.Answer.{is_pass, judge_tests, first_refusal, Accepts, Refuses}
use Rattle.searches.specs.declared.Mark.{Mark}
use Rattle.searches.proofs.Ordering.{ordering_fits}
use Rattle.searches.proofs.Refusals.{refuses_first, accepts_none, accepts_or_refuses}
use Rattle.searches.proofs.Answers.{accepts_both, both_accept, is_pass_in, is_pass_out, accepted_ordering}
use Rattle.route.specs.Tree.{depth, path_down, tree_path}
use Rattle.route.specs.WayBack.{position_of, way_to, tests_after_bfs, way_tests, Traceable, points, refused, way_answer, way_output}
use Rattle.route.proofs.Tree.{depth_within}
use Rattle.route.proofs.Standing.{placed_stands}
use Rattle.route.proofs.Ways.{way_length}

-- ---- the way

module _ (arc : ℕ → ℕ → Bool) (w : List ℕ) (v : ℕ) where
  -- the way, from the position q and the depth d that the code finds
  pub way_found : {q d : ℕ} → q ≡ position_of w v → d ≡ depth arc w q
      → (d + 1 ≡ length (way_to arc w v)) × (path_down arc w q (d + 1) ≡ way_to arc w v)
  unfolding way_to tree_path
  way_found {q} {d} at_position at-depth =
      let deep : d + 1 ≡ suc (depth arc w (position_of w v)) =
      add-one d ∙ ap suc (at-depth ∙ ap (λ (p : ℕ). depth arc w p) at_position)
      in
      (deep ∙ sym (way_length arc w v), ap (λ (p : ℕ). path_down arc w p (d + 1)) at_position ∙ ap (λ (m : ℕ). path_down arc w (position_of w v) m) deep)

module _ (mark : Mark) (rows w : List ℕ) (v room : ℕ) where
  abbrev verdict : Verdict
  verdict = judge bfs (arcs rows) (length rows) w (length w)

  -- ---- nothing is refused exactly where every condition holds

  pub traceable_out : Accepts (way_tests mark rows w v room) → Traceable mark rows w v room
  unfolding way_tests tests_after_bfs
  traceable_out a =
      let x = accepts_both (judge_tests (kind_of bfs) mark rows w) _ a in
      record {
        judged = x.0;
        passing = is_pass_out verdict (not_not (is_pass verdict) (not_T (not (is_pass verdict)) x.1.0));
        stands = not_not (placed w (length w) v) (not_T (not (placed w (length w) v)) x.1.1.0);
        long = nltb→le room (length rows) (not_T (ltb room (length rows)) x.1.1.1.0);
      }

  pub traceable_in : Traceable mark rows w v room → Accepts (way_tests mark rows w v room)
  unfolding way_tests tests_after_bfs
  traceable_in able =
      both_accept (judge_tests (kind_of bfs) mark rows w) _ able.judged (
        λ t. T_not (is_pass verdict) t (is_pass_in verdict able.passing),
        (
          λ t. T_not (placed w (length w) v) t able.stands,
          (λ t. let h = ltb→lt room (length rows) t in let l = able.long in omega arith, tt),
        ),
      )

  module _ (able : Traceable mark rows w v room) where
    pub traced_ordering : IsOrdering (length rows) w (length w)
    traced_ordering = (accepted_ordering (kind_of bfs) mark rows w able.judged).1

    pub room_enough : length (way_to (arcs rows) w v) ≤ room
    room_enough =
        let fits = ordering_fits (length rows) traced_ordering in
        let stands = (placed_stands w v able.stands).0 in
        let long = able.long in
        omega (arith, way_length (arcs rows) w v, depth_within (arcs rows) w (position_of w v))

-- ---- the answer and the output list

module _ (mark : Mark) (rows w : List ℕ) (v : ℕ) (out : List ℕ) where
  abbrev tests : List (ℕ × Bool)
  tests = way_tests mark rows w v (length out)

  abbrev way : List ℕ
  way = way_to (arcs rows) w v

  pub way_refused : (r : ℕ) → some r ≡ first_refusal tests → (refused r ≡ way_answer mark rows w v out) × (out ≡ way_output mark rows w v out)
  unfolding way_answer way_output
  way_refused r e = (rw (sym e, way_answer), rw (sym e, way_output))

  pub way_accepted : none ≡ first_refusal tests
      → (points (length way) ≡ way_answer mark rows w v out) × (way ++ drop (length way) out ≡ way_output mark rows w v out)
  unfolding way_answer way_output
  way_accepted e = (rw (sym e, way_answer), rw (sym e, way_output))

  -- whatever the input, as many bytes as there were
  pub output_length : length (way_output mark rows w v out) ≡ length out
  output_length = go (accepts_or_refuses tests)
    where
      go : Accepts tests ⊎ ((q : ℕ) × Refuses q tests) → length (way_output mark rows w v out) ≡ length out
      go (inl a) =
          let fits = room_enough mark rows w v (length out) (traceable_out mark rows w v (length out) a) in
          ap length (sym (way_accepted (sym (accepts_none tests a))).1) ∙ length-append way (drop (length way) out)
          ∙ (let e : length way + length (drop (length way) out) ≡ length out = omega (arith, fits, length-drop (length way) out) in e)
      go (inr x) = ap length (sym (way_refused x.0 (sym (refuses_first tests x.0 x.1))).1)

  pub refused_way : (r : ℕ) → way_answer mark rows w v out ≡ refused r → Refuses r tests
  refused_way r e = go (accepts_or_refuses tests)
    where
      go : Accepts tests ⊎ ((q : ℕ) × Refuses q tests) → Refuses r tests
      go (inl a) = let clash : ◌≡◌ {A = ℕ} 0 1 = cc (way_accepted (sym (accepts_none tests a))).0 in absurd (omega arith)
      go (inr x) =
          let same : x.0 ≡ r = cc (way_refused x.0 (sym (refuses_first tests x.0 x.1))).0 in
          subst (λ (q : ℕ). Refuses q tests) same x.1

  pub points_way : (m : ℕ) → way_answer mark rows w v out ≡ points m → Traceable mark rows w v (length out) × (m ≡ length way)
  points_way m e = go (accepts_or_refuses tests)
    where
      go : Accepts tests ⊎ ((q : ℕ) × Refuses q tests) → Traceable mark rows w v (length out) × (m ≡ length way)
      go (inl a) = (traceable_out mark rows w v (length out) a, cc (way_accepted (sym (accepts_none tests a))).0)
      go (inr x) = let clash : ◌≡◌ {A = ℕ} 0 1 = cc (way_refused x.0 (sym (refuses_first tests x.0 x.1))).0 in absurd (omega arith)
