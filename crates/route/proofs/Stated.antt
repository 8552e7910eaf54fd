-- Each refusal of the way back in the words of its case.
--   judge_stated                             below 10: what judge refuses;   one_never   which is never 1
--   walk_stated, point_stated, room_stated   21, 22 and 10
-- Assumes nothing.
use mathlib.Core.Path.{◌≡◌, sym, ◌∙◌}
use mathlib.Core.Logic.{◌↔◌}
use mathlib.Core.Bool.{Bool, not}
use mathlib.Core.List.{List, [], ◌∷◌, ◌++◌}
use Prim.Native.Nat.{ℕ, ◌<◌}
use native.Mathlib.Omega.{arith}
use lib.Dec.{T, ltb, ltb→lt, lt→ltb, not_T, T_not}
use lib.ListN.{length, drop}
use Rattle.bitset.proofs.Tests.{not_not}
use Rattle.searches.specs.Kind.{bfs, kind_of, search_of}
use Rattle.searches.specs.Ordering.{arcs, placed}
use Rattle.searches.specs.Violation.{passes, Fails, judge}
use Rattle.searches.specs.declared.Mark.{Mark}
use Rattle.searches.specs.Answer.{is_pass, open_tests, judge_tests, Accepts, Refuses, judge_answer}
use Rattle.searches.proofs.Answers.{accepts_both, both_accept, is_pass_in, is_pass_out, judge_accepted, passes_accepts}
use Rattle.searches.proofs.Numbered.{without_both, refuses_earlier, earlier_refuses, at_out, at_in}
use Rattle.checks.proofs.AfterJudge.{not_judged, unpassed_fails, fails_unpassed, fails_accepts}
use Rattle.route.specs.WayBack.{tests_after_bfs, way_tests}

module _ (mark : Mark) (rows w : List ℕ) (v room : ℕ) where
  abbrev judged : List (ℕ × Bool)
  judged = judge_tests (kind_of bfs) mark rows w

  abbrev passing : Bool
  passing = is_pass (judge bfs (arcs rows) (length rows) w (length w))

  abbrev stands : Bool
  stands = placed w (length w) v

  abbrev short : Bool
  short = ltb room (length rows)

  pub judge_stated : (r : ℕ) → r < 10 → Refuses r (way_tests mark rows w v room) ↔ Refuses r judged
  unfolding way_tests tests_after_bfs
  judge_stated r l = (
    refuses_earlier r judged (tests_after_bfs (length rows) w v room passing) (λ e. omega arith, (λ e. omega arith, (λ e. omega arith, tt))),
    earlier_refuses r judged (tests_after_bfs (length rows) w v room passing),
  )

  -- the kind is that of BFS, which refusal 1 is not for
  pub one_never : Refuses 1 judged → ⊥
  unfolding open_tests judge_tests kind_of
  one_never x =
      (at_out 1 [] (ltb 6 (kind_of bfs)) (drop 1 judged) tt
      (λ e. omega arith, (λ e. omega arith, (λ e. omega arith, (λ e. omega arith, (λ e. omega arith, (λ e. omega arith, (λ e. omega arith, tt))))))) x).1

  pub walk_stated : Refuses 21 (way_tests mark rows w v room) ↔ Fails (judge_answer (kind_of bfs) mark rows w)
  unfolding way_tests tests_after_bfs kind_of search_of
  walk_stated =
      let later : List (ℕ × Bool) = (22, not stands) ∷ (10, short) ∷ [] in (
        λ x.
            let y = at_out 21 judged (not passing) later (not_judged (kind_of bfs) mark rows w 21 (omega arith)) (λ e. omega arith, (λ e. omega arith, tt)) x in
            unpassed_fails (kind_of bfs) mark rows w y.0 y.1,
        λ y.
            let accepted = fails_accepts (kind_of bfs) mark rows w y in
            at_in 21 judged (not passing) later accepted (fails_unpassed (kind_of bfs) mark rows w accepted y),
      )

  -- judge's tests and 21
  abbrev walked : List (ℕ × Bool)
  walked = judged ++ (21, not passing) ∷ []

  walked_passes : Accepts walked → judge_answer (kind_of bfs) mark rows w ≡ passes
  unfolding kind_of search_of
  walked_passes a =
      let x = accepts_both judged ((21, not passing) ∷ []) a in
      judge_accepted (kind_of bfs) mark rows w x.0
      ∙ is_pass_out (judge bfs (arcs rows) (length rows) w (length w)) (not_not passing (not_T (not passing) x.1.0))

  passes_walked : judge_answer (kind_of bfs) mark rows w ≡ passes → Accepts walked
  unfolding kind_of search_of
  passes_walked p =
      let a = passes_accepts (kind_of bfs) mark rows w p in
      both_accept judged ((21, not passing) ∷ []) a
      (λ t. T_not passing t (is_pass_in (judge bfs (arcs rows) (length rows) w (length w)) (sym (judge_accepted (kind_of bfs) mark rows w a) ∙ p)), tt)

  pub point_stated : Refuses 22 (way_tests mark rows w v room) ↔ ((judge_answer (kind_of bfs) mark rows w ≡ passes) × (T stands → ⊥))
  unfolding open_tests judge_tests way_tests tests_after_bfs
  point_stated =
      let later : List (ℕ × Bool) = (10, short) ∷ [] in
      let none = without_both 22 judged ((21, not passing) ∷ []) (not_judged (kind_of bfs) mark rows w 22 (omega arith)) (λ e. omega arith, tt) in (
        λ x. let y = at_out 22 walked (not stands) later none (λ e. omega arith, tt) x in (walked_passes y.0, T_not stands y.1),
        λ y. at_in 22 walked (not stands) later (passes_walked y.0) (not_T stands y.1),
      )

  pub room_stated : Refuses 10 (way_tests mark rows w v room) ↔ ((judge_answer (kind_of bfs) mark rows w ≡ passes) × T stands × (room < length rows))
  unfolding open_tests judge_tests way_tests tests_after_bfs
  room_stated =
      let own : List (ℕ × Bool) = (22, not stands) ∷ [] in
      let none =
      without_both 10 judged ((21, not passing) ∷ own) (not_judged (kind_of bfs) mark rows w 10 (omega arith)) (λ e. omega arith, (λ e. omega arith, tt))
      in (
        λ x.
            let y = at_out 10 (walked ++ own) short [] none tt x in
            let z = accepts_both walked own y.0 in
            (walked_passes z.0, not_not stands (not_T (not stands) z.1.0), ltb→lt room (length rows) y.1),
        λ y. at_in 10 (walked ++ own) short [] (both_accept walked own (passes_walked y.0) (λ t. T_not stands t y.1, tt)) (lt→ltb room (length rows) y.2),
      )
