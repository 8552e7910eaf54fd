-- Calls that are computed: on plans with a restart, with one-way links and without points, and refused ones with everything wrong that is tried later.
--   Example           what is handed in, and what is to be answered and left in the output list
--   examples          a list of them;   examples_right   each is what the definitions give
-- Assumes nothing.
use mathlib.Core.Path.{◌≡◌, refl}
use mathlib.Core.List.{List, [], ◌∷◌, map}
use Prim.Native.Nat.{ℕ}
use Rattle.bitset.specs.Below.{any_below, first_below}
use Rattle.bitset.specs.Word.{member}
use Rattle.searches.specs.Kind.{kind_of}
use Rattle.searches.specs.Ordering.{arcs, placed}
use Rattle.searches.specs.Label.{label}
use Rattle.searches.specs.Violation.{condition, meets, violates, third, is_last, is_first, is_middle, judge}
use Rattle.searches.specs.Answer.{bit_outside, self_loop, one_way, is_two_way, vertex_outside, repeated, is_pass, open_tests, judge_tests, first_refusal}
use Rattle.searches.specs.declared.Mark.{Mark}
use Rattle.route.specs.Tree.{parent, is_root, ancestor, depth, path_down, tree_path}
use Rattle.route.specs.WayBack.{position_of, way_to, tests_after_bfs, way_tests, Way, points, refused, way_answer, way_output}

pub record Example : Type 0 where
  pub mark : Mark
  pub rows : List ℕ
  pub walk : List ℕ
  pub point : ℕ
  pub output : List ℕ
  pub answer : Way
  pub left : List ℕ

abbrev call : Mark → List ℕ → List ℕ → ℕ → List ℕ → Way → List ℕ → Example
call mark rows walk point output answer left = record {
  mark = mark;
  rows = rows;
  walk = walk;
  point = point;
  output = output;
  answer = answer;
  left = left;
}

-- the links 0-1, 1-2, 2-3, 0-3; to 2 lead 1 and 3
abbrev ring : List ℕ → ℕ → List ℕ → Way → List ℕ → Example
ring = call Mark.TwoWay (10 ∷ 5 ∷ 10 ∷ 5 ∷ [])

-- the link 0-1, and 2 by itself, where the walk begins
abbrev pieces : ℕ → Way → List ℕ → Example
pieces point = call Mark.TwoWay (2 ∷ 1 ∷ 0 ∷ []) (2 ∷ 0 ∷ 1 ∷ []) point (7 ∷ 8 ∷ 9 ∷ [])

-- 0 leads to 1; 2, where the walk starts anew, leads back to 0
abbrev back : ℕ → Way → List ℕ → Example
back point = call Mark.OneWay (2 ∷ 0 ∷ 1 ∷ []) (0 ∷ 1 ∷ 2 ∷ []) point (7 ∷ 8 ∷ 9 ∷ [])

abbrev pub examples : List Example
examples =
    ring (0 ∷ 1 ∷ 3 ∷ 2 ∷ []) 0 (5 ∷ 6 ∷ 7 ∷ 8 ∷ 9 ∷ []) (points 1) (0 ∷ 6 ∷ 7 ∷ 8 ∷ 9 ∷ [])
    ∷ ring (0 ∷ 1 ∷ 3 ∷ 2 ∷ []) 2 (5 ∷ 6 ∷ 7 ∷ 8 ∷ 9 ∷ []) (points 3) (0 ∷ 1 ∷ 2 ∷ 8 ∷ 9 ∷ [])
    ∷ ring (0 ∷ 1 ∷ 3 ∷ []) 3 (5 ∷ 6 ∷ 7 ∷ 8 ∷ []) (points 2) (0 ∷ 3 ∷ 7 ∷ 8 ∷ [])
    ∷ ring (0 ∷ 1 ∷ 3 ∷ []) 3 (5 ∷ 6 ∷ 7 ∷ []) (refused 10) (5 ∷ 6 ∷ 7 ∷ [])
    ∷ ring (0 ∷ 1 ∷ 3 ∷ []) 2 [] (refused 22) []
    ∷ ring (0 ∷ 1 ∷ 3 ∷ []) 200 [] (refused 22) []
    ∷ ring (0 ∷ 2 ∷ []) 200 [] (refused 21) []
    ∷ ring (0 ∷ 0 ∷ []) 200 [] (refused 9) []
    ∷ pieces 2 (points 1) (2 ∷ 8 ∷ 9 ∷ [])
    ∷ pieces 0 (points 1) (0 ∷ 8 ∷ 9 ∷ [])
    ∷ pieces 1 (points 2) (0 ∷ 1 ∷ 9 ∷ [])
    ∷ back 0 (points 1) (0 ∷ 8 ∷ 9 ∷ [])
    ∷ back 1 (points 2) (0 ∷ 1 ∷ 9 ∷ [])
    ∷ back 2 (points 1) (2 ∷ 8 ∷ 9 ∷ [])
    ∷ call Mark.TwoWay [] [] 0 (7 ∷ []) (refused 22) (7 ∷ [])
    ∷ []

pub examples_right : (map (λ (e : Example). way_answer e.mark e.rows e.walk e.point e.output) examples ≡ map (λ (e : Example). e.answer) examples)
    × (map (λ (e : Example). way_output e.mark e.rows e.walk e.point e.output) examples ≡ map (λ (e : Example). e.left) examples)
unfolding member any_below first_below kind_of arcs placed label condition meets violates third is_last is_first is_middle judge bit_outside self_loop one_way is_two_way vertex_outside repeated is_pass open_tests judge_tests first_refusal parent is_root ancestor depth path_down tree_path position_of way_to tests_after_bfs way_tests way_answer way_output
examples_right = (refl, refl)
