-- Comparisons that are computed: in every kind, with nothing placed and with everything placed, on one-way plans, without points and with 64, with points
-- barred, and refused ones with everything wrong that is tried later.
--   Example           an open walk, two numbers, and what is to be answered
--   examples          a list of them;   examples_right   each is what the definitions give
-- Assumes nothing.
use mathlib.Core.Path.{◌≡◌, refl}
use mathlib.Core.List.{List, [], ◌∷◌, ◌++◌, map}
use Prim.Native.Nat.{ℕ, ◌^◌}
use lib.ListN.{replicate}
use Rattle.bitset.specs.Below.{any_below, all_below, first_below, last_below, count_below, differ, within}
use Rattle.bitset.specs.Word.{member}
use Rattle.searches.specs.Kind.{search_of}
use Rattle.searches.specs.Ordering.{arcs, placed}
use Rattle.searches.specs.Label.{label, empty, nearer, settled, outranks}
use Rattle.searches.specs.Running.{smallest_in, largest_in}
use Rattle.searches.specs.Comparison.{alike, same_value, level, told_by, compared}
use Rattle.searches.specs.Violation.{condition, meets, violates, third, is_last, is_first, is_middle, judge}
use Rattle.searches.specs.Without.{number_of, name_of, numbered, arcs_of, named_verdict, judge_without, compared_without}
use Rattle.searches.specs.Answer.{bit_outside, self_loop, one_way, is_two_way, vertex_outside, repeated, is_pass, open_tests, first_refusal, unbarred, barred_outside, barred_named, open_tests_barring, judge_tests_barring, judge_barring}
use Rattle.searches.specs.declared.Comparison.{Comparison}
use Rattle.searches.specs.declared.Mark.{Mark}
use Rattle.traversal.specs.declared.Traversal.{Traversal}
use Rattle.traversal.specs.State.{plan, walk, well_formed}
use Rattle.lookup.specs.Unused.{used_at, used_from}
use Rattle.traversal.specs.Moves.{holding}
use Rattle.traversal.specs.Compare.{compare_tests, stance, Report, told, refused, reported, compare_answer}

pub record Example : Type 0 where
  pub state : Traversal
  pub first : ℕ
  pub second : ℕ
  pub answer : Report

abbrev barring : ℕ → ℕ → Mark → List ℕ → List ℕ → ℕ → ℕ → Report → Example
barring barred kind mark rows w u v answer = record { state = holding kind mark rows barred w; first = u; second = v; answer = answer }

-- with nothing barred
abbrev call : ℕ → Mark → List ℕ → List ℕ → ℕ → ℕ → Report → Example
call = barring 0

abbrev ahead : Report
ahead = told Comparison.Ahead

abbrev behind : Report
behind = told Comparison.Behind

abbrev same : Report
same = told Comparison.Level

abbrev neither : Report
neither = told Comparison.Neither

-- the kinds 0 to 6, on the links 0-1, 0-2, 1-2, 0-3, 2-3, 1-4, 0-5, 1-5, 0-6, and a point by itself
abbrev kinds : List ℕ → ℕ → ℕ → Report → Report → Report → Report → Report → Report → Report → List Example
kinds w u v a b c d e f g =
    let rows : List ℕ = 110 ∷ 53 ∷ 11 ∷ 5 ∷ 2 ∷ 3 ∷ 1 ∷ 0 ∷ [] in
    call 0 Mark.TwoWay rows w u v a
    ∷ call 1 Mark.TwoWay rows w u v b
    ∷ call 2 Mark.TwoWay rows w u v c
    ∷ call 3 Mark.TwoWay rows w u v d
    ∷ call 4 Mark.TwoWay rows w u v e
    ∷ call 5 Mark.TwoWay rows w u v f
    ∷ call 6 Mark.TwoWay rows w u v g
    ∷ []

abbrev pub examples : List Example
examples =
    -- after 0, 1 and 2 the labels of 3 to 7 are 0 2, 1, 0 1, 0 and empty
    kinds (0 ∷ 1 ∷ 2 ∷ []) 3 5 same same ahead behind ahead neither same
    ++ kinds (0 ∷ 1 ∷ 2 ∷ []) 3 4 same ahead ahead ahead ahead neither ahead
    ++ kinds (0 ∷ 1 ∷ 2 ∷ []) 4 6 same behind ahead behind ahead neither same
    ++ kinds (0 ∷ 1 ∷ 2 ∷ []) 6 5 same same behind behind behind behind behind
    ++ kinds (0 ∷ 1 ∷ 2 ∷ []) 7 6 behind behind behind behind behind behind behind
    ++ kinds (0 ∷ 1 ∷ 2 ∷ []) 4 4 same same same same same same same
    ++ kinds [] 3 7 same same same same same same same
    -- who leads to a point counts, not whom it leads to
    ++ call 5 Mark.OneWay (2 ∷ 0 ∷ 1 ∷ []) (0 ∷ []) 1 2 ahead
    ∷ call 5 Mark.OneWay (2 ∷ 0 ∷ 1 ∷ []) (1 ∷ []) 0 2 same
    -- each number on both points before the following one, and 13 first
    ∷ call 3 Mark.TwoWay (2 ∷ 1 ∷ 0 ∷ []) (0 ∷ []) 0 3 (refused 8)
    ∷ call 3 Mark.TwoWay (2 ∷ 1 ∷ 0 ∷ []) (0 ∷ []) 3 0 (refused 8)
    ∷ call 3 Mark.TwoWay (2 ∷ 1 ∷ 0 ∷ []) (0 ∷ []) 0 2 (refused 15)
    ∷ call 3 Mark.TwoWay (2 ∷ 1 ∷ 0 ∷ []) (0 ∷ []) 2 0 (refused 15)
    ∷ call 3 Mark.TwoWay (2 ∷ 1 ∷ 0 ∷ []) (0 ∷ 1 ∷ 2 ∷ []) 1 1 (refused 15)
    ∷ call 3 Mark.TwoWay (2 ∷ 1 ∷ 0 ∷ []) (0 ∷ 2 ∷ []) 0 200 (refused 13)
    ∷ call 7 Mark.TwoWay (2 ∷ 1 ∷ 0 ∷ []) [] 0 200 (refused 13)
    ∷ call 0 Mark.TwoWay [] [] 0 0 (refused 8)
    -- 0 leads to 1 and 2, 1 to 3: with 1 barred the walk 0 2 passes, and 3 is not reached; 24 on both points after 8 and before 15
    ∷ call 1 Mark.OneWay (6 ∷ 8 ∷ 0 ∷ 0 ∷ []) (0 ∷ 1 ∷ []) 2 3 ahead
    ∷ barring 2 1 Mark.OneWay (6 ∷ 8 ∷ 0 ∷ 0 ∷ []) (0 ∷ []) 2 3 ahead
    ∷ barring 2 1 Mark.OneWay (6 ∷ 8 ∷ 0 ∷ 0 ∷ []) (0 ∷ 2 ∷ []) 3 3 same
    ∷ barring 2 1 Mark.OneWay (6 ∷ 8 ∷ 0 ∷ 0 ∷ []) (0 ∷ 2 ∷ []) 3 4 (refused 8)
    ∷ barring 2 1 Mark.OneWay (6 ∷ 8 ∷ 0 ∷ 0 ∷ []) (0 ∷ 2 ∷ []) 0 1 (refused 24)
    ∷ barring 2 1 Mark.OneWay (6 ∷ 8 ∷ 0 ∷ 0 ∷ []) (0 ∷ 2 ∷ []) 0 3 (refused 15)
    -- a placed point is barred; the set has a bit at n
    ∷ barring 1 1 Mark.OneWay (6 ∷ 8 ∷ 0 ∷ 0 ∷ []) (0 ∷ 2 ∷ []) 3 3 (refused 13)
    ∷ barring 16 1 Mark.OneWay (6 ∷ 8 ∷ 0 ∷ 0 ∷ []) (0 ∷ 2 ∷ []) 3 3 (refused 13)
    -- 64 points, one link
    ∷ call 4 Mark.TwoWay (2 ^ 63 ∷ replicate 62 0 ++ 1 ∷ []) (0 ∷ []) 62 63 behind
    ∷ barring (2 ^ 62) 4 Mark.TwoWay (2 ^ 63 ∷ replicate 62 0 ++ 1 ∷ []) (0 ∷ []) 61 63 behind
    ∷ call 4 Mark.TwoWay (2 ^ 63 ∷ replicate 62 0 ++ 1 ∷ []) (0 ∷ []) 64 63 (refused 8)
    ∷ []

pub examples_right : map (λ (e : Example). compare_answer e.state e.first e.second) examples ≡ map (λ (e : Example). e.answer) examples
unfolding any_below all_below first_below last_below count_below differ within member search_of arcs placed label empty nearer settled outranks smallest_in largest_in
    alike same_value level told_by compared condition meets violates third is_last is_first is_middle judge bit_outside self_loop one_way is_two_way vertex_outside repeated is_pass
    open_tests first_refusal unbarred barred_outside barred_named open_tests_barring judge_tests_barring judge_barring number_of name_of numbered arcs_of named_verdict judge_without
    compared_without plan walk used_at used_from well_formed holding compare_tests stance reported compare_answer
examples_right = refl
