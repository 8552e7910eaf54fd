-- Judgements in words that are computed: the forms of the request, every search, the longest sentence, with points barred, on a one-way plan, without points,
-- and refused ones with everything wrong that is tried later. Sentences read back.
--   Example                  a call, and what is to be answered and to stand in the output list
--   examples                 a list of them;   examples_right   each is what the definitions give
--   sentences_read           sentences as texts, and what is read of them
--   longest_told             the longest sentence
-- Assumes nothing.
use mathlib.Core.Path.{◌≡◌, refl}
use mathlib.Core.List.{List, [], ◌∷◌, ◌++◌, map}
use Prim.Native.Nat.{ℕ, ◌^◌}
use Prim.Native.String.{String}
use lib.ListN.{length, drop, replicate}
use Rattle.bitset.specs.Below.{any_below, first_below, count_below}
use Rattle.bitset.specs.Word.{member}
use Rattle.searches.specs.Kind.{lex_bfs, lex_dfs, mcs, search_of}
use Rattle.searches.specs.Ordering.{arcs, placed}
use Rattle.searches.specs.Label.{label}
use Rattle.searches.specs.Violation.{passes, fails, condition, meets, violates, third, is_last, is_first, is_middle, judge}
use Rattle.searches.specs.Without.{number_of, name_of, numbered, arcs_of, named_verdict, judge_without}
use Rattle.searches.specs.Answer.{bit_outside, self_loop, one_way, is_two_way, vertex_outside, repeated, open_tests, first_refusal, unbarred, barred_outside, barred_named, open_tests_barring, judge_tests_barring, judge_barring}
use Rattle.searches.specs.declared.Mark.{Mark}
use Rattle.fields.specs.Field.{ones, digit_value}
use Rattle.wording.specs.Text.{bytes}
use Rattle.wording.specs.Decimal.{digits, decimal, is_digit, value_from, value}
use Rattle.wording.specs.Sentence.{name, sentence}
use Rattle.wording.specs.Answer.{room_tests, words_tests, in_words, Told, written, refused, words_answer, words_output}
use Rattle.wording.specs.Reading.{is_other, front, behind, same, search_named, verdict_told, read_sentence}

pub record Example : Type 0 where
  pub kind : ℕ
  pub mark : Mark
  pub rows : List ℕ
  pub barred : ℕ
  pub walk : List ℕ
  -- how many bytes the output list has; they are 7 each
  pub size : ℕ
  pub answer : Told
  -- what the list then holds at its front
  pub front : List ℕ

abbrev says : ℕ → Mark → List ℕ → ℕ → List ℕ → ℕ → String → Example
says kind mark rows barred walk size text = record {
  kind = kind;
  mark = mark;
  rows = rows;
  barred = barred;
  walk = walk;
  size = size;
  answer = written (length (bytes text));
  front = bytes text;
}

abbrev refuses : ℕ → Mark → List ℕ → ℕ → List ℕ → ℕ → ℕ → Example
refuses kind mark rows barred walk size r = record {
  kind = kind;
  mark = mark;
  rows = rows;
  barred = barred;
  walk = walk;
  size = size;
  answer = refused r;
  front = [];
}

-- the links 0-1, 0-2, 1-3
abbrev P : List ℕ
P = 6 ∷ 9 ∷ 1 ∷ 2 ∷ []

-- with nothing barred and just enough room
abbrev on_P : ℕ → List ℕ → String → Example
on_P kind walk text = says kind Mark.TwoWay P 0 walk 96 text

abbrev in_turn : List ℕ
in_turn = 0 ∷ 1 ∷ 2 ∷ 3 ∷ []

abbrev pub examples : List Example
examples =
    on_P 0 in_turn "Generic passes."
    ∷ on_P 1 in_turn "BFS passes."
    ∷ on_P 2 in_turn "DFS fails at 2: 1 leads to 3 and not to 2."
    ∷ on_P 3 in_turn "LexBFS passes."
    ∷ on_P 4 in_turn "LexDFS fails at 2: 1 leads to 3 and not to 2."
    ∷ on_P 5 in_turn "MNS passes."
    ∷ on_P 6 in_turn "MCS passes."
    ∷ on_P 6 (2 ∷ 1 ∷ []) "MCS fails at 1: 2 leads to 0 and not to 1."
    -- with 0 out of service; one-way, 0 leads to 1 and 2, 1 to 3; no points
    ∷ says 5 Mark.TwoWay P 1 (1 ∷ 2 ∷ []) 97 "MNS fails at 2: 1 leads to 3 and not to 2."
    ∷ says 1 Mark.OneWay (6 ∷ 8 ∷ 0 ∷ 0 ∷ []) 0 (0 ∷ 3 ∷ []) 100 "BFS fails at 3: 0 leads to 1 and not to 3."
    ∷ says 3 Mark.OneWay [] 0 [] 96 "LexBFS passes."
    -- points of two digits: 13 points and the link 10-12
    ∷ says 0 Mark.TwoWay (replicate 10 0 ++ 2 ^ 12 ∷ 0 ∷ 2 ^ 10 ∷ []) 0 (10 ∷ 11 ∷ []) 96 "Generic fails at 11: 10 leads to 12 and not to 11."
    -- judge's own refusals, with a list that is too short; then that alone
    ∷ refuses 7 Mark.TwoWay (2 ∷ 0 ∷ []) 1 (0 ∷ 0 ∷ 9 ∷ []) 95 1
    ∷ refuses 6 Mark.TwoWay (2 ∷ 0 ∷ []) 1 (0 ∷ 0 ∷ 9 ∷ []) 95 5
    ∷ refuses 6 Mark.TwoWay P 8 (3 ∷ 3 ∷ []) 95 9
    ∷ refuses 6 Mark.TwoWay P 8 (1 ∷ 3 ∷ []) 95 24
    ∷ refuses 6 Mark.TwoWay P 8 (0 ∷ 1 ∷ []) 95 10
    ∷ refuses 0 Mark.OneWay [] 0 [] 0 10
    ∷ []

abbrev fresh : Example → List ℕ
fresh e = replicate e.size 7

pub examples_right : (map (λ (e : Example). words_answer e.kind e.mark e.rows e.barred e.walk (fresh e)) examples ≡ map (λ (e : Example). e.answer) examples)
    × (map (λ (e : Example). words_output e.kind e.mark e.rows e.barred e.walk (fresh e)) examples
    ≡ map (λ (e : Example). e.front ++ drop (length e.front) (fresh e)) examples)
unfolding any_below first_below count_below member search_of arcs placed label condition meets violates third is_last is_first is_middle judge bit_outside self_loop one_way
    is_two_way vertex_outside repeated open_tests first_refusal unbarred barred_outside barred_named open_tests_barring judge_tests_barring judge_barring number_of name_of numbered
    arcs_of named_verdict judge_without ones bytes digits decimal name sentence room_tests words_tests in_words words_answer words_output
examples_right = (refl, refl)

-- what is read of a sentence
pub sentences_read : map (λ (text : String). read_sentence (bytes text)) (
    "LexBFS passes."
    ∷ "LexDFS fails at 2: 1 leads to 3 and not to 2."
    ∷ "MCS fails at 63: 0 leads to 10 and not to 63."
    ∷ []
    )
    ≡ (lex_bfs, passes) ∷ (lex_dfs, fails 1 2 3) ∷ (mcs, fails 0 63 10) ∷ []
unfolding first_below search_of digit_value bytes is_digit value_from value name is_other front behind same search_named verdict_told read_sentence
sentences_read = refl

-- one of the examples has 50 bytes, and none can have more (`written_short` of `wording`)
pub longest_told : length (bytes "Generic fails at 11: 10 leads to 12 and not to 11.") ≡ 50
unfolding bytes
longest_told = refl
