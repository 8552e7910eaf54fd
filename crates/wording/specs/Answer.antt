-- The judgement in words: what is refused, and the answer and the output list for every input.
--   refused_with v                              the number of a refusal; none for a verdict on a walk
--   earlier first second                       of two that may be refusals the first that is one
--   room_tests size                             what is refused after judge: an output list whose size is below 96 bytes
--   words_tests kind mark rows barred w size    what is refused: judge's own tests, then this one                                 [02: K11]
--   in_words kind mark rows barred w            the sentence for judge's answer
--   Told                                       written m: a sentence of m bytes; refused r: the refusal with number r
--   words_answer kind mark rows barred w out    what is answered                                                              [02: K11]
--   words_output kind mark rows barred w out    what the output list then holds
--   told_of                                     an answer of the code as 02's number and value
use Rattle.std.specs.Prelude.{ℕ, Bool, List, [], ◌∷◌, ◌++◌, ltb, length, drop, Result, Ok, Err}
use Rattle.std.proofs.Math.Option.{Option, none, some}
use Rattle.searches.specs.Kind.{search_of}
use Rattle.searches.specs.Violation.{Verdict, passes, fails}
use Rattle.searches.specs.Violation as verdicts
use Rattle.searches.specs.Answer.{judge_tests_barring, judge_barring, first_refusal, number}
use Rattle.searches.specs.declared.Refusal.{Refusal}
use Rattle.searches.specs.declared.Mark.{Mark}
use Rattle.wording.specs.Sentence.{sentence}

unfoldable pub refused_with : Verdict → Option ℕ
refused_with passes = none
refused_with (fails a b c) = none
refused_with (verdicts.refused r) = some r

unfoldable pub earlier : Option ℕ → Option ℕ → Option ℕ
earlier none second = second
earlier (some r) second = some r

unfoldable pub room_tests : ℕ → List (ℕ × Bool)
room_tests size = (10, ltb size 96) ∷ []

unfoldable pub words_tests : ℕ → Mark → List ℕ → ℕ → List ℕ → ℕ → List (ℕ × Bool)
words_tests kind mark rows barred w size = judge_tests_barring kind mark rows barred w ++ room_tests size

unfoldable pub in_words : ℕ → Mark → List ℕ → ℕ → List ℕ → List ℕ
in_words kind mark rows barred w = sentence (search_of kind) (judge_barring kind mark rows barred w)

pub data Told : Type 0 where
  written : ℕ → Told
  refused : ℕ → Told

module _ (kind : ℕ) (mark : Mark) (rows : List ℕ) (barred : ℕ) (w out : List ℕ) where
  unfoldable pub words_answer : Told
  words_answer =
      elim (first_refusal (words_tests kind mark rows barred w (length out))) [
        | none ↦ written (length (in_words kind mark rows barred w))
        | some r ↦ refused r
      ]

  -- on success the sentence, and behind it the bytes that stood there; on refusal what it was
  unfoldable pub words_output : List ℕ
  words_output =
      elim (first_refusal (words_tests kind mark rows barred w (length out))) [
        | none ↦ in_words kind mark rows barred w ++ drop (length (in_words kind mark rows barred w)) out
        | some r ↦ out
      ]

unfoldable pub told_of : Result ℕ Refusal → Told
told_of (Ok m) = written m
told_of (Err r) = refused (number r)
