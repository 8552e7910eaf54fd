-- The judgement of a sheet, as it is printed.
--   judged_line kind v         the line of one kind: kind and 1 for a pass, or kind, 0 and the triple
--   judged_lines rows w j      the lines of the kinds below j
--   judged_unless answer b, judgement b    the lines of all seven kinds, or the refusal's number alone               [01: the program judge-sheet; 02: K1]
--   room                      as many bytes as a judgement can have
--   judgement_in b out, judgement_length b out   what an output list then holds, from its front on, and how much of it is the judgement;
--                             as it was, and 0, where it has not that room
--   ReadInto buffer count b   the first count bytes of the buffer are the input b, as far as the buffer has room for it
use Rattle.std.specs.Prelude.{ℕ, zero, suc, ◌≡◌, List, [], ◌∷◌, ◌++◌, cond, ltb, length, take}
use Rattle.std.proofs.Math.Option.{Option, none, some}
use Rattle.std.proofs.lemmas.List.Edits.{sets}
use Rattle.searches.specs.Violation.{Verdict, passes, fails, refused}
use Rattle.searches.specs.Answer.{judge_answer}
use Rattle.searches.specs.declared.Mark.{Mark}
use Rattle.fields.specs.Field.{line}
use Rattle.sheet.specs.Sheet.{rows_of, walk_of, read_answer}

-- a sheet that is read is a valid plan with a walk, so the last case never comes
unfoldable pub judged_line : ℕ → Verdict → List ℕ
judged_line kind passes = line (kind ∷ 1 ∷ [])
judged_line kind (fails a b c) = line (kind ∷ 0 ∷ a ∷ b ∷ c ∷ [])
judged_line kind (refused r) = line (r ∷ [])

unfoldable pub judged_lines : List ℕ → List ℕ → ℕ → List ℕ
judged_lines rows w zero = []
judged_lines rows w (suc j) = judged_lines rows w j ++ judged_line j (judge_answer j Mark.TwoWay rows w)

unfoldable pub judged_unless : Option ℕ → List ℕ → List ℕ
judged_unless none b = judged_lines (rows_of b) (walk_of b) 7
judged_unless (some r) b = line (r ∷ [])

unfoldable pub judgement : List ℕ → List ℕ
judgement b = judged_unless (read_answer b) b

abbrev pub room : ℕ
room = 147

unfoldable pub judgement_in : List ℕ → List ℕ → List ℕ
judgement_in b out = cond (ltb (length out) room) out (sets out 0 (judgement b))

unfoldable pub judgement_length : List ℕ → List ℕ → ℕ
judgement_length b out = cond (ltb (length out) room) 0 (length (judgement b))

pub record ReadInto (buffer : List ℕ) (count : ℕ) (b : List ℕ) : Type 0 where
  pub prefix : take count buffer ≡ take (length buffer) b
