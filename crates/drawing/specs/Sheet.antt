-- A DIMACS edge file as a sheet.
--   sheet_text b                   the sheet of the plan that the file b gives, with an empty walk; where it is refused, a line with the number of the refusal
--   sheet_in b out, sheet_length b out   what an output list then holds, from its front on, and how much of it is the sheet; as it was, and 0, where it has not
--                                 room for every plan (`room` of `plan_text`)
use Rattle.std.specs.Prelude.{ℕ, cond, List, [], ◌∷◌, ltb, length, replicate}
use Rattle.std.proofs.Math.Option.{none, some}
use Rattle.std.proofs.lemmas.List.Edits.{sets}
use Rattle.searches.specs.Answer.{first_refusal}
use Rattle.fields.specs.Field.{line}
use Rattle.sheet.specs.Written.{sheet_of}
use Rattle.plan_text.specs.Text.{room}
use Rattle.dimacs.specs.Import.{content, drawn_rows, import_tests}

-- import gets a list of 64 rows, which is never too short
unfoldable pub sheet_text : List ℕ → List ℕ
sheet_text b =
    elim (first_refusal (import_tests b (replicate 64 0))) [
      | none ↦ sheet_of (drawn_rows (content b)) []
      | some r ↦ line (r ∷ [])
    ]

unfoldable pub sheet_in : List ℕ → List ℕ → List ℕ
sheet_in b out = cond (ltb (length out) room) out (sets out 0 (sheet_text b))

unfoldable pub sheet_length : List ℕ → List ℕ → ℕ
sheet_length b out = cond (ltb (length out) room) 0 (length (sheet_text b))
