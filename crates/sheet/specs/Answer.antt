-- What reading a sheet answers, as the papers' number and values.
--   refusal_in answer   the number of its refusal, none where the sheet is read
--   line_in answer      the line in which the sheet stops having the form, where it is refused with 11; else 0
use Rattle.std.specs.Prelude.{ℕ, Result, Ok, Err}
use Rattle.std.proofs.Math.Option.{Option, none, some}
use Rattle.searches.specs.Answer.{number}
use Rattle.sheet.specs.declared.read.Unreadable.{Unreadable}

unfoldable pub refusal_in : {A : Type 0} → Result A Unreadable → Option ℕ
refusal_in (Ok held) = none
refusal_in (Err unread) = some (number unread.refusal)

unfoldable pub line_in : {A : Type 0} → Result A Unreadable → ℕ
line_in (Ok held) = 0
line_in (Err unread) = unread.line
