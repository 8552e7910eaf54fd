-- `firmware::code::number_of` meets its contract.
-- Assumes nothing.
use mathlib.Core.Path.{sym, ap, ◌∙◌}
use Prim.Native.Nat.{ℕ}
use Rattle.std.specs.Prelude.{⊤, Result}
use Rattle.searches.specs.declared.Refusal.{Refusal}
use Rattle.searches.specs.Answer.{refusal_of}
use Rattle.firmware.specs.Code.{number_of}
use Rattle.firmware.proofs.code.number_of.Goals as goal

code : Result ⊤ Refusal → ℕ
code o = number_of (refusal_of o)

pub returns-in-Ok : goal.returns-in-Ok
unfolding code number_of refusal_of
returns-in-Ok c = sym (ap code c.in-Ok.is)

pub returns-in-Err : goal.returns-in-Err
unfolding code number_of refusal_of
returns-in-Err c = c.number.ensures ∙ sym (ap code c.in-Err.is)
