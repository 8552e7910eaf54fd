-- `firmware::code::code_of` meets its contract: vertices are bytes, so a packed violation fits.
-- Assumes nothing.
use mathlib.Core.Path.{sym, ap, ◌∙◌}
use Prim.Native.Nat.{ℕ}
use Rattle.std.specs.Prelude.{Result, Ok}
use Rattle.searches.specs.declared.Judgement.{Judgement}
use Rattle.searches.specs.declared.Vertex.{Vertex}
use Rattle.searches.specs.declared.Refusal.{Refusal}
use Rattle.searches.specs.Answer.{verdict_of}
use Rattle.firmware.specs.Code.{code_of}
use Rattle.firmware.proofs.code.code_of.Goals as goal

code : Result (Judgement Vertex) Refusal → ℕ
code j = code_of (verdict_of j)

pub returns-in-Ok-Passes : goal.returns-in-Ok-Passes
unfolding code code_of verdict_of
returns-in-Ok-Passes c = sym (ap code (c.in-Ok-Passes.is ∙ ap Ok (rw c.in-Ok-Passes.is at c.in-Ok-Passes.field-0-is)))

pub returns-in-Ok-Fails : goal.returns-in-Ok-Fails
unfolding code code_of verdict_of
returns-in-Ok-Fails c = sym (ap code (c.in-Ok-Fails.is ∙ ap Ok (rw c.in-Ok-Fails.is at c.in-Ok-Fails.field-0-is)))

pub returns-in-Err : goal.returns-in-Err
unfolding code code_of verdict_of
returns-in-Err c = c.number.ensures ∙ sym (ap code c.in-Err.is)
