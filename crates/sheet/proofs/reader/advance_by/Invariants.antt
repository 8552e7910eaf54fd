-- `sheet::reader::advance_by` meets its contract: the reader and what was parsed are those after so many lines.
use mathlib.Core.Path.{◌≡◌}
use Rattle.sheet.specs.Parsing.{advanced_by}
use Rattle.sheet.proofs.reader.advance_by.Given as goal

abbrev pub invariant-loop : goal.invariant-loop
invariant-loop l = l.progress ≡ advanced_by l.initial.progress l.counter
