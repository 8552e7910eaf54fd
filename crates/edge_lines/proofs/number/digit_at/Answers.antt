-- `edge_lines::number::digit_at` meets its contract: the byte is one from 48 to 57.
-- Assumes nothing.
use mathlib.Core.Path.{ap}
use Rattle.wording.specs.Decimal.{is_digit}
use Rattle.edge_lines.proofs.number.digit_at.Goals as goal

pub returns : goal.returns
unfolding is_digit
returns c = ap is_digit c.byte_at-byte.ensures
