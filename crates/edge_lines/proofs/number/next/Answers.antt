-- `edge_lines::number::next` meets its contract: at the end it stays.
-- Assumes nothing.
use Rattle.edge_lines.proofs.Scanning.{past_one, past_none}
use Rattle.edge_lines.proofs.number.next.Goals as goal

pub returns-then-at-line : goal.returns-then-at-line
returns-then-at-line c = past_one _ _ c.if-at-line.true

pub returns-else-at-line : goal.returns-else-at-line
returns-else-at-line c = past_none _ _ c.if-at-line.false
