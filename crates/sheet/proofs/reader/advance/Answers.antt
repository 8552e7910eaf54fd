-- `sheet::reader::advance` meets its contract: a line is short.
-- Assumes nothing.
use mathlib.Core.Path.{ap}
use native.Mathlib.Omega.{arith}
use Rattle.lines.specs.declared.Parsed.{Parsed}
use Rattle.sheet.proofs.Onward.{width_small}
use Rattle.sheet.proofs.reader.advance.Goals as goal

pub overflow_add-result : goal.overflow_add-result
overflow_add-result c =
    let g = c.args.progress in
    omega (arith, c.requires.0, ap (λ (p : Parsed). p.width) c.next_line-parsed.ensures, width_small g.reader.sheet.now g.reader.at g.parsed)
