-- `dimacs_to_sheet::main` calls everything as it may be called.
-- Assumes nothing.
use mathlib.Core.Path.{sym}
use lib.Seq.{length-take-le}
use Rattle.drawing.proofs.Drawn.{written_fits}
use Rattle.dimacs_to_sheet.proofs.main.Goals as goal

-- the sheet, or the number, fits
pub slice_bounds-output-end : goal.slice_bounds-output-end
slice_bounds-output-end c = written_fits _ _ c.sheet_of-length.ensures.output c.sheet_of-length.ensures.length

pub slice_bounds-write_all-end-2 : goal.slice_bounds-write_all-end-2
slice_bounds-write_all-end-2 c =
    sym (length-take-le _ _ (written_fits _ _ c.sheet_of-length.ensures.output c.sheet_of-length.ensures.length))
