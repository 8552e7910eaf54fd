-- `judge_sheet::main` calls everything as it may be called.
-- Assumes nothing.
use mathlib.Core.Path.{sym}
use native.Mathlib.Omega.{arith}
use lib.Seq.{length-take-le}
use Rattle.judgement.proofs.Cut.{written_fits}
use Rattle.judge_sheet.proofs.main.Goals as goal
use Rattle.judge_sheet.proofs.main.Goals.{After-judge_input-judged}

-- the judgement fits
pub slice_bounds-output-end : goal.slice_bounds-output-end
slice_bounds-output-end c = written_fits _ _ _ c.judge_input-judged.ensures.output c.judge_input-judged.ensures.length (omega arith)

pub slice_bounds-write_all-end : goal.slice_bounds-write_all-end
slice_bounds-write_all-end c = sym (length-take-le _ _ (slice_bounds-output-end (goal.at.slice_bounds-write_all-end c).After-judge_input-judged))

pub slice_bounds-write_all-end-then-line-ne0 : goal.slice_bounds-write_all-end-then-line-ne0
slice_bounds-write_all-end-then-line-ne0 c = sym (length-take-le _ _ (omega arith))
