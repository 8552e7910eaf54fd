-- `sheet::reader::advance_by` meets its contract: the reader and what was parsed are those after so many lines.
-- Assumes nothing.
use Prim.Native.Nat.{◌<◌}
use mathlib.Core.Path.{sym, ap, ◌∙◌, subst}
use native.Mathlib.Omega.{arith}
use Rattle.lines.specs.Line.{Sound}
use Rattle.sheet.specs.Parsing.{advanced}
use Rattle.sheet.specs.declared.reader.Progress.{Progress}
use Rattle.sheet.proofs.Onward.{after_none, after_one, after_low, after_sound}
use Rattle.sheet.proofs.reader.advance_by.Goals as goal

pub loop-init : goal.loop-init
loop-init c = sym (after_none c.args.progress)

pub advance-progress-requires : goal.advance-progress-requires
advance-progress-requires c =
    let g = c.args.progress in
    subst (λ (r : Progress). (r.reader.at < 900000) × Sound r.parsed) (sym c.loop.invariant)
    (omega (arith, c.requires.0, c.loop-test.true, after_low g c.loop.counter), after_sound g c.requires.1 c.loop.counter)

pub loop-preserved : goal.loop-preserved
loop-preserved c =
    c.advance-progress.ensures ∙ ap advanced c.loop.invariant ∙ after_one c.args.progress c.loop.counter
