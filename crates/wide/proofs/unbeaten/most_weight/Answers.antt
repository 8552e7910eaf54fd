-- `unbeaten::most_weight` meets its contract: `most` is the greatest of the weights passed.
-- Assumes nothing.
use mathlib.Core.Path.{refl}
use native.Mathlib.Omega.{arith}
use lib.ListN.{get_or}
use Rattle.wide.proofs.Heaviest.{highest_start, highest_next, highest_most}
use Rattle.wide.proofs.unbeaten.most_weight.Goals as goal

pub loop-weight-init : goal.loop-weight-init
loop-weight-init c = highest_start _

pub loop-weight-preserved : goal.loop-weight-preserved
loop-weight-preserved c =
    highest_next c.loop-weight.invariant (get_or c.args.weights.now c.loop-weight.weight-index 0) refl (omega arith) (omega arith) (grind arith)

pub returns : goal.returns
returns c = highest_most c.loop-weight.invariant (omega arith) (omega arith)
