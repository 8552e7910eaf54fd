-- `choice::rank` meets its contract.
-- Assumes nothing.
use mathlib.Core.Path.{refl}
use Rattle.choice.specs.Ranks.{ranks_below}
use Rattle.choice.proofs.Ranking.{ranks_next}
use Rattle.choice.proofs.rank.Goals as goal

pub loop-q-init : goal.loop-q-init
unfolding ranks_below
loop-q-init c = c.requires.2

pub loop-q-preserved : goal.loop-q-preserved
loop-q-preserved c = ranks_next c.args.tie_break.now c.loop-q.q c.loop-q.invariant refl
