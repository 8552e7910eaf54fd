-- `choice::rank` meets its contract: the ranks of the entries passed are written.
-- Assumes nothing.
use native.Mathlib.Omega.{arith}
use Rattle.wide.proofs.Ranking.{ranking_start, ranking_next, ranking_end}
use Rattle.wide.proofs.choice.rank.Goals as goal

pub loop-q-init : goal.loop-q-init
loop-q-init c = ranking_start _ _ (omega arith)

pub loop-q-preserved : goal.loop-q-preserved
loop-q-preserved c =
    ranking_next _ c.requires.by_index c.requires.by_index_2 c.loop-q.invariant c.loop-q-test.true

pub returns : goal.returns
returns c =
    ranking_end _ c.requires.by_index c.requires.by_index_2 c.loop-q.invariant c.loop-q-test.false
