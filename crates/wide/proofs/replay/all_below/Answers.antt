-- `wide::replay::all_below` meets its contract: word by word, the numbers of the word that are below n.
-- Assumes nothing.
use mathlib.Core.Path.{refl}
use native.Mathlib.Omega.{arith}
use Rattle.wide.proofs.Upto.{upto_start, upto_next}
use Rattle.wide.proofs.replay.all_below.Goals as goal

pub loop-i-init : goal.loop-i-init
loop-i-init c = upto_start _ refl

pub loop-i-preserved : goal.loop-i-preserved
loop-i-preserved c =
    upto_next c.loop-i.i c.loop-i.invariant c.loop-i-test.true c.saturating_sub.ensures c.full_below.ensures

pub returns : goal.returns
returns c =
    let l = c.loop-i in
    (l.invariant.size, λ v h. l.invariant.filled v (omega (arith, c.loop-i-test.false)))
