-- `route::depth` meets its contract: the first position from which no step leads on is that of a vertex without a parent.
-- Assumes nothing.
use mathlib.Core.Path.{refl, sym}
use native.Mathlib.Omega.{arith}
use Rattle.route.proofs.Climbing.{climbing_start, climbing_next, climbing_found}
use Rattle.route.proofs.depth.Goals as goal

pub loop-up-init : goal.loop-up-init
loop-up-init c = (climbing_start _ _ _, omega arith)

pub loop-up-preserved : goal.loop-up-preserved
loop-up-preserved c =
    let x = c.in-Some.ensures in (
      climbing_next _ _ _ c.loop-up.invariant.0 (omega (arith, x.1)) x.0 (λ same. omega (arith, x.1)),
      omega (arith, x.1),
    )

pub returns : goal.returns
returns c = climbing_found _ _ _ c.loop-up.invariant.0 (sym c.in_default.ensures) refl
