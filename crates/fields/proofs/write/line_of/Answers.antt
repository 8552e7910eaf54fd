-- `fields::write::line_of` meets its contract: each turn writes the field of one number more.
-- Assumes nothing.
use mathlib.Core.Path.{refl}
use native.Mathlib.Omega.{arith}
use Rattle.fields.proofs.Writing.{lining_start, lining_next, lining_end}
use Rattle.fields.proofs.write.line_of.Goals as goal

pub loop-x-init : goal.loop-x-init
loop-x-init c = lining_start _ _ _

pub put-end-requires : goal.put-end-requires
put-end-requires c =
    omega (arith, c.loop-x.invariant.place, c.loop-x-test.true, c.loop-x.auto.output, c.requires)

pub loop-x-preserved : goal.loop-x-preserved
loop-x-preserved c = lining_next _ _ _ c.loop-x.invariant c.loop-x-test.true refl c.put-end.ensures.output c.put-end.ensures.at

pub bounds-output-end : goal.bounds-output-end
bounds-output-end c =
    omega (arith, c.loop-x.invariant.place, c.loop-x.auto.x-index-end, c.loop-x-test.false, c.loop-x.auto.output, c.requires)

pub returns : goal.returns
returns c =
    let s = c.loop-x.invariant in record {
      output = lining_end _ _ _ s (omega (arith, c.loop-x.auto.x-index-end, c.loop-x-test.false));
      at = omega (arith, s.place, c.loop-x.auto.x-index-end, c.loop-x-test.false);
    }
