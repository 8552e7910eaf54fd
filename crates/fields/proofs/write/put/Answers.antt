-- `fields::write::put` meets its contract.
-- Assumes nothing.
use mathlib.Core.Path.{refl}
use Prim.Native.Nat.{◌+◌}
use native.Mathlib.Omega.{arith}
use lib.ListN.{set}
use lib.Seq.{lt-length-set}
use Rattle.fields.proofs.Writing.{put_is}
use Rattle.fields.proofs.write.put.Goals as goal

pub bounds-output-at-2 : goal.bounds-output-at-2
bounds-output-at-2 c = lt-length-set c.args.output.now _ _ (omega (arith, c.requires))

pub bounds-output-at-3 : goal.bounds-output-at-3
bounds-output-at-3 c =
    let l = c.args.output.now in
    lt-length-set (set l c.args.at c.lead_of.result) _ _ (lt-length-set l _ _ (omega (arith, c.requires)))

pub bounds-output-at-4 : goal.bounds-output-at-4
bounds-output-at-4 c =
    let l = c.args.output.now in
    let one = set l c.args.at c.lead_of.result in
    let two = set one (c.args.at + 1) c.lead_of-2.result in
    lt-length-set two _ _ (lt-length-set one _ _ (lt-length-set l _ _ (omega (arith, c.requires))))

pub returns : goal.returns
returns c =
    record {
      output = put_is c.args.output.now c.args.at c.args.x c.lead_of.ensures c.lead_of-2.ensures c.lead_of-3.ensures c.ones_of.ensures;
      at = refl;
    }
