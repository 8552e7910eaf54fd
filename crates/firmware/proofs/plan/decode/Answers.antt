-- `firmware::plan::decode` meets its contract.
-- Assumes nothing.
use Prim.Native.Nat.{◌/◌, ◌<◌}
use mathlib.Core.Path.{◌∙◌}
use native.Mathlib.Omega.{arith}
use lib.ListN.{length}
use Rattle.firmware.proofs.Reading.{row_of_word, decoding_start, decoding_next, decoding_end}
use Rattle.firmware.proofs.plan.decode.Goals as goal

pub loop-u-init : goal.loop-u-init
loop-u-init c = decoding_start c.args.plan.now c.args.rows.now c.requires.1

pub loop-u-preserved : goal.loop-u-preserved
loop-u-preserved c =
    let plan = c.args.plan.now in
    let there : c.loop-u.u < length plan / 8 = omega arith in
    decoding_next plan c.from_le_bytes.result c.loop-u.invariant there c.requires.0
    (c.from_le_bytes.ensures ∙ row_of_word plan c.loop-u.u _ c.as_chunks.ensures.front there)

pub returns : goal.returns
returns c = decoding_end c.args.plan.now c.loop-u.invariant (omega arith)
