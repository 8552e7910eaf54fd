-- `bitset::copy::copy` meets its contract.
-- Assumes nothing.
use native.Mathlib.Omega.{arith}
use Rattle.bitset.proofs.Copying.{copying_start, copying_next, copying_end}
use Rattle.bitset.proofs.copy.copy.Goals as goal

pub loop-u-init : goal.loop-u-init
loop-u-init c = copying_start c.args.rows.now c.args.copy.now c.requires.0 c.requires.1

pub loop-u-preserved : goal.loop-u-preserved
loop-u-preserved c = copying_next c.args.rows.now c.args.copy.now c.requires.0 c.requires.1 c.loop-u.invariant (omega arith)

pub returns : goal.returns
returns c = copying_end c.args.rows.now c.args.copy.now c.requires.0 c.requires.1 c.loop-u.invariant (omega arith)
