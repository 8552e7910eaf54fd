-- `adjacency::offset` meets its contract.
-- Assumes nothing.
use mathlib.Core.Path.{refl}
use native.Mathlib.Omega.{arith}
use Rattle.adjacency.proofs.offset.Goals as goal

pub overflow_cast-result : goal.overflow_cast-result
overflow_cast-result c = omega (arith, c.type_inv.offsets c.args.u)

pub returns : goal.returns
returns c = record { entry = refl; fits = omega (arith, c.type_inv.offsets c.args.u) }
