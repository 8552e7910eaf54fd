-- `plan_text::is_link` meets its contract, which says what the code does.
-- Assumes nothing.
use mathlib.Core.Path.{ap}
use mathlib.Core.Bool.{Bool, ◌&&◌}
use Prim.Native.Nat.{◌/◌, ◌%◌}
use lib.Dec.{ltb}
use Rattle.searches.specs.Ordering.{arcs}
use Rattle.sheet.specs.Written.{is_link}
use Rattle.plan_text.proofs.is_link.Goals as goal

pub returns : goal.returns
unfolding is_link arcs
returns c = let a = c.args in ap (λ (b : Bool). ltb (a.c / 64) (a.c % 64) && b) c.contains.ensures
