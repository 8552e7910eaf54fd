-- `charge::charge_halves_up` meets its contract: the bill with halves up.
-- Assumes nothing.
use Rattle.charge.specs.Charge.{charge_answer}
use Rattle.cents.specs.Cents.{cents_by}
use Rattle.charge.proofs.charge_halves_up.Goals as goal

pub returns : goal.returns
unfolding cents_by charge_answer
returns c = c.bill_by.ensures
