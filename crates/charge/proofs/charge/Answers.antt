-- `charge::charge` meets its contract: the bill with halves to the even cent.
-- Assumes nothing.
use Rattle.charge.specs.Charge.{charge_to_even_answer}
use Rattle.cents.specs.Cents.{cents_by}
use Rattle.charge.proofs.charge.Goals as goal

pub returns : goal.returns
unfolding cents_by charge_to_even_answer
returns c = c.bill_by.ensures
