-- `bitset::transposition::exchange` meets its contract: what is written are the two words of the exchange.
-- Assumes nothing.
use Rattle.bitset.proofs.Halves.{pair_below}
use Rattle.bitset.proofs.Exchange.{exchanged_pair}
use Rattle.bitset.proofs.transposition.exchange.Goals as goal

pub bounds-words-high : goal.bounds-words-high
bounds-words-high c = pair_below c.args.stride c.requires.1.positive c.requires.1.whole c.requires.2

pub bounds-words-high-2 : goal.bounds-words-high-2
bounds-words-high-2 c = pair_below c.args.stride c.requires.1.positive c.requires.1.whole c.requires.2

pub returns : goal.returns
returns c = exchanged_pair c.requires.1 c.args.words.now c.requires.0 c.requires.2
