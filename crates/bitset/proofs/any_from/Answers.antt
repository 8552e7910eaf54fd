-- `bitset::any_from` meets its contract: what is left of the word after the shift are its numbers from `n` up.
-- Assumes nothing.
use mathlib.Core.Path.{sym}
use borrow.Author.Rules.{rules}
use Rattle.bitset.proofs.WordOrder.{some_from, none_from}
use Rattle.bitset.proofs.any_from.Goals as goal

pub returns-then-n-lt64 : goal.returns-then-n-lt64
returns-then-n-lt64 c = some_from 64 c.ranges.set.fits c.args.n

pub returns-else-n-lt64 : goal.returns-else-n-lt64
returns-else-n-lt64 c = sym (none_from 64 c.ranges.set.fits c.args.n (search rules))
