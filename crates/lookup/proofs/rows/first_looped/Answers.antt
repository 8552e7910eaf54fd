-- `lookup::rows::first_looped` meets its contract: the number that `find` gives is found_below.
-- Assumes nothing.
use mathlib.Core.Bool.{true, false}
use mathlib.Core.Path.{◌≡◌}
use lib.ListN.{length}
use borrow.Author.Tests.{tests}
use Rattle.std.proofs.Common.{rules}
use Rattle.std.proofs.lemmas.Iterator.{first_from_Range}
use Rattle.bitset.proofs.Chains.{found_range}
use Rattle.searches.specs.Ordering.{arcs}
use Rattle.lookup.specs.Row.{loop_at}
use Rattle.lookup.proofs.rows.first_looped.Goals as goal

pub returns : goal.returns
unfolding loop_at arcs
returns c =
    let looped = loop_at c.args.rows.now in
    found_range (length c.args.rows.now) looped c.find.result
    (first_from_Range _ _ _ c.find.result (λ u. looped u ≡ true) (λ u. looped u ≡ false) c.find.ensures.ran (λ u _ call. search (rules, tests)) (λ u _ call. search (rules, tests)))
