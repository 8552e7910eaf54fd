-- `lookup::rows::first_outside` meets its contract: `position` over the rows is found_below.
-- Assumes nothing.
use mathlib.Core.Path.{refl, ◌∙◌}
use mathlib.Core.Bool.{Bool}
use Prim.Native.Nat.{ℕ}
use lib.ListN.{length}
use borrow.Author.Tests.{tests}
use Rattle.std.proofs.Common.{rules}
use Rattle.std.proofs.lemmas.Iterator.{YieldsList-from_slice}
use Rattle.std.proofs.lemmas.Iterator.Search.{position_from_yields_List}
use Rattle.bitset.specs.Below.{any_below}
use Rattle.bitset.specs.Word.{from_up}
use Rattle.bitset.proofs.Chains.{items_position}
use Rattle.lookup.specs.Row.{outside_at}
use Rattle.lookup.proofs.rows.first_outside.Goals as goal

pub returns : goal.returns
unfolding outside_at
returns c =
    let rows = c.args.rows.now in
    let outside : ℕ → Bool = λ row. any_below 64 (from_up (length rows) row) in
    position_from_yields_List outside _ _ _ c.position.ensures.ran (YieldsList-from_slice rows cc) (λ row said _ call. search (rules, tests))
    ∙ items_position outside 0 rows (outside_at rows) (λ u l. refl)
