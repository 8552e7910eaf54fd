-- `lookup::behind::entry_used_from` meets its contract: `any` over what is behind is any_below.
-- Assumes nothing.
use mathlib.Core.Path.{ap, ◌∙◌}
use mathlib.Core.Bool.{Bool, not}
use Prim.Native.Nat.{ℕ}
use lib.Dec.{eqb}
use lib.ListN.{drop}
use borrow.Author.Tests.{tests}
use Rattle.std.proofs.Common.{rules}
use Rattle.std.proofs.lemmas.Iterator.{YieldsList-from_slice}
use Rattle.std.proofs.lemmas.Iterator.Search.{any_from_yields_List}
use Rattle.std.proofs.lemmas.List.{take_rest}
use Rattle.bitset.specs.Below.{any_below}
use Rattle.bitset.proofs.Chains.{behind_any}
use Rattle.lookup.specs.Unused.{used_at, used_from}
use Rattle.lookup.proofs.behind.entry_used_from.Goals as goal

pub returns : goal.returns
unfolding used_at used_from
returns c =
    let used : ℕ → Bool = λ x. not (eqb x 0) in
    any_from_yields_List used _ _ _ c.any.ensures.ran (YieldsList-from_slice (drop c.args.k c.args.ordering.now) (c.iter.ensures.rest ∙ take_rest c.args.ordering.now c.args.k))
    (λ x said _ call. search (rules, tests))
    ∙ behind_any used 0 c.args.k c.args.ordering.now ∙ ap (λ (m : ℕ). any_below m (used_at c.args.k c.args.ordering.now)) c.requires.1
