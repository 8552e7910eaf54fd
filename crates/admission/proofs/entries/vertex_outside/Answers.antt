-- `admission::entries::vertex_outside` meets its contract: `any` over the first entries is any_below.
-- Assumes nothing.
use mathlib.Core.Path.{◌∙◌}
use lib.Dec.{leb}
use lib.ListN.{take}
use borrow.Author.Tests.{tests}
use Rattle.std.proofs.Common.{rules}
use Rattle.std.proofs.lemmas.Iterator.{YieldsList-from_slice}
use Rattle.std.proofs.lemmas.Iterator.Search.{any_from_yields_List}
use Rattle.bitset.proofs.Chains.{first_any}
use Rattle.searches.specs.Answer.{vertex_outside}
use Rattle.admission.proofs.entries.vertex_outside.Goals as goal

pub returns : goal.returns
unfolding vertex_outside
returns c =
    any_from_yields_List (leb c.args.n) _ _ _ c.any.ensures.ran (YieldsList-from_slice (take c.args.k c.args.list.now) cc) (λ v said _ call. search (rules, tests))
    ∙ first_any (leb c.args.n) 0 c.args.k c.args.list.now c.requires
