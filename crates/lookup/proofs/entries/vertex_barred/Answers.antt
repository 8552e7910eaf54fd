-- `lookup::entries::vertex_barred` meets its contract: `any` over the first entries is any_below, and none is a member of the empty set.
-- Assumes nothing.
use mathlib.Core.Path.{sym, ◌∙◌}
use lib.ListN.{take}
use borrow.Author.Tests.{tests}
use Rattle.std.proofs.Common.{rules}
use Rattle.std.proofs.lemmas.Iterator.{YieldsList-from_slice}
use Rattle.std.proofs.lemmas.Iterator.Search.{any_from_yields_List}
use Rattle.bitset.specs.Word.{member}
use Rattle.bitset.proofs.Tests.{is_false}
use Rattle.bitset.proofs.Below.{any_out}
use Rattle.bitset.proofs.Word.{empty_back}
use Rattle.bitset.proofs.Chains.{first_any}
use Rattle.searches.specs.Answer.{barred_named}
use Rattle.lookup.proofs.entries.vertex_barred.Goals as goal

-- nothing is barred
pub returns-then-barred-eq0 : goal.returns-then-barred-eq0
unfolding barred_named
returns-then-barred-eq0 c = sym (is_false _ (λ t. let x = any_out _ _ t in empty_back c.if-barred-eq0.true _ x.holds))

pub returns : goal.returns
unfolding barred_named
returns c =
    any_from_yields_List (member c.args.barred) _ _ _ c.any.ensures.ran (YieldsList-from_slice (take c.args.k c.args.list.now) cc) (λ v said _ call. search (rules, tests))
    ∙ first_any (member c.args.barred) 0 c.args.k c.args.list.now c.requires
