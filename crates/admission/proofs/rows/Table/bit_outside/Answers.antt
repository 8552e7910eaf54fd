-- `admission::rows::Table::bit_outside` meets its contract: `any` over the rows asks each of them.
-- Assumes nothing.
use mathlib.Core.Path.{refl, ◌∙◌}
use native.Mathlib.Omega.{arith}
use borrow.Author.Tests.{tests}
use Rattle.std.proofs.Common.{rules}
use Rattle.std.proofs.lemmas.Iterator.{YieldsList-from_range}
use Rattle.std.proofs.lemmas.Iterator.Search.{any_from_yields_List}
use Rattle.tables.proofs.Ranges.{range_any}
use Rattle.admission.specs.Checked.{outside_in}
use Rattle.admission.proofs.rows.Table.bit_outside.Goals as goal

pub returns : goal.returns
returns c =
    any_from_yields_List (outside_in c.args.self.n c.args.self.words.now) _ _ _ c.any.ensures.ran (YieldsList-from_range 0 c.args.self.n _ refl (omega arith)) (λ u b q call. search (rules, tests))
    ∙ range_any c.args.self.n _ _ (λ u l. refl)
