-- `admission::rows::Table::self_loop` meets its contract: `any` over the vertices asks each of them.
-- Assumes nothing.
use mathlib.Core.Path.{refl, ◌∙◌}
use native.Mathlib.Omega.{arith}
use borrow.Author.Tests.{tests}
use Rattle.std.proofs.Common.{rules}
use Rattle.std.proofs.lemmas.Iterator.{YieldsList-from_range}
use Rattle.std.proofs.lemmas.Iterator.Search.{any_from_yields_List}
use Rattle.searches.specs.Table.{arcs_wide}
use Rattle.tables.proofs.Ranges.{range_any}
use Rattle.admission.proofs.rows.Table.self_loop.Goals as goal

pub returns : goal.returns
returns c =
    any_from_yields_List (λ u. arcs_wide 8 c.args.self.words.now u u) _ _ _ c.any.ensures.ran (YieldsList-from_range 0 c.args.self.n _ refl (omega arith)) (λ u b q call. search (rules, tests))
    ∙ range_any c.args.self.n _ _ (λ u l. refl)
