-- `admission::rows::Table::row_one_way` meets its contract: `any` over the words asks each of them.
-- Assumes nothing.
use mathlib.Core.Path.{refl, sym, ◌∙◌}
use Prim.Native.Nat.{◌+◌, ◌*◌}
use borrow.Author.Tests.{tests}
use Rattle.std.proofs.Common.{rules}
use Rattle.std.proofs.lemmas.Iterator.{YieldsList-from_range}
use Rattle.std.proofs.lemmas.Iterator.Search.{any_from_yields_List}
use Rattle.bitset.specs.Below.{any_below}
use Rattle.tables.proofs.Ranges.{range_any}
use Rattle.tables.proofs.Bits.{any_words}
use Rattle.admission.specs.Checked.{one_sided_in}
use Rattle.admission.proofs.rows.Table.row_one_way.Goals as goal

pub returns : goal.returns
returns c =
    any_from_yields_List (λ i. any_below 64 (λ q. one_sided_in c.args.self.words.now c.args.u (64 * i + q))) _ _ _ c.any.ensures.ran (YieldsList-from_range 0 8 8 refl refl) (λ i b q call. search (rules, tests))
    ∙ range_any 8 _ _ (λ i l. refl)
    ∙ sym (any_words _)
