-- `admission::rows::Table::row_outside` meets its contract: `any` over the words asks of each whether it has a bit at or above n.
-- Assumes nothing.
use mathlib.Core.Path.{refl, sym, ◌∙◌}
use mathlib.Core.Bool.{Bool}
use Prim.Native.Nat.{ℕ, ◌+◌, ◌*◌, ◌-◌}
use lib.ListN.{get_or}
use borrow.Author.Tests.{tests}
use Rattle.std.proofs.Common.{rules}
use Rattle.std.proofs.lemmas.Iterator.{YieldsList-from_range}
use Rattle.std.proofs.lemmas.Iterator.Search.{any_from_yields_List}
use Rattle.bitset.specs.Below.{any_below}
use Rattle.bitset.specs.Word.{from_up}
use Rattle.tables.proofs.Ranges.{range_any}
use Rattle.admission.proofs.Outside.{word_outside_lem, outside_by_words}
use Rattle.admission.proofs.rows.Table.row_outside.Goals as goal
use Rattle.admission.proofs.rows.Table.row_outside.Goals.{Start}

abbrev asked : Start → ℕ → Bool
asked c i = any_below 64 (from_up (c.args.self.n - 64 * i) (get_or c.args.self.words.now (8 * c.args.u + i) 0))

pub returns : goal.returns
returns c =
    any_from_yields_List (asked (goal.at.returns c).Start) _ _ _ c.any.ensures.ran (YieldsList-from_range 0 8 8 refl refl) (λ i b q call. search (rules, tests))
    ∙ range_any 8 _ _ (λ i l. word_outside_lem c.args.self.n c.args.self.words.now c.args.u i l refl)
    ∙ sym (outside_by_words _ _ _)
