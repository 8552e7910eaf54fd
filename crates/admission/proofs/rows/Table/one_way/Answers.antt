-- `admission::rows::Table::one_way` meets its contract: `any` over the rows asks each of them, and the vertices looked at are those of the graph.
-- Assumes nothing.
use mathlib.Core.Path.{◌≡◌, refl, ◌∙◌}
use mathlib.Core.Bool.{false}
use Prim.Native.Nat.{ℕ, ◌<◌}
use native.Mathlib.Omega.{arith}
use borrow.Author.Tests.{tests}
use Rattle.std.proofs.Common.{rules}
use Rattle.std.proofs.lemmas.Iterator.{YieldsList-from_range, serves_from_Range}
use Rattle.std.proofs.lemmas.Iterator.Search.{any_from_yields_List}
use Rattle.bitset.specs.Below.{any_below}
use Rattle.tables.proofs.Ranges.{range_any}
use Rattle.admission.specs.Checked.{outside_in, one_sided_in}
use Rattle.admission.proofs.Outside.{none_below, one_sided_inside}
use Rattle.admission.proofs.rows.Table.one_way.Goals as goal
use Rattle.admission.proofs.rows.Table.one_way.Goals.{Start}

-- no row has a bit outside
none_outside : (c : Start) → (u : ℕ) → u < c.args.self.n → outside_in c.args.self.n c.args.self.words.now u ≡ false
none_outside c = none_below c.args.self.n (outside_in c.args.self.n c.args.self.words.now) c.requires

pub any-requires-clause-callable : goal.any-requires-clause-callable
any-requires-clause-callable c =
    serves_from_Range (λ u q call. search (rules, tests))
    (λ u from below. let none = none_outside (goal.at.any-requires-clause-callable c).Start u below in search rules)

-- the vertices that are looked at are those of the graph
pub returns : goal.returns
returns c =
    any_from_yields_List (λ u. any_below 512 (one_sided_in c.args.self.words.now u)) _ _ _ c.any.ensures.ran (YieldsList-from_range 0 c.args.self.n _ refl (omega arith)) (λ u b q call. search (rules, tests))
    ∙ range_any c.args.self.n _ _
    (λ u l. one_sided_inside c.args.self.n c.args.self.words.now u (none_outside (goal.at.returns c).Start u l) c.args.self.sized.small)
