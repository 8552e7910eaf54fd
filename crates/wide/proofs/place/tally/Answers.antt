-- `wide::place::tally` meets its contract: on a two-way graph by what is known of the two counts.
-- Assumes nothing.
use mathlib.Core.Path.{sym, ◌∙◌, subst}
use lib.Dec.{T}
use Rattle.searches.specs.Answer.{is_two_way}
use Rattle.searches.specs.Table.{arcs_wide}
use Rattle.searches.specs.declared.Mark.{Mark}
use Rattle.tables.specs.Rows.{row_of}
use Rattle.wide.proofs.place.tally.Goals as goal

pub returns-in-TwoWay : goal.returns-in-TwoWay
unfolding is_two_way
returns-in-TwoWay c =
    c.count_in.ensures ∙ c.requires.u_value (subst (λ (m : Mark). T (is_two_way m)) (sym c.in-TwoWay.is) tt)

pub returns : goal.returns
unfolding row_of arcs_wide
returns c = c.count_row.ensures
