-- `lookup::columns::columns_of` meets its contract: the rows are copied, or transposed, as the mark says.
-- Assumes nothing.
use mathlib.Core.Path.{sym, ap, subst}
use lib.Dec.{T}
use lib.ListN.{length}
use Rattle.searches.specs.Answer.{is_two_way}
use Rattle.searches.specs.declared.Mark.{Mark}
use Rattle.lookup.proofs.Transposition.{first_columns, first_rows}
use Rattle.lookup.proofs.columns.columns_of.Goals as goal

pub copy-requires : goal.copy-requires
copy-requires c = (c.requires.0.small, ap length c.requires.2)

pub write_columns-requires : goal.write_columns-requires
write_columns-requires c = (c.requires.0, c.requires.2)

pub returns-in-TwoWay : goal.returns-in-TwoWay
unfolding is_two_way
returns-in-TwoWay c =
    first_rows c.args.rows.now (c.requires.1 (subst (λ (mark : Mark). T (is_two_way mark)) (sym c.in-TwoWay.is) tt)) _ c.copy.ensures

pub returns-in-OneWay : goal.returns-in-OneWay
returns-in-OneWay c =
    first_columns c.args.rows.now c.requires.0.small c.write_columns.ensures
