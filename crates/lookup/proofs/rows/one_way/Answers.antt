-- `lookup::rows::one_way` meets its contract: the rows differ from their transpose where refusal 5 applies.
-- Assumes nothing.
use mathlib.Core.Path.{refl, sym, ◌∙◌}
use native.Mathlib.Omega.{arith}
use lib.Seq.{length-take-le}
use Rattle.lookup.proofs.Symmetry.{rows_within, differs_one_way}
use Rattle.lookup.proofs.rows.one_way.Goals as goal
use Rattle.lookup.proofs.rows.one_way.Goals.{After-write_columns}

pub write_columns-requires : goal.write_columns-requires
write_columns-requires c = (rows_within c.args.rows.now c.requires.0 c.requires.1, refl)

pub slice_bounds-columns-end : goal.slice_bounds-columns-end
slice_bounds-columns-end c = omega (arith, c.write_columns.ensures.full, c.requires.0)

pub slice_bounds-differs-end : goal.slice_bounds-differs-end
slice_bounds-differs-end c = sym (length-take-le _ _ (slice_bounds-columns-end (goal.at.slice_bounds-differs-end c).After-write_columns))

pub differs-requires : goal.differs-requires
differs-requires c = length-take-le _ _ (slice_bounds-columns-end (goal.at.differs-requires c).After-write_columns)

pub returns : goal.returns
returns c =
    c.differs.ensures ∙ differs_one_way c.args.rows.now c.requires.0 c.requires.1 c.write_columns.ensures
