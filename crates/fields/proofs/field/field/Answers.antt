-- `fields::field::field` meets its contract: the digits' number has that field, or no number has.
-- Assumes nothing.
use mathlib.Core.Path.{◌≡◌, sym}
use mathlib.Core.Bool.{◌&&◌}
use native.Mathlib.Omega.{arith}
use lib.Dec.{eqb}
use Rattle.bitset.proofs.Tests.{said_true, said_false}
use Rattle.fields.specs.Field.{is_field_at}
use Rattle.fields.proofs.Fields.{digits_small, columns, field_found, field_missing}
use Rattle.fields.proofs.field.field.Goals as goal
use Rattle.fields.proofs.field.field.Goals.{After-ones_of}

-- the four comparisons are the test
compared : (c : After-ones_of)
    → ((eqb c.byte_at.result c.lead_of.result
    && eqb c.byte_at-2.result c.lead_of-2.result)
    && (eqb c.byte_at-3.result c.lead_of-3.result && eqb c.byte_at-4.result c.ones_of.result))
    ≡ is_field_at c.args.bytes.now c.args.i c.digits-x.result
compared c =
    columns c.args.bytes.now c.args.i c.digits-x.result
    c.byte_at.ensures c.byte_at-2.ensures
    c.byte_at-3.ensures c.byte_at-4.ensures
    c.lead_of.ensures c.lead_of-2.ensures
    c.lead_of-3.ensures c.ones_of.ensures

pub returns-then-a-b : goal.returns-then-a-b
returns-then-a-b c =
    (omega (arith, c.digits-x.ensures, digits_small c.args.bytes.now c.args.i), field_found c.args.bytes.now c.args.i c.digits-x.ensures (said_true _ (compared (goal.at.returns-then-a-b c).After-ones_of) c.if-a-b.true))

pub returns-else-a-b : goal.returns-else-a-b
returns-else-a-b c =
    sym (field_missing c.args.bytes.now c.args.i c.digits-x.ensures (said_false _ (compared (goal.at.returns-else-a-b c).After-ones_of) c.if-a-b.false))
