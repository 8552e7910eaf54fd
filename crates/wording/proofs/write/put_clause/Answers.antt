-- `wording::write::put_clause` meets its contract: the number stands behind the words.
-- Assumes nothing.
use Rattle.wording.specs.Decimal.{decimal}
use Rattle.wording.proofs.Writing.{written_more}
use Rattle.wording.proofs.write.put_clause.Goals as goal

pub returns : goal.returns
returns c =
    let a = c.args in
    let w =
    written_more a.output.now a.at a.words.now (decimal a.vertex.0) (record { bytes = c.put-number.ensures.output; place = c.put-number.ensures.end }) c.put_number.ensures.output
    c.put_number.ensures.end
    in
    record {
      output = w.bytes;
      end = w.place;
    }
