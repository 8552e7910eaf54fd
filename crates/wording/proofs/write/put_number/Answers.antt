-- `wording::write::put_number` meets its contract: one digit, two or three.
-- Assumes nothing.
use native.Mathlib.Omega.{arith}
use lib.ListN.{set}
use lib.Seq.{lt-length-set}
use Rattle.wording.proofs.Writing.{number_one, number_two, number_three}
use borrow.Author.Rules.{rules}
use Rattle.wording.proofs.write.put_number.Goals as goal

pub returns-then-x-lt10 : goal.returns-then-x-lt10
returns-then-x-lt10 c =
    let a = c.args in
    let whole = number_one a.output.now a.at a.vertex.0 (omega arith) c.ones_of.ensures in
    record { output = whole.0; end = whole.1 }

pub bounds-output-at-then-x-lt100-2 : goal.bounds-output-at-then-x-lt100-2
bounds-output-at-then-x-lt100-2 c = lt-length-set c.args.output.now _ _ (omega (arith, c.requires))

pub returns-then-x-lt100 : goal.returns-then-x-lt100
returns-then-x-lt100 c =
    let a = c.args in
    let whole = number_two a.output.now a.at a.vertex.0 (omega arith) (omega arith) c.ones_of-then-x-lt100.ensures c.ones_of-then-x-lt100-2.ensures in
    record { output = whole.0; end = whole.1 }

pub bounds-output-at-3 : goal.bounds-output-at-3
bounds-output-at-3 c = lt-length-set c.args.output.now _ _ (omega (arith, c.requires))

pub bounds-output-at-4 : goal.bounds-output-at-4
bounds-output-at-4 c =
    let l = c.args.output.now in
    lt-length-set (set l c.args.at c.ones_of-2.result) _ _ (lt-length-set l _ _ (omega (arith, c.requires)))

pub returns : goal.returns
returns c =
    let a = c.args in
    let whole = number_three a.output.now a.at a.vertex.0 (omega arith) (search rules) c.ones_of-2.ensures
    c.ones_of-3.ensures c.ones_of-4.ensures in
    record { output = whole.0; end = whole.1 }
