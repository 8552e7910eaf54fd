-- `judgement::judge` meets its contract: a list without room stays, any other gets the judgement.
-- Assumes nothing.
use mathlib.Core.Path.{sym, ap, ◌∙◌}
use mathlib.Core.Bool.{Bool, cond}
use borrow.Author.Tests.{lt-ltb, le-ltb}
use lib.ListN.{length}
use lib.Seq.{sets}
use native.Mathlib.Omega.{arith}
use Rattle.judgement.specs.Judged.{judgement, judgement_in, judgement_length}
use Rattle.judgement.proofs.judge.Goals as goal

pub returns-then-short : goal.returns-then-short
unfolding judgement_in judgement_length
returns-then-short c =
    let a = c.args in
    let b = a.sheet.now in
    let out = a.output.now in record {
      output = sym (ap (λ (x : Bool). cond x out (sets out 0 (judgement b))) (lt-ltb (length out) 147 (omega arith)));
      length = sym (ap (λ (x : Bool). cond x 0 (length (judgement b))) (lt-ltb (length out) 147 (omega arith)));
    }

pub returns : goal.returns
unfolding judgement_in judgement_length
returns c =
    let a = c.args in
    let b = a.sheet.now in
    let out = a.output.now in record {
      output = c.write_judgement-judged.ensures.output ∙ sym (ap (λ (x : Bool). cond x out (sets out 0 (judgement b))) (le-ltb (length out) 147 (omega arith)));
      length = c.write_judgement-judged.ensures.length ∙ sym (ap (λ (x : Bool). cond x 0 (length (judgement b))) (le-ltb (length out) 147 (omega arith)));
    }
