-- `judgement::judge_first` meets its contract: where there are no more bytes, the first are all.
-- Assumes nothing.
use mathlib.Core.Path.{sym, ap, ◌∙◌}
use mathlib.Core.List.{List}
use Prim.Native.Nat.{ℕ}
use native.Mathlib.Omega.{arith}
use lib.ListN.{length}
use lib.Seq.{sets, take_all, length-take-le}
use Rattle.sheet.specs.Sheet.{stopped_in}
use Rattle.judgement.specs.Judged.{judgement}
use Rattle.judgement.proofs.judge_first.Goals as goal

pub returns-then-all : goal.returns-then-all
returns-then-all c =
    let written = c.write_judgement in
    let a = c.args in
    let all = sym (take_all a.count a.bytes.now (omega (arith, c.if-all.true))) in
    record {
      output = written.ensures.output ∙ ap (λ (b : List ℕ). sets a.output.now 0 (judgement b)) all;
      length = written.ensures.length ∙ ap (λ (b : List ℕ). length (judgement b)) all;
      line = written.ensures.line ∙ ap stopped_in all;
    }

pub slice_bounds-write_judgement-end : goal.slice_bounds-write_judgement-end
slice_bounds-write_judgement-end c = sym (length-take-le _ _ (omega (arith, c.if-all.false)))

pub returns : goal.returns
returns c = let written = c.write_judgement-2 in
    record {
      output = written.ensures.output;
      length = written.ensures.length;
      line = written.ensures.line;
    }
