-- `judgement::judge_input` meets its contract: what the buffer has no room for changes nothing.
-- Assumes nothing.
use mathlib.Core.Path.{◌≡◌, ap, ◌∙◌}
use mathlib.Core.List.{List}
use Prim.Native.Nat.{ℕ, suc}
use borrow.Author.Rules.{rules}
use lib.ListN.{length, take}
use lib.Seq.{sets}
use Rattle.sheet.specs.Sheet.{stopped_in}
use Rattle.sheet.specs.Written.{longest}
use Rattle.sheet.proofs.Cut.{cut_stopped}
use Rattle.judgement.specs.Judged.{judgement, ReadInto}
use Rattle.judgement.proofs.Cut.{cut_judged}
use Rattle.judgement.proofs.judge_input.Goals as goal
use Rattle.judgement.proofs.judge_input.Goals.{After-judge_first}

-- the buffer has room for one byte more than the longest sheet
room : (c : After-judge_first) → length c.args.input.now ≡ suc longest
room c = let full : length c.args.input.now ≡ 18478 = search rules in full

pub returns : goal.returns
returns c =
    let a = c.args in
    let e = c.judge_first.ensures in
    let whole : (b : List ℕ) → ReadInto a.input.now a.count b → take a.count a.input.now ≡ take (suc longest) b = λ b held. held.prefix ∙ ap (λ (n : ℕ). take n b) (room c) in
    record {
      output = λ b held. e.output ∙ ap (λ (x : List ℕ). sets a.output.now 0 (judgement x)) (whole b held) ∙ ap (λ (x : List ℕ). sets a.output.now 0 x) (cut_judged b);
      length = λ b held. e.length ∙ ap (λ (x : List ℕ). length (judgement x)) (whole b held) ∙ ap length (cut_judged b);
      line = λ b held. e.line ∙ ap stopped_in (whole b held) ∙ cut_stopped b;
    }
