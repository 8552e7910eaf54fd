-- `judgement::judged_lines` meets its contract: the lines of the kinds so far are written.
-- Assumes nothing.
use mathlib.Core.Path.{◌≡◌, ap, ◌∙◌}
use Prim.Native.Nat.{ℕ}
use native.Mathlib.Omega.{arith}
use lib.ListN.{length}
use lib.Seq.{sets, length-sets}
use Rattle.searches.specs.declared.Mark.{Mark}
use Rattle.searches.proofs.NothingBarred.{judge_none}
use Rattle.judgement.specs.Judged.{judged_lines}
use Rattle.judgement.proofs.Writing.{judging_start, judging_room, judging_next}
use Rattle.judgement.proofs.judged_lines.Goals as goal

pub loop-kind-init : goal.loop-kind-init
loop-kind-init c = judging_start _ _ _

pub judge-judgement-requires : goal.judge-judgement-requires
judge-judgement-requires c = tt

pub judged_line-at-requires : goal.judged_line-at-requires
judged_line-at-requires c =
    judging_room c.args.output.now c.args.rows.now c.args.ordering.now c.loop-kind.invariant c.loop-kind-test.true c.requires

pub loop-kind-preserved : goal.loop-kind-preserved
loop-kind-preserved c =
    judging_next c.args.output.now c.args.rows.now c.args.ordering.now c.judged_line-at.new.output c.loop-kind.invariant c.loop-kind-test.true
    (c.judge-judgement.ensures ∙ judge_none c.loop-kind.kind Mark.TwoWay c.args.rows.now c.args.ordering.now) c.judged_line-at.ensures.output c.judged_line-at.ensures.at

pub shape_of-output : goal.shape_of-output
shape_of-output c =
    ap length c.loop-kind.invariant.written ∙ length-sets c.args.output.now 0 (judged_lines c.args.rows.now c.args.ordering.now c.loop-kind.kind)

pub returns : goal.returns
returns c =
    let all : c.loop-kind.kind ≡ 7 = omega (arith, c.loop-kind.invariant.upto) in
    let rows = c.args.rows.now in
    let w = c.args.ordering.now in record {
      output = c.loop-kind.invariant.written ∙ ap (λ (j : ℕ). sets c.args.output.now 0 (judged_lines rows w j)) all;
      at = c.loop-kind.invariant.place ∙ ap (λ (j : ℕ). length (judged_lines rows w j)) all;
    }
