-- `wording::write_sentence` meets its contract: the sentence of a pass or of a failure.
-- Assumes nothing.
use mathlib.Core.Path.{sym, ap, ◌∙◌}
use lib.ListN.{length}
use lib.Seq.{sets}
use Rattle.std.specs.Prelude.{Ok}
use Rattle.searches.specs.Kind.{search_of}
use Rattle.searches.specs.Answer.{verdict_of}
use Rattle.searches.specs.declared.Judgement.{Judgement}
use Rattle.searches.specs.declared.Vertex.{Vertex}
use Rattle.wording.specs.Sentence.{sentence}
use Rattle.wording.proofs.write_sentence.Goals as goal

pub returns-in-Passes : goal.returns-in-Passes
unfolding verdict_of
returns-in-Passes c =
    let a = c.args in
    let is = c.in-Passes.is in record {
      output = c.write_pass.ensures.output ∙ ap (λ (j : Judgement Vertex). sets a.output.now 0 (sentence (search_of a.kind.0) (verdict_of (Ok j)))) (sym is);
      end = c.write_pass.ensures.end ∙ ap (λ (j : Judgement Vertex). length (sentence (search_of a.kind.0) (verdict_of (Ok j)))) (sym is);
    }

pub returns-in-Fails : goal.returns-in-Fails
unfolding verdict_of
returns-in-Fails c =
    let a = c.args in
    let is = c.in-Fails.is in record {
      output = c.write_failure.ensures.output ∙ ap (λ (j : Judgement Vertex). sets a.output.now 0 (sentence (search_of a.kind.0) (verdict_of (Ok j)))) (sym is);
      end = c.write_failure.ensures.end ∙ ap (λ (j : Judgement Vertex). length (sentence (search_of a.kind.0) (verdict_of (Ok j)))) (sym is);
    }
