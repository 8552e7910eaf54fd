-- `unbeaten::is_beaten` meets its contract: by the greatest weight, or word by word: no vertex of the words passed is ahead.
-- Assumes nothing.
use mathlib.Core.Path.{◌≡◌, sym, ◌∙◌}
use Rattle.bitset.proofs.Tests.{said_true}
use Rattle.bitset.proofs.Passed.{passed_start, passed_more}
use Rattle.searches.specs.Kind.{search_of}
use Rattle.wide.proofs.Beaten.{beats_word, beaten_word, beaten_found, beaten_unfound}
use Rattle.wide.proofs.Heaviest.{beaten_lighter}
use Rattle.wide.proofs.unbeaten.is_beaten.Goals as goal
use Rattle.wide.proofs.unbeaten.is_beaten.Goals.{After-beaten_in}

pub returns-then-by_weight : goal.returns-then-by_weight
returns-then-by_weight c =
    beaten_lighter _ (said_true _ c.by_weight.ensures c.if-by_weight.true) _ _ c.args.labels.now.stored.weighed c.requires.1 c.most_weight.ensures _ c.requires.2

pub loop-i-init : goal.loop-i-init
loop-i-init c = passed_start _ _

pub beaten_in-requires : goal.beaten_in-requires
beaten_in-requires c =
    (c.loop-i-test.true, c.requires.2)

-- whether a free vertex of word i is ahead
answered : (c : After-beaten_in)
    → let a = c.args in
    c.beaten_in.result ≡ beats_word (search_of a.labels.now.kind.0) a.labels.now.words a.sets.now.free a.b.0 c.loop-i.i
answered c =
    let a = c.args in
    c.beaten_in.ensures
    ∙ beaten_word (search_of a.labels.now.kind.0) a.labels.now.words a.sets.now.free a.sets.now.reached c.requires.0 a.b.0 c.loop-i.i c.loop-i-test.true c.common-front.ensures

pub returns-then-beaten_in : goal.returns-then-beaten_in
returns-then-beaten_in c =
    beaten_found _ _ _ _ c.loop-i-test.true (sym (answered (goal.at.returns-then-beaten_in c).After-beaten_in) ∙ c.if-beaten_in.true)

pub loop-i-preserved : goal.loop-i-preserved
loop-i-preserved c =
    passed_more c.loop-i.invariant c.loop-i-test.true (sym (answered (goal.at.loop-i-preserved c).After-beaten_in) ∙ c.if-beaten_in.false)

pub returns : goal.returns
returns c = beaten_unfound _ _ _ _ c.loop-i.invariant c.loop-i-test.false
