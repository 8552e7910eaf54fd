-- `violation::first_by_position` meets its contract: no position that was passed has a vertex that completes a violation.
-- Assumes nothing.
use mathlib.Core.Path.{◌≡◌, sym, ◌∙◌}
use native.Mathlib.Omega.{arith}
use Rattle.bitset.proofs.Passed.{passed_more, first_found, first_unfound}
use Rattle.searches.specs.Kind.{search_of}
use Rattle.violation.specs.Fault.{behind_in}
use Rattle.violation.proofs.Searching.{behind_start, behind_same}
use Rattle.violation.proofs.first_by_position.Goals as goal
use Rattle.violation.proofs.first_by_position.Goals.{After-completes}

pub loop-p-init : goal.loop-p-init
loop-p-init c =
    let a = c.args in
    (behind_start (search_of a.labels.now.kind.0) a.labels.now.words a.front a.i.0 a.mine.label a.ordering.now a.j.0 a.k c.requires.0.inside, omega arith)

pub completes-requires : goal.completes-requires
completes-requires c = (c.requires.0.bit, c.requires.1)

-- what was answered of the vertex at p is the test
answered : (c : After-completes)
    → let a = c.args in
    c.completes.result
    ≡ behind_in (search_of a.labels.now.kind.0) a.labels.now.words a.front a.i.0 a.mine.label a.ordering.now a.j.0 c.loop-p.p
answered c =
    let a = c.args in
    behind_same (search_of a.labels.now.kind.0) a.labels.now.words a.front a.i.0 a.mine.label a.ordering.now a.j.0 c.loop-p.p c.loop-p.invariant.1
    c.vertex_at-c.ensures c.completes.ensures

pub returns-then-completes : goal.returns-then-completes
returns-then-completes c =
    (first_found c.loop-p.invariant.0 (sym (answered (goal.at.returns-then-completes c).After-completes) ∙ c.if-completes.true), omega arith)

pub loop-p-preserved : goal.loop-p-preserved
loop-p-preserved c =
    (passed_more c.loop-p.invariant.0 (omega arith) (sym (answered (goal.at.loop-p-preserved c).After-completes) ∙ c.if-completes.false), omega (arith, c.loop-p.invariant.1))

pub returns : goal.returns
returns c = sym (first_unfound c.loop-p.invariant.0 (omega arith))
