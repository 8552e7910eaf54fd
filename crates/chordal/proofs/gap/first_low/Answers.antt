-- `chordal::gap::first_low` meets its contract: no position that was passed makes a gap.
-- Assumes nothing.
use mathlib.Core.Path.{◌≡◌, sym, ap₂, ◌∙◌}
use mathlib.Core.Bool.{Bool, not, ◌&&◌}
use native.Mathlib.Omega.{arith}
use Rattle.bitset.proofs.Passed.{passed_start, passed_more, first_found, first_unfound}
use Rattle.searches.specs.Ordering.{arcs}
use Rattle.chordal.specs.Descent.{is_gap, first_low}
use Rattle.chordal.proofs.gap.first_low.Goals as goal
use Rattle.chordal.proofs.gap.first_low.Goals.{After-joined-across}

pub joined-inner-requires : goal.joined-inner-requires
joined-inner-requires c = (omega (arith, c.requires.0, c.requires.1), c.requires.0)

pub loop-i-init : goal.loop-i-init
loop-i-init c = passed_start _ _

pub joined-outer-requires : goal.joined-outer-requires
joined-outer-requires c = (omega (arith, c.requires.0, c.requires.1), c.requires.0)

pub joined-across-requires : goal.joined-across-requires
joined-across-requires c =
    (omega (arith, c.requires.0, c.requires.1), omega (arith, c.requires.0, c.requires.1))

-- what is asked is whether there is a gap
asked : (c : After-joined-across)
    → let a = c.args in
    (c.joined-inner.result && (c.joined-outer.result && not c.joined-across.result))
    ≡ is_gap (arcs a.rows.now) a.ordering.now a.top.0 a.middle.0 c.loop-i.i
unfolding is_gap
asked c =
    ap₂ (λ (x y : Bool). x && y) c.joined-inner.ensures
    (ap₂ (λ (x y : Bool). x && not y) c.joined-outer.ensures c.joined-across.ensures)

pub returns-then-inner-outer : goal.returns-then-inner-outer
unfolding first_low
returns-then-inner-outer c =
    (first_found c.loop-i.invariant (sym (asked (goal.at.returns-then-inner-outer c).After-joined-across) ∙ c.if-inner-outer.true), c.loop-i-test.true)

pub loop-i-preserved : goal.loop-i-preserved
loop-i-preserved c =
    passed_more c.loop-i.invariant c.loop-i-test.true (sym (asked (goal.at.loop-i-preserved c).After-joined-across) ∙ c.if-inner-outer.false)

pub returns : goal.returns
unfolding first_low
returns c = sym (first_unfound c.loop-i.invariant c.loop-i-test.false)
