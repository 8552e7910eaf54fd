-- `chordal::gap::first_gap` meets its contract: no position that was passed is the last one of a gap.
-- Assumes nothing.
use Prim.Native.Nat.{ℕ}
use mathlib.Core.Path.{sym, ap, ◌∙◌}
use native.Mathlib.Omega.{arith}
use Rattle.bitset.proofs.Tests.{is_true, is_false}
use Rattle.bitset.proofs.Passed.{passed_start, passed_more, first_found, first_unfound, some_found, none_found}
use Rattle.searches.specs.Ordering.{arcs}
use Rattle.chordal.specs.Descent.{is_top, first_middle, first_top}
use Rattle.chordal.proofs.gap.first_gap.Goals as goal

pub loop-l-init : goal.loop-l-init
loop-l-init c = passed_start _ _

pub gap_under-requires : goal.gap_under-requires
gap_under-requires c = (c.requires, c.loop-l-test.true)

pub returns-in-Some : goal.returns-in-Some
unfolding is_top first_middle first_top
returns-in-Some c =
    let x = c.in-Some.ensures in
    let top = first_found c.loop-l.invariant (is_true _ (some_found _ _ _ (x.2 ∙ ap (λ (l : ℕ). first_middle (arcs c.args.rows.now) c.args.ordering.now l) x.0) (omega (arith, x.0, x.1)))) in
    (x.0 ∙ top, omega (arith, x.0, c.loop-l-test.true), x.2, x.3)

pub loop-l-preserved : goal.loop-l-preserved
unfolding is_top first_middle
loop-l-preserved c =
    passed_more c.loop-l.invariant c.loop-l-test.true (is_false _ (none_found _ _ _ (sym c.in_default.ensures) (omega arith)))

pub returns : goal.returns
unfolding first_top
returns c = sym (first_unfound c.loop-l.invariant c.loop-l-test.false)
