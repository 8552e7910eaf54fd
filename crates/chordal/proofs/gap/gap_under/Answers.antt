-- `chordal::gap::gap_under` meets its contract: below the middle position of a gap there is a low one.
-- Assumes nothing.
use Prim.Native.Nat.{ℕ}
use mathlib.Core.Path.{sym, subst}
use native.Mathlib.Omega.{arith}
use lib.Dec.{T}
use Rattle.bitset.proofs.Below.{first}
use Rattle.bitset.proofs.Passed.{none_found}
use Rattle.searches.specs.Ordering.{arcs}
use Rattle.chordal.specs.Descent.{is_gap, is_middle, first_low, first_middle}
use Rattle.chordal.proofs.gap.gap_under.Goals as goal
use Rattle.chordal.proofs.gap.gap_under.Goals.{In_ok-middle}

-- the position found is the middle one of a gap
holds : (c : In_ok-middle)
    → let a = c.args in
    T (is_middle (arcs a.rows.now) a.ordering.now a.top.0 c.in_ok-middle.middle.0)
unfolding first_middle
holds c =
    let a = c.args in
    let x = c.in_ok-middle.ensures in
    let middle = is_middle (arcs a.rows.now) a.ordering.now a.top.0 in
    subst (λ (j : ℕ). T (middle j)) (sym x.0) ((first a.top.0 middle).holds (omega (arith, x.0, x.1)))

pub first_low-requires : goal.first_low-requires
first_low-requires c = (omega (arith, c.requires.0.all.long, c.requires.1), omega (arith, c.in_ok-middle.ensures.1))

pub returns-in_err-low : goal.returns-in_err-low
unfolding first_low is_middle
returns-in_err-low c =
    let a = c.args in
    let j = c.in_ok-middle.middle.0 in
    absurd (none_found j (is_gap (arcs a.rows.now) a.ordering.now a.top.0 j) j (sym c.in_err-low.ensures) (omega arith) (holds (goal.at.returns-in_err-low c).In_ok-middle))
