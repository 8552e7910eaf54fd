-- `fault::completes_in` meets its contract: what was taken out of the word so far completes nothing. The measure is the word that is left.
-- Assumes nothing.
use Prim.Native.Nat.{ℕ, ◌<◌}
use mathlib.Core.Path.{sym, subst}
use native.Mathlib.Omega.{arith}
use lib.Dec.{T}
use Rattle.bitset.specs.Word.{member}
use Rattle.bitset.proofs.Scan.{scan_start, scan_next, scan_found, scan_end, first_member, removed_less, taken_out}
use Rattle.wide.proofs.Starting.{completes_yes, completes_itself, completes_excused}
use Rattle.wide.proofs.Equal.{equal_asked, unequal_asked}
use Rattle.wide.proofs.fault.completes_in.Goals as goal
use Rattle.wide.proofs.fault.completes_in.Goals.{After-smallest, then-ne+else-is_unexcused, else-ne}

-- the smallest number of what is left is in it
found : (c : After-smallest) → (c.smallest.result < 64) × T (member c.loop-rest.rest c.smallest.result)
found c =
    let rest = c.loop-rest.rest in
    subst (λ (u : ℕ). (u < 64) × T (member rest u)) (sym c.smallest.ensures) (first_member rest c.loop-rest.invariant.word (omega arith))

pub loop-rest-init : goal.loop-rest-init
loop-rest-init c = scan_start _ _ c.ranges.word.fits

pub overflow_add-number : goal.overflow_add-number
overflow_add-number c = omega (arith, (found c).0, c.requires.0)

pub overflow_cast-number : goal.overflow_cast-number
overflow_cast-number c = omega (arith, (found c).0, c.requires.0)

pub is_unexcused-requires : goal.is_unexcused-requires
is_unexcused-requires c =
    (c.requires.1, omega (arith, (found (goal.at.is_unexcused-requires c).After-smallest).0, c.requires.0), c.requires.2)

pub returns-then-is_unexcused : goal.returns-then-is_unexcused
returns-then-is_unexcused c =
    scan_found c.loop-rest.invariant c.smallest.result (found (goal.at.returns-then-is_unexcused c).After-smallest).0 (found (goal.at.returns-then-is_unexcused c).After-smallest).1
    (completes_yes _ _ _ _ _ (unequal_asked c.ne.ensures c.if-ne.true) c.is_unexcused.ensures c.if-is_unexcused.true)

pub loop-rest-smaller : goal.loop-rest-smaller
loop-rest-smaller c =
    subst (λ (x : ℕ). x < c.loop-rest.rest) (sym (taken_out c.loop-rest.rest c.without_smallest-rest.ensures c.smallest.ensures)) (removed_less c.loop-rest.rest c.smallest.result c.loop-rest.invariant.word (found (goal.at.loop-rest-smaller c).After-smallest).1)

pub loop-rest-preserved : goal.loop-rest-preserved
loop-rest-preserved c =
    rw (taken_out c.loop-rest.rest c.without_smallest-rest.ensures c.smallest.ensures)
    (scan_next c.loop-rest.invariant c.smallest.result
    (λ _. elim c.if-ne.branch [ then-ne+else-is_unexcused w ↦ completes_excused _ _ _ _ _ w.is_unexcused.ensures w.if-is_unexcused.false | else-ne w ↦ completes_itself _ _ _ _ _ (equal_asked c.ne.ensures w.if-ne.false) ]))

pub returns : goal.returns
returns c = scan_end c.loop-rest.invariant c.loop-rest-test.false
