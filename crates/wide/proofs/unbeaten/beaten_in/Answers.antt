-- `unbeaten::beaten_in` meets its contract: what was taken out of the word so far is not ahead. The measure is the word that is left.
-- Assumes nothing.
use Prim.Native.Nat.{ℕ, ◌<◌}
use mathlib.Core.Path.{sym, subst}
use native.Mathlib.Omega.{arith}
use lib.Dec.{T}
use Rattle.bitset.specs.Word.{member}
use Rattle.bitset.proofs.Tests.{said_true, said_false}
use Rattle.bitset.proofs.Scan.{scan_start, scan_next, scan_found, scan_end, first_member, removed_less, taken_out}
use Rattle.wide.proofs.unbeaten.beaten_in.Goals as goal
use Rattle.wide.proofs.unbeaten.beaten_in.Goals.{After-smallest}

-- the smallest number of what is left is in it
found : (c : After-smallest) → (c.smallest.result < 64) × T (member c.loop-rest.rest c.smallest.result)
found c =
    let rest = c.loop-rest.rest in
    subst (λ (u : ℕ). (u < 64) × T (member rest u)) (sym c.smallest.ensures) (first_member rest c.loop-rest.invariant.word (omega arith))

pub loop-rest-init : goal.loop-rest-init
loop-rest-init c = scan_start _ _ c.ranges.word.fits

pub overflow_add-u : goal.overflow_add-u
overflow_add-u c = omega (arith, (found c).0, c.requires.0)

pub overflow_cast-u : goal.overflow_cast-u
overflow_cast-u c = omega (arith, (found c).0, c.requires.0)

pub is_ahead-requires : goal.is_ahead-requires
is_ahead-requires c = (omega (arith, (found c).0, c.requires.0), c.requires.1)

pub returns-then-is_ahead : goal.returns-then-is_ahead
returns-then-is_ahead c =
    scan_found c.loop-rest.invariant c.smallest.result (found (goal.at.returns-then-is_ahead c).After-smallest).0 (found (goal.at.returns-then-is_ahead c).After-smallest).1 (said_true _ c.is_ahead.ensures c.if-is_ahead.true)

pub loop-rest-smaller : goal.loop-rest-smaller
loop-rest-smaller c =
    subst (λ (x : ℕ). x < c.loop-rest.rest) (sym (taken_out c.loop-rest.rest c.without_smallest-rest.ensures c.smallest.ensures)) (removed_less c.loop-rest.rest c.smallest.result c.loop-rest.invariant.word (found (goal.at.loop-rest-smaller c).After-smallest).1)

pub loop-rest-preserved : goal.loop-rest-preserved
loop-rest-preserved c =
    rw (taken_out c.loop-rest.rest c.without_smallest-rest.ensures c.smallest.ensures)
    (scan_next c.loop-rest.invariant c.smallest.result (λ _. said_false _ c.is_ahead.ensures c.if-is_ahead.false))

pub returns : goal.returns
returns c = scan_end c.loop-rest.invariant c.loop-rest-test.false
