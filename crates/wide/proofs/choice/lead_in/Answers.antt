-- `choice::lead_in` meets its contract: the lead leads what `first` leads and the vertices taken out of the word. The measure is the word that is left.
-- Assumes nothing.
use Prim.Native.Nat.{ℕ, ◌<◌}
use mathlib.Core.Path.{sym, subst}
use native.Mathlib.Omega.{arith}
use lib.Dec.{T}
use Rattle.bitset.specs.Word.{member}
use Rattle.bitset.proofs.Scan.{first_member, removed_less, taken_out}
use Rattle.wide.proofs.Leading.{joined_start, joined_next, joined_end}
use Rattle.wide.proofs.choice.lead_in.Goals as goal
use Rattle.wide.proofs.choice.lead_in.Goals.{After-smallest}

-- the smallest number of what is left is in it
found : (c : After-smallest) → (c.smallest.result < 64) × T (member c.loop-rest.rest c.smallest.result)
found c =
    let rest = c.loop-rest.rest in
    subst (λ (u : ℕ). (u < 64) × T (member rest u)) (sym c.smallest.ensures) (first_member rest c.loop-rest.invariant.left (omega arith))

pub loop-rest-init : goal.loop-rest-init
loop-rest-init c = joined_start _ _ _ _ _ _ c.requires.2 c.ranges.word.fits

pub overflow_add-number : goal.overflow_add-number
overflow_add-number c = omega (arith, (found c).0, c.requires.1)

pub overflow_cast-number : goal.overflow_cast-number
overflow_cast-number c = omega (arith, (found c).0, c.requires.1)

pub leader-lead-requires : goal.leader-lead-requires
leader-lead-requires c = (c.requires.0, c.loop-rest.invariant.vertex, omega (arith, (found c).0, c.requires.1))

pub loop-rest-smaller : goal.loop-rest-smaller
loop-rest-smaller c =
    subst (λ (x : ℕ). x < c.loop-rest.rest) (sym (taken_out c.loop-rest.rest c.without_smallest-rest.ensures c.smallest.ensures)) (removed_less c.loop-rest.rest c.smallest.result c.loop-rest.invariant.left (found (goal.at.loop-rest-smaller c).After-smallest).1)

pub loop-rest-preserved : goal.loop-rest-preserved
loop-rest-preserved c =
    rw (taken_out c.loop-rest.rest c.without_smallest-rest.ensures c.smallest.ensures)
    (joined_next _ _ _ _ _ _ c.loop-rest.invariant c.smallest.result (found (goal.at.loop-rest-preserved c).After-smallest).0 (found (goal.at.loop-rest-preserved c).After-smallest).1 c.leader-lead.ensures)

pub returns : goal.returns
returns c = record {
  vertex = c.loop-rest.invariant.vertex;
  leads = joined_end _ _ _ _ _ _ c.loop-rest.invariant c.loop-rest-test.false;
}
