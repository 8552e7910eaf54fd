-- `wide::place::spread` meets its contract: the vertices of the word that are not in what is left of it have the position. The measure is the word that
-- is left.
-- Assumes nothing.
use Prim.Native.Nat.{ℕ, ◌<◌}
use mathlib.Core.Path.{◌≡◌, refl, sym, ◌∙◌, subst}
use native.Mathlib.Omega.{arith}
use lib.Dec.{T}
use Rattle.bitset.specs.Word.{member}
use Rattle.bitset.proofs.Scan.{first_member, removed_less, taken_out}
use Rattle.wide.proofs.Spreading.{spread_start, spread_due, spread_next, spread_end}
use Rattle.wide.proofs.place.spread.Goals as goal
use Rattle.wide.proofs.place.spread.Goals.{After-smallest}

-- the smallest number of what is left is in it
found : (c : After-smallest) → (c.smallest.result < 64) × T (member c.loop-rest.rest c.smallest.result)
found c =
    let rest = c.loop-rest.rest in
    subst (λ (v : ℕ). (v < 64) × T (member rest v)) (sym c.smallest.ensures) (first_member rest c.loop-rest.invariant.spread.fits (omega arith))

pub overflow_mul-below : goal.overflow_mul-below
overflow_mul-below c = omega (arith, c.requires.index)

pub loop-rest-init : goal.loop-rest-init
loop-rest-init c = record { kind = refl; spread = spread_start c.requires }

pub overflow_add-v : goal.overflow_add-v
overflow_add-v c = omega (arith, (found c).0, c.requires.index)

pub overflow_cast-v : goal.overflow_cast-v
overflow_cast-v c = omega (arith, (found c).0, c.requires.index)

pub raise-requires : goal.raise-requires
raise-requires c =
    rw c.loop-rest.invariant.kind
    (spread_due c.requires c.loop-rest.invariant.spread (found (goal.at.raise-requires c).After-smallest).0 (found (goal.at.raise-requires c).After-smallest).1)

pub loop-rest-smaller : goal.loop-rest-smaller
loop-rest-smaller c =
    let k = c.loop-rest in
    subst (λ (x : ℕ). x < k.rest) (sym (taken_out k.rest c.without_smallest-rest.ensures c.smallest.ensures)) (removed_less k.rest c.smallest.result k.invariant.spread.fits (found (goal.at.loop-rest-smaller c).After-smallest).1)

pub loop-rest-preserved : goal.loop-rest-preserved
loop-rest-preserved c =
    let r = c.raise in
    let there = found (goal.at.loop-rest-preserved c).After-smallest in
    let same : r.new.labels.kind ≡ c.args.labels.now.kind = r.ensures.kind ∙ c.loop-rest.invariant.kind in
    record {
      kind = same;
      spread = spread_next c.requires c.loop-rest.invariant.spread there.0 there.1 r.ensures.words
          (taken_out c.loop-rest.rest c.without_smallest-rest.ensures c.smallest.ensures) (rw same at r.new.labels.stored);
    }

pub returns : goal.returns
returns c =
    record {
      raised = spread_end c.requires c.loop-rest.invariant.spread c.loop-rest-test.false;
      kind = c.loop-rest.invariant.kind;
    }
