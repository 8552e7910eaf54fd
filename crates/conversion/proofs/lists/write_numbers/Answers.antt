-- `conversion::lists::write_numbers` meets its contract: each turn writes the smallest number that is left. The measure is the word that is left.
-- Assumes nothing.
use Prim.Native.Nat.{ℕ, ◌<◌}
use mathlib.Core.Path.{sym, subst}
use native.Mathlib.Omega.{arith}
use lib.ListN.{length}
use Rattle.bitset.specs.Below.{first_below}
use Rattle.bitset.specs.Word.{member}
use Rattle.bitset.proofs.Scan.{first_member, removed_less}
use Rattle.conversion.proofs.Writing.{numbering_start, numbering_length, numbering_room, numbering_next, numbering_end}
use Rattle.conversion.proofs.lists.write_numbers.Goals as goal
use Rattle.conversion.proofs.lists.write_numbers.Goals.{After-smallest}

-- the smallest number that is left is below 64,
found : (c : After-smallest) → c.smallest.result < 64
found c =
    let rest = c.loop-rest.rest in
    omega (arith, c.smallest.ensures, (first_member rest c.loop-rest.invariant.word (omega arith)).0)

-- and there is room for it
fits : (c : After-smallest) → c.loop-rest.end < length c.loop-rest.list
fits c =
    numbering_room c.args.row c.args.begin c.args.list.now c.requires c.loop-rest.invariant (omega arith)

pub loop-rest-init : goal.loop-rest-init
loop-rest-init c = numbering_start c.args.row c.args.begin c.args.list.now c.requires c.ranges.row.fits

pub smallest-requires : goal.smallest-requires
smallest-requires c = tt

pub overflow_cast-list : goal.overflow_cast-list
overflow_cast-list c = omega (arith, found c)

pub bounds-list-end : goal.bounds-list-end
bounds-list-end c = fits c

pub overflow_add-end : goal.overflow_add-end
overflow_add-end c =
    omega (arith, fits c, numbering_length c.args.row c.args.begin c.args.list.now c.requires c.loop-rest.invariant)

pub without_smallest-rest-requires : goal.without_smallest-rest-requires
without_smallest-rest-requires c = tt

pub loop-rest-smaller : goal.loop-rest-smaller
loop-rest-smaller c =
    let rest = c.loop-rest.rest in
    let word = c.loop-rest.invariant.word in
    subst (λ (x : ℕ). x < rest) (sym c.without_smallest-rest.ensures) (removed_less rest (first_below 64 (member rest)) word (first_member rest word (omega arith)).1)

pub loop-rest-preserved : goal.loop-rest-preserved
loop-rest-preserved c =
    numbering_next c.args.row c.args.begin c.args.list.now c.requires c.loop-rest.invariant (omega arith) c.smallest.ensures c.without_smallest-rest.ensures

pub shape_of-list : goal.shape_of-list
shape_of-list c =
    numbering_length c.args.row c.args.begin c.args.list.now c.requires c.loop-rest.invariant

pub returns : goal.returns
returns c =
    let whole = numbering_end c.args.row c.args.begin c.args.list.now c.requires c.loop-rest.invariant c.loop-rest-test.false in
    record { end = whole.0; list = whole.1 }
