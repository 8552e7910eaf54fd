-- `admission::entries::repeated` meets its contract: the set holds the entries that were passed, and none of them stood there twice.
-- Assumes nothing.
use mathlib.Core.Path.{◌≡◌, sym, ◌∙◌}
use Prim.Native.Nat.{◌<◌}
use lib.ListN.{get_or, take}
use Rattle.bitset.proofs.Passed.{passed_start, passed_more, any_found, any_unfound}
use Rattle.searches.specs.Ordering.{at, placed}
use Rattle.admission.proofs.Front.{front_entry, front_whole}
use Rattle.admission.proofs.Seen.{seen_none, seen_more, repeated_placed}
use Rattle.admission.proofs.entries.repeated.Goals as goal
use Rattle.admission.proofs.entries.repeated.Goals.{After-in_set, In-loop-entry}

pub loop-entry-init : goal.loop-entry-init
loop-entry-init c = (passed_start _ _, seen_none _)

-- the entry is one of the first k
here : (c : In-loop-entry)
    → let i = c.loop-entry.entry-index in
    (i < c.args.k) × (get_or (take c.args.k c.args.list.now) i 0 ≡ at c.args.list.now i)
here c = front_entry _ _ c.requires.k_in_bounds _ c.loop-entry-test.true

small : (c : In-loop-entry) → at c.args.list.now c.loop-entry.entry-index < 512
small c = c.requires.by_index c.loop-entry.entry-index (here c).0

pub in_set-requires : goal.in_set-requires
in_set-requires c = let c' = (goal.at.in_set-requires c).In-loop-entry in rw (here c').1 (small c')

-- what the call answers is whether the entry stands among those before it
asked : (c : After-in_set)
    → let w = c.args.list.now in
    c.in_set.result ≡ placed w c.loop-entry.entry-index (at w c.loop-entry.entry-index)
asked c =
    let c' = (goal.at.After-in_set c).In-loop-entry in
    (rw (here c').1 at c.in_set.ensures) ∙ c.loop-entry.invariant.1.members _ (small c')

pub returns-then-in_set : goal.returns-then-in_set
returns-then-in_set c =
    let there = (here (goal.at.returns-then-in_set c).In-loop-entry).0 in
    any_found _ _ there (sym (asked (goal.at.returns-then-in_set c).After-in_set) ∙ c.if-in_set.true) ∙ sym (repeated_placed _ _)

pub include-requires : goal.include-requires
include-requires c =
    let c' = (goal.at.include-requires c).In-loop-entry in
    rw (here c').1 (small c')

pub loop-entry-preserved : goal.loop-entry-preserved
loop-entry-preserved c =
    let c' = (goal.at.loop-entry-preserved c).In-loop-entry in (
      passed_more c.loop-entry.invariant.0 (here c').0 (sym (asked (goal.at.loop-entry-preserved c).After-in_set) ∙ c.if-in_set.false),
      rw (c.include.ensures, (here c').1) (seen_more c.loop-entry.invariant.1 (small c')),
    )

pub returns : goal.returns
returns c = any_unfound c.loop-entry.invariant.0 (front_whole _ _ c.requires.k_in_bounds _ c.loop-entry-test.false) ∙ sym (repeated_placed _ _)
