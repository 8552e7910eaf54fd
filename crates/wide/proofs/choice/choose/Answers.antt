-- `choice::choose` meets its contract. Where weights tell, the last of the heaviest is chosen. In MNS no entry of the tie-break from the place reached on is open.
-- Assumes nothing.
use Prim.Native.Nat.{ℕ, ◌-◌, ◌<◌}
use mathlib.Core.Path.{◌≡◌, refl, sym, ap, ◌∙◌}
use native.Mathlib.Omega.{arith}
use lib.Dec.{T}
use lib.ListN.{length}
use Rattle.bitset.proofs.Tests.{said_true}
use Rattle.bitset.proofs.Below.{any_at}
use Rattle.tables.proofs.Found.{some_first, there}
use Rattle.searches.specs.Kind.{search_of}
use Rattle.searches.specs.Ordering.{at}
use Rattle.labels.proofs.Comparison.{search_of_mns}
use Rattle.wide.specs.Store.{open_in, chosen_in}
use Rattle.tables.specs.Rows.{in_set}
use Rattle.wide.proofs.Downward.{closed_start, closed_next, last_found, last_unfound}
use Rattle.wide.proofs.Choosing.{first_in_front, lead_chosen}
use Rattle.wide.proofs.Heaviest.{last_heaviest}
use Rattle.wide.proofs.Equal.{unequal_asked}
use Rattle.wide.proofs.choice.choose.Goals as goal
use Rattle.wide.proofs.choice.choose.Goals.{After-unwrap-first, After-is_open, After-last_at-q}

-- the place found is that of the chosen vertex
heaviest : (c : After-last_at-q)
    → let a = c.args in
    (c.last_at-q.result < length a.tie_break.now) × (at a.tie_break.now c.last_at-q.result ≡ chosen_in (search_of a.labels.now.kind.0) a.labels.now.words a.sets.now.free a.tie_break.now)
heaviest c =
    last_heaviest _ (said_true _ c.by_weight.ensures c.if-by_weight.true) _ _ c.requires.weighed c.requires.bare c.most_weight-most.ensures c.if-most-gt0.true c.requires c.last_at-q.ensures

pub vertex_at-requires : goal.vertex_at-requires
vertex_at-requires c = (heaviest c).0

pub returns-then-most-gt0 : goal.returns-then-most-gt0
returns-then-most-gt0 c = c.vertex_at.ensures ∙ (heaviest (goal.at.returns-then-most-gt0 c).After-last_at-q).1

pub unwrap-first-requires : goal.unwrap-first-requires
unwrap-first-requires c =
    let x = first_in_front (search_of c.args.labels.now.kind.0) c.requires c.front_of-front.ensures refl in
    there 512 _ _ c.first_of.ensures (any_at 512 _ _ x.0 x.1)

-- the smallest vertex of the front is one of it
found : (c : After-unwrap-first) → (c.unwrap-first.result < 512) × T (in_set c.front_of-front.result c.unwrap-first.result)
found c =
    first_in_front (search_of c.args.labels.now.kind.0) c.requires c.front_of-front.ensures (some_first 512 _ (sym c.unwrap-first.ensures ∙ c.first_of.ensures)).1

pub overflow_cast-first : goal.overflow_cast-first
overflow_cast-first c = omega (arith, (found c).0)

pub lead_of-requires : goal.lead_of-requires
lead_of-requires c =
    (record { weighed = c.requires.weighed; other = search_of_mns _ (unequal_asked c.ne.ensures c.if-ne.true); size = c.requires.ranked.size }, (found (goal.at.lead_of-requires c).After-unwrap-first).0, (found (goal.at.lead_of-requires c).After-unwrap-first).1)

pub returns-then-ne : goal.returns-then-ne
returns-then-ne c =
    lead_chosen (search_of c.args.labels.now.kind.0) c.requires c.front_of-front.ensures c.lead_of.ensures

pub loop-q-init : goal.loop-q-init
loop-q-init c = closed_start _ _ (omega arith)

pub is_open-requires : goal.is_open-requires
is_open-requires c =
    let inside : c.loop-q.q - 1 < length c.args.tie_break.now = omega (arith, c.loop-q-test.true) in
    (c.requires.covers, c.requires.bare, rw c.vertex_at-v.ensures (c.requires.ranked.entry (c.loop-q.q - 1) inside).0)

-- what was asked of the entry at the place reached
answered : (c : After-is_open)
    → let a = c.args in
    c.is_open.result ≡ open_in (search_of a.labels.now.kind.0) a.labels.now.words a.sets.now.free (at a.tie_break.now (c.loop-q.q - 1))
answered c =
    let a = c.args in
    c.is_open.ensures ∙ ap (λ (v : ℕ). open_in (search_of a.labels.now.kind.0) a.labels.now.words a.sets.now.free v) c.vertex_at-v.ensures

pub returns-then-is_open : goal.returns-then-is_open
unfolding chosen_in
returns-then-is_open c =
    let t = c.args.tie_break.now in
    c.vertex_at-v.ensures
    ∙ ap (λ (x : ℕ). at t x)
    (last_found _ _ (c.loop-q.q - 1) c.loop-q.q c.loop-q.invariant (omega (arith, c.loop-q-test.true)) (omega (arith, c.loop-q-test.true))
    (sym (answered (goal.at.returns-then-is_open c).After-is_open) ∙ c.if-is_open.true))

pub loop-q-preserved : goal.loop-q-preserved
loop-q-preserved c =
    closed_next _ _ (c.loop-q.q - 1) c.loop-q.q c.loop-q.invariant (omega (arith, c.loop-q-test.true)) (sym (answered (goal.at.loop-q-preserved c).After-is_open) ∙ c.if-is_open.false)

pub vertex_at-requires-2 : goal.vertex_at-requires-2
vertex_at-requires-2 c =
    let u = c.requires.some in
    omega (arith, (c.requires.named u.0 u.1 u.2).0)

pub returns : goal.returns
unfolding chosen_in
returns c =
    let t = c.args.tie_break.now in
    c.vertex_at-2.ensures ∙ ap (λ (x : ℕ). at t x) (last_unfound _ _ c.loop-q.invariant (omega (arith, c.loop-q-test.false)))
