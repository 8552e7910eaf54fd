-- `adjacency::Layout::leads_back` meets its contract: what is due in each list, as far as the neighbours of the vertex were looked at.
-- Assumes nothing.
use Prim.Native.Nat.{ℕ, suc, ◌+◌, ◌≤◌, ◌<◌}
use mathlib.Core.Path.{◌≡◌, sym, ap, ◌∙◌, subst}
use mathlib.Core.Bool.{Bool, true, false, not}
use mathlib.Core.Logic.{◌⊎◌, inl, inr}
use native.Mathlib.Omega.{arith}
use native.Mathlib.Numerals.{add-one}
use lib.Dec.{T}
use lib.ListN.{set}
use Rattle.searches.specs.Ordering.{at}
use Rattle.adjacency.specs.Layout.{size_of}
use Rattle.adjacency.specs.LeadsBack.{Due, LedBack}
use Rattle.adjacency.proofs.Layouts.{size_suc, offset_inside, own_end, own_at}
use Rattle.adjacency.proofs.LeadsBack.{neighbour_vertex, due_missed, due_next}
use Rattle.adjacency.proofs.Layout.leads_back.Goals as goal
use Rattle.adjacency.proofs.Layout.leads_back.Goals.{After-offset, In-loop-v}

pub loop-v-init : goal.loop-v-init
loop-v-init c =
    let a = c.args in
    let here : at a.self.offsets.now a.u ≡ at a.self.offsets.now a.u + 0 = omega arith in
    subst (λ (e : ℕ). Due a.self.offsets.now a.self.neighbours.now a.due.now e) here c.requires.1

-- the position that is looked at, and the neighbour there
abbrev place : In-loop-v → ℕ
place c = at c.args.self.offsets.now c.args.u + c.loop-v.v-index

abbrev number : In-loop-v → ℕ
number c = at c.list_of-v-items.result.now c.loop-v.v-index

names : (c : In-loop-v) → number c ≡ at c.args.self.neighbours.now (place c)
names c = own_at c.args.self.layout c.requires.0 c.list_of-v-items.ensures c.loop-v.v-index c.loop-v-test.true

-- the position is one of the vertex
here : (c : In-loop-v) → (at c.args.self.offsets.now c.args.u ≤ place c) × (place c < at c.args.self.offsets.now (suc c.args.u))
here c = (omega arith, omega (arith, c.loop-v-test.true, own_end c.args.self.layout c.requires.0 c.list_of-v-items.ensures))

-- its neighbour is a vertex
vertex : (c : In-loop-v) → number c < size_of c.args.self.offsets.now
vertex c =
    subst (λ (v : ℕ). v < size_of c.args.self.offsets.now) (sym (names c)) (neighbour_vertex c.args.self.layout c.loop-v.invariant c.requires.0 (here c).0 (here c).1)

bit : (c : In-loop-v) → number c < 64
bit c = omega (arith, vertex c, c.args.self.layout.few, size_suc c.args.self.layout.cover)

pub bounds-due-v : goal.bounds-due-v
bounds-due-v c = bit (goal.at.bounds-due-v c).In-loop-v

pub overflow_add-v : goal.overflow_add-v
overflow_add-v c = omega (arith, bit (goal.at.overflow_add-v c).In-loop-v)

pub offset-requires : goal.offset-requires
offset-requires c = omega (arith, vertex (goal.at.offset-requires c).In-loop-v, size_suc c.args.self.layout.cover)

clash : false ≡ true → ⊥
clash e = subst (λ (b : Bool). T (not b)) e tt

-- the list of the neighbour ends at the offset that was looked up
back_ends : (c : After-offset) → c.offset.result ≡ at c.args.self.offsets.now (suc (number (goal.at.After-offset c).In-loop-v))
back_ends c = c.offset.ensures.entry ∙ ap (λ (x : ℕ). at c.args.self.offsets.now x) (add-one (number (goal.at.After-offset c).In-loop-v))

-- where the vertex is not due there, some arc has none back
missed : (c : In-loop-v) → let v = number c in
    (at c.args.self.offsets.now (suc v) ≤ at c.loop-v.due v) ⊎ (at c.args.self.neighbours.now (at c.loop-v.due v) ≡ c.args.u → ⊥)
    → LedBack c.args.self.offsets.now c.args.self.neighbours.now c.loop-v.due c.args.u false
missed c late =
    let a = c.args in
    let due = c.loop-v.due in
    record {
      full = c.loop-v.invariant.full;
      all = λ e. absurd (clash e);
      not_all = λ _.
          due_missed a.self.layout c.loop-v.invariant c.requires.0 (here c).0 (here c).1
          (subst (λ (v : ℕ). (at a.self.offsets.now (suc v) ≤ at due v) ⊎ (at a.self.neighbours.now (at due v) ≡ a.u → ⊥)) (names c) late);
    }

pub returns-then-offset-next : goal.returns-then-offset-next
returns-then-offset-next c =
    let w = (goal.at.returns-then-offset-next c).In-loop-v in
    let late : at c.args.self.offsets.now (suc (number w)) ≤ at c.loop-v.due (number w) = omega (arith, back_ends (goal.at.returns-then-offset-next c).After-offset, c.if-offset-next.true) in
    missed w (inl late)

pub neighbour-requires : goal.neighbour-requires
neighbour-requires c =
    let w = (goal.at.neighbour-requires c).In-loop-v in
    omega (arith, back_ends (goal.at.neighbour-requires c).After-offset, c.if-offset-next.false, offset_inside c.args.self.layout.cover (suc (number w)) (vertex w))

pub returns-then-neighbour-u : goal.returns-then-neighbour-u
returns-then-neighbour-u c =
    missed (goal.at.returns-then-neighbour-u c).In-loop-v (inr (λ same. c.if-neighbour-u.true (c.neighbour.ensures ∙ same)))

pub overflow_add-due : goal.overflow_add-due
overflow_add-due c = omega (arith, c.if-offset-next.false, c.offset.ensures.fits)

pub loop-v-preserved : goal.loop-v-preserved
loop-v-preserved c =
    let a = c.args in
    let due = c.loop-v.due in
    let w = (goal.at.loop-v-preserved c).In-loop-v in
    let is = names w in
    let next : place w + 1 ≡ at a.self.offsets.now a.u + (c.loop-v.v-index + 1) = omega arith in
    let room : at due (number w) < at a.self.offsets.now (suc (number w)) = omega (arith, back_ends (goal.at.loop-v-preserved c).After-offset, c.if-offset-next.false) in
    subst (λ (e : ℕ). Due a.self.offsets.now a.self.neighbours.now (set due (number w) (at due (number w) + 1)) e) next
    (subst (λ (v : ℕ). Due a.self.offsets.now a.self.neighbours.now (set due v (at due v + 1)) (place w + 1)) (sym is)
    (due_next a.self.layout c.loop-v.invariant c.requires.0 (here w).0 (here w).1
    (subst (λ (v : ℕ). at due v < at a.self.offsets.now (suc v)) is room)
    (subst (λ (v : ℕ). at a.self.neighbours.now (at due v) ≡ a.u) is (sym c.neighbour.ensures ∙ c.if-neighbour-u.false))))

pub returns : goal.returns
returns c =
    let a = c.args in
    let end : at a.self.offsets.now a.u + c.loop-v.v-index ≡ at a.self.offsets.now (suc a.u) =
    omega (arith, own_end a.self.layout c.requires.0 c.list_of-v-items.ensures, c.loop-v-test.false, c.loop-v.auto.v-index-end)
    in
    record {
      full = c.loop-v.invariant.full;
      all = λ _. subst (λ (e : ℕ). Due a.self.offsets.now a.self.neighbours.now c.loop-v.due e) end c.loop-v.invariant;
      not_all = λ e. absurd (clash (sym e));
    }
