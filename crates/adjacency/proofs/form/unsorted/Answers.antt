-- `adjacency::form::unsorted` meets its contract: the neighbours of no vertex that was passed are unsorted.
-- Assumes nothing.
use Prim.Native.Nat.{ℕ, suc, ◌<◌}
use mathlib.Core.Path.{◌≡◌, sym, ap, ap₂, ◌∙◌}
use native.Mathlib.Omega.{arith}
use native.Mathlib.Numerals.{add-one}
use Rattle.bitset.proofs.Passed.{passed_start, passed_more, any_found, any_unfound}
use Rattle.searches.specs.Ordering.{at}
use Rattle.adjacency.specs.Layout.{size_of, unsorted_in, unsorted_at}
use Rattle.adjacency.proofs.Layouts.{size_suc, offset_inside}
use Rattle.adjacency.proofs.form.unsorted.Goals as goal
use Rattle.adjacency.proofs.form.unsorted.Goals.{After-offset-end, After-unsorted_in, In-loop-u}

pub overflow_sub-n : goal.overflow_sub-n
overflow_sub-n c = omega (arith, c.requires.some)

pub loop-u-init : goal.loop-u-init
loop-u-init c = passed_start _ _

-- u is a vertex
vertex : (c : In-loop-u) → c.loop-u.u < size_of c.args.offsets.now
unfolding size_of
vertex c = c.loop-u-test.true

pub offset-begin-requires : goal.offset-begin-requires
offset-begin-requires c = omega (arith, vertex c, size_suc c.requires)

pub offset-end-requires : goal.offset-end-requires
offset-end-requires c = omega (arith, vertex (goal.at.offset-end-requires c).In-loop-u, size_suc c.requires)

-- its list ends at the next offset
ends : (c : After-offset-end)
    → c.offset-end.result ≡ at c.args.offsets.now (suc c.loop-u.u)
ends c = c.offset-end.ensures.entry ∙ ap (λ (x : ℕ). at c.args.offsets.now x) (add-one c.loop-u.u)

pub unsorted_in-requires : goal.unsorted_in-requires
unsorted_in-requires c =
    (omega (arith, ends c, c.offset-begin.ensures.entry, c.requires.rises c.loop-u.u (vertex (goal.at.unsorted_in-requires c).In-loop-u)), omega (arith, ends c, offset_inside c.requires (suc c.loop-u.u) (vertex (goal.at.unsorted_in-requires c).In-loop-u)))

-- what was asked of its list
told : (c : After-unsorted_in)
    → let a = c.args in
    c.unsorted_in.result ≡ unsorted_at a.offsets.now a.neighbours.now c.loop-u.u
unfolding unsorted_at
told c =
    let a = c.args in
    c.unsorted_in.ensures ∙ ap₂ (λ (x y : ℕ). unsorted_in a.neighbours.now x y) c.offset-begin.ensures.entry (ends (goal.at.After-unsorted_in c).After-offset-end)

pub returns-then-unsorted_in : goal.returns-then-unsorted_in
unfolding size_of
returns-then-unsorted_in c =
    any_found _ _ c.loop-u-test.true (sym (told (goal.at.returns-then-unsorted_in c).After-unsorted_in) ∙ c.if-unsorted_in.true)

pub loop-u-preserved : goal.loop-u-preserved
loop-u-preserved c =
    passed_more c.loop-u.invariant c.loop-u-test.true (sym (told (goal.at.loop-u-preserved c).After-unsorted_in) ∙ c.if-unsorted_in.false)

pub returns : goal.returns
unfolding size_of
returns c = any_unfound c.loop-u.invariant c.loop-u-test.false
