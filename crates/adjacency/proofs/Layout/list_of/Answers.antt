-- `adjacency::Layout::list_of` meets its contract: its neighbours stand from its offset up to the next one.
-- Assumes nothing.
use Prim.Native.Nat.{ℕ, suc, ◌≤◌}
use mathlib.Core.Path.{◌≡◌, ap, ap₂, ◌∙◌}
use native.Mathlib.Omega.{arith}
use native.Mathlib.Numerals.{add-one}
use lib.ListN.{length}
use Rattle.std.specs.Prelude.{slice_range}
use Rattle.searches.specs.Ordering.{at}
use Rattle.adjacency.proofs.Layouts.{size_suc, offset_inside}
use Rattle.adjacency.proofs.Layout.list_of.Goals as goal
use Rattle.adjacency.proofs.Layout.list_of.Goals.{After-offset-end}

pub offset-begin-requires : goal.offset-begin-requires
offset-begin-requires c = omega (arith, c.requires, size_suc c.args.self.layout.cover)

pub overflow_add-u : goal.overflow_add-u
overflow_add-u c = omega (arith, c.requires, c.args.self.layout.few, size_suc c.args.self.layout.cover)

pub offset-end-requires : goal.offset-end-requires
offset-end-requires c = omega (arith, c.requires, size_suc c.args.self.layout.cover)

-- the list ends at the next offset
ends : (c : After-offset-end)
    → let a = c.args in
    c.offset-end.result ≡ at a.self.offsets.now (suc a.u)
ends c = let a = c.args in c.offset-end.ensures.entry ∙ ap (λ (x : ℕ). at a.self.offsets.now x) (add-one a.u)

-- it is a part of the neighbour list
part : (c : After-offset-end) → (c.offset-begin.result ≤ c.offset-end.result) × (c.offset-end.result ≤ length c.args.self.neighbours.now)
part c =
    let x = c.args.self.layout.cover in
    (omega (arith, ends c, c.offset-begin.ensures.entry, x.rises c.args.u c.requires), omega (arith, ends c, offset_inside x (suc c.args.u) c.requires))

pub slice_bounds-result-start : goal.slice_bounds-result-start
slice_bounds-result-start c = (part (goal.at.slice_bounds-result-start c).After-offset-end).0

pub slice_bounds-result-end : goal.slice_bounds-result-end
slice_bounds-result-end c = (part (goal.at.slice_bounds-result-end c).After-offset-end).1

pub returns : goal.returns
returns c =
    ap₂ (λ (b e : ℕ). slice_range c.args.self.neighbours.now b e) c.offset-begin.ensures.entry (ends (goal.at.returns c).After-offset-end)
