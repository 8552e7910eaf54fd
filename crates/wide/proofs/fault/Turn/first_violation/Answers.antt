-- `wide::fault::Turn::first_violation` meets its contract: the searches for the first and the third vertex find the first violation.
-- Assumes nothing.
use Prim.Native.Nat.{ℕ, ◌<◌}
use lib.Dec.{T}
use mathlib.Core.Path.{◌≡◌, sym, ap, ap₂, ◌∙◌}
use native.Mathlib.Omega.{arith}
use Rattle.searches.specs.Kind.{search_of}
use Rattle.searches.specs.Ordering.{at}
use Rattle.searches.specs.Table.{arcs_wide}
use Rattle.searches.specs.Violation.{fails, is_first, is_middle}
use Rattle.searches.specs.Wide.{wide_verdict_of}
use Rattle.std.specs.Option.{option_map}
use Rattle.bitset.specs.Below.{first_below}
use Rattle.tables.proofs.Found.{some_first, some_there}
use Rattle.wide.proofs.Stopping.{middle_met, judge_fails}
use Rattle.wide.proofs.fault.Turn.first_violation.Goals as goal
use Rattle.wide.proofs.fault.Turn.first_violation.Goals.{After-unwrap-i}

pub unwrap-i-requires : goal.unwrap-i-requires
unfolding is_middle
unwrap-i-requires c =
    let t = c.args.self.now in
    some_there t.j.0 _ _ _ c.first_first.ensures (middle_met (search_of t.labels.now.kind.0) (arcs_wide 8 t.graph.table.now) t.graph.n t.ordering.now t.k t.faulty.ordering t.j.0 c.requires t.faulty.turn)

-- the first vertex is met before j, and starts a violation
found : (c : After-unwrap-i)
    → let t = c.args.self.now in
    let f = is_first (search_of t.labels.now.kind.0) (arcs_wide 8 t.graph.table.now) t.graph.n t.ordering.now t.k t.j.0 in
    (c.unwrap-i.result.0 < t.j.0) × (c.unwrap-i.result.0 ≡ first_below t.j.0 f) × T (f c.unwrap-i.result.0)
found c = some_first c.args.self.now.j.0 _ (sym (ap (option_map (λ p. p.0)) c.unwrap-i.ensures) ∙ c.first_first.ensures)

pub vertex_at-a-requires : goal.vertex_at-a-requires
vertex_at-a-requires c =
    let t = c.args.self.now in
    omega (arith, t.faulty.ordering.long, t.faulty.turn, (found (goal.at.vertex_at-a-requires c).After-unwrap-i).0)

pub first_last-c-requires : goal.first_last-c-requires
first_last-c-requires c = let i = found (goal.at.first_last-c-requires c).After-unwrap-i in (i.0, i.2)

pub returns : goal.returns
unfolding wide_verdict_of
returns c =
    let t = c.args.self.now in
    let i = c.unwrap-i.result.0 in
    let w = t.ordering.now in
    ap₂ (λ (x y : ℕ). fails x y c.first_last-c.result.0) c.vertex_at-a.ensures c.vertex_at-b.ensures
    ∙ ap (λ (x : ℕ). fails (at w i) (at w t.j.0) x) c.first_last-c.ensures
    ∙ sym (judge_fails (search_of t.labels.now.kind.0) (arcs_wide 8 t.graph.table.now) t.graph.n w t.k t.faulty.ordering t.j.0 c.requires t.faulty.turn i (found (goal.at.returns c).After-unwrap-i).1)
