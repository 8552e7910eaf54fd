-- `wide::fault::Turn::first_last` meets its contract: the first by position, or the first by number.
-- Assumes nothing.
use mathlib.Core.Path.{◌≡◌, sym, ap, ◌∙◌}
use mathlib.Core.Bool.{Bool}
use Prim.Native.Nat.{ℕ, ◌<◌}
use lib.Dec.{T}
use native.Mathlib.Omega.{arith}
use Rattle.std.specs.Option.{option_map}
use Rattle.searches.specs.Kind.{search_of}
use Rattle.searches.specs.Ordering.{at}
use Rattle.searches.specs.Table.{arcs_wide}
use Rattle.searches.specs.Violation.{violates}
use Rattle.bitset.specs.Below.{first_below}
use Rattle.tables.proofs.Found.{some_first, none_first, some_there}
use Rattle.wide.proofs.Thirds.{third_by_position, third_by_number, number_there}
use Rattle.wide.proofs.fault.Turn.first_last.Goals as goal
use Rattle.wide.proofs.fault.Turn.first_last.Goals.{In-Some, In_default}

by_position : (c : In-Some)
    → let t = c.args.self.now in
    let f : ℕ → Bool = λ p. violates (search_of t.labels.now.kind.0) (arcs_wide 8 t.graph.table.now) t.ordering.now c.args.i.0 t.j.0 (at t.ordering.now p) in
    (c.in-Some.position.0 < t.k) × (c.in-Some.position.0 ≡ first_below t.k f) × T (f c.in-Some.position.0)
by_position c = some_first c.args.self.now.k (λ p. violates (search_of c.args.self.now.labels.now.kind.0) (arcs_wide 8 c.args.self.now.graph.table.now) c.args.self.now.ordering.now c.args.i.0 c.args.self.now.j.0 (at c.args.self.now.ordering.now p)) (sym (ap (option_map (λ p. p.0)) c.in-Some.is) ∙ c.first_by_position.ensures)

pub vertex_at-requires : goal.vertex_at-requires
vertex_at-requires c = omega (arith, (by_position (goal.at.vertex_at-requires c).In-Some).0, c.args.self.now.faulty.ordering.long)

pub returns-in-Some : goal.returns-in-Some
returns-in-Some c =
    let t = c.args.self.now in
    let p = by_position (goal.at.returns-in-Some c).In-Some in
    c.vertex_at.ensures
    ∙ third_by_position (search_of t.labels.now.kind.0) (arcs_wide 8 t.graph.table.now) t.graph.n t.ordering.now t.k t.j.0 c.args.i.0 c.in-Some.position.0 p.1 p.0

none_by_position : (c : In_default) → c.args.self.now.k ≡ first_below c.args.self.now.k (λ p. violates (search_of c.args.self.now.labels.now.kind.0) (arcs_wide 8 c.args.self.now.graph.table.now) c.args.self.now.ordering.now c.args.i.0 c.args.self.now.j.0 (at c.args.self.now.ordering.now p))
none_by_position c = none_first c.args.self.now.k _ (sym (ap (option_map (λ p. p.0)) c.in_default.is) ∙ c.first_by_position.ensures)

pub unwrap-requires : goal.unwrap-requires
unwrap-requires c =
    let t = c.args.self.now in
    some_there t.graph.n _ _ _ c.first_by_number.ensures
    (number_there (search_of t.labels.now.kind.0) (arcs_wide 8 t.graph.table.now) t.graph.n t.ordering.now t.k t.j.0 c.args.i.0 t.k (none_by_position (goal.at.unwrap-requires c).In_default) (omega arith) c.requires.1)

pub returns : goal.returns
returns c =
    let t = c.args.self.now in
    third_by_number (search_of t.labels.now.kind.0) (arcs_wide 8 t.graph.table.now) t.graph.n t.ordering.now t.k t.j.0 c.args.i.0 t.k (none_by_position (goal.at.returns c).In_default) (omega arith) c.unwrap.result.0
    (some_first t.graph.n _ (sym (ap (option_map (λ v. v.0)) c.unwrap.ensures) ∙ c.first_by_number.ensures)).1
