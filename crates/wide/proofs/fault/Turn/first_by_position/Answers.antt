-- `wide::fault::Turn::first_by_position` meets its contract.
-- Assumes nothing.
use Prim.Native.Nat.{ℕ, ◌<◌}
use mathlib.Core.Path.{sym, ap, ◌∙◌, subst}
use Rattle.tables.proofs.Found.{found_at, found_none}
use Rattle.bitset.proofs.Passed.{passed_more}
use Rattle.searches.specs.Kind.{search_of}
use Rattle.searches.specs.Table.{arcs_wide}
use Rattle.searches.specs.Violation.{violates}
use Rattle.wide.proofs.Thirds.{thirds_passed}
use Rattle.wide.proofs.fault.Turn.first_by_position.Goals as goal

pub loop-p-init : goal.loop-p-init
loop-p-init c = thirds_passed c.args.self.now.faulty c.args.i.0 c.requires

pub is_violation-requires : goal.is_violation-requires
is_violation-requires c =
    (c.requires, subst (λ (v : ℕ). v < c.args.self.now.graph.n) (sym c.vertex_at-c.ensures) (c.args.self.now.faulty.ordering.vertices c.loop-p.p c.loop-p-test.true))

pub returns-then-is_violation : goal.returns-then-is_violation
returns-then-is_violation c =
    let a = c.args in
    found_at c.loop-p.invariant c.loop-p-test.true
    (ap (violates (search_of a.self.now.labels.now.kind.0) (arcs_wide 8 a.self.now.graph.table.now) a.self.now.ordering.now a.i.0 a.self.now.j.0) (sym c.vertex_at-c.ensures)
    ∙ sym c.is_violation.ensures ∙ c.if-is_violation.true)

pub loop-p-preserved : goal.loop-p-preserved
loop-p-preserved c =
    let a = c.args in
    passed_more c.loop-p.invariant c.loop-p-test.true
    (ap (violates (search_of a.self.now.labels.now.kind.0) (arcs_wide 8 a.self.now.graph.table.now) a.self.now.ordering.now a.i.0 a.self.now.j.0) (sym c.vertex_at-c.ensures)
    ∙ sym c.is_violation.ensures ∙ c.if-is_violation.false)

pub returns : goal.returns
returns c = found_none c.loop-p.invariant c.loop-p-test.false
