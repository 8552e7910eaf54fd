-- `wide::fault::Turn::is_violation` meets its contract: each test in turn.
-- Assumes nothing.
use native.Mathlib.Omega.{arith}
use Rattle.wide.proofs.Violating.{row_there, vertex_fits, turn_fits, unlinked, linked_both, placed_before, middle_itself, unexcused_violates}
use Rattle.wide.proofs.Equal.{equal_told, unequal_told}
use Rattle.wide.proofs.fault.Turn.is_violation.Goals as goal

pub contains-requires : goal.contains-requires
contains-requires c =
    (row_there c.args.self.now.faulty c.args.i.0 (omega (arith, c.args.self.now.faulty.turn, c.requires.0)) c.vertex_at-a.ensures, omega (arith, c.args.self.now.faulty.small, c.requires.1))

pub returns-then-not-contains : goal.returns-then-not-contains
returns-then-not-contains c =
    unlinked c.args.self.now.faulty c.args.i.0 c.args.c.0 c.requires.0 c.requires.1 c.vertex_at-a.ensures c.contains.ensures c.if-not-contains.true

pub contains-requires-2 : goal.contains-requires-2
contains-requires-2 c =
    (row_there c.args.self.now.faulty c.args.i.0 (omega (arith, c.args.self.now.faulty.turn, c.requires.0)) c.vertex_at-a.ensures, vertex_fits c.args.self.now.faulty c.args.self.now.j.0 c.args.self.now.faulty.turn c.vertex_at-b.ensures)

pub returns-then-contains : goal.returns-then-contains
returns-then-contains c =
    linked_both c.args.self.now.faulty c.args.i.0 c.args.c.0 c.requires.0 c.requires.1 c.vertex_at-a.ensures c.vertex_at-b.ensures c.contains-2.ensures c.if-contains.true

pub returns-then-not-in_set : goal.returns-then-not-in_set
returns-then-not-in_set c =
    placed_before c.args.self.now.faulty c.args.i.0 c.args.c.0 c.requires.0 c.requires.1 c.in_set.ensures c.if-not-in_set.true

pub returns-then-eq : goal.returns-then-eq
returns-then-eq c =
    middle_itself c.args.self.now.faulty c.args.i.0 c.args.c.0 c.requires.0 c.requires.1 c.vertex_at-b.ensures (equal_told c.eq.ensures c.if-eq.true)

pub is_unexcused-requires : goal.is_unexcused-requires
is_unexcused-requires c =
    (omega (arith, turn_fits c.args.self.now.faulty, c.requires.0), omega (arith, c.args.self.now.faulty.small, c.requires.1), vertex_fits c.args.self.now.faulty c.args.self.now.j.0 c.args.self.now.faulty.turn c.vertex_at-b.ensures)

pub returns : goal.returns
returns c =
    unexcused_violates c.args.self.now.faulty c.args.i.0 c.args.c.0 c.requires.0 c.requires.1 c.vertex_at-a.ensures c.vertex_at-b.ensures
    c.contains.ensures c.if-not-contains.false c.contains-2.ensures c.if-contains.false
    c.in_set.ensures c.if-not-in_set.false (unequal_told c.eq.ensures c.if-eq.false) c.is_unexcused.ensures
