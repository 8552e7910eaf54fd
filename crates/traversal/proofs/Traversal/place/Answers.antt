-- `traversal::Traversal::place` meets its contract: refused it is kept, else the vertex is written behind the others.
-- Assumes nothing.
use mathlib.Core.Path.{◌≡◌}
use Prim.Native.Nat.{◌<◌}
use mathlib.Core.Option.{none}
use native.Mathlib.Omega.{arith}
use lib.ListN.{length}
use borrow.Author.Rules.{rules}
use Rattle.searches.specs.Answer.{refusal_of}
use Rattle.traversal.specs.State.{place_answer, grown}
use Rattle.traversal.proofs.Answered.{next_handed, kept_handed, place_room}
use Rattle.traversal.proofs.Traversal.place.Goals as goal
use Rattle.traversal.proofs.Traversal.place.Goals.{In_default, Start}

-- the arrays have 64 entries
arrays : (s : Start) → (length s.args.self.rows ≡ 64) × (length s.args.self.ordering ≡ 64)
arrays s = (search rules, search rules)

pub returns-in-Err-clause-state : goal.returns-in-Err-clause-state
unfolding grown refusal_of
returns-in-Err-clause-state c = kept_handed _ c.args.self c.in-Err.ensures

accepted : (c : In_default)
    → let a = c.args in
    none ≡ place_answer a.self a.vertex.0
unfolding refusal_of
accepted c = c.in_default.ensures

-- there is a position to write
room : (c : In_default) → c.args.self.k < 64
room c =
    let full = arrays (goal.at.In_default c).Start in
    (place_room c.args.self full.0 full.1 c.args.vertex.0 (accepted c)).1

pub bounds-grown-k : goal.bounds-grown-k
bounds-grown-k c = room (goal.at.bounds-grown-k c).In_default

pub overflow_add-grown : goal.overflow_add-grown
overflow_add-grown c = omega (arith, room (goal.at.overflow_add-grown c).In_default)

pub returns : goal.returns
unfolding refusal_of grown
returns c =
    let t = c.args.self in
    let answer = accepted (goal.at.returns c).In_default in
    record { state = next_handed _ t answer; answer = answer }
