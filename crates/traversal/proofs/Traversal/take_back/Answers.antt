-- `traversal::Traversal::take_back` meets its contract: refused it is kept, else the last vertex is taken out.
-- Assumes nothing.
use mathlib.Core.Path.{◌≡◌}
use Prim.Native.Nat.{◌≤◌}
use mathlib.Core.Option.{none}
use native.Mathlib.Omega.{arith}
use Rattle.searches.specs.Answer.{refusal_of}
use Rattle.traversal.specs.State.{take_back_answer, shrunk}
use Rattle.traversal.proofs.Answered.{next_handed, kept_handed, take_back_room}
use Rattle.traversal.proofs.Traversal.take_back.Goals as goal
use Rattle.traversal.proofs.Traversal.take_back.Goals.{In_default}

pub returns-in-Err-clause-state : goal.returns-in-Err-clause-state
unfolding shrunk refusal_of
returns-in-Err-clause-state c = kept_handed _ c.args.self c.in-Err.ensures

accepted : (c : In_default) → none ≡ take_back_answer c.args.self
unfolding refusal_of
accepted c = c.in_default.ensures

-- there is a vertex to take back
room : (c : In_default) → (1 ≤ c.args.self.k) × (c.args.self.k ≤ 64)
room c = take_back_room c.args.self (accepted c)

pub overflow_sub-last : goal.overflow_sub-last
overflow_sub-last c = (room (goal.at.overflow_sub-last c).In_default).0

pub bounds-shrunk-last : goal.bounds-shrunk-last
bounds-shrunk-last c = omega (arith, room (goal.at.bounds-shrunk-last c).In_default)

pub returns : goal.returns
unfolding refusal_of shrunk
returns c =
    let t = c.args.self in
    let answer = accepted (goal.at.returns c).In_default in
    record { state = next_handed _ t answer; answer = answer }
