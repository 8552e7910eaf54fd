-- Whether a graph is chordal, as the call answers: what is refused, and what holds of the answer and of the output list, for every input. Which order or
-- which cycle is shown is left open.
--   chordal_tests mark rows room      what is refused: numbers and tests in 02's order; the output list has room bytes
--   Answer                           chordal; cycle m: not chordal, with a cycle of m vertices; refused r: the refusal with number r
--   refusal_in answer                 the number of the refusal, if it is one
--   Shown arc n before answer after  what the output list, before the call and after it, has to do with the answer       [02: K9]
--   answer_of                         an answer of the code as 02's number and values
use Rattle.std.specs.Prelude.{ℕ, ◌≡◌, Bool, List, [], ◌∷◌, ◌++◌, ltb, length, drop, Result, Ok, Err}
use Rattle.std.proofs.Math.Option.{Option, none, some}
use Rattle.searches.specs.Answer.{two_way_tests, number}
use Rattle.searches.specs.declared.Refusal.{Refusal}
use Rattle.searches.specs.declared.Mark.{Mark}
use Rattle.chordal.specs.Chordal.{IsChordlessCycle, Chordal, IsEliminationOrder}
use Rattle.chordal.specs.declared.Chordality.{Chordality}

unfoldable pub chordal_tests : Mark → List ℕ → ℕ → List (ℕ × Bool)
chordal_tests mark rows room = two_way_tests mark rows ++ (10, ltb room (length rows)) ∷ []

pub data Answer : Type 0 where
  chordal : Answer
  cycle : ℕ → Answer
  refused : ℕ → Answer

unfoldable pub refusal_in : Answer → Option ℕ
refusal_in chordal = none
refusal_in (cycle m) = none
refusal_in (refused r) = some r

-- yes: no chordless cycle exists, and the list begins with an elimination order; no: it begins with a chordless cycle of the length told. The bytes
-- behind stay. Refused, all stay
abbrev pub Shown : (ℕ → ℕ → Bool) → ℕ → List ℕ → Answer → List ℕ → Type 0
Shown arc n before chordal after = Chordal arc n × IsEliminationOrder arc n after × (drop n after ≡ drop n before)
Shown arc n before (cycle m) after = IsChordlessCycle arc n after m × (drop m after ≡ drop m before)
Shown arc n before (refused r) after = after ≡ before

unfoldable pub answer_of : Result Chordality Refusal → Answer
answer_of (Ok Chordality.Chordal) = chordal
answer_of (Ok (Chordality.Cycle m)) = cycle m
answer_of (Err r) = refused (number r)
