-- `sheet::read::decide` meets its contract: each answer is given after the tests before it were tried.
-- Assumes nothing.
use mathlib.Core.Path.{◌≡◌, refl, ap, ◌∙◌}
use mathlib.Core.Bool.{true, false, not}
use mathlib.Core.Option.{Option, some}
use Prim.Native.Nat.{ℕ, ◌+◌, ◌≤◌}
use native.Mathlib.Omega.{arith}
use Rattle.std.specs.Prelude.{⊤, Result, Err}
use borrow.Author.Tests.{lt-ltb, le-ltb, eq-eqb, ne_eqb}
use lib.ListN.{drop}
use Rattle.bitset.proofs.Tests.{not_false, said_true}
use Rattle.searches.specs.Answer.{number}
use Rattle.searches.specs.Answer as answer
use Rattle.searches.specs.declared.Refusal.{Refusal}
use Rattle.checks.proofs.Tried.{Tried, tried_none, tried_one, refused_here, accepted_here}
use Rattle.sheet.specs.Parsing.{parsed_tests, parsed_answer, parsed_line}
use Rattle.lines.specs.declared.Parsed.{Parsed}
use Rattle.sheet.specs.declared.read.Unreadable.{Unreadable}
use Rattle.sheet.specs.Answer.{refusal_in, line_in}
use Rattle.sheet.proofs.read.decide.Goals as goal

-- the first i tests do not hold
abbrev Past : ℕ → Parsed → Type 0
Past i p = Tried (parsed_tests p) (drop i (parsed_tests p))

-- what is refused at a test, and its line
refused_so : (p : Parsed) (refusal : Refusal) (line : ℕ) {a : Result ⊤ Unreadable} → a ≡ Err (record { refusal = refusal; line = line })
    → some (number refusal) ≡ parsed_answer p → line ≡ parsed_line (some (number refusal)) p → (refusal_in a ≡ parsed_answer p) × (line_in a ≡ parsed_line (parsed_answer p) p)
unfolding refusal_in line_in
refused_so p refusal line e same at = (
  ap (λ (x : Result ⊤ Unreadable). refusal_in x) e ∙ same,
  ap (λ (x : Result ⊤ Unreadable). line_in x) e ∙ at ∙ ap (λ (x : Option ℕ). parsed_line x p) same,
)

-- ---- the tests in their order: each takes as facts what those before it said, wherever they were tried

module _ (p : Parsed) (some_good : p.good ≡ 0 → ⊥) where
  past_1 : Past 1 p
  unfolding parsed_tests
  past_1 = tried_one (tried_none _) (ne_eqb p.good 0 some_good)

  module _ (few : p.content.n ≤ 64) where
    past_2 : Past 2 p
    unfolding parsed_tests
    past_2 = tried_one past_1 (le-ltb 64 p.content.n few)

    module _ (short : p.content.k ≤ p.content.n) where
      past_3 : Past 3 p
      unfolding parsed_tests
      past_3 = tried_one past_2 (le-ltb p.content.n p.content.k short)

      module _ (sound : not p.sound ≡ false) where
        past_4 : Past 4 p
        unfolding parsed_tests
        past_4 = tried_one past_3 sound

        past_5 : p.content.outside ≡ false → Past 5 p
        unfolding parsed_tests
        past_5 inside = tried_one past_4 inside

        past_6 : p.content.outside ≡ false → answer.repeated p.content.ordering p.content.k ≡ false → Past 6 p
        unfolding parsed_tests
        past_6 inside once = tried_one (past_5 inside) once

-- ---- what is asked on the way

pub repeated-requires : goal.repeated-requires
repeated-requires c =
    let p : Parsed = c.args.parsed in
    let sound : not p.sound ≡ false = grind arith in
    let inside : p.content.outside ≡ false = grind arith in
    let points = c.requires.points (said_true p.sound refl (not_false _ sound)) inside in
    record {
      k_in_bounds = omega (arith, points.0, c.requires.room);
      by_index = points.1;
    }

-- ---- the answers

pub returns-then-good-eq0 : goal.returns-then-good-eq0
unfolding parsed_answer parsed_tests parsed_line number
returns-then-good-eq0 c =
    let p : Parsed = c.args.parsed in
    let none_good : p.good ≡ 0 = omega arith in
    let whole = refused_so p Refusal.MalformedSheet 1 c.unread.ensures (refused_here (tried_none (parsed_tests p)) (eq-eqb p.good 0 none_good)) (omega (arith, none_good)) in
    record { answer = whole.0; line = whole.1 }

pub returns-then-content-gt64 : goal.returns-then-content-gt64
unfolding parsed_answer parsed_tests parsed_line number
returns-then-content-gt64 c =
    let p : Parsed = c.args.parsed in
    let whole = refused_so p Refusal.TooManyVertices 0 c.unread-then-content-gt64.ensures (refused_here (past_1 p (omega arith)) (lt-ltb 64 p.content.n (omega arith))) refl in
    record { answer = whole.0; line = whole.1 }

pub returns-then-content : goal.returns-then-content
unfolding parsed_answer parsed_tests parsed_line number
returns-then-content c =
    let p : Parsed = c.args.parsed in
    let whole = refused_so p Refusal.OrderingTooLong 0 c.unread-then-content.ensures (refused_here (past_2 p (omega arith) (omega arith)) (lt-ltb p.content.n p.content.k (omega arith))) refl in
    record { answer = whole.0; line = whole.1 }

pub returns-then-not-sound : goal.returns-then-not-sound
unfolding parsed_answer parsed_tests parsed_line number
returns-then-not-sound c =
    let p : Parsed = c.args.parsed in
    let unsound : not p.sound ≡ true = grind arith in
    let whole = refused_so p Refusal.MalformedSheet (p.good + 1) c.unread-then-not-sound.ensures (refused_here (past_3 p (omega arith) (omega arith) (omega arith)) unsound) refl in
    record { answer = whole.0; line = whole.1 }

pub returns-then-content-2 : goal.returns-then-content-2
unfolding parsed_answer parsed_tests parsed_line number
returns-then-content-2 c =
    let p : Parsed = c.args.parsed in
    let outside : p.content.outside ≡ true = grind arith in
    let whole = refused_so p Refusal.VertexOutOfRange 0 c.unread-then-content-2.ensures (refused_here (past_4 p (omega arith) (omega arith) (omega arith) (grind arith)) outside) refl in
    record { answer = whole.0; line = whole.1 }

pub returns-then-repeated : goal.returns-then-repeated
unfolding parsed_answer parsed_tests parsed_line number
returns-then-repeated c =
    let p : Parsed = c.args.parsed in
    let twice : answer.repeated p.content.ordering p.content.k ≡ true = grind arith in
    let whole = refused_so p Refusal.RepeatedVertex 0 c.unread-then-repeated.ensures (refused_here (past_5 p (omega arith) (omega arith) (omega arith) (grind arith) (grind arith)) twice) refl in
    record { answer = whole.0; line = whole.1 }

pub returns : goal.returns
unfolding parsed_answer parsed_tests parsed_line refusal_in line_in
returns c =
    let p : Parsed = c.args.parsed in
    let done = accepted_here (past_6 p (omega arith) (omega arith) (omega arith) (grind arith) (grind arith) (grind arith)) in
    record {
      answer = done;
      line = ap (λ (x : Option ℕ). parsed_line x p) done;
    }
