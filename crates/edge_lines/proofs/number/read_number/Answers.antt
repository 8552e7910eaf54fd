-- `edge_lines::number::read_number` meets its contract: each turn reads one digit more.
-- Assumes nothing.
use Prim.Native.Nat.{ℕ, ◌+◌, ◌-◌, ◌<◌}
use mathlib.Core.Path.{◌≡◌, ap, ◌∙◌, sym, subst}
use mathlib.Core.Bool.{not, ◌&&◌, ◌||◌}
use native.Mathlib.Omega.{arith}
use lib.Dec.{T, ltb, eqb}
use lib.ListN.{length, drop}
use Rattle.bitset.proofs.Tests.{said_true, said_false}
use Rattle.searches.specs.Ordering.{at}
use Rattle.wording.specs.Decimal.{is_digit}
use Rattle.wording.specs.Reading.{front}
use Rattle.edge_lines.specs.Reading.{is_numeral, appended}
use Rattle.edge_lines.proofs.Scanning.{Counting, counting_start, counting_next, counting_value, counting_rest, numeral_test, digit_range, digit_inside}
use Rattle.edge_lines.proofs.number.read_number.Goals as goal
use Rattle.edge_lines.proofs.number.read_number.Goals.{After-loop-value, In-loop-value, After-byte_at-unpadded}

-- a digit stands at the end
digit : (c : In-loop-value) → T (is_digit (at c.args.line.now c.loop-value.end))
digit c = said_true _ c.digit_at.ensures c.loop-value-test.true

-- so it is inside
inside : (c : In-loop-value) → c.loop-value.end < length c.args.line.now
inside c = digit_inside c.args.line.now (digit c)

-- none stands there
stopped : (c : After-loop-value) → T (is_digit (at c.args.line.now c.loop-value.end)) → ⊥
stopped c = said_false _ c.digit_at.ensures c.loop-value-test.false

pub loop-value-init : goal.loop-value-init
loop-value-init c = counting_start _ _

pub digit_at-requires : goal.digit_at-requires
digit_at-requires c = tt

pub byte_at-requires : goal.byte_at-requires
byte_at-requires c = tt

pub append-value-requires : goal.append-value-requires
append-value-requires c = let range = digit_range _ (digit (goal.at.append-value-requires c).In-loop-value) in (omega (arith, range.0, c.byte_at.ensures), omega (arith, range.1, c.byte_at.ensures))

pub overflow_add-end : goal.overflow_add-end
overflow_add-end c = omega (arith, inside (goal.at.overflow_add-end c).In-loop-value)

pub loop-value-smaller : goal.loop-value-smaller
loop-value-smaller c = omega (arith, inside (goal.at.loop-value-smaller c).In-loop-value)

pub loop-value-preserved : goal.loop-value-preserved
loop-value-preserved c =
    let line = c.args.line.now in
    subst (λ (x : ℕ). Counting line c.args.cursor.at (c.loop-value.end + 1) x)
    (ap (λ (b : ℕ). appended c.loop-value.value b) (sym c.byte_at.ensures) ∙ sym c.append-value.ensures)
    (counting_next line _ c.loop-value.invariant (digit (goal.at.loop-value-preserved c).In-loop-value))

pub overflow_sub-count : goal.overflow_sub-count
overflow_sub-count c = omega (arith, c.loop-value.invariant.onward)

pub byte_at-unpadded-requires : goal.byte_at-unpadded-requires
byte_at-unpadded-requires c = tt

-- what the code tests of the digits
sound : (c : After-byte_at-unpadded)
    → let line = c.args.line.now in
    (ltb 0 (c.loop-value.end - c.args.cursor.at) && (not (eqb c.byte_at-unpadded.result 48) || eqb (c.loop-value.end - c.args.cursor.at) 1))
    ≡ is_numeral (front is_digit (drop c.args.cursor.at line))
sound c =
    let start = c.args.cursor.at in
    ap (λ (b : ℕ). ltb 0 (c.loop-value.end - start) && (not (eqb b 48) || eqb (c.loop-value.end - start) 1)) c.byte_at-unpadded.ensures
    ∙ numeral_test c.args.line.now start c.loop-value.invariant (stopped (goal.at.After-byte_at-unpadded c).After-loop-value)

pub returns-then-sound : goal.returns-then-sound
returns-then-sound c =
    let line = c.args.line.now in
    let start = c.args.cursor.at in
    let p = c.loop-value.invariant in
    let out = stopped (goal.at.returns-then-sound c).After-loop-value in
    record {
      value = (sym (sound (goal.at.returns-then-sound c).After-byte_at-unpadded) ∙ c.if-sound.true, counting_value line start p out);
      rest = counting_rest line start p out;
    }

pub returns-else-sound : goal.returns-else-sound
returns-else-sound c =
    let line = c.args.line.now in
    let start = c.args.cursor.at in
    record {
      value = sym (sound (goal.at.returns-else-sound c).After-byte_at-unpadded) ∙ c.if-sound.false;
      rest = counting_rest line start c.loop-value.invariant (stopped (goal.at.returns-else-sound c).After-loop-value);
    }
