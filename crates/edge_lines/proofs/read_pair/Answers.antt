-- `edge_lines::read_pair` meets its contract: a test that fails says that there is no pair, and where all hold there is.
-- Assumes nothing.
use mathlib.Core.Path.{◌≡◌, refl, sym, ap, ◌∙◌, subst}
use mathlib.Core.Bool.{false}
use mathlib.Core.List.{List}
use native.Mathlib.Omega.{arith}
use Prim.Native.Nat.{ℕ}
use lib.Dec.{T}
use lib.ListN.{drop, length, length-drop}
use Rattle.bitset.proofs.Tests.{said_true, said_false, is_true, is_false}
use Rattle.wording.specs.Decimal.{is_digit, value}
use Rattle.wording.specs.Reading.{front}
use Rattle.edge_lines.specs.Reading.{begins, is_pair, is_numeral, first_digits, behind_first, second_digits, behind_second, capped}
use Rattle.edge_lines.proofs.Scanning.{left_none, begins_starts, number_some, number_none, gap_byte, second_digits_lem, left_behind}
use Rattle.edge_lines.proofs.Pairs.{PairTests, tests_in, tests_out}
use Rattle.edge_lines.proofs.read_pair.Goals as goal
use Rattle.edge_lines.proofs.read_pair.Goals.{After-read_number-first, After-read_number-second}

no_pair : (words line : List ℕ) → (PairTests words line → ⊥) → is_pair words line ≡ false
no_pair words line out = is_false (is_pair words line) (λ t. out (tests_out words line t))

pub returns-then-not-starts_with : goal.returns-then-not-starts_with
returns-then-not-starts_with c =
    let a = c.args in
    no_pair a.words.now a.line.now
    (λ p. said_false (begins a.words.now a.line.now) (c.starts_with.ensures.value ∙ begins_starts a.words.now a.line.now) c.if-not-starts_with.true p.begun)

-- ---- the first number

first_end : (c : After-read_number-first) → drop c.read_number-first.result.rest.at c.args.line.now ≡ behind_first c.args.words.now c.args.line.now
unfolding behind_first
first_end c = c.read_number-first.ensures.rest

pub returns-in_err-x : goal.returns-in_err-x
unfolding first_digits
returns-in_err-x c =
    let a = c.args in
    rw c.from_residual.ensures (no_pair a.words.now a.line.now (λ p. number_none _ c.read_number-first.ensures.value c.in_err-x.was p.first))

pub returns-then-byte_at-ne32 : goal.returns-then-byte_at-ne32
returns-then-byte_at-ne32 c =
    let a = c.args in
    no_pair a.words.now a.line.now
    (λ p. c.if-byte_at-ne32.true (c.byte_at.ensures ∙ gap_byte a.words.now a.line.now _ (first_end (goal.at.returns-then-byte_at-ne32 c).After-read_number-first) ∙ p.spaced))

-- ---- the second one

second_is : (c : After-read_number-second) → front is_digit (drop c.next.result.at c.args.line.now) ≡ second_digits c.args.words.now c.args.line.now
second_is c = second_digits_lem c.args.words.now c.args.line.now _ (first_end (goal.at.After-read_number-second c).After-read_number-first) _ c.next.ensures

left : (c : After-read_number-second) → drop c.read_number-second.result.rest.at c.args.line.now ≡ behind_second c.args.words.now c.args.line.now
left c =
    left_behind c.args.words.now c.args.line.now _ (first_end (goal.at.After-read_number-second c).After-read_number-first) _ c.next.ensures _ c.read_number-second.ensures.rest

pub returns-in_err-y : goal.returns-in_err-y
returns-in_err-y c =
    let a = c.args in
    rw c.from_residual-in_err-y.ensures
    (no_pair a.words.now a.line.now
    (λ p. number_none _ c.read_number-second.ensures.value c.in_err-y.was
    (subst (λ (d : List ℕ). T (is_numeral d)) (sym (second_is (goal.at.returns-in_err-y c).After-read_number-second)) p.second)))

-- ---- the end

pub returns-then-second-line : goal.returns-then-second-line
returns-then-second-line c =
    let a = c.args in
    let end = c.read_number-second.result.rest.at in
    no_pair a.words.now a.line.now
    (λ p. omega (arith, c.if-second-line.true, ap length (left (goal.at.returns-then-second-line c).After-read_number-second ∙ p.ended), length-drop end a.line.now))

pub returns : goal.returns
unfolding first_digits
returns c =
    let a = c.args in
    let words = a.words.now in
    let line = a.line.now in
    let first = number_some _ c.read_number-first.ensures.value c.in_ok-x.was in
    let second = number_some _ c.read_number-second.ensures.value c.in_ok-y.was in
    let second_there = second_is (goal.at.returns c).After-read_number-second in
    let tests : PairTests words line = record {
      begun = said_true (begins words line) (c.starts_with.ensures.value ∙ begins_starts words line) c.if-not-starts_with.false;
      first = said_true (is_numeral (first_digits words line)) refl first.0;
      spaced = sym (gap_byte words line _ (first_end (goal.at.returns c).After-read_number-first)) ∙ sym c.byte_at.ensures ∙ c.if-byte_at-ne32.false;
      second = said_true (is_numeral (second_digits words line)) (ap is_numeral second_there) second.0;
      ended = sym (left (goal.at.returns c).After-read_number-second) ∙ left_none line c.if-second-line.false;
    } in
    (is_true (is_pair words line) (tests_in words line tests), first.1, second.1 ∙ ap (λ (d : List ℕ). capped (value d)) second_there)
