-- `checks::graph_refusal` meets its contract: each answer is given after the tests before it were tried, each on all rows. The facts on the tests are found by what they say, and not by name.
-- Assumes nothing.
use mathlib.Core.List.{List}
use mathlib.Core.Path.{◌≡◌, sym, ap, ◌∙◌}
use mathlib.Core.Bool.{Bool, true, false, ◌&&◌}
use mathlib.Core.Option.{none, some}
use Prim.Native.Nat.{ℕ, ◌≤◌, ◌<◌}
use lib.ListN.{drop, length}
use native.Mathlib.Omega.{arith}
use Rattle.std.specs.Prelude.{Option}
use Rattle.std.specs.Option.{is_some}
use Rattle.std.proofs.Common.{rules}
use borrow.Author.Tests.{lt-ltb, le-ltb}
use Rattle.bitset.specs.Below.{found_below}
use Rattle.bitset.specs.Word.{from_up}
use Rattle.bitset.proofs.Chains.{found_test}
use Rattle.searches.specs.Ordering.{arcs}
use Rattle.searches.specs.Answer.{bit_outside, self_loop, one_way, is_two_way, open_tests, first_refusal, number, refusal_of}
use Rattle.searches.specs.declared.Mark.{Mark}
use Rattle.lookup.specs.Row.{outside_at, loop_at}
use Rattle.checks.proofs.Tried.{Tried, tried_none, tried_one, refused_here, accepted_here}
use Rattle.checks.proofs.graph_refusal.Goals as goal

-- whether there is a first row with a bit outside, or a first vertex in its own row, says whether one is
told_outside : (rows : List ℕ) {r : Option ℕ} → r ≡ found_below (length rows) (outside_at rows) → {b : Bool} → is_some r ≡ b → bit_outside rows ≡ b
unfolding bit_outside outside_at from_up arcs
told_outside rows first e = sym (ap is_some first ∙ found_test (length rows) (outside_at rows)) ∙ e

told_looped : (rows : List ℕ) {r : Option ℕ} → r ≡ found_below (length rows) (loop_at rows) → {b : Bool} → is_some r ≡ b → self_loop rows ≡ b
unfolding self_loop loop_at
told_looped rows first e = sym (ap is_some first ∙ found_test (length rows) (loop_at rows)) ∙ e

-- refusal 5 is tried as the mark says
five_dropped : {mark : Mark} (b : Bool) → mark ≡ Mark.OneWay → (is_two_way mark && b) ≡ false
unfolding is_two_way
five_dropped b e = ap (λ (m : Mark). is_two_way m && b) e

five_tried : {mark : Mark} {b : Bool} (a : Bool) → mark ≡ Mark.TwoWay → b ≡ a → (is_two_way mark && b) ≡ a
unfolding is_two_way
five_tried {b = b} a e same = ap (λ (m : Mark). is_two_way m && b) e ∙ same

module _ (kind : ℕ) (mark : Mark) (rows : List ℕ) where
  -- the first i tests do not hold
  abbrev Past : ℕ → Type 0
  Past i = Tried (open_tests kind mark rows) (drop i (open_tests kind mark rows))

  past_1 : kind ≤ 6 → Past 1
  unfolding open_tests
  past_1 known = tried_one (tried_none _) (le-ltb _ _ known)

  past_2 : kind ≤ 6 → length rows ≤ 64 → Past 2
  unfolding open_tests
  past_2 known fits = tried_one (past_1 known) (le-ltb _ _ fits)

  past_3 : kind ≤ 6 → length rows ≤ 64 → bit_outside rows ≡ false → Past 3
  unfolding open_tests
  past_3 known fits inside = tried_one (past_2 known fits) inside

  past_4 : kind ≤ 6 → length rows ≤ 64 → bit_outside rows ≡ false → self_loop rows ≡ false → Past 4
  unfolding open_tests
  past_4 known fits inside apart = tried_one (past_3 known fits inside) apart

  -- the test that holds, by what it says
  unknown_kind : 6 < kind → some 1 ≡ first_refusal (open_tests kind mark rows)
  unfolding open_tests
  unknown_kind unknown = refused_here (tried_none _) (lt-ltb _ _ unknown)

  too_many : kind ≤ 6 → 64 < length rows → some 2 ≡ first_refusal (open_tests kind mark rows)
  unfolding open_tests
  too_many known many = refused_here (past_1 known) (lt-ltb _ _ many)

  outside_first : kind ≤ 6 → length rows ≤ 64 → bit_outside rows ≡ true → some 3 ≡ first_refusal (open_tests kind mark rows)
  unfolding open_tests
  outside_first known fits outside = refused_here (past_2 known fits) outside

  looped_first : kind ≤ 6 → length rows ≤ 64 → bit_outside rows ≡ false → self_loop rows ≡ true → some 4 ≡ first_refusal (open_tests kind mark rows)
  unfolding open_tests
  looped_first known fits inside looped = refused_here (past_3 known fits inside) looped

  five_first : kind ≤ 6 → length rows ≤ 64 → bit_outside rows ≡ false → self_loop rows ≡ false → (is_two_way mark && one_way rows) ≡ true
      → some 5 ≡ first_refusal (open_tests kind mark rows)
  unfolding open_tests
  five_first known fits inside apart one = refused_here (past_4 known fits inside apart) one

  none_first : kind ≤ 6 → length rows ≤ 64 → bit_outside rows ≡ false → self_loop rows ≡ false → (is_two_way mark && one_way rows) ≡ false
      → none ≡ first_refusal (open_tests kind mark rows)
  unfolding open_tests
  none_first known fits inside apart both = accepted_here (tried_one (past_4 known fits inside apart) both)

pub returns-then-kind : goal.returns-then-kind
unfolding number refusal_of
returns-then-kind c = unknown_kind _ _ _ (omega arith)

pub returns-then-n-gt64 : goal.returns-then-n-gt64
unfolding number refusal_of
returns-then-n-gt64 c = too_many _ _ _ (omega arith) (omega arith)

pub returns-then-is_some : goal.returns-then-is_some
unfolding number refusal_of
returns-then-is_some c = outside_first _ _ _ (omega arith) (omega arith) (told_outside _ c.first_outside-outside.ensures (search rules))

pub returns-then-is_some-2 : goal.returns-then-is_some-2
unfolding number refusal_of
returns-then-is_some-2 c =
    looped_first _ _ _ (omega arith) (omega arith) (told_outside _ c.first_outside-outside.ensures (search rules)) (told_looped _ c.first_looped-looped.ensures (search rules))

pub returns-in-OneWay : goal.returns-in-OneWay
unfolding number refusal_of
returns-in-OneWay c =
    none_first _ _ _ (omega arith) (omega arith) (told_outside _ c.first_outside-outside.ensures (search rules)) (told_looped _ c.first_looped-looped.ensures (search rules))
    (five_dropped _ (search rules))

pub one_way-requires : goal.one_way-requires
one_way-requires c = (omega arith, told_outside _ c.first_outside-outside.ensures (search rules))

pub returns-then-one_way : goal.returns-then-one_way
unfolding number refusal_of
returns-then-one_way c =
    five_first _ _ _ (omega arith) (omega arith) (told_outside _ c.first_outside-outside.ensures (search rules)) (told_looped _ c.first_looped-looped.ensures (search rules))
    (five_tried _ (search rules) (search rules))

pub returns : goal.returns
unfolding number refusal_of
returns c =
    none_first _ _ _ (omega arith) (omega arith) (told_outside _ c.first_outside-outside.ensures (search rules)) (told_looped _ c.first_looped-looped.ensures (search rules))
    (five_tried _ (search rules) (search rules))
