-- `checks::ordering_refusal` meets its contract: each answer is given after the tests before it were tried. The facts on the tests are found by what they say, and not by name.
-- Assumes nothing.
use mathlib.Core.Path.{◌≡◌, ap₂, ◌∙◌}
use mathlib.Core.Bool.{Bool, true, false}
use mathlib.Core.List.{List, [], ◌∷◌}
use mathlib.Core.Option.{some}
use Prim.Native.Nat.{ℕ, ◌≤◌, ◌<◌}
use lib.ListN.{drop, length}
use native.Mathlib.Omega.{arith}
use Rattle.std.proofs.Common.{rules}
use borrow.Author.Tests.{lt-ltb, le-ltb}
use Rattle.searches.specs.Answer.{ordering_tests, first_refusal, vertex_outside, number, refusal_of}
use Rattle.checks.proofs.Tried.{Tried, tried_none, tried_one, refused_here, entries_fit}
use Rattle.checks.proofs.ordering_refusal.Goals as goal

module _ (n barred : ℕ) (w : List ℕ) where
  -- the first i tests do not hold
  abbrev Past : ℕ → Type 0
  Past i = Tried (ordering_tests n barred w) (drop i (ordering_tests n barred w))

  past_1 : length w ≤ n → Past 1
  unfolding ordering_tests
  past_1 fits = tried_one (tried_none _) (le-ltb _ _ fits)

  past_2 : length w ≤ n → vertex_outside n w (length w) ≡ false → Past 2
  unfolding ordering_tests
  past_2 fits inside = tried_one (past_1 fits) inside

  -- the test that holds, by what it says
  too_long : n < length w → some 6 ≡ first_refusal (ordering_tests n barred w)
  unfolding ordering_tests
  too_long long = refused_here (tried_none _) (lt-ltb _ _ long)

  one_outside : length w ≤ n → vertex_outside n w (length w) ≡ true → some 8 ≡ first_refusal (ordering_tests n barred w)
  unfolding ordering_tests
  one_outside fits outside = refused_here (past_1 fits) outside

pub returns-then-n-length : goal.returns-then-n-length
unfolding number refusal_of
returns-then-n-length c = too_long _ _ _ (omega (arith, c.requires))

pub returns-then-vertex_outside : goal.returns-then-vertex_outside
unfolding number refusal_of
returns-then-vertex_outside c = one_outside _ _ _ (omega (arith, c.requires)) (search rules)

pub repeated-twice-requires-clause-by_index : goal.repeated-twice-requires-clause-by_index
repeated-twice-requires-clause-by_index c = entries_fit _ c.requires (search rules)

-- the last two tests are decided together
pub returns : goal.returns
unfolding ordering_tests refusal_of
returns c =
    c.entries_refusal.ensures
    ∙ ap₂ (λ (x y : Bool). first_refusal ((9, x) ∷ (24, y) ∷ [])) c.repeated-twice.ensures c.vertex_barred-out_of_service.ensures
    ∙ (past_2 _ _ _ (omega arith) (search rules)).same
