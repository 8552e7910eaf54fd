-- `checks::list_refusal` meets its contract: each answer is given after the tests before it were tried. The facts on the tests are found by what they say, and not by name.
-- Assumes nothing.
use mathlib.Core.Path.{◌≡◌, refl, ap, ap₂, ◌∙◌}
use mathlib.Core.Bool.{Bool, true, false, not, ◌||◌}
use mathlib.Core.List.{List, [], ◌∷◌}
use mathlib.Core.Option.{none, some}
use Prim.Native.Nat.{ℕ, ◌≤◌, ◌<◌}
use lib.ListN.{drop, length}
use native.Mathlib.Omega.{arith}
use Rattle.std.proofs.Common.{rules}
use Rattle.std.proofs.lemmas.Result.{err_from_is_err_and}
use borrow.Author.Tests.{lt-ltb, le-ltb, eq-eqb, ne_eqb}
use Rattle.searches.specs.Answer.{open_tests, open_tests_barring, list_tests_barring, first_refusal, vertex_outside, number, refusal_of}
use Rattle.searches.specs.declared.Mark.{Mark}
use Rattle.checks.proofs.Tried.{Tried, tried_one, tried_first, refused_here, refused_before, rows_fit, entries_fit}
use Rattle.checks.proofs.list_refusal.Goals as goal
use Rattle.checks.proofs.list_refusal.Goals.{then-vertex_outside-via-then-vertex_outside, then-vertex_outside-via-else-vertex_outside+then-vertex_outside-2}

or_is : {a b x y : Bool} → a ≡ x → b ≡ y → (a || b) ≡ (x || y)
or_is = ap₂ (λ (a b : Bool). a || b)

or_left : {a : Bool} (b : Bool) → a ≡ true → (a || b) ≡ true
or_left b e = ap (λ (a : Bool). a || b) e

or_right : (a : Bool) {b : Bool} → b ≡ true → (a || b) ≡ true
or_right true e = refl
or_right false e = e

module _ (kind : ℕ) (mark : Mark) (rows : List ℕ) (barred : ℕ) (t out : List ℕ) (k : ℕ) (opened : none ≡ first_refusal (open_tests_barring kind mark rows barred)) where
  -- the first i tests do not hold
  abbrev Past : ℕ → Type 0
  Past i = Tried (list_tests_barring kind mark rows barred t out k) (drop i (list_tests_barring kind mark rows barred t out k))

  past_6 : Past 6
  unfolding open_tests open_tests_barring list_tests_barring
  past_6 = tried_first (open_tests_barring kind mark rows barred) _ opened

  past_7 : k ≤ length rows → Past 7
  unfolding open_tests open_tests_barring list_tests_barring
  past_7 k_fits = tried_one past_6 (le-ltb _ _ k_fits)

  past_8 : k ≤ length rows → length rows ≤ length out → Past 8
  unfolding open_tests open_tests_barring list_tests_barring
  past_8 k_fits room = tried_one (past_7 k_fits) (le-ltb _ _ room)

  past_9 : k ≤ length rows → length rows ≤ length out → length t ≡ length rows → Past 9
  unfolding open_tests open_tests_barring list_tests_barring
  past_9 k_fits room whole = tried_one (past_8 k_fits room) (ap not (eq-eqb _ _ whole))

  past_10 : k ≤ length rows → length rows ≤ length out → length t ≡ length rows
      → vertex_outside (length rows) out k ≡ false → vertex_outside (length rows) t (length rows) ≡ false → Past 10
  unfolding open_tests open_tests_barring list_tests_barring
  past_10 k_fits room whole start_in list_in = tried_one (past_9 k_fits room whole) (or_is start_in list_in)

  -- the test that holds, by what it says
  long_start : length rows < k → some 6 ≡ first_refusal (list_tests_barring kind mark rows barred t out k)
  unfolding open_tests open_tests_barring list_tests_barring
  long_start long = refused_here past_6 (lt-ltb _ _ long)

  short_output : k ≤ length rows → length out < length rows → some 10 ≡ first_refusal (list_tests_barring kind mark rows barred t out k)
  unfolding open_tests open_tests_barring list_tests_barring
  short_output k_fits short = refused_here (past_7 k_fits) (lt-ltb _ _ short)

  other_length : k ≤ length rows → length rows ≤ length out → (length t ≡ length rows → ⊥) → some 7 ≡ first_refusal (list_tests_barring kind mark rows barred t out k)
  unfolding open_tests open_tests_barring list_tests_barring
  other_length k_fits room other = refused_here (past_8 k_fits room) (ap not (ne_eqb _ _ other))

  start_outside : k ≤ length rows → length rows ≤ length out → length t ≡ length rows
      → vertex_outside (length rows) out k ≡ true → some 8 ≡ first_refusal (list_tests_barring kind mark rows barred t out k)
  unfolding open_tests open_tests_barring list_tests_barring
  start_outside k_fits room whole outside = refused_here (past_9 k_fits room whole) (or_left _ outside)

  list_outside : k ≤ length rows → length rows ≤ length out → length t ≡ length rows
      → vertex_outside (length rows) t (length rows) ≡ true → some 8 ≡ first_refusal (list_tests_barring kind mark rows barred t out k)
  unfolding open_tests open_tests_barring list_tests_barring
  list_outside k_fits room whole outside = refused_here (past_9 k_fits room whole) (or_right _ outside)

pub returns-in_err-open_refusal : goal.returns-in_err-open_refusal
unfolding list_tests_barring refusal_of
returns-in_err-open_refusal c =
    let a = c.args in
    let p = err_from_is_err_and c.from_residual.result c.from_residual.ensures.1 in
    rw (p.1, p.2) (refused_before (open_tests_barring a.kind.0 a.mark a.rows.now a.barred) _ c.in_err-open_refusal.ensures)

pub returns-then-n-k : goal.returns-then-n-k
unfolding number refusal_of
returns-then-n-k c = long_start _ _ _ _ _ _ _ c.in_ok-open_refusal.ensures (omega arith)

pub returns-then-output-n : goal.returns-then-output-n
unfolding number refusal_of
returns-then-output-n c = short_output _ _ _ _ _ _ _ c.in_ok-open_refusal.ensures (omega arith) (omega arith)

pub returns-then-tie_break-n : goal.returns-then-tie_break-n
unfolding number refusal_of
returns-then-tie_break-n c = other_length _ _ _ _ _ _ _ c.in_ok-open_refusal.ensures (omega arith) (omega arith) (omega arith)

pub returns-then-vertex_outside : goal.returns-then-vertex_outside
unfolding number refusal_of
returns-then-vertex_outside c =
    elim c.then-vertex_outside.branch [
      | then-vertex_outside-via-then-vertex_outside w ↦
          start_outside _ _ _ _ _ _ _ c.in_ok-open_refusal.ensures (omega arith) (omega arith) (omega arith) (search rules)
      | then-vertex_outside-via-else-vertex_outside+then-vertex_outside-2 w ↦
          list_outside _ _ _ _ _ _ _ c.in_ok-open_refusal.ensures (omega arith) (omega arith) (omega arith) (search rules)
    ]

pub repeated-requires-clause-by_index : goal.repeated-requires-clause-by_index
unfolding refusal_of
repeated-requires-clause-by_index c = entries_fit _ (rows_fit _ _ _ _ c.in_ok-open_refusal.ensures) (search rules)

pub repeated-requires-2-clause-by_index : goal.repeated-requires-2-clause-by_index
unfolding refusal_of
repeated-requires-2-clause-by_index c = entries_fit _ (rows_fit _ _ _ _ c.in_ok-open_refusal.ensures) (search rules)

-- the last two tests are decided together
pub returns : goal.returns
unfolding open_tests open_tests_barring list_tests_barring refusal_of
returns c =
    c.entries_refusal.ensures
    ∙ ap₂ (λ (x y : Bool). first_refusal ((9, x) ∷ (24, y) ∷ [])) (or_is c.repeated.ensures c.repeated-2.ensures) c.vertex_barred-out_of_service.ensures
    ∙ (past_10 _ _ _ _ _ _ _ c.in_ok-open_refusal.ensures (omega arith) (omega arith) (omega arith) (search rules) (search rules)).same
