-- The tests on what the lines of a file came to, against those on the lines.
--   tests_on ls size         what is refused of the lines, comments left out, and an output list of so many entries
--   tests_same              the tests on what the lines came to decide as these do
--   Read ls r, rows_same    where none of them holds, the rows are those of the plan
-- Assumes nothing.
use Prim.Native.Nat.{ℕ, ◌≤◌, ◌<◌}
use mathlib.Core.Path.{◌≡◌, refl, sym, ap, ap₂, ◌∙◌, subst}
use mathlib.Core.Bool.{Bool, true, false, cond, not, ◌&&◌}
use mathlib.Core.Logic.{◌⊎◌, inl, inr}
use mathlib.Core.List.{List, [], ◌∷◌}
use mathlib.Core.Option.{none, some}
use native.Mathlib.Omega.{arith}
use borrow.Author.Tests.{lt-ltb, ne_eqb}
use lib.Dec.{T, ltb, eqb, lt→ltb, not_T}
use lib.ListN.{length, take}
use Rattle.bitset.proofs.Tests.{and_out, not_not, decided, is_false, cond_else, below_or}
use Rattle.searches.specs.Answer.{first_refusal, Accepts}
use Rattle.searches.proofs.Refusals.{none_accepts}
use Rattle.edge_lines.specs.Reading.{most, capped}
use Rattle.edge_lines.specs.declared.Line.{Line}
use Rattle.edge_lines.proofs.Numerals.{capped_small, capped_large}
use Rattle.dimacs.specs.Import.{is_problem, points_in, announced_in, headed, points, announced, following, is_edge, every, formed, looped, drawn_rows}
use Rattle.dimacs.specs.Drawing.{drawing_tests}
use Rattle.dimacs.specs.declared.draw.Drawing.{Drawing}
use Rattle.dimacs.proofs.Gathered.{Followed, heading, capped_above, Gathers, headless, large, small}

-- what is refused of the lines, and an output list of so many entries
unfoldable pub tests_on : List Line → ℕ → List (ℕ × Bool)
tests_on ls size =
    (27, not (headed ls))
    ∷ (2, ltb 64 (points ls))
    ∷ (27, not (formed ls))
    ∷ (4, looped ls)
    ∷ (10, ltb size (points ls))
    ∷ []

-- one test after the other: the later ones matter only where this one does not hold
first_same : {x y : Bool} (r : ℕ) (a b : List (ℕ × Bool)) → x ≡ y → ((T x → ⊥) → first_refusal a ≡ first_refusal b) → first_refusal ((r, x) ∷ a) ≡ first_refusal ((r, y) ∷ b)
unfolding first_refusal
first_same {x} {y} r a b e rest = cond_else x (some r) rest ∙ ap (λ (t : Bool). cond t (some r) (first_refusal b)) e

-- a count below the cap is the number, or not, with the cap as without it
capped_equal : (a m : ℕ) → a < most → eqb a (capped m) ≡ eqb a m
capped_equal a m l = go (below_or m most)
  where
    go : (m < most) ⊎ (most ≤ m) → eqb a (capped m) ≡ eqb a m
    go (inl h) = ap (eqb a) (capped_small m h)
    go (inr h) = ap (eqb a) (capped_large m h) ∙ ne_eqb a most (λ e. omega arith) ∙ sym (ne_eqb a m (λ e. omega arith))

module _ (n m size : ℕ) (es : List Line) {r : Drawing} (l : n ≤ 64) (few : r.edges < most) (f : Followed (heading n (capped m)) es r) where
  form_same : not (r.sound && eqb r.edges r.m) ≡ not (every (is_edge n) es && eqb (length es) m)
  form_same = go (decided (every (is_edge n) es))
    where
      go : T (every (is_edge n) es) ⊎ (T (every (is_edge n) es) → ⊥) → not (r.sound && eqb r.edges r.m) ≡ not (every (is_edge n) es && eqb (length es) m)
      go (inl t) =
          let long : r.edges ≡ length es = omega (arith, f.counted t) in
          ap not (ap₂ (λ (x y : Bool). x && y) f.sound (ap₂ eqb long f.announced ∙ capped_equal (length es) m (omega arith)))
      go (inr out) =
          let never : every (is_edge n) es ≡ false = is_false _ out in
          ap (λ (t : Bool). not (t && eqb r.edges r.m)) (f.sound ∙ never) ∙ sym (ap (λ (t : Bool). not (t && eqb (length es) m)) never)

  small_same : first_refusal (drawing_tests r size) ≡ first_refusal (tests_on (Line.Problem n m ∷ es) size)
  unfolding drawing_tests tests_on headed is_problem points points_in formed following announced announced_in looped
  small_same =
      first_same 27 _ _ (ap not f.headed)
      (λ _. first_same 2 _ _ (ap (ltb 64) f.points)
      (λ _. first_same 27 _ _ form_same
      (λ out.
      let both = and_out r.sound (eqb r.edges r.m) (not_not (r.sound && eqb r.edges r.m) (not_T (not (r.sound && eqb r.edges r.m)) out)) in
      first_same 4 _ _ (f.looped (subst (λ (b : Bool). T b) f.sound both.0)) (λ _. first_same 10 _ _ (ap (ltb size) f.points) (λ _. refl)))))

large_same : (n m size : ℕ) (es : List Line) → 64 < n → first_refusal (drawing_tests (heading (capped n) (capped m)) size) ≡ first_refusal (tests_on (Line.Problem n m ∷ es) size)
unfolding drawing_tests tests_on headed is_problem points points_in
large_same n m size es h =
    let here : ltb 64 (capped n) ≡ true = lt-ltb 64 (capped n) (capped_above n h) in
    first_same 27 _ _ refl
    (λ _. first_same 2 _ _ (here ∙ sym (lt-ltb 64 n h)) (λ out. absurd (out (subst (λ (b : Bool). T b) (sym here) tt))))

pub tests_same : {ls : List Line} {r : Drawing} (size : ℕ) → Gathers ls r → r.edges < most → first_refusal (drawing_tests r size) ≡ first_refusal (tests_on ls size)
unfolding drawing_tests tests_on
tests_same size (headless e f) few =
    first_same 27 _ _ (ap not (f ∙ sym e)) (λ out. absurd (out (subst (λ (b : Bool). T (not b)) (sym f) tt)))
tests_same {ls} {r} size (large n m es is h e) few =
    ap (λ (x : Drawing). first_refusal (drawing_tests x size)) e ∙ large_same n m size es h ∙ ap (λ (x : List Line). first_refusal (tests_on x size)) (sym is)
tests_same {ls} {r} size (small n m es is l f) few = small_same n m size es l few f ∙ ap (λ (x : List Line). first_refusal (tests_on x size)) (sym is)

-- ---- the rows

pub record Read (ls : List Line) (r : Drawing) : Type 0 where
  pub points_read : r.n ≡ points ls
  pub few : r.n ≤ 64
  pub rows_read : take r.n r.rows ≡ drawn_rows ls

module _ (size n m : ℕ) (es : List Line) (tests : Accepts (tests_on (Line.Problem n m ∷ es) size)) where
  large_refused : 64 < n → ⊥
  unfolding tests_on points points_in
  large_refused h = tests.1.0 (lt→ltb 64 n h)

  small_read : {r : Drawing} → n ≤ 64 → Followed (heading n (capped m)) es r → Read (Line.Problem n m ∷ es) r
  unfolding tests_on formed following points points_in drawn_rows
  small_read {r} l f =
      let all = every (is_edge n) es in
      let counted = eqb (length es) (announced (Line.Problem n m ∷ es)) in
      let form : T (all && counted) = not_not (all && counted) (not_T (not (all && counted)) tests.1.1.0) in
      record {
        points_read = f.points;
        few = omega (arith, f.points);
        rows_read = ap₂ (λ (k : ℕ) (rows : List ℕ). take k rows) f.points (f.rows (and_out all counted form).0);
      }

pub rows_same : {ls : List Line} {r : Drawing} (size : ℕ) → Gathers ls r → none ≡ first_refusal (tests_on ls size) → Read ls r
unfolding tests_on
rows_same {ls} {r} size g accepted = go g (none_accepts (tests_on ls size) (sym accepted))
  where
    go : Gathers ls r → Accepts (tests_on ls size) → Read ls r
    go (headless e f) tests = absurd (tests.0 (subst (λ (b : Bool). T (not b)) (sym e) tt))
    go (large n m es is h e) tests = absurd (large_refused size n m es (subst (λ (x : List Line). Accepts (tests_on x size)) is tests) h)
    go (small n m es is l f) tests = subst (λ (x : List Line). Read x r) (sym is) (small_read size n m es (subst (λ (x : List Line). Accepts (tests_on x size)) is tests) l f)
