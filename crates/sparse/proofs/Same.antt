-- Judge on adjacency lists and judge on rows: their tests and their answers.
--   valid_formed, valid_layout      lists that are not refused are a layout
--   asked_refused, asked_judgeable, asked_verdict   from the checks' answer to judge's
--   no_bit_outside                  the rows of a layout have no bit outside
--   open_tests_same, judge_tests_same   on a layout, the first test that holds is the one that holds on its rows
--   listed_refuses, refuses_listed   judge's answer is refusal r exactly when r's test is the first that holds
--   without_same                    the verdict on the rows is that on the relation
--   large_refused                   with more than 64 vertices both are refused
--   listed_judged                   on a layout, judge's answer is that on its rows
--   rows_of_graph                   rows of the same graph as a layout are its rows
-- Assumes nothing.
use Prim.Native.Nat.{ℕ, ◌≤◌, ◌<◌}
use mathlib.Core.Path.{◌≡◌, refl, sym, ap, ap₂, ◌∙◌, subst}
use mathlib.Core.Bool.{Bool, true, false, cond, ◌&&◌}
use mathlib.Core.List.{List, [], ◌∷◌, ◌++◌}
use mathlib.Core.Logic.{◌⊎◌, inl, inr}
use mathlib.Core.Option.{Option, none, some}
use native.Mathlib.Omega.{arith}
use lib.Dec.{T, ltb}
use lib.ListN.{length}
use lib.Seq.{ext_get_or}
use borrow.Author.Tests.{lt-ltb, le-ltb}
use Rattle.bitset.specs.Matrix.{AreWords}
use Rattle.bitset.proofs.Tests.{is_false, same_test, below_or}
use Rattle.bitset.proofs.Word.{equal_members}
use Rattle.searches.specs.Kind.{Search, search_of}
use Rattle.searches.specs.Ordering.{arcs}
use Rattle.searches.specs.Violation.{Verdict, refused}
use Rattle.searches.specs.Without.{judge_without}
use Rattle.searches.specs.Answer.{bit_outside, self_loop, one_way, is_two_way, vertex_outside, repeated, open_tests, first_refusal, Accepts, Refuses}
use Rattle.searches.specs.Answer.{unbarred, barred_outside, barred_named, open_tests_barring, judge_tests_barring, judge_barring}
use Rattle.searches.specs.declared.Mark.{Mark}
use Rattle.searches.proofs.Refusals.{refuses_first, accepts_none, accepts_or_refuses, none_accepts, bit_outside_in, bit_outside_out}
use Rattle.searches.proofs.Answers.{accepts_both}
use Rattle.searches.proofs.Barring.{refused_judge}
use Rattle.checks.proofs.Tried.{tried_first}
use Rattle.adjacency.specs.Layout.{size_of, arcs_listed, form_tests, self_loop_in, one_way_in, listed_tests, rows_listed, columns_of, IsLayout}
use Rattle.adjacency.proofs.Rows.{rows_of_words, columns_transposed}
use Rattle.adjacency.proofs.Layouts.{size_suc, arc_to, arcs_listed_lem, arcs_same, rows_length}
use Rattle.conversion.proofs.Accepted.{accepted_formed, accepted_layout}
use Rattle.engine.specs.Lists.{Judgeable}
use Rattle.engine.proofs.Calls.{judge_asked_accepted}
use Rattle.sparse.specs.Judge.{open_tests_listed, judge_tests_listed, judge_listed, SameGraph}

-- ---- what is known of lists that are not refused

module _ (kind : ℕ) (mark : Mark) (offsets neighbours : List ℕ) (barred : ℕ) where
  valid_lists : Accepts (open_tests_listed kind mark offsets neighbours barred) → Accepts (listed_tests mark offsets neighbours)
  unfolding open_tests_listed
  valid_lists a = (accepts_both ((1, ltb 6 kind) ∷ listed_tests mark offsets neighbours) _ a).0.1

  pub valid_formed : Accepts (open_tests_listed kind mark offsets neighbours barred) → Accepts (form_tests offsets neighbours)
  valid_formed a = accepted_formed mark offsets neighbours (valid_lists a)

  pub valid_layout : Accepts (open_tests_listed kind mark offsets neighbours barred) → IsLayout offsets neighbours
  valid_layout a = accepted_layout mark offsets neighbours (valid_lists a)

pub no_bit_outside : {offsets neighbours : List ℕ} → IsLayout offsets neighbours → bit_outside (rows_listed offsets neighbours) ≡ false
no_bit_outside {offsets} {neighbours} x =
    is_false (bit_outside (rows_listed offsets neighbours)) (λ t.
    let y = bit_outside_out (rows_listed offsets neighbours) t in
    let inside = arc_to x y.0 y.1 (subst (λ (b : Bool). T b) (arcs_listed_lem x y.0 y.1) y.5) in
    omega (arith, inside, y.4, rows_length offsets neighbours))

pub without_same : {offsets neighbours : List ℕ} → IsLayout offsets neighbours → (s : Search) (kept : ℕ → Bool) (w : List ℕ) (k : ℕ)
    → judge_without s (arcs (rows_listed offsets neighbours)) (length (rows_listed offsets neighbours)) kept w k ≡ judge_without s (arcs_listed offsets neighbours) (size_of offsets) kept w k
without_same {offsets} {neighbours} x s kept w k =
    ap₂ (λ (n : ℕ) (arc : ℕ → ℕ → Bool). judge_without s arc n kept w k) (rows_length offsets neighbours) (arcs_same x)

-- ---- the tests, one after the other

module _ (kind : ℕ) (mark : Mark) (barred : ℕ) (w : List ℕ) where
  -- those behind the tests on the form, on any relation
  abbrev open_later : ℕ → (ℕ → ℕ → Bool) → List (ℕ × Bool)
  open_later n arc = (4, self_loop_in n arc) ∷ (5, is_two_way mark && one_way_in n arc) ∷ (23, barred_outside n barred) ∷ []

  abbrev judge_later : ℕ → (ℕ → ℕ → Bool) → List (ℕ × Bool)
  judge_later n arc =
      (4, self_loop_in n arc)
      ∷ (5, is_two_way mark && one_way_in n arc)
      ∷ (23, barred_outside n barred)
      ∷ (6, ltb n (length w))
      ∷ (8, vertex_outside n w (length w))
      ∷ (9, repeated w (length w))
      ∷ (24, barred_named barred w (length w))
      ∷ []

  -- 1 and 2 before them
  abbrev first_of : Bool → List (ℕ × Bool) → Option ℕ
  first_of many later = cond (ltb 6 kind) (some 1) (cond many (some 2) (first_refusal later))

  -- what judge answers, on any relation, once the tests were tried
  abbrev answer : ℕ → (ℕ → ℕ → Bool) → Option ℕ → Verdict
  answer n arc asked =
      elim asked [
        | none ↦ judge_without (search_of kind) arc n (unbarred barred) w (length w)
        | some r ↦ refused r
      ]

  module _ (offsets neighbours : List ℕ) where
    open_listed : first_refusal (open_tests_listed kind mark offsets neighbours barred)
        ≡ first_of (ltb 65 (length offsets)) (form_tests offsets neighbours ++ open_later (size_of offsets) (arcs_listed offsets neighbours))
    unfolding open_tests_listed listed_tests form_tests first_refusal
    open_listed = refl

    judge_listed_lem : first_refusal (judge_tests_listed kind mark offsets neighbours barred w)
        ≡ first_of (ltb 65 (length offsets)) (form_tests offsets neighbours ++ judge_later (size_of offsets) (arcs_listed offsets neighbours))
    unfolding judge_tests_listed open_tests_listed listed_tests form_tests first_refusal
    judge_listed_lem = refl

  module _ (rows : List ℕ) where
    open_rows : first_refusal (open_tests_barring kind mark rows barred) ≡ first_of (ltb 64 (length rows)) ((3, bit_outside rows) ∷ open_later (length rows) (arcs rows))
    unfolding open_tests_barring open_tests self_loop one_way self_loop_in one_way_in first_refusal
    open_rows = refl

    judge_rows : first_refusal (judge_tests_barring kind mark rows barred w) ≡ first_of (ltb 64 (length rows)) ((3, bit_outside rows) ∷ judge_later (length rows) (arcs rows))
    unfolding judge_tests_barring open_tests_barring open_tests self_loop one_way self_loop_in one_way_in first_refusal
    judge_rows = refl

  module _ {offsets neighbours : List ℕ} (x : IsLayout offsets neighbours) (formed : none ≡ first_refusal (form_tests offsets neighbours)) where
    abbrev rows : List ℕ
    rows = rows_listed offsets neighbours

    -- on a layout neither 2 nor 26 holds, on its rows neither 2 nor 3, and the later tests are the same
    first_same : (later : ℕ → (ℕ → ℕ → Bool) → List (ℕ × Bool))
        → first_of (ltb 65 (length offsets)) (form_tests offsets neighbours ++ later (size_of offsets) (arcs_listed offsets neighbours))
        ≡ first_of (ltb 64 (length rows)) ((3, bit_outside rows) ∷ later (length rows) (arcs rows))
    unfolding first_refusal
    first_same later =
        ap (λ (o : Option ℕ). cond (ltb 6 kind) (some 1) (cond (ltb 65 (length offsets)) (some 2) o))
        (sym (tried_first (form_tests offsets neighbours) (later (size_of offsets) (arcs_listed offsets neighbours)) formed).same
        ∙ ap₂ (λ (n : ℕ) (arc : ℕ → ℕ → Bool). first_refusal (later n arc)) (sym (rows_length offsets neighbours)) (sym (arcs_same x)))
        ∙ ap₂ (λ (many outside : Bool). cond (ltb 6 kind) (some 1) (cond many (some 2) (cond outside (some 3) (first_refusal (later (length rows) (arcs rows)))))) few_rows (sym (no_bit_outside x))
      where
        few_rows : ltb 65 (length offsets) ≡ ltb 64 (length rows)
        few_rows = le-ltb 65 (length offsets) x.few ∙ sym (le-ltb 64 (length rows) (omega (arith, rows_length offsets neighbours, size_suc x.cover, x.few)))

    pub open_tests_same : first_refusal (open_tests_listed kind mark offsets neighbours barred) ≡ first_refusal (open_tests_barring kind mark rows barred)
    open_tests_same = open_listed offsets neighbours ∙ first_same open_later ∙ sym (open_rows rows)

    pub judge_tests_same : first_refusal (judge_tests_listed kind mark offsets neighbours barred w) ≡ first_refusal (judge_tests_barring kind mark rows barred w)
    judge_tests_same = judge_listed_lem offsets neighbours ∙ first_same judge_later ∙ sym (judge_rows rows)

    pub listed_judged : judge_listed kind mark offsets neighbours barred w ≡ judge_barring kind mark rows barred w
    unfolding judge_listed judge_barring
    listed_judged =
        ap (answer (size_of offsets) (arcs_listed offsets neighbours)) judge_tests_same
        ∙ ap₂ (λ (n : ℕ) (arc : ℕ → ℕ → Bool). answer n arc (first_refusal (judge_tests_barring kind mark rows barred w))) (sym (rows_length offsets neighbours)) (sym (arcs_same x))

  -- ---- from the checks' answer to judge's

  module _ (offsets neighbours : List ℕ) where
    pub asked_refused : {q : ℕ} → some q ≡ first_refusal (judge_tests_listed kind mark offsets neighbours barred w) → refused q ≡ judge_listed kind mark offsets neighbours barred w
    unfolding judge_listed
    asked_refused e = ap (answer (size_of offsets) (arcs_listed offsets neighbours)) e

    pub refuses_listed : (r : ℕ) → Refuses r (judge_tests_listed kind mark offsets neighbours barred w) → judge_listed kind mark offsets neighbours barred w ≡ refused r
    refuses_listed r x = sym (asked_refused (sym (refuses_first (judge_tests_listed kind mark offsets neighbours barred w) r x)))

    module _ (e : none ≡ first_refusal (judge_tests_listed kind mark offsets neighbours barred w)) where
      accepted : Accepts (open_tests_listed kind mark offsets neighbours barred)
      unfolding judge_tests_listed
      accepted = (accepts_both (open_tests_listed kind mark offsets neighbours barred) _ (none_accepts (judge_tests_listed kind mark offsets neighbours barred w) (sym e))).0

      layout : IsLayout offsets neighbours
      layout = valid_layout kind mark offsets neighbours barred accepted

      formed : none ≡ first_refusal (form_tests offsets neighbours)
      formed = sym (accepts_none (form_tests offsets neighbours) (valid_formed kind mark offsets neighbours barred accepted))

      pub asked_judgeable : Judgeable (rows_listed offsets neighbours) (columns_of (rows_listed offsets neighbours)) barred w (length w)
      asked_judgeable =
          (judge_asked_accepted kind mark (rows_listed offsets neighbours) barred w (e ∙ judge_tests_same layout formed)
          (columns_transposed (rows_listed offsets neighbours) (omega (arith, rows_length offsets neighbours, size_suc layout.cover, layout.few)))).0

      pub asked_verdict : judge_without (search_of kind) (arcs_listed offsets neighbours) (size_of offsets) (unbarred barred) w (length w) ≡ judge_listed kind mark offsets neighbours barred w
      unfolding judge_listed
      asked_verdict = ap (answer (size_of offsets) (arcs_listed offsets neighbours)) e

    -- where no test holds, the answer is a verdict on the rows, and that is no refusal
    pub listed_refuses : (r : ℕ) → judge_listed kind mark offsets neighbours barred w ≡ refused r → Refuses r (judge_tests_listed kind mark offsets neighbours barred w)
    listed_refuses r is = go (accepts_or_refuses tests)
      where
        tests : List (ℕ × Bool)
        tests = judge_tests_listed kind mark offsets neighbours barred w

        go : Accepts tests ⊎ ((q : ℕ) × Refuses q tests) → Refuses r tests
        go (inl a) =
            let e : none ≡ first_refusal tests = sym (accepts_none tests a) in
            let on_rows = refused_judge kind mark (rows_listed offsets neighbours) barred w r (sym (listed_judged (layout e) (formed e)) ∙ is) in
            let first = refuses_first (judge_tests_barring kind mark (rows_listed offsets neighbours) barred w) r on_rows in
            let none_there = e ∙ judge_tests_same (layout e) (formed e) in
            let clash : ◌≡◌ {A = ℕ} 0 1 = cc (none_there, first) in
            absurd (omega arith)
        go (inr x) = let same : x.0 ≡ r = cc (refuses_listed x.0 x.1, is) in subst (λ (q : ℕ). Refuses q tests) same x.1

  -- with more than 64 vertices both are refused, with 1 or with 2
  pub large_refused : (rows offsets neighbours : List ℕ) → 64 < length rows → 65 < length offsets
      → judge_listed kind mark offsets neighbours barred w ≡ judge_barring kind mark rows barred w
  unfolding judge_listed judge_barring
  large_refused rows offsets neighbours many-rows many-offsets =
      ap (answer (size_of offsets) (arcs_listed offsets neighbours)) (judge_listed_lem offsets neighbours ∙ first_many (lt-ltb 65 (length offsets) many-offsets) _)
      ∙ either (ltb 6 kind)
      ∙ sym (ap (answer (length rows) (arcs rows)) (judge_rows rows ∙ first_many (lt-ltb 64 (length rows) many-rows) _))
    where
      first_many : {many : Bool} → many ≡ true → (later : List (ℕ × Bool)) → first_of many later ≡ cond (ltb 6 kind) (some 1) (some 2)
      first_many e later = ap (λ (b : Bool). cond (ltb 6 kind) (some 1) (cond b (some 2) (first_refusal later))) e

      either : (known : Bool)
          → answer (size_of offsets) (arcs_listed offsets neighbours) (cond known (some 1) (some 2)) ≡ answer (length rows) (arcs rows) (cond known (some 1) (some 2))
      either true = refl
      either false = refl

-- ---- rows of the same graph

pub rows_of_graph : {rows offsets neighbours : List ℕ} → IsLayout offsets neighbours → SameGraph rows offsets neighbours → AreWords rows → bit_outside rows ≡ false
    → rows_listed offsets neighbours ≡ rows
unfolding arcs size_of rows_listed
rows_of_graph {rows} {offsets} {neighbours} x g words none_outside =
    ext_get_or 0 (rows_listed offsets neighbours) rows as_many (λ u l.
    equal_members 64 (rows_of_words (size_of offsets) (arcs_listed offsets neighbours) u) (words u) (λ v h. arcs_listed_lem x u v ∙ same u v (omega (arith, as_many)) h))
  where
    as_many : length (rows_listed offsets neighbours) ≡ length rows
    as_many = rows_length offsets neighbours ∙ omega (arith, g.as_many)

    same : (u v : ℕ) → u < length rows → v < 64 → arcs_listed offsets neighbours u v ≡ arcs rows u v
    same u v l h = go (below_or v (length rows))
      where
        go : (v < length rows) ⊎ (length rows ≤ v) → arcs_listed offsets neighbours u v ≡ arcs rows u v
        go (inl i) = sym (g.same u v l i)
        go (inr i) =
            same_test (arcs_listed offsets neighbours u v) (arcs rows u v) (λ t. absurd (omega (arith, arc_to x u v t, g.as_many)))
            (λ t. absurd (subst (λ (b : Bool). T b) none_outside (bit_outside_in rows u v l h i t)))
