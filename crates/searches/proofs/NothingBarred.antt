-- With nothing barred every answer is what it was: what is proved of the calls' answers without a barred set is what they answer with the empty one.
--   first_behind            tests behind others matter only where those let everything through
--   none_outside, none_named, all_kept   the empty set bars nobody
--   open_none, judge_tests_none, judge_none, carry_on_none, output_none   [02: K8, an empty set]
-- Assumes nothing.
use mathlib.Core.Path.{◌≡◌, sym, ap, ap₂, ◌∙◌, subst}
use mathlib.Core.Logic.{◌⊎◌, inl, inr}
use mathlib.Core.Bool.{Bool, false, not, ◌||◌}
use mathlib.Core.List.{List, [], ◌∷◌, ◌++◌}
use mathlib.Core.Option.{some}
use Prim.Native.Nat.{ℕ, ◌<◌}
use lib.Dec.{T, ltb, eqb, not_T}
use lib.ListN.{length, drop}
use Rattle.bitset.specs.Word.{member}
use Rattle.bitset.proofs.Tests.{is_false, cond_else}
use Rattle.bitset.proofs.Word.{member_zero}
use Rattle.searches.specs.Kind.{search_of}
use Rattle.searches.specs.Ordering.{arcs}
use Rattle.searches.specs.Violation.{Verdict}
use Rattle.searches.specs.Answer.{vertex_outside, repeated, is_pass, open_tests, judge_tests, list_tests, carry_on_tests, first_refusal, Accepts, Refuses}
use Rattle.searches.specs.Answer.{judge_answer, open_answer, carry_on_answer, carry_on_output}
use Rattle.searches.specs.Answer.{unbarred, barred_outside, barred_named, open_tests_barring, judge_tests_barring, list_tests_barring, carry_on_tests_barring}
use Rattle.searches.specs.Answer.{open_barring, judge_barring, carry_on_barring, output_barring}
use Rattle.searches.specs.declared.Mark.{Mark}
use Rattle.searches.proofs.Refusals.{accepts_none, none_accepts, refuses_first, first_refuses, accepts_or_refuses}
use Rattle.searches.proofs.Answers as answers
use Rattle.searches.proofs.NoneBarred.{count_whole, judge_all, carry_on_all}
use Rattle.searches.proofs.Barring as barring

first_behind : (a b c : List (ℕ × Bool)) → (Accepts a → first_refusal b ≡ first_refusal c) → first_refusal (a ++ b) ≡ first_refusal (a ++ c)
unfolding first_refusal
first_behind [] b c e = e tt
first_behind (test ∷ a) b c e = cond_else test.1 (some test.0) (λ out. first_behind a b c (λ x. e (out, x)))

-- ---- the empty set bars nobody

nobody : (v : ℕ) → T (member 0 v) → ⊥
nobody v t = subst (λ (b : Bool). T b) (member_zero v) t

none_outside : (n : ℕ) → barred_outside n 0 ≡ false
none_outside n = is_false (barred_outside n 0) (λ t. let x = barring.barred_outside_out 0 n t in nobody x.0 x.3)

none_named : (w : List ℕ) (k : ℕ) → barred_named 0 w k ≡ false
none_named w k = is_false (barred_named 0 w k) (λ t. nobody _ (barring.barred_named_out 0 w k t).2)

pub all_kept : (n v : ℕ) → v < n → T (unbarred 0 v)
unfolding unbarred
all_kept n v l = not_T (member 0 v) (nobody v)

module _ (kind : ℕ) (mark : Mark) (rows : List ℕ) where
  -- ---- open

  pub open_none : open_barring kind mark rows 0 ≡ open_answer kind mark rows
  unfolding open_barring open_answer open_tests_barring open_tests first_refusal
  open_none = ap (λ (b : Bool). first_refusal (open_tests kind mark rows ++ (23, b) ∷ [])) (none_outside (length rows))

  -- ---- judge

  module _ (w : List ℕ) where
    pub judge_tests_none : first_refusal (judge_tests_barring kind mark rows 0 w) ≡ first_refusal (judge_tests kind mark rows w)
    unfolding judge_tests_barring judge_tests open_tests_barring open_tests first_refusal
    judge_tests_none =
        let long = ltb (length rows) (length w) in
        let outside = vertex_outside (length rows) w (length w) in
        let twice = repeated w (length w) in
        ap₂ (λ (a b : Bool). first_refusal (open_tests kind mark rows ++ (23, a) ∷ (6, long) ∷ (8, outside) ∷ (9, twice) ∷ (24, b) ∷ []))
        (none_outside (length rows)) (none_named w (length w))

    pub judge_none : judge_barring kind mark rows 0 w ≡ judge_answer kind mark rows w
    judge_none = go (accepts_or_refuses (judge_tests kind mark rows w))
      where
        go : Accepts (judge_tests kind mark rows w) ⊎ ((r : ℕ) × Refuses r (judge_tests kind mark rows w)) → judge_barring kind mark rows 0 w ≡ judge_answer kind mark rows w
        go (inl a) =
            barring.judge_accepted kind mark rows 0 w (none_accepts (judge_tests_barring kind mark rows 0 w) (judge_tests_none ∙ accepts_none (judge_tests kind mark rows w) a))
            ∙ judge_all (search_of kind) (arcs rows) (length rows) (unbarred 0) (all_kept (length rows)) w (length w) (answers.accepted_ordering kind mark rows w a).1
            ∙ sym (answers.judge_accepted kind mark rows w a)
        go (inr x) =
            barring.judge_refused kind mark rows 0 w x.0
            (first_refuses (judge_tests_barring kind mark rows 0 w) x.0 (judge_tests_none ∙ refuses_first (judge_tests kind mark rows w) x.0 x.1))
            ∙ sym (answers.judge_refused kind mark rows w x.0 x.1)

  -- ---- carry-on

  module _ (t out : List ℕ) (k : ℕ) where
    abbrev n : ℕ
    n = length rows

    -- the tests on the lists, whatever is tested after them
    lists_none : (b : Bool) → first_refusal (list_tests_barring kind mark rows 0 t out k ++ (12, b) ∷ []) ≡ first_refusal (list_tests kind mark rows t out k ++ (12, b) ∷ [])
    unfolding list_tests_barring list_tests open_tests_barring open_tests first_refusal
    lists_none last =
        let outside = vertex_outside n out k || vertex_outside n t n in
        let twice = repeated out k || repeated t n in
        ap₂ (λ (a b : Bool). first_refusal (open_tests kind mark rows ++ (23, a) ∷ (6, ltb n k) ∷ (10, ltb (length out) n) ∷ (7, not (eqb (length t) n)) ∷ (8, outside) ∷ (9, twice) ∷ (24, b) ∷ (12, last) ∷ []))
        (none_outside n) (none_named out k)

    pub carry_on_none : carry_on_barring kind mark rows 0 t out k ≡ carry_on_answer kind mark rows t out k
    unfolding carry_on_barring carry_on_answer carry_on_tests_barring carry_on_tests
    carry_on_none =
        lists_none _
        ∙ first_behind (list_tests kind mark rows t out k) _ _ (λ a.
        ap (λ (v : Verdict). first_refusal ((12, not (is_pass v)) ∷ []))
        (judge_all (search_of kind) (arcs rows) n (unbarred 0) (all_kept n) out k (answers.accepted_lists kind mark rows t out k a).start))

    pub output_none : output_barring kind mark rows 0 t out k ≡ carry_on_output kind mark rows t out k
    unfolding carry_on_barring carry_on_answer
    output_none = go (accepts_or_refuses (carry_on_tests kind mark rows t out k))
      where
        go : Accepts (carry_on_tests kind mark rows t out k) ⊎ ((r : ℕ) × Refuses r (carry_on_tests kind mark rows t out k))
            → output_barring kind mark rows 0 t out k ≡ carry_on_output kind mark rows t out k
        go (inl a) =
            let x = answers.accepted_start kind mark rows t out k a in
            barring.carry_on_done kind mark rows 0 t out k (none_accepts (carry_on_tests_barring kind mark rows 0 t out k) (carry_on_none ∙ accepts_none (carry_on_tests kind mark rows t out k) a))
            ∙ ap₂ (λ (r : List ℕ) (m : ℕ). r ++ drop m out)
            (carry_on_all (search_of kind) (arcs rows) n (unbarred 0) (all_kept n) t x.tie_break out k x.start)
            (count_whole n (unbarred 0) (all_kept n))
            ∙ sym (answers.carry_on_done kind mark rows t out k a)
        go (inr x) =
            barring.carry_on-kept kind mark rows 0 t out k x.0
            (first_refuses (carry_on_tests_barring kind mark rows 0 t out k) x.0 (carry_on_none ∙ refuses_first (carry_on_tests kind mark rows t out k) x.0 x.1))
            ∙ sym (answers.carry_on-kept kind mark rows t out k x.0 x.1)
