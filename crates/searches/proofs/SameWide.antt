-- The wide form and the form with rows answer the same where both take the graph: rows that are words, at most 64 of them, and a table that gives the same
-- graph. With one word a row the wide form is the form with rows, however many there are.
--   same_size, same_arcs            as many vertices, the same arcs
--   same_tests, same_judge, same_carry_on, same_output   the same refusals, answers and output lists
--   same_judge_barring, same_carry_on_barring, same_output_barring   as the calls on rows promise it, with nothing barred
--   widened_same_graph              rows widened are such a table
--   one_word_tests, one_word_judge, one_word_carry_on, one_word_output   the wide form with one word a row
-- Assumes nothing.
use mathlib.Core.Path.{◌≡◌, sym, ap, ◌∙◌, subst}
use mathlib.Core.Logic.{◌⊎◌, inl, inr}
use mathlib.Core.Bool.{Bool, false, not, ◌&&◌, ◌||◌}
use mathlib.Core.List.{List, [], ◌∷◌}
use Prim.Native.Nat.{ℕ, suc, ◌+◌, ◌*◌, ◌/◌, ◌%◌, ◌≤◌, ◌<◌}
use native.Mathlib.Nat.{mul-le-mul_left, mul-mod_right}
use native.Mathlib.Omega.{arith}
use lib.Dec.{T, ltb, eqb, ltb→lt, lt→ltb, eqb_refl, T_not}
use lib.ListN.{length, get_or, get_or-eq_default}
use Rattle.bitset.specs.Below.{any_below}
use Rattle.bitset.specs.Word.{member}
use Rattle.bitset.proofs.Tests.{and_out, or_inr, or_out, same_test, is_false, below_or}
use Rattle.bitset.proofs.Word.{member_zero, member_below}
use Rattle.searches.specs.Kind.{search_of}
use Rattle.searches.specs.Ordering.{arcs}
use Rattle.searches.specs.Table.{arcs_wide, size_wide, widened}
use Rattle.searches.specs.Answer.{bit_outside, self_loop, one_way, is_two_way, open_tests, judge_tests, list_tests, carry_on_tests}
use Rattle.searches.specs.Answer.{judge_answer, carry_on_answer, carry_on_output, judge_barring, carry_on_barring, output_barring}
use Rattle.searches.specs.Form.{judge_tests_of, list_tests_of, carry_on_tests_of, judge_of, carry_on_of, output_of}
use Rattle.searches.specs.Wide.{bit_outside_wide, self_loop_wide, one_way_wide, open_tests_wide, judge_wide, carry_on_wide, output_wide, SameGraph}
use Rattle.searches.specs.declared.Mark.{Mark}
use Rattle.searches.proofs.Refusals.{bit_outside_in, bit_outside_out}
use Rattle.searches.proofs.Tables as tables
use Rattle.searches.proofs.Tables.{Words}
use Rattle.searches.proofs.WideAnswers.{bit_outside_wide_in, bit_outside_wide_out}
use Rattle.searches.proofs.NothingBarred.{judge_none, carry_on_none, output_none}

-- ---- the graph

-- a vertex at or above n has no arcs, in either form
beyond_rows : (rows : List ℕ) (u v : ℕ) → length rows ≤ u → arcs rows u v ≡ false
unfolding arcs
beyond_rows rows u v l = ap (λ (x : ℕ). member x v) (get_or-eq_default rows 0 l) ∙ member_zero v

beyond_table : (m : ℕ) (table : List ℕ) (u v : ℕ) → length table ≤ m * u → arcs_wide m table u v ≡ false
unfolding arcs_wide
beyond_table m table u v l =
    let place = m * u + v / 64 in
    let word : get_or table place 0 ≡ 0 = get_or-eq_default table 0 (omega arith) in
    is_false (ltb v (64 * m) && member (get_or table place 0) (v % 64)) (λ t.
    subst (λ (b : Bool). T b) (ap (λ (x : ℕ). member x (v % 64)) word ∙ member_zero (v % 64))
    (and_out (ltb v (64 * m)) (member (get_or table place 0) (v % 64)) t).1)

module _ (m : ℕ) (rows table : List ℕ) (same : SameGraph m rows table) where
  pub same_size : 0 < m → size_wide m table ≡ length rows
  same_size some = tables.size_whole m table (length rows) some same.as_many

  pub same_arcs : arcs_wide m table ≡ arcs rows
  same_arcs = tables.same_arcs (λ u v. go u v (below_or u (length rows)))
    where
      go : (u v : ℕ) → (u < length rows) ⊎ (length rows ≤ u) → arcs_wide m table u v ≡ arcs rows u v
      go u v (inl l) = same.same_bits u v l
      go u v (inr l) =
          let past : m * length rows ≤ m * u = mul-le-mul_left m l in
          beyond_table m table u v (omega (arith, same.as_many, past)) ∙ sym (beyond_rows rows u v l)

-- ---- the answers, where so many rows as the form with rows refuses are too many for the table, too

module _ (m : ℕ) (some : 0 < m) (rows table : List ℕ) (words : Words rows) (same : SameGraph m rows table)
    (fits : 64 < length rows → 64 * m < length rows) (kind : ℕ) (mark : Mark) where
  size : size_wide m table ≡ length rows
  size = same_size m rows table same some

  arc : arcs_wide m table ≡ arcs rows
  arc = same_arcs m rows table same

  -- test 2: a number of words that makes no whole rows, or too many rows
  abbrev odd : Bool
  odd = not (eqb (length table % m) 0)

  abbrev large : Bool
  large = ltb (64 * m) (size_wide m table)

  whole : length table % m ≡ 0
  whole = ap (λ (x : ℕ). x % m) same.as_many ∙ mul-mod_right m (length rows)

  too_many : (odd || large) ≡ ltb 64 (length rows)
  too_many = same_test (odd || large) (ltb 64 (length rows)) (λ t. out (or_out odd large t)) back
    where
      out : T odd ⊎ T large → T (ltb 64 (length rows))
      out (inl t) = absurd (T_not (eqb (length table % m) 0) t (subst (λ (x : ℕ). T (eqb x 0)) (sym whole) (eqb_refl 0)))
      out (inr t) = lt→ltb 64 (length rows) (omega (arith, some, size, ltb→lt (64 * m) (size_wide m table) t))

      back : T (ltb 64 (length rows)) → T (odd || large)
      back t =
          let l : 64 * m < length rows = fits (ltb→lt 64 (length rows) t) in
          or_inr odd large (lt→ltb (64 * m) (size_wide m table) (omega (arith, size, l)))

  outside : bit_outside_wide m table ≡ bit_outside rows
  unfolding arcs
  outside = same_test (bit_outside_wide m table) (bit_outside rows) to_rows to_table
    where
      to_rows : T (bit_outside_wide m table) → T (bit_outside rows)
      to_rows t =
          let x = bit_outside_wide_out m table t in
          let set : T (arcs rows x.0 x.1) = subst (λ (f : ℕ → ℕ → Bool). T (f x.0 x.1)) arc x.5 in
          bit_outside_in rows x.0 x.1 (omega (arith, size, x.2)) (member_below 64 (words x.0) x.1 set) (omega (arith, size, x.4)) set

      to_table : T (bit_outside rows) → T (bit_outside_wide m table)
      to_table t =
          let x = bit_outside_out rows t in
          bit_outside_wide_in m table x.0 x.1 (omega (arith, size, x.2)) (omega (arith, some, x.3)) (omega (arith, size, x.4))
          (subst (λ (f : ℕ → ℕ → Bool). T (f x.0 x.1)) (sym arc) x.5)

  loops : self_loop_wide m table ≡ self_loop rows
  unfolding self_loop_wide self_loop
  loops = λ i. any_below (size i) (λ u. arc i u u)

  one_way_lem : one_way_wide m table ≡ one_way rows
  unfolding one_way_wide one_way
  one_way_lem = λ i. any_below (size i) (λ u. any_below (size i) (λ v. arc i u v && not (arc i v u)))

  tests_alike : open_tests_wide m kind mark table ≡ open_tests kind mark rows
  unfolding open_tests_wide open_tests
  tests_alike = λ i. (1, ltb 6 kind) ∷ (2, too_many i) ∷ (3, outside i) ∷ (4, loops i) ∷ (5, is_two_way mark && one_way_lem i) ∷ []

  judge_alike : (w : List ℕ) → judge_wide m kind mark table w ≡ judge_answer kind mark rows w
  unfolding judge_wide judge_answer judge_tests judge_of judge_tests_of
  judge_alike w = λ i. judge_of (tests_alike i) (search_of kind) (arc i) (size i) w

  carry_on_alike : (t out : List ℕ) (k : ℕ) → carry_on_wide m kind mark table t out k ≡ carry_on_answer kind mark rows t out k
  unfolding carry_on_wide carry_on_answer carry_on_tests list_tests carry_on_of carry_on_tests_of list_tests_of
  carry_on_alike t out k = λ i. carry_on_of (tests_alike i) (search_of kind) (arc i) (size i) t out k

  output_alike : (t out : List ℕ) (k : ℕ) → output_wide m kind mark table t out k ≡ carry_on_output kind mark rows t out k
  unfolding output_wide carry_on_output carry_on_tests list_tests output_of carry_on_tests_of list_tests_of
  output_alike t out k = λ i. output_of (tests_alike i) (search_of kind) (arc i) (size i) t out k

-- ---- 02: K12, at most 64 vertices: a graph that both forms take gets the same answers in both

module _ (m : ℕ) (some : 0 < m) (rows table : List ℕ) (words : Words rows) (small : length rows ≤ 64) (same : SameGraph m rows table) (kind : ℕ) (mark : Mark) where
  fits : 64 < length rows → 64 * m < length rows
  fits l = absurd (omega arith)

  pub same_tests : open_tests_wide m kind mark table ≡ open_tests kind mark rows
  same_tests = tests_alike m some rows table words same fits kind mark

  pub same_judge : (w : List ℕ) → judge_wide m kind mark table w ≡ judge_answer kind mark rows w
  same_judge = judge_alike m some rows table words same fits kind mark

  pub same_carry_on : (t out : List ℕ) (k : ℕ) → carry_on_wide m kind mark table t out k ≡ carry_on_answer kind mark rows t out k
  same_carry_on = carry_on_alike m some rows table words same fits kind mark

  pub same_output : (t out : List ℕ) (k : ℕ) → output_wide m kind mark table t out k ≡ carry_on_output kind mark rows t out k
  same_output = output_alike m some rows table words same fits kind mark

  -- which is what the calls on rows promise with nothing barred
  pub same_judge_barring : (w : List ℕ) → judge_wide m kind mark table w ≡ judge_barring kind mark rows 0 w
  same_judge_barring w = same_judge w ∙ sym (judge_none kind mark rows w)

  pub same_carry_on_barring : (t out : List ℕ) (k : ℕ) → carry_on_wide m kind mark table t out k ≡ carry_on_barring kind mark rows 0 t out k
  same_carry_on_barring t out k = same_carry_on t out k ∙ sym (carry_on_none kind mark rows t out k)

  pub same_output_barring : (t out : List ℕ) (k : ℕ) → output_wide m kind mark table t out k ≡ output_barring kind mark rows 0 t out k
  same_output_barring t out k = same_output t out k ∙ sym (output_none kind mark rows t out k)

-- rows with any number of empty words behind each are such a table
pub widened_same_graph : (m : ℕ) (rows : List ℕ) → Words rows → SameGraph (suc m) rows (widened m rows)
widened_same_graph m rows words = record { as_many = tables.widened_length m rows; same_bits = λ u v l. tables.widened_arcs m rows words u v }

-- ---- with one word a row: nothing is lost by the parameter

module _ (rows : List ℕ) (words : Words rows) (kind : ℕ) (mark : Mark) where
  itself : SameGraph 1 rows rows
  itself = record { as_many = omega arith; same_bits = λ u v l. tables.one_word rows words u v }

  fits_one : 64 < length rows → 64 * 1 < length rows
  fits_one l = omega arith

  pub one_word_tests : open_tests_wide 1 kind mark rows ≡ open_tests kind mark rows
  one_word_tests = tests_alike 1 (omega arith) rows rows words itself fits_one kind mark

  pub one_word_judge : (w : List ℕ) → judge_wide 1 kind mark rows w ≡ judge_answer kind mark rows w
  one_word_judge = judge_alike 1 (omega arith) rows rows words itself fits_one kind mark

  pub one_word_carry_on : (t out : List ℕ) (k : ℕ) → carry_on_wide 1 kind mark rows t out k ≡ carry_on_answer kind mark rows t out k
  one_word_carry_on = carry_on_alike 1 (omega arith) rows rows words itself fits_one kind mark

  pub one_word_output : (t out : List ℕ) (k : ℕ) → output_wide 1 kind mark rows t out k ≡ carry_on_output kind mark rows t out k
  one_word_output = output_alike 1 (omega arith) rows rows words itself fits_one kind mark
