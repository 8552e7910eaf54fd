-- Words with two numbers behind them: what is written is read, and nothing else is.
--   begins_in, begins_out      a text with these words in front begins with them, and nothing else does
--   pair_first, pair_second    the digits that are read of the words with x and y behind them are those of x and of y
--   PairTests words b          the five tests of a pair hold;   tests_in, tests_out   so it is one, and the other way round
--   pair_in                    words with two numbers behind them are a pair
--   pair_out                   a pair is the words with the two numbers behind them that are read
-- Assumes nothing.
use mathlib.Core.Path.{◌≡◌, refl, sym, ap, ap₂, ◌∙◌, subst}
use mathlib.Core.Bool.{Bool, ◌&&◌}
use mathlib.Core.List.{List, [], ◌∷◌, ◌++◌, append-nil}
use Prim.Native.Nat.{ℕ}
use native.Mathlib.Omega.{arith}
use lib.Dec.{T, eqb, eqb→eq, eqb_refl}
use lib.ListN.{length, drop}
use lib.Seq.{drop-append_seam}
use Rattle.bitset.proofs.Tests.{and_in, and_out}
use Rattle.searches.specs.Ordering.{at}
use Rattle.wording.specs.Decimal.{decimal, is_digit, value}
use Rattle.wording.specs.Reading.{front, behind}
use Rattle.wording.proofs.Spans.{front_is, behind_is}
use Rattle.wording.proofs.Decimals.{decimal_digits}
use Rattle.edge_lines.specs.Writing.{pair_text}
use Rattle.edge_lines.specs.Reading.{begins, is_numeral, first_digits, behind_first, second_digits, behind_second, is_pair}
use Rattle.edge_lines.proofs.Spanned.{front_every, front_behind, front_all, behind_all}
use Rattle.edge_lines.proofs.Numerals.{numeral_decimal, decimal_numeral}

-- ---- words in front

pub begins_in : (words rest : List ℕ) → T (begins words (words ++ rest))
unfolding begins
begins_in [] rest = tt
begins_in (c ∷ words) rest = and_in (eqb c c) (begins words (words ++ rest)) (eqb_refl c) (begins_in words rest)

pub begins_out : (words b : List ℕ) → T (begins words b) → b ≡ words ++ drop (length words) b
unfolding begins
begins_out [] b t = refl
begins_out (c ∷ words) [] t = absurd t
begins_out (c ∷ words) (d ∷ b) t =
    let both = and_out (eqb d c) (begins words b) t in
    ap₂ (λ (x : ℕ) (l : List ℕ). x ∷ l) (eqb→eq d c both.0) (begins_out words b both.1)

-- ---- what a pair is

-- the five tests of a pair
pub record PairTests (words b : List ℕ) : Type 0 where
  pub begun : T (begins words b)
  pub first : T (is_numeral (first_digits words b))
  pub spaced : at (behind_first words b) 0 ≡ 32
  pub second : T (is_numeral (second_digits words b))
  pub ended : behind_second words b ≡ []

empty_out : (b : List ℕ) → length b ≡ 0 → b ≡ []
empty_out [] e = refl
empty_out (c ∷ b) e = absurd (omega arith)

module _ (words b : List ℕ) where
  abbrev begun : Bool
  begun = begins words b

  abbrev first : Bool
  first = is_numeral (first_digits words b)

  abbrev spaced : Bool
  spaced = eqb (at (behind_first words b) 0) 32

  abbrev second : Bool
  second = is_numeral (second_digits words b)

  abbrev ended : Bool
  ended = eqb (length (behind_second words b)) 0

  pub tests_in : PairTests words b → T (is_pair words b)
  unfolding is_pair
  tests_in p =
      let two = and_in begun first p.begun p.first in
      let three = and_in (begun && first) spaced two (subst (λ (c : ℕ). T (eqb c 32)) (sym p.spaced) tt) in
      let four = and_in ((begun && first) && spaced) second three p.second in
      and_in (((begun && first) && spaced) && second) ended four (subst (λ (l : List ℕ). T (eqb (length l) 0)) (sym p.ended) tt)

  pub tests_out : T (is_pair words b) → PairTests words b
  unfolding is_pair
  tests_out t =
      let all_five = and_out (((begun && first) && spaced) && second) ended t in
      let four = and_out ((begun && first) && spaced) second all_five.0 in
      let three = and_out (begun && first) spaced four.0 in
      let two = and_out begun first three.0 in
      record {
        begun = two.0;
        first = two.1;
        spaced = eqb→eq (at (behind_first words b) 0) 32 three.1;
        second = four.1;
        ended = empty_out (behind_second words b) (eqb→eq (length (behind_second words b)) 0 all_five.1);
      }

-- ---- a pair that is written

module _ (words : List ℕ) (x y : ℕ) where
  behind_words : drop (length words) (pair_text words x y) ≡ decimal x ++ 32 ∷ decimal y
  unfolding pair_text
  behind_words = drop-append_seam words (decimal x ++ 32 ∷ decimal y)

  pub pair_first : first_digits words (pair_text words x y) ≡ decimal x
  unfolding first_digits is_digit
  pair_first = ap (front is_digit) behind_words ∙ front_is is_digit 32 (decimal y) (λ t. t) (decimal x) (decimal_digits x)

  pair_gap : behind_first words (pair_text words x y) ≡ 32 ∷ decimal y
  unfolding behind_first is_digit
  pair_gap = ap (behind is_digit) behind_words ∙ behind_is is_digit 32 (decimal y) (λ t. t) (decimal x) (decimal_digits x)

  pub pair_second : second_digits words (pair_text words x y) ≡ decimal y
  unfolding second_digits
  pair_second = ap (λ (l : List ℕ). front is_digit (drop 1 l)) pair_gap ∙ front_all is_digit (decimal y) (decimal_digits y)

  pair_end : behind_second words (pair_text words x y) ≡ []
  unfolding behind_second
  pair_end = ap (λ (l : List ℕ). behind is_digit (drop 1 l)) pair_gap ∙ behind_all is_digit (decimal y) (decimal_digits y)

  pub pair_in : T (is_pair words (pair_text words x y))
  unfolding pair_text
  pair_in = tests_in words (pair_text words x y) (record {
    begun = begins_in words (decimal x ++ 32 ∷ decimal y);
    first = subst (λ (d : List ℕ). T (is_numeral d)) (sym pair_first) (decimal_numeral x);
    spaced = ap (λ (l : List ℕ). at l 0) pair_gap;
    second = subst (λ (d : List ℕ). T (is_numeral d)) (sym pair_second) (decimal_numeral y);
    ended = pair_end;
  })

-- ---- a pair that is read

-- past the end of a list 0 is read, so where 32 is read there is a byte
head_out : (b : List ℕ) → at b 0 ≡ 32 → b ≡ 32 ∷ drop 1 b
head_out [] e = absurd (omega arith)
head_out (c ∷ b) e = ap (λ (x : ℕ). x ∷ b) e

module _ (words b : List ℕ) where
  first_numeral : PairTests words b → decimal (value (first_digits words b)) ≡ first_digits words b
  unfolding first_digits
  first_numeral p = numeral_decimal (first_digits words b) (front_every is_digit (drop (length words) b)) p.first

  second_numeral : PairTests words b → decimal (value (second_digits words b)) ≡ second_digits words b
  unfolding second_digits
  second_numeral p = numeral_decimal (second_digits words b) (front_every is_digit (drop 1 (behind_first words b))) p.second

  pub pair_out : T (is_pair words b) → b ≡ pair_text words (value (first_digits words b)) (value (second_digits words b))
  unfolding pair_text first_digits behind_first second_digits behind_second
  pair_out t =
      let p = tests_out words b t in
      let behind_gap : drop 1 (behind_first words b) ≡ decimal (value (second_digits words b)) =
      sym (front_behind is_digit (drop 1 (behind_first words b))) ∙ ap (λ (l : List ℕ). second_digits words b ++ l) p.ended
      ∙ append-nil (second_digits words b) ∙ sym (second_numeral p)
      in
      begins_out words b p.begun
      ∙ ap (λ (l : List ℕ). words ++ l) (sym (front_behind is_digit (drop (length words) b))
      ∙ ap₂ (λ (d l : List ℕ). d ++ l) (sym (first_numeral p)) (head_out (behind_first words b) p.spaced ∙ ap (λ (l : List ℕ). 32 ∷ l) behind_gap))
