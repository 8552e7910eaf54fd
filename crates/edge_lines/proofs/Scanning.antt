-- Bytes read one after the other through a cursor.
--   left_more, left_none              what is left at an offset
--   begins_starts                     how a list begins, as the library's starts_with has it
--   front_more, behind_more, front_stop, behind_stop         the bytes at an offset that pass a test, and those behind them
--   Counting line start end x     the digits from start up to end were read, and count x
--   counting_start, counting_next, counting_value, counting_rest   its turns, and what they come to;   numeral_test   whether the digits are a number as it is written
--   other_in, other_out               a line end, and any other byte;   digit_range, digit_inside   a digit
--   past_one, past_none               one byte further
--   number_some, number_none          a number that is read, and digits that are none
--   gap_byte, second_digits_lem, left_behind      words, a number, one space, a number: found where the numbers end
--   line_ended, line_unended          where the first line end stands, and that there is none, as the library's position has it
--   line_inside, unended_said, unended_rest, ended_said, ended_rest       a line, and what is left behind it
-- Assumes nothing.
use Prim.Native.Nat.{ℕ, suc, ◌+◌, ◌-◌, ◌≤◌, ◌<◌}
use mathlib.Core.Path.{◌≡◌, refl, sym, ap, ap₂, ◌∙◌, subst}
use mathlib.Core.Bool.{Bool, true, false, cond, not, ◌&&◌, ◌||◌}
use mathlib.Core.Logic.{◌⊎◌, inl, inr}
use mathlib.Core.List.{List, [], ◌∷◌}
use native.Mathlib.Numerals.{add-one}
use native.Mathlib.Omega.{arith}
use borrow.Author.Tests.{eq-eqb, ne_eqb}
use lib.Dec.{T, ltb, eqb, ltb→lt, eqb→eq, not_T, T_not, nltb→le}
use lib.ListN.{length, take, drop, length-drop, drop_of_length-le, get_or-eq_default}
use lib.Seq.{drop-cons, drop-drop, get_or-drop}
use lib.Pointwise.{pointwise}
use Rattle.std.specs.Prelude.{Option, Some, None, MatchOption, position, ◌==◌}
use Rattle.std.specs.List.{position_or_len}
use Rattle.std.proofs.lemmas.Option.{MatchOption-at_some, MatchOption-at_none}
use Rattle.bitset.proofs.Tests.{and_out, eqb_comm, said_false, cond_yes, cond_no, below_or, decided}
use Rattle.searches.specs.Ordering.{at}
use Rattle.wording.specs.Decimal.{is_digit, value}
use Rattle.wording.specs.Reading.{is_other, front, behind}
use Rattle.edge_lines.specs.Reading.{begins, is_numeral, behind_first, second_digits, behind_second, said, next_said, behind_line, capped, appended, NumberOf}
use Rattle.edge_lines.specs.declared.Line.{Line}
use Rattle.edge_lines.proofs.Numerals.{capped_from, capped_value}

-- what is left at an offset
pub left_more : (b : List ℕ) {i : ℕ} → i < length b → drop i b ≡ at b i ∷ drop (i + 1) b
left_more b {i} h = drop-cons b i 0 h ∙ ap (λ (m : ℕ). at b i ∷ drop m b) (sym (add-one i))

pub left_none : (b : List ℕ) {i : ℕ} → length b ≤ i → drop i b ≡ []
left_none b h = drop_of_length-le b h

-- ---- how a list begins

pub begins_starts : (words b : List ℕ) → pointwise eqb words (take (length words) b) ≡ begins words b
unfolding begins
begins_starts [] b = refl
begins_starts (c ∷ words) [] = refl
begins_starts (c ∷ words) (d ∷ b) = ap₂ (λ (x y : Bool). x && y) (eqb_comm c d) (begins_starts words b)

-- ---- bytes that pass a test

module _ (test : ℕ → Bool) (b : List ℕ) {i : ℕ} where
  pub front_more : i < length b → T (test (at b i)) → front test (drop i b) ≡ at b i ∷ front test (drop (i + 1) b)
  unfolding front
  front_more h t = ap (front test) (left_more b h) ∙ cond_yes (test (at b i)) _ _ t

  pub behind_more : i < length b → T (test (at b i)) → behind test (drop i b) ≡ behind test (drop (i + 1) b)
  unfolding behind
  behind_more h t = ap (behind test) (left_more b h) ∙ cond_yes (test (at b i)) _ _ t

  -- where the list ends, or a byte fails the test
  pub front_stop : (i < length b → T (test (at b i)) → ⊥) → front test (drop i b) ≡ []
  unfolding front
  front_stop out = go (below_or i (length b))
    where
      go : (i < length b) ⊎ (length b ≤ i) → front test (drop i b) ≡ []
      go (inl h) = ap (front test) (left_more b h) ∙ cond_no (test (at b i)) _ _ (out h)
      go (inr h) = ap (front test) (left_none b h)

  pub behind_stop : (i < length b → T (test (at b i)) → ⊥) → behind test (drop i b) ≡ drop i b
  unfolding behind
  behind_stop out = go (below_or i (length b))
    where
      go : (i < length b) ⊎ (length b ≤ i) → behind test (drop i b) ≡ drop i b
      go (inl h) = ap (behind test) (left_more b h) ∙ cond_no (test (at b i)) _ _ (out h) ∙ sym (left_more b h)
      go (inr h) = ap (behind test) (left_none b h) ∙ sym (left_none b h)

-- a line end, and any other byte
pub other_in : (x : ℕ) → (x ≡ 10 → ⊥) → T (is_other 10 x)
unfolding is_other
other_in x out = not_T (eqb x 10) (λ t. out (eqb→eq x 10 t))

pub other_out : (x : ℕ) → x ≡ 10 → T (is_other 10 x) → ⊥
unfolding is_other
other_out x e t = T_not (eqb x 10) t (subst (λ (y : ℕ). T (eqb y 10)) (sym e) tt)

-- ---- a number

pub digit_range : (x : ℕ) → T (is_digit x) → (48 ≤ x) × (x < 58)
unfolding is_digit
digit_range x t =
    let both = and_out (ltb 47 x) (ltb x 58) t in
    let low = ltb→lt 47 x both.0 in
    let high = ltb→lt x 58 both.1 in
    (omega arith, high)

-- a byte behind the end is read as 0, which is no digit
pub digit_inside : (line : List ℕ) {i : ℕ} → T (is_digit (at line i)) → i < length line
unfolding is_digit
digit_inside line {i} t = go (below_or i (length line))
  where
    go : (i < length line) ⊎ (length line ≤ i) → i < length line
    go (inl h) = h
    go (inr h) = absurd (subst (λ (x : ℕ). T (ltb 47 x && ltb x 58)) (get_or-eq_default line 0 h) t)

pub record Counting (line : List ℕ) (start end x : ℕ) : Type 0 where
  pub onward : start ≤ end
  pub spent : start + length (front is_digit (drop start line)) ≡ end + length (front is_digit (drop end line))
  pub counted : capped_from x (front is_digit (drop end line)) ≡ capped (value (front is_digit (drop start line)))
  pub behind : behind is_digit (drop end line) ≡ behind is_digit (drop start line)

module _ (line : List ℕ) (start : ℕ) where
  pub counting_start : Counting line start start 0
  unfolding value capped
  counting_start = record { onward = omega arith; spent = refl; counted = capped_value (front is_digit (drop start line)) 0; behind = refl }

  pub counting_next : {end x : ℕ} → Counting line start end x → T (is_digit (at line end)) → Counting line start (end + 1) (appended x (at line end))
  unfolding capped_from
  counting_next {end} {x} p t =
      let here = front_more is_digit line (digit_inside line t) t in
      record {
        onward = omega (arith, p.onward);
        spent = omega (arith, p.spent, ap length here);
        counted = ap (λ (d : List ℕ). capped_from x d) (sym here) ∙ p.counted;
        behind = sym (behind_more is_digit line (digit_inside line t) t) ∙ p.behind;
      }

  -- no digit stands at the end
  module _ {end x : ℕ} (p : Counting line start end x) (out : T (is_digit (at line end)) → ⊥) where
    pub counting_value : x ≡ capped (value (front is_digit (drop start line)))
    unfolding capped_from
    counting_value = ap (λ (d : List ℕ). capped_from x d) (sym (front_stop is_digit line (λ _. out))) ∙ p.counted

    pub counting_rest : drop end line ≡ behind is_digit (drop start line)
    counting_rest = sym (behind_stop is_digit line (λ _. out)) ∙ p.behind

    counting_end : start + length (front is_digit (drop start line)) ≡ end
    counting_end = omega (arith, p.spent, ap length (front_stop is_digit line {i = end} (λ _. out)))

    pub numeral_test : (ltb 0 (end - start) && (not (eqb (at line start) 48) || eqb (end - start) 1)) ≡ is_numeral (front is_digit (drop start line))
    unfolding is_numeral
    numeral_test =
        let d = front is_digit (drop start line) in
        let long : end - start ≡ length d = omega (arith, counting_end) in
        ap (λ (m : ℕ). ltb 0 m && (not (eqb (at line start) 48) || eqb m 1)) long ∙ go (decided (is_digit (at line start)))
      where
        go : T (is_digit (at line start)) ⊎ (T (is_digit (at line start)) → ⊥)
            → let d = front is_digit (drop start line) in
            (ltb 0 (length d) && (not (eqb (at line start) 48) || eqb (length d) 1)) ≡ (ltb 0 (length d) && (not (eqb (at d 0) 48) || eqb (length d) 1))
        go (inl t) =
            let d = front is_digit (drop start line) in
            ap (λ (c : ℕ). ltb 0 (length d) && (not (eqb c 48) || eqb (length d) 1)) (sym (ap (λ (b : List ℕ). at b 0) (front_more is_digit line (digit_inside line t) t)))
        go (inr none_there) =
            let d = front is_digit (drop start line) in
            let empty : d ≡ [] = front_stop is_digit line (λ _. none_there) in
            ap (λ (b : List ℕ). ltb 0 (length b) && (not (eqb (at line start) 48) || eqb (length b) 1)) empty
            ∙ sym (ap (λ (b : List ℕ). ltb 0 (length b) && (not (eqb (at b 0) 48) || eqb (length b) 1)) empty)

-- ---- one byte further

pub past_one : (b : List ℕ) (i : ℕ) → i < length b → drop (i + 1) b ≡ drop 1 (drop i b)
past_one b i h = sym (ap (λ (x : List ℕ). drop 1 x) (left_more b h))

pub past_none : (b : List ℕ) (i : ℕ) → length b ≤ i → drop i b ≡ drop 1 (drop i b)
past_none b i h = left_none b h ∙ sym (ap (λ (x : List ℕ). drop 1 x) (left_none b h))

-- ---- words and two numbers

module _ (d : List ℕ) {read : Option ℕ} (is : MatchOption read (is_numeral d ≡ false) (NumberOf d)) where
  pub number_some : {x : ℕ} → read ≡ Some x → NumberOf d x
  number_some {x} e = MatchOption-at_some (is_numeral d ≡ false) (NumberOf d) x e is

  pub number_none : read ≡ None → T (is_numeral d) → ⊥
  number_none e = said_false (is_numeral d) refl (MatchOption-at_none (is_numeral d ≡ false) (NumberOf d) e is)

-- where the first number ends
module _ (words line : List ℕ) (gap : ℕ) (first : drop gap line ≡ behind_first words line) where
  pub gap_byte : at line gap ≡ at (behind_first words line) 0
  gap_byte =
      let here : gap ≡ gap + 0 = omega arith in
      ap (λ (i : ℕ). at line i) here ∙ sym (get_or-drop gap line 0 0) ∙ ap (λ (b : List ℕ). at b 0) first

  -- where the second one begins
  module _ (begin : ℕ) (further : drop begin line ≡ drop 1 (drop gap line)) where
    second_begun : drop begin line ≡ drop 1 (behind_first words line)
    second_begun = further ∙ ap (λ (b : List ℕ). drop 1 b) first

    pub second_digits_lem : front is_digit (drop begin line) ≡ second_digits words line
    unfolding second_digits
    second_digits_lem = ap (front is_digit) second_begun

    -- and where it ends
    pub left_behind : (end : ℕ) → drop end line ≡ behind is_digit (drop begin line) → drop end line ≡ behind_second words line
    unfolding behind_second
    left_behind end last = last ∙ ap (behind is_digit) second_begun

-- ---- a line

module _ (test : ℕ → Bool) where
  behind_drop : (b : List ℕ) → drop (length (front test b)) b ≡ behind test b
  unfolding front behind
  behind_drop [] = refl
  behind_drop (c ∷ b) = go (test c) (behind_drop b)
    where
      go : (t : Bool) → drop (length (front test b)) b ≡ behind test b → drop (length (cond t (c ∷ front test b) [])) (c ∷ b) ≡ cond t (behind test b) (c ∷ b)
      go true rest = rest
      go false rest = refl

  front_take : (b : List ℕ) → take (length (front test b)) b ≡ front test b
  unfolding front
  front_take [] = refl
  front_take (c ∷ b) = go (test c) (front_take b)
    where
      go : (t : Bool) → take (length (front test b)) b ≡ front test b → take (length (cond t (c ∷ front test b) [])) (c ∷ b) ≡ cond t (c ∷ front test b) []
      go true rest = ap (λ (x : List ℕ). c ∷ x) rest
      go false rest = refl

  front_short : (b : List ℕ) → length (front test b) ≤ length b
  unfolding front
  front_short [] = omega arith
  front_short (c ∷ b) = go (test c) (front_short b)
    where
      go : (t : Bool) → length (front test b) ≤ length b → length (cond t (c ∷ front test b) []) ≤ suc (length b)
      go true rest = omega arith
      go false rest = omega arith

-- a line end, and none
line_prefix : (b : List ℕ) → position_or_len (λ c. c == 10) b ≡ length (front (is_other 10) b)
unfolding front is_other
line_prefix [] = refl
line_prefix (c ∷ b) = go (not (eqb c 10)) (line_prefix b)
  where
    go : (t : Bool) → position_or_len (λ c. c == 10) b ≡ length (front (is_other 10) b)
        → cond t (1 + position_or_len (λ c. c == 10) b) 0 ≡ length (cond t (c ∷ front (is_other 10) b) [])
    go true rest = omega arith
    go false rest = refl

module _ (b : List ℕ) where
  abbrev until : ℕ
  until = position_or_len (λ c. c == 10) b

  pub line_ended : {n : ℕ} → Some n ≡ position (λ c. c == 10) b → (n ≡ length (front (is_other 10) b)) × (n < length b)
  line_ended {n} e = go (ltb until (length b)) (λ t. t) e
    where
      go : (t : Bool) → (T t → T (ltb until (length b))) → Some n ≡ cond t (Some until) None → (n ≡ length (front (is_other 10) b)) × (n < length b)
      go true inside is =
          let here : n ≡ until = cc in
          let less : until < length b = ltb→lt until (length b) (inside tt) in
          (here ∙ line_prefix b, omega arith)
      go false inside is = cc

  pub line_unended : None ≡ position (λ c. c == 10) b → length b ≡ length (front (is_other 10) b)
  line_unended e = go (ltb until (length b)) (λ t. t) e
    where
      go : (t : Bool) → (T (ltb until (length b)) → T t) → None ≡ cond t (Some until) None → length b ≡ length (front (is_other 10) b)
      go true outside is = cc
      go false outside is = omega (arith, line_prefix b, front_short (is_other 10) b, nltb→le until (length b) (not_T (ltb until (length b)) outside))

-- from start up to its line end, or the end of the file
module _ (file : List ℕ) (start stop : ℕ) (found : stop ≡ start + length (front (is_other 10) (drop start file))) where
  line_behind : drop stop file ≡ behind (is_other 10) (drop start file)
  line_behind =
      ap (λ (i : ℕ). drop i file) found ∙ sym (drop-drop (length (front (is_other 10) (drop start file))) start file) ∙ behind_drop (is_other 10) (drop start file)

  line_bytes : take (stop - start) (drop start file) ≡ front (is_other 10) (drop start file)
  line_bytes =
      let long : stop - start ≡ length (front (is_other 10) (drop start file)) = omega arith in
      ap (λ (m : ℕ). take m (drop start file)) long ∙ front_take (is_other 10) (drop start file)

  pub line_inside : start ≤ length file → stop ≤ length file
  line_inside h = omega (arith, front_short (is_other 10) (drop start file), length-drop start file)

  behind_long : length (behind (is_other 10) (drop start file)) ≡ length file - stop
  behind_long = ap length (sym line_behind) ∙ length-drop stop file

  pub unended_said : length file ≤ stop → Line.Other ≡ next_said (drop start file)
  unfolding next_said
  unended_said h =
      sym (ap (λ (t : Bool). cond t Line.Other (said (front (is_other 10) (drop start file)))) (eq-eqb (length (behind (is_other 10) (drop start file))) 0 (omega (arith, behind_long))))

  pub unended_rest : length file ≤ stop → drop stop file ≡ behind_line (drop start file)
  unfolding behind_line
  unended_rest h = past_none file stop h ∙ ap (λ (b : List ℕ). drop 1 b) line_behind

  pub ended_said : stop < length file → said (take (stop - start) (drop start file)) ≡ next_said (drop start file)
  unfolding next_said
  ended_said h =
      ap said line_bytes
      ∙ sym (ap (λ (t : Bool). cond t Line.Other (said (front (is_other 10) (drop start file)))) (ne_eqb (length (behind (is_other 10) (drop start file))) 0 (λ e. omega (arith, behind_long))))

  pub ended_rest : stop < length file → drop (stop + 1) file ≡ behind_line (drop start file)
  unfolding behind_line
  ended_rest h = past_one file stop h ∙ ap (λ (b : List ℕ). drop 1 b) line_behind
