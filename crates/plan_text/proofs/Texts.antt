-- What a text is made of, and how long it can be.
--   lines_grown                 lines with one more behind them
--   below_holds, below_fails    the lines of the numbers below one more, where the test holds there and where it does not
--   lines_below_grow            the lines of the numbers below a greater number are no fewer
--   two_way_valid, vertices_few, links_most   a graph that is not refused is valid, so it has at most 64 vertices and 2016 links
--   head_most, line_most format   how many bytes the first line has at most, and the line of a link;   head_short, link_short
--   text_short, sheet_text_short, text_room   how many bytes the text of such a graph has at most: no more than there is room for
--   sheet_text_lem                  the text in the format of a sheet is the sheet of the graph and the empty walk
-- Assumes nothing.
use Prim.Native.Nat.{ℕ, zero, suc, ◌+◌, ◌*◌, ◌/◌, ◌%◌, ◌≤◌, ◌<◌}
use mathlib.Core.Path.{◌≡◌, sym, ap, ◌∙◌, subst}
use mathlib.Core.Bool.{Bool}
use mathlib.Core.List.{List, [], ◌∷◌, ◌++◌, append_assoc, append-nil}
use mathlib.Core.Logic.{◌⊎◌, inl, inr}
use mathlib.Core.Option.{none}
use native.Mathlib.Nat.{mul-suc, mul-le-mul_left}
use native.Mathlib.Omega.{arith}
use lib.Dec.{T, ltb→lt}
use lib.ListN.{length, length-append}
use Rattle.bitset.proofs.Tests.{cond_yes, cond_no, decided, below_or}
use Rattle.searches.specs.Answer.{is_two_way, open_tests, two_way_tests, first_refusal, Accepts}
use Rattle.searches.specs.declared.Mark.{Mark}
use Rattle.searches.proofs.Refusals.{none_accepts}
use Rattle.searches.proofs.Answers.{valid_small}
use Rattle.fields.specs.Field.{field}
use Rattle.sheet.specs.Written.{list_below, is_link, link_list, first_line, link_line, lines, sheet_of}
use Rattle.sheet.proofs.Longest.{triangle_doubled, triangle_grows, longest_plan}
use Rattle.wording.specs.Text.{bytes}
use Rattle.wording.specs.Decimal.{decimal}
use Rattle.wording.proofs.Decimals.{short_two}
use Rattle.edge_lines.specs.Writing.{pair_text, problem_text, edge_text}
use Rattle.plan_text.specs.Text.{head_text, link_text, plan_text, room}
use Rattle.plan_text.specs.declared.Format.{Format}
use Rattle.plan_text.proofs.Digits.{short_four}

-- ---- line by line

pub lines_grown : (line : ℕ → List ℕ) (l : List ℕ) (c : ℕ) → lines line (l ++ c ∷ []) ≡ lines line l ++ line c
unfolding lines
lines_grown line [] c = append-nil (line c)
lines_grown line (x ∷ l) c = ap (λ (b : List ℕ). line x ++ b) (lines_grown line l c) ∙ sym (append_assoc (line x) (lines line l) (line c))

module _ (line : ℕ → List ℕ) (f : ℕ → Bool) where
  abbrev below : ℕ → List ℕ
  below c = lines line (list_below c f)

  pub below_holds : (c : ℕ) → T (f c) → lines line (list_below (suc c) f) ≡ lines line (list_below c f) ++ line c
  unfolding list_below
  below_holds c t = ap (lines line) (cond_yes (f c) _ _ t) ∙ lines_grown line (list_below c f) c

  pub below_fails : (c : ℕ) → (T (f c) → ⊥) → lines line (list_below (suc c) f) ≡ lines line (list_below c f)
  unfolding list_below
  below_fails c out = ap (lines line) (cond_no (f c) _ _ out)

  next_grows : (c : ℕ) → length (below c) ≤ length (below (suc c))
  next_grows c = go (decided (f c))
    where
      go : T (f c) ⊎ (T (f c) → ⊥) → length (below c) ≤ length (below (suc c))
      go (inl t) = omega (arith, ap length (below_holds c t), length-append (below c) (line c))
      go (inr out) = omega (arith, ap length (below_fails c out))

  pub lines_below_grow : (c k : ℕ) → c ≤ k → length (lines line (list_below c f)) ≤ length (lines line (list_below k f))
  lines_below_grow c zero l = let e : c ≡ 0 = omega arith in omega (arith, ap (λ (m : ℕ). length (below m)) e)
  lines_below_grow c (suc k) l = go (below_or k c) (lines_below_grow c k)
    where
      go : (k < c) ⊎ (c ≤ k) → (c ≤ k → length (below c) ≤ length (below k)) → length (below c) ≤ length (below (suc k))
      go (inl h) rest = let e : c ≡ suc k = omega arith in omega (arith, ap (λ (m : ℕ). length (below m)) e)
      go (inr h) rest = omega (arith, rest h, next_grows k)

  -- lines of at most so many bytes
  lines_short : (most bound : ℕ) → ((c : ℕ) → c < bound → length (line c) ≤ most) → (k : ℕ) → k ≤ bound → length (lines line (list_below k f)) ≤ most * length (list_below k f)
  unfolding list_below lines
  lines_short most bound short zero l = omega arith
  lines_short most bound short (suc k) l = go (decided (f k)) (lines_short most bound short k (omega arith))
    where
      go : T (f k) ⊎ (T (f k) → ⊥) → length (below k) ≤ most * length (list_below k f) → length (below (suc k)) ≤ most * length (list_below (suc k) f)
      go (inl t) rest =
          let grown = cond_yes (f k) (list_below k f ++ k ∷ []) (list_below k f) t in
          let more : length (list_below (suc k) f) ≡ suc (length (list_below k f)) = ap length grown ∙ length-append (list_below k f) (k ∷ []) ∙ omega arith in
          subst (λ (m : ℕ). length (below (suc k)) ≤ most * m) (sym more)
          (omega (arith, ap length (below_holds k t), length-append (below k) (line k), short k (omega arith), mul-suc most (length (list_below k f))))
      go (inr out) rest =
          let same = cond_no (f k) (list_below k f ++ k ∷ []) (list_below k f) out in
          subst (λ (b : List ℕ). length (lines line b) ≤ most * length b) (sym same) rest

-- ---- a graph that is not refused

module _ (rows : List ℕ) (accepted : first_refusal (two_way_tests Mark.TwoWay rows) ≡ none) where
  pub two_way_valid : Accepts (open_tests 0 Mark.TwoWay rows)
  unfolding open_tests two_way_tests is_two_way
  two_way_valid =
      let a = none_accepts (two_way_tests Mark.TwoWay rows) accepted in
      (λ t. let l = ltb→lt 6 0 t in omega arith, (a.0, (a.1.0, (a.1.1.0, (a.1.1.1.1.0, tt)))))

  pub vertices_few : length rows ≤ 64
  vertices_few = valid_small 0 Mark.TwoWay rows two_way_valid

  pub links_most : length (link_list rows) ≤ 2016
  links_most =
      omega (arith, longest_plan 0 rows two_way_valid, triangle_doubled (length rows), triangle_grows (length rows) 64 vertices_few, triangle_doubled 64)

-- ---- how long the lines are

unfoldable pub head_most : Format → ℕ
head_most Format.Edges = 15
head_most Format.Sheet = 13

unfoldable pub line_most : Format → ℕ
line_most Format.Edges = 8
line_most Format.Sheet = 9

pair_length : (words : List ℕ) (x y : ℕ) → length (pair_text words x y ++ 10 ∷ []) ≡ length words + length (decimal x) + length (decimal y) + 2
unfolding pair_text
pair_length words x y =
    length-append (pair_text words x y) (10 ∷ [])
    ∙ omega (arith, length-append words (decimal x ++ 32 ∷ decimal y), length-append (decimal x) (32 ∷ decimal y))

pub head_short : (format : Format) (n m : ℕ) → n ≤ 64 → m ≤ 2016 → length (head_text format n m) ≤ head_most format
unfolding head_text head_most problem_text bytes first_line field
head_short Format.Edges n m few less = omega (arith, pair_length (bytes "p edge ") n m, short_two n (omega arith), short_four m (omega arith))
head_short Format.Sheet n m few less = omega arith

pub link_short : (format : Format) (c : ℕ) → c < 4096 → length (link_text format c) ≤ line_most format
unfolding link_text line_most edge_text bytes link_line field
link_short Format.Edges c l =
    omega (arith, pair_length (bytes "e ") (suc (c / 64)) (suc (c % 64)), short_two (suc (c / 64)) (omega arith), short_two (suc (c % 64)) (omega arith))
link_short Format.Sheet c l = omega arith

-- ---- and the text

module _ (rows : List ℕ) (accepted : first_refusal (two_way_tests Mark.TwoWay rows) ≡ none) where
  text_most : (format : Format) → length (plan_text format rows) ≤ head_most format + line_most format * 2016
  unfolding plan_text link_list
  text_most format =
      let few = vertices_few rows accepted in
      let links = links_most rows accepted in
      let head = head_text format (length rows) (length (link_list rows)) in
      let first = head_short format (length rows) (length (link_list rows)) few links in
      let others = lines_short (link_text format) (is_link rows) (line_most format) 4096 (link_short format) (64 * length rows) (omega arith) in
      omega (arith, length-append head (lines (link_text format) (link_list rows)), first, others, mul-le-mul_left (line_most format) links)

  pub text_short : length (plan_text Format.Edges rows) ≤ 16143
  unfolding head_most line_most
  text_short = text_most Format.Edges

  pub sheet_text_short : length (plan_text Format.Sheet rows) ≤ 18157
  unfolding head_most line_most
  sheet_text_short = text_most Format.Sheet

  pub text_room : (format : Format) → length (plan_text format rows) ≤ room
  text_room Format.Edges = omega (arith, text_short)
  text_room Format.Sheet = omega (arith, sheet_text_short)

pub sheet_text_lem : (rows : List ℕ) → plan_text Format.Sheet rows ≡ sheet_of rows []
unfolding plan_text head_text link_text sheet_of lines
sheet_text_lem rows =
    ap (λ (b : List ℕ). first_line (length rows) (length (link_list rows)) 0 ++ b) (sym (append-nil (lines link_line (link_list rows))))
