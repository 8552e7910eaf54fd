-- The sheet of a DIMACS edge file.
--   part_inside, part_two_way   where import answers n points, the first n rows are there, and are those of a graph that is not refused
--   part_sheet, refusal_sheet   what is written where the file is read, and where it is refused
--   line_long                   a line with one number has five bytes
--   enough_room, too_short      what is left in an output list, with room and without
--   written_fits                what is written fits the output list
--   drawn_sheet                 the sheet of a file that is not refused is read as its plan, with an empty walk
-- Assumes nothing.
use Prim.Native.Nat.{ℕ, ◌+◌, ◌≤◌, ◌<◌}
use mathlib.Core.Path.{◌≡◌, refl, sym, ap, ap₂, ◌∙◌}
use mathlib.Core.Bool.{Bool, cond}
use mathlib.Core.List.{List, [], ◌∷◌, ◌++◌}
use mathlib.Core.Logic.{◌⊎◌, inl, inr}
use mathlib.Core.Option.{none}
use native.Mathlib.Omega.{arith}
use borrow.Author.Tests.{lt-ltb, le-ltb}
use lib.ListN.{length, take, drop, replicate, length-append}
use lib.Seq.{sets, take_at, length-sets}
use Rattle.std.specs.Prelude.{Result, Ok, Err}
use Rattle.bitset.proofs.Tests.{below_or}
use Rattle.searches.specs.Ordering.{IsOrdering}
use Rattle.searches.specs.Answer.{number, is_two_way, open_tests, two_way_tests, first_refusal, Accepts, Refuses}
use Rattle.searches.specs.declared.Mark.{Mark}
use Rattle.searches.specs.declared.Refusal.{Refusal}
use Rattle.searches.proofs.Refusals.{accepts_none, refuses_first, accepts_or_refuses}
use Rattle.searches.proofs.Answers.{ordering_accepted}
use Rattle.fields.specs.Field.{field, fields, line}
use Rattle.sheet.specs.Sheet.{walk_of, rows_of, read_answer}
use Rattle.sheet.specs.Written.{sheet_of}
use Rattle.sheet.proofs.RoundTrip.{reads_back}
use Rattle.plan_text.specs.Text.{plan_text, room}
use Rattle.plan_text.specs.declared.Format.{Format}
use Rattle.plan_text.proofs.Texts.{sheet_text_lem, text_room}
use Rattle.dimacs.specs.Import.{content, points, drawn_rows, import_tests, import_answer, import_output, read, refused, imported_of}
use Rattle.dimacs.proofs.Refusing.{read_import, import_refuses, refuses_import}
use Rattle.dimacs.proofs.Accepted.{accepted_out, output_read, rows_length, rows_words, valid_drawn}
use Rattle.drawing.specs.Sheet.{sheet_text, sheet_in, sheet_length}

two_way_accepted : (rows : List ℕ) → Accepts (open_tests 0 Mark.TwoWay rows) → first_refusal (two_way_tests Mark.TwoWay rows) ≡ none
unfolding open_tests two_way_tests is_two_way
two_way_accepted rows a = accepts_none (two_way_tests Mark.TwoWay rows) (a.1.0, (a.1.1.0, (a.1.1.1.0, (λ t. t, (a.1.1.1.1.0, tt)))))

-- a line with one number
pub line_long : (x : ℕ) → 0 + 5 ≡ length (line (x ∷ []))
unfolding line fields field
line_long x = refl

module _ (b : List ℕ) where
  -- the list that import gets
  abbrev blank : List ℕ
  blank = replicate 64 0

  module _ (n : ℕ) (reads : read n ≡ import_answer b (replicate 64 0)) where
    plan_accepted : first_refusal (import_tests b (replicate 64 0)) ≡ none
    plan_accepted = accepts_none (import_tests b blank) (read_import b blank n (sym reads)).0

    plan_points : n ≡ points (content b)
    plan_points = (read_import b blank n (sym reads)).1

    plan_part : {rows : List ℕ} → rows ≡ import_output b (replicate 64 0) → take n rows ≡ drawn_rows (content b)
    plan_part left =
        ap₂ (λ (m : ℕ) (rows : List ℕ). take m rows) plan_points (left ∙ output_read b blank plan_accepted)
        ∙ take_at (drawn_rows (content b)) (drop (points (content b)) blank) (points (content b)) (rows_length (accepted_out b blank plan_accepted))

    plan_two_way : first_refusal (two_way_tests Mark.TwoWay (drawn_rows (content b))) ≡ none
    plan_two_way = two_way_accepted (drawn_rows (content b)) (valid_drawn (accepted_out b blank plan_accepted) 0 (omega arith))

  -- ---- what is written

  sheet_read : first_refusal (import_tests b (replicate 64 0)) ≡ none → sheet_text b ≡ sheet_of (drawn_rows (content b)) []
  unfolding sheet_text
  sheet_read e = rw (e, sheet_text)

  sheet_refused : (r : ℕ) → refused r ≡ import_answer b (replicate 64 0) → sheet_text b ≡ line (r ∷ [])
  unfolding sheet_text
  sheet_refused r e = let first = refuses_first (import_tests b blank) r (import_refuses b blank r (sym e)) in rw (first, sheet_text)

  -- ---- what import answered and left

  module _ {answer : Result ℕ Refusal} {n : ℕ} {rows : List ℕ} (is : answer ≡ Ok n) (answered : imported_of answer ≡ import_answer b (replicate 64 0))
      (left : rows ≡ import_output b (replicate 64 0)) where
    reads : read n ≡ import_answer b (replicate 64 0)
    unfolding imported_of
    reads = sym (ap imported_of is) ∙ answered

    pub part_inside : n ≤ length rows
    part_inside =
        let long : length rows ≡ length (drawn_rows (content b) ++ drop (points (content b)) blank) = ap length (left ∙ output_read b blank (plan_accepted n reads)) in
        omega (arith, length-append (drawn_rows (content b)) (drop (points (content b)) blank), plan_points n reads, rows_length (accepted_out b blank (plan_accepted n reads)))

    pub part_two_way : first_refusal (two_way_tests Mark.TwoWay (take n rows)) ≡ none
    part_two_way = ap (λ (x : List ℕ). first_refusal (two_way_tests Mark.TwoWay x)) (plan_part n reads left) ∙ plan_two_way n reads

    pub part_sheet : sheet_text b ≡ plan_text Format.Sheet (take n rows)
    part_sheet = sheet_read (plan_accepted n reads) ∙ sym (ap (plan_text Format.Sheet) (plan_part n reads left) ∙ sheet_text_lem (drawn_rows (content b)))

  pub refusal_sheet : {answer : Result ℕ Refusal} {r : Refusal} → answer ≡ Err r → imported_of answer ≡ import_answer b (replicate 64 0) → sheet_text b ≡ line (number r ∷ [])
  unfolding imported_of
  refusal_sheet {answer} {r} is answered = sheet_refused (number r) (sym (ap imported_of is) ∙ answered)

  -- ---- the output list

  module _ (out : List ℕ) where
    pub too_short : length out < room → (out ≡ sheet_in b out) × (0 ≡ sheet_length b out)
    unfolding sheet_in sheet_length
    too_short l =
        let e = lt-ltb (length out) room l in
        (sym (ap (λ (t : Bool). cond t out (sets out 0 (sheet_text b))) e), sym (ap (λ (t : Bool). cond t 0 (length (sheet_text b))) e))

    pub enough_room : room ≤ length out → {text : List ℕ} → sheet_text b ≡ text → (sets out 0 text ≡ sheet_in b out) × (length text ≡ sheet_length b out)
    unfolding sheet_in sheet_length
    enough_room l {text} is =
        let e = le-ltb (length out) room l in (
          ap (λ (x : List ℕ). sets out 0 x) (sym is) ∙ sym (ap (λ (t : Bool). cond t out (sets out 0 (sheet_text b))) e),
          ap length (sym is) ∙ sym (ap (λ (t : Bool). cond t 0 (length (sheet_text b))) e),
        )

  -- ---- how much is written

  -- the sheet of every plan, and a line with a number, fit
  text_fits : length (sheet_text b) ≤ room
  text_fits = go (accepts_or_refuses (import_tests b blank))
    where
      go : Accepts (import_tests b blank) ⊎ ((r : ℕ) × Refuses r (import_tests b blank)) → length (sheet_text b) ≤ room
      go (inl a) =
          let accepted = accepts_none (import_tests b blank) a in
          let rows = drawn_rows (content b) in
          let two_way = two_way_accepted rows (valid_drawn (accepted_out b blank accepted) 0 (omega arith)) in
          omega (arith, ap length (sheet_read accepted ∙ sym (sheet_text_lem rows)), text_room rows two_way Format.Sheet)
      go (inr x) = omega (arith, ap length (sheet_refused x.0 (sym (refuses_import b blank x.0 x.1))), line_long x.0)

  pub written_fits : (out : List ℕ) {out' : List ℕ} {m : ℕ} → out' ≡ sheet_in b out → m ≡ sheet_length b out → m ≤ length out'
  written_fits out {out'} {m} left long = go (below_or (length out) room)
    where
      go : (length out < room) ⊎ (room ≤ length out) → m ≤ length out'
      go (inl l) = omega (arith, long, (too_short out l).1)
      go (inr l) =
          let done = enough_room out l refl in
          omega (arith, long, done.1, ap length left, ap length done.0, length-sets out 0 (sheet_text b), text_fits)

  -- ---- what is read of it

  pub drawn_sheet : first_refusal (import_tests b (replicate 64 0)) ≡ none
      → (read_answer (sheet_text b) ≡ none) × (rows_of (sheet_text b) ≡ drawn_rows (content b)) × (walk_of (sheet_text b) ≡ [])
  drawn_sheet accepted =
      let rows = drawn_rows (content b) in
      let plan = accepted_out b blank accepted in
      let nothing : IsOrdering (length rows) [] 0 = record { long = omega arith; vertices = λ p l. absurd (omega arith); distinct = λ p q h l. absurd (omega arith) } in
      let back =
      reads_back 0 rows [] (ordering_accepted 0 Mark.TwoWay rows [] (valid_drawn plan 0 (omega arith)) nothing)
      (λ u l. rows_words plan u (omega (arith, rows_length plan)))
      in
      let text = sym (sheet_read accepted) in
      (ap read_answer (sym text) ∙ back.answer, ap rows_of (sym text) ∙ back.graph, ap walk_of (sym text) ∙ back.walk)
