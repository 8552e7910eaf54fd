-- What is answered of what a sheet comes to is what the definitions answer of the sheet.
--   parsed_answers           the first test that holds
--   parsed_stops             the line of an 11
--   parsed_held              what is held, where nothing is refused
--   parsed_readable          what the decision asks of it
-- Assumes nothing.
use Prim.Native.Nat.{ℕ, ◌+◌, ◌≤◌, ◌<◌}
use mathlib.Core.Path.{◌≡◌, refl, sym, ap, ap₂, ◌∙◌, subst}
use mathlib.Core.Bool.{Bool, false, cond, not, ◌||◌}
use mathlib.Core.Logic.{◌⊎◌, inl, inr}
use mathlib.Core.List.{List}
use mathlib.Core.Option.{Option, none, some}
use native.Mathlib.Numerals.{add-one}
use native.Mathlib.Omega.{arith}
use borrow.Author.Tests.{le-ltb}
use lib.Dec.{T, ltb, eqb, eqb→eq, nltb→le, not_T}
use Rattle.bitset.proofs.Tests.{not_not, is_false, decided, cond_no, cond_else}
use Rattle.searches.specs.Ordering.{at}
use Rattle.searches.specs.Answer.{vertex_outside, repeated, first_refusal}
use Rattle.searches.proofs.Refusals.{none_accepts}
use Rattle.sheet.specs.Sheet.{points_of, places_of, headed, formed, walk_of, sheet_tests, read_answer, stops_in, stopped_with, stopped_in}
use Rattle.sheet.specs.Lines.{placed_bytes, held_unless}
use Rattle.sheet.specs.Parsing.{parsed_of, parsed_tests, parsed_answer, parsed_line, Readable}
use Rattle.lines.specs.declared.Parsed.{Parsed}
use Rattle.sheet.proofs.Sheets.{outside_same, repeated_same, byte_point, all_inside, held_of, refused_late, points_few, places_few}
use Rattle.sheet.proofs.Ends.{large, few_small, parsed_agrees}

module _ (b : List ℕ) where
  abbrev n : ℕ
  n = points_of b

  abbrev k : ℕ
  k = places_of b

  abbrev p : Parsed
  p = parsed_of b

  not_large : n ≤ 64 → k ≤ n → large b ≡ false
  not_large few short = ap₂ (λ (x y : Bool). x || y) (le-ltb 64 n few) (le-ltb n k short)

  -- where no place is outside, the bytes repeat a point exactly when the places do
  repeats : k ≤ 64 → n ≤ 64 → (T (vertex_outside n (walk_of b) k) → ⊥) → repeated (placed_bytes b k) k ≡ repeated (walk_of b) k
  unfolding walk_of
  repeats few small inside =
      let within = all_inside b n k (sym (outside_same b n k ∙ is_false (vertex_outside n (walk_of b) k) inside)) in
      repeated_same b k few (λ q l. omega (arith, within q l))

  pub parsed_answers : parsed_answer p ≡ read_answer b
  unfolding parsed_answer parsed_tests read_answer sheet_tests first_refusal walk_of
  parsed_answers =
      let a = parsed_agrees b in
      let last : Bool → ℕ → Option ℕ = λ o j. cond o (some 8) (cond (repeated p.content.ordering j) (some 9) none) in
      let later : Bool → ℕ → ℕ → Option ℕ = λ f i j. cond (ltb 64 i) (some 2) (cond (ltb i j) (some 6) (cond (not f) (some 11) (last p.content.outside j))) in
      ap (λ (t : Bool). cond t (some 11) (later p.sound p.content.n p.content.k)) a.head
      ∙ cond_else (not (headed b)) (some 11) (λ out.
      let head = not_not (headed b) (not_T (not (headed b)) out) in
      ap₂ (λ (i j : ℕ). later p.sound i j) (a.points head) (a.places head)
      ∙ cond_else (ltb 64 n) (some 2) (λ few. cond_else (ltb n k) (some 6) (λ short.
      let points = nltb→le 64 n (not_T (ltb 64 n) few) in
      let places = nltb→le n k (not_T (ltb n k) short) in
      let small = not_large points places in
      ap (λ (f : Bool). cond (not f) (some 11) (last p.content.outside k)) (a.form head small)
      ∙ cond_else (not (formed b)) (some 11) (λ unformed.
      let form = not_not (formed b) (not_T (not (formed b)) unformed) in
      ap (λ (o : Bool). last o k) (a.outside head small form ∙ outside_same b n k)
      ∙ cond_else (vertex_outside n (walk_of b) k) (some 8) (λ inside.
      ap (λ (t : Bool). cond t (some 9) none) (ap (λ (w : List ℕ). repeated w k) (a.ordering head small form) ∙ repeats (omega (arith, points, places)) points inside))))))

  pub parsed_stops : parsed_line (read_answer b) p ≡ stopped_in b
  unfolding stopped_in stopped_with parsed_line
  parsed_stops = go (read_answer b) refl
    where
      late : {r : ℕ} → read_answer b ≡ some r → T (eqb r 11) → p.good + 1 ≡ stops_in b
      late {r} e eleven =
          let a = parsed_agrees b in
          add-one p.good ∙ a.line (λ head. let x = refused_late b (e ∙ ap some (eqb→eq r 11 eleven)) head in (not_large x.0 x.1, x.2))

      pick : {r : ℕ} → read_answer b ≡ some r → T (eqb r 11) ⊎ (T (eqb r 11) → ⊥) → cond (eqb r 11) (p.good + 1) 0 ≡ cond (eqb r 11) (stops_in b) 0
      pick {r} e (inl t) = ap (λ (x : ℕ). cond (eqb r 11) x 0) (late e t)
      pick {r} e (inr f) = cond_no (eqb r 11) (p.good + 1) 0 f ∙ sym (cond_no (eqb r 11) (stops_in b) 0 f)

      go : (answer : Option ℕ) → read_answer b ≡ answer → parsed_line answer p ≡ stopped_with answer b
      go none e = refl
      go (some r) e = pick e (decided (eqb r 11))

  module _ (accepted : none ≡ read_answer b) where
    head_fits : T (headed b)
    unfolding read_answer sheet_tests
    head_fits = not_not (headed b) (not_T (not (headed b)) (none_accepts (sheet_tests b) (sym accepted)).0)

    form_fits : T (formed b)
    unfolding read_answer sheet_tests
    form_fits = not_not (formed b) (not_T (not (formed b)) (none_accepts (sheet_tests b) (sym accepted)).1.1.1.0)

    pub parsed_held : record { n = p.content.n; rows = p.content.rows; k = p.content.k; ordering = p.content.ordering } ≡ held_unless none b
    parsed_held =
        let a = parsed_agrees b in
        let small = not_large (points_few b accepted) (places_few b accepted) in
        held_of b (a.points head_fits) (a.rows head_fits small form_fits) (a.places head_fits) (a.ordering head_fits small form_fits)

  -- where all is sound and no place is outside, the places are points
  sound_points : T p.sound → p.content.outside ≡ false → (p.content.k ≤ 64) × ((q : ℕ) → q < p.content.k → at p.content.ordering q < 64)
  sound_points t none_outside =
      let a = parsed_agrees b in
      let head = (a.sound t).0 in
      let small = (a.sound t).1 in
      let form : T (formed b) = subst (λ (x : Bool). T x) (a.form head small) t in
      let fewest = few_small b small in
      let within = all_inside b n k (sym none_outside ∙ a.outside head small form) in
      let few : k ≤ 64 = omega (arith, fewest.0, fewest.1) in (
        omega (arith, a.places head, few),
        λ q l.
            let h : q < k = omega (arith, a.places head, l) in
            omega (arith, ap (λ (w : List ℕ). at w q) (a.ordering head small form), byte_point b k q few h (omega (arith, within q h, fewest.0)), within q h, fewest.0),
      )

  pub parsed_readable : Readable p
  parsed_readable = let a = parsed_agrees b in record { counted = a.few; room = a.room; points = sound_points }
