-- Only the first 18,478 bytes of a sheet matter: `longest` + 1, one more than the longest valid sheet has.
--   longer_answer          a sheet with more than `longest` bytes is refused; line 1 decides with which number
--   field_alike, headed_alike, link_alike, place_alike    two sheets with the same first bytes agree on the fields and the lines there
--   line_alike, stops_alike    they agree on each line up to the first that has not the form, so they stop having it in the same line
--   cut_read               the first bytes are answered as the whole sheet is
--   cut_whole              a sheet that is not refused has no more bytes than these
--   cut_unless             what is made of the answer, and of the sheet where it is not refused, is the same;   cut_held   what is read
--   cut_stopped            the line in which the sheet stops having the form is the same
-- Assumes nothing.
use Prim.Native.Nat.{ℕ, zero, suc, ◌+◌, ◌-◌, ◌*◌, ◌≤◌, ◌<◌}
use mathlib.Core.Path.{◌≡◌, refl, sym, ap, ◌∙◌, subst}
use mathlib.Core.Bool.{Bool, cond, not}
use mathlib.Core.Logic.{◌⊎◌, inl, inr}
use mathlib.Core.List.{List}
use mathlib.Core.Option.{Option, none, some}
use native.Mathlib.Omega.{arith}
use lib.Dec.{T, ltb, eqb, nltb→le, eqb→eq, not_T}
use lib.ListN.{length, take}
use lib.Seq.{length-take-le, get_or-take, take_all}
use Rattle.bitset.specs.Below.{first_below}
use Rattle.bitset.proofs.Tests.{not_not, decided, cond_yes, cond_no, cond_else, below_or}
use Rattle.bitset.proofs.Below.{first, first_upto, first_same}
use Rattle.searches.specs.Ordering.{at}
use Rattle.searches.specs.Answer.{first_refusal}
use Rattle.fields.specs.Field.{is_field_at, field_at}
use Rattle.fields.proofs.Fields.{columns}
use Rattle.sheet.specs.Sheet.{points_of, links_of, places_of, headed, link_start, from_of, to_of, before_from, before_to, link_fits}
use Rattle.lines.specs.Line.{link_fits_at}
use Rattle.sheet.specs.Sheet.{place_start, place_at, place_fits, formed, sheet_tests, read_answer, line_fits, stops_in, stopped_with, stopped_in}
use Rattle.sheet.specs.Lines.{held_unless, held_in}
use Rattle.sheet.specs.Written.{longest}
use Rattle.sheet.proofs.Form.{line_link, line_place}
use Rattle.sheet.proofs.Sheets.{refused_late}
use Rattle.sheet.proofs.Accepted.{line_out}
use Rattle.sheet.proofs.Longest.{links_most, longest_sheet, formed_short}

-- ---- line 1 decides what a longer sheet is answered

abbrev head_answer : Bool → ℕ → ℕ → Option ℕ
head_answer h n k = cond (not h) (some 11) (cond (ltb 64 n) (some 2) (cond (ltb n k) (some 6) (some 11)))

longer_answer : (b : List ℕ) → longest < length b → read_answer b ≡ head_answer (headed b) (points_of b) (places_of b)
unfolding read_answer sheet_tests first_refusal
longer_answer b l =
    let n = points_of b in
    let k = places_of b in
    cond_else (not (headed b)) (some 11)
    (λ _. cond_else (ltb 64 n) (some 2)
    (λ few. cond_else (ltb n k) (some 6)
    (λ short. cond_yes (not (formed b)) (some 11) _
    (not_T (formed b)
    (λ t. let fits = formed_short b (nltb→le 64 n (not_T (ltb 64 n) few)) (nltb→le n k (not_T (ltb n k) short)) t in absurd (omega arith))))))

-- ---- two sheets that begin alike

module _ (b c : List ℕ) (alike : (i : ℕ) → i ≤ longest → at c i ≡ at b i) where
  field_alike : (i : ℕ) → i + 3 ≤ longest → field_at c i ≡ field_at b i
  unfolding field_at is_field_at
  field_alike i l =
      first_same 10000 (is_field_at c i) (is_field_at b i)
      (λ x _. columns b i x (alike i (omega arith)) (alike (i + 1) (omega arith)) (alike (i + 2) (omega arith)) (alike (i + 3) l) refl refl refl refl)

  points_alike : points_of c ≡ points_of b
  unfolding points_of
  points_alike = field_alike 0 (omega arith)

  links_alike : links_of c ≡ links_of b
  unfolding links_of
  links_alike = field_alike 4 (omega arith)

  places_alike : places_of c ≡ places_of b
  unfolding places_of
  places_alike = field_alike 8 (omega arith)

  headed_alike : headed c ≡ headed b
  unfolding headed
  headed_alike = cc (points_alike, links_alike, places_alike, alike 12 (omega arith))

  before_alike : (j : ℕ) → link_start j ≤ longest → (before_from c j ≡ before_from b j) × (before_to c j ≡ before_to b j)
  unfolding link_start from_of to_of before_from before_to
  before_alike zero l = (refl, refl)
  before_alike (suc j) l = (field_alike (13 + 9 * j) (omega arith), field_alike (13 + 9 * j + 4) (omega arith))

  link_alike : (j : ℕ) → link_start j + 8 ≤ longest → link_fits c j ≡ link_fits b j
  unfolding link_fits link_fits_at
  link_alike j l =
      let i = link_start j in
      let before = before_alike j (omega arith) in
      cc (points_alike, before.0, before.1, field_alike i (omega arith), field_alike (i + 4) (omega arith), alike (i + 4 + 4) (omega arith))

  start_alike : (j : ℕ) → place_start c j ≡ place_start b j
  unfolding place_start
  start_alike j = ap (λ (m : ℕ). link_start m + 5 * j) links_alike

  place_alike : (j : ℕ) → place_start b j + 4 ≤ longest → place_fits c j ≡ place_fits b j
  unfolding place_fits place_at
  place_alike j l = cc (start_alike j, field_alike (place_start b j) (omega arith), alike (place_start b j + 4) l)

  module _ (small : T (headed b) → (points_of b ≤ 64) × (places_of b ≤ points_of b)) where
    -- up to the first line that has not the form
    line_alike : (l : ℕ) → l ≤ links_of b + places_of b → ((i : ℕ) → i < l → T (line_fits b i)) → line_fits c l ≡ line_fits b l
    unfolding line_fits link_start place_start
    line_alike zero h fit = headed_alike
    line_alike (suc j) h fit = go (small (fit 0 (omega arith))) (below_or j (links_of b))
      where
        few : (m : ℕ) → m ≤ j → m ≤ links_of b → points_of b ≤ 64 → m ≤ 2016
        few m l l' = links_most b m (λ i g. line_out b i (subst (λ (t : Bool). T t) (line_link b i (omega arith)) (fit (suc i) (omega arith))))

        go : (points_of b ≤ 64) × (places_of b ≤ points_of b) → (j < links_of b) ⊎ (links_of b ≤ j) → line_fits c (suc j) ≡ line_fits b (suc j)
        go x (inl l) =
            line_link c j (omega (arith, links_alike)) ∙ link_alike j (omega (arith, few j (omega arith) (omega arith) x.0)) ∙ sym (line_link b j l)
        go x (inr l) =
            line_place c j (omega (arith, links_alike)) ∙ ap (λ (m : ℕ). place_fits c (j - m)) links_alike
            ∙ place_alike (j - links_of b) (omega (arith, few (links_of b) l (omega arith) x.0)) ∙ sym (line_place b j l)

    stops_alike : stops_in c ≡ stops_in b
    unfolding stops_in
    stops_alike =
        let n = suc (links_of b + places_of b) in
        let lines : links_of c + places_of c ≡ links_of b + places_of b = omega (arith, links_alike, places_alike) in
        let fits = (first n misfits).least in
        ap suc (ap (λ (m : ℕ). first_below (suc m) (λ l. not (line_fits c l))) lines ∙ sym (first_upto n misfits (λ l. not (line_fits c l))
        (λ l g h. ap not (sym (line_alike l (omega arith) (λ i k. not_not (line_fits b i) (not_T (misfits i) (fits i (omega arith)))))))))
      where
        misfits : ℕ → Bool
        misfits l = not (line_fits b l)

-- ---- the first bytes of a sheet

module _ (b : List ℕ) where
  alike_cut : (i : ℕ) → i ≤ longest → at (take (suc longest) b) i ≡ at b i
  alike_cut i l = get_or-take (suc longest) b i 0 (omega arith)

  pub cut_read : read_answer (take (suc longest) b) ≡ read_answer b
  cut_read = go (below_or (length b) (suc longest))
    where
      go : (length b < suc longest) ⊎ (suc longest ≤ length b) → read_answer (take (suc longest) b) ≡ read_answer b
      go (inl l) = ap read_answer (take_all (suc longest) b (omega arith))
      go (inr l) =
          let c = take (suc longest) b in
          longer_answer c (omega (arith, length-take-le (suc longest) b l))
          ∙ cc (headed_alike b c alike_cut, points_alike b c alike_cut, places_alike b c alike_cut)
          ∙ sym (longer_answer b (omega arith))

  pub cut_whole : read_answer b ≡ none → take (suc longest) b ≡ b
  cut_whole e = take_all (suc longest) b (omega (arith, longest_sheet b e))

  -- what is made of a sheet that is not refused, and else of its answer alone
  pub cut_unless : {A : Type 0} (f : Option ℕ → List ℕ → A) → ((r : ℕ) (c : List ℕ) → f (some r) c ≡ f (some r) b)
      → f (read_answer (take (suc longest) b)) (take (suc longest) b) ≡ f (read_answer b) b
  cut_unless f same = ap (λ (a : Option ℕ). f a (take (suc longest) b)) cut_read ∙ go (read_answer b) refl
    where
      go : (a : Option ℕ) → read_answer b ≡ a → f a (take (suc longest) b) ≡ f a b
      go none e = ap (f none) (cut_whole e)
      go (some r) e = same r (take (suc longest) b)

  pub cut_held : held_in (take (suc longest) b) ≡ held_in b
  unfolding held_in held_unless
  cut_held = cut_unless held_unless (λ r c. refl)

  pub cut_stopped : stopped_in (take (suc longest) b) ≡ stopped_in b
  unfolding stopped_in stopped_with
  cut_stopped = ap (λ (a : Option ℕ). stopped_with a (take (suc longest) b)) cut_read ∙ go (read_answer b) refl
    where
      pick : {r : ℕ} → read_answer b ≡ some r → T (eqb r 11) ⊎ (T (eqb r 11) → ⊥) → cond (eqb r 11) (stops_in (take (suc longest) b)) 0 ≡ cond (eqb r 11) (stops_in b) 0
      pick {r} e (inl t) =
          ap (λ (x : ℕ). cond (eqb r 11) x 0)
          (stops_alike b (take (suc longest) b) alike_cut (λ h. let late = refused_late b (e ∙ ap some (eqb→eq r 11 t)) h in (late.0, late.1)))
      pick {r} e (inr out) = cond_no (eqb r 11) (stops_in (take (suc longest) b)) 0 out ∙ sym (cond_no (eqb r 11) (stops_in b) 0 out)

      go : (a : Option ℕ) → read_answer b ≡ a → stopped_with a (take (suc longest) b) ≡ stopped_with a b
      go none e = refl
      go (some r) e = pick e (decided (eqb r 11))
