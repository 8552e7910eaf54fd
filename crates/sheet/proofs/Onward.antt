-- One line more: what the proofs of the reader need of it.
--   width_small              a line takes at most 13 bytes
--   sound_kept               n, m and k stay small while the next line is worth reading
--   after_none, after_one    no line, and one more
--   after_low, after_sound   where the reader stands after so many lines, and what they come to
--   after_sheet, after_steps the reader's bytes stay; offset and lines are those of `steps`
--   after_whole, after_few   line 1, then as many lines as it says, are the whole sheet; they are not too many
-- Assumes nothing.
use Prim.Native.Nat.{ℕ, zero, suc, ◌+◌, ◌*◌, ◌≤◌, ◌<◌}
use mathlib.Core.Path.{◌≡◌, refl, sym, ◌∙◌, ap, ap₂, subst}
use mathlib.Core.Bool.{Bool, true, false, cond, not, ◌&&◌, ◌||◌}
use mathlib.Core.List.{List}
use native.Mathlib.Numerals.{add-one}
use native.Mathlib.Omega.{arith}
use lib.Dec.{T, ltb, leb, eqb, not_T, T_not}
use Rattle.bitset.proofs.Tests.{not_not}
use Rattle.searches.specs.Ordering.{at}
use Rattle.fields.specs.Field.{field_at}
use Rattle.lines.specs.Line.{link_fits_at}
use Rattle.sheet.specs.Parsing.{blank, advanced, advanced_by, step, steps, parsed_of}
use Rattle.lines.specs.Line.{halted, begun, head_read, link_added, link_read, place_added, place_read, end_read, next_line, Sound}
use Rattle.lines.specs.declared.Parsed.{Parsed}
use Rattle.sheet.specs.declared.reader.Progress.{Progress}
use Rattle.lines.proofs.LineByLine.{numbers_out}
use Rattle.sheet.proofs.Form.{not_large}

-- what holds of both sides holds of the choice
either : (P : Parsed → Type 0) (c : Bool) (x y : Parsed) → (T c → P x) → ((T c → ⊥) → P y) → P (cond c x y)
either P true x y left right = left tt
either P false x y left right = right (λ t. t)

module _ (b : List ℕ) (i : ℕ) (p : Parsed) where
  -- the form of line 1
  abbrev Form : ℕ → ℕ → ℕ → ℕ → Bool
  Form n m k e = ((ltb n 10000 && ltb m 10000) && ltb k 10000) && eqb e 10

  -- what holds of each line that may be due holds of the one that is
  next_each : (P : Parsed → Type 0) → P (halted p) → (T p.sound → (n m k e : ℕ) → T (Form n m k e) → P (begun n m k p))
      → (T p.sound → (u v : ℕ) → P (link_added u v p)) → (T p.sound → (v : ℕ) → P (place_added v p)) → (T p.sound → P (end_read b i p)) → P (next_line b i p)
  unfolding next_line head_read link_read place_read
  next_each P stop head link place end =
      either P (not p.sound) (halted p)
      (cond (eqb p.good 0) (head_read b i p)
      (cond (leb p.good p.content.m) (link_read b i p) (cond (leb p.good (p.content.m + p.content.k)) (place_read b i p) (end_read b i p))))
      (λ _. stop) (λ f.
      let sound = not_not p.sound (not_T (not p.sound) f) in
      either P (eqb p.good 0) (head_read b i p)
      (cond (leb p.good p.content.m) (link_read b i p) (cond (leb p.good (p.content.m + p.content.k)) (place_read b i p) (end_read b i p)))
      (λ _.
      let n = field_at b i in
      let m = field_at b (i + 4) in
      let k = field_at b (i + 8) in
      either P (Form n m k (at b (i + 12))) (begun n m k p) (halted p) (head sound n m k (at b (i + 12))) (λ _. stop)) (λ _.
      either P (leb p.good p.content.m) (link_read b i p) (cond (leb p.good (p.content.m + p.content.k)) (place_read b i p) (end_read b i p))
      (λ _.
      either P (link_fits_at b i p.content.n p.content.from p.content.to) (link_added (field_at b i) (field_at b (i + 4)) p) (halted p)
      (λ _. link sound (field_at b i) (field_at b (i + 4))) (λ _. stop)) (λ _.
      either P (leb p.good (p.content.m + p.content.k)) (place_read b i p) (end_read b i p)
      (λ _. either P (ltb (field_at b i) 10000 && eqb (at b (i + 4)) 10) (place_added (field_at b i) p) (halted p) (λ _. place sound (field_at b i)) (λ _. stop))
      (λ _. end sound))))

  pub width_small : (next_line b i p).width ≤ 13
  unfolding begun link_added place_added end_read
  width_small = next_each (λ r. r.width ≤ 13) (omega arith) (λ _ n m k e _. omega arith) (λ _ u v. omega arith) (λ _ v. omega arith) (λ _. omega arith)

  -- line 1 that has the form, with numbers that are not too large
  begun_sound : (n m k e : ℕ) → T (Form n m k e) → Sound (begun n m k p)
  unfolding begun
  begun_sound n m k e form t =
      let small = not_large n k (T_not (ltb 64 n || ltb n k) t) in
      (small.0, small.1, (numbers_out n m k (eqb e 10) form).0)

  pub sound_kept : Sound p → Sound (next_line b i p)
  unfolding link_added place_added end_read
  sound_kept s = next_each Sound (λ t. absurd t) (λ _ n m k e form. begun_sound n m k e form) (λ t u v _. s t) (λ t v _. s t) (λ t _. s t)

  -- line 1 says of few lines that they follow
  begun_few : (n m k e : ℕ) → T (Form n m k e) → (begun n m k p).rest ≤ 10064
  unfolding begun
  begun_few n m k e form = go (ltb 64 n || ltb n k) (λ f. begun_sound n m k e form (not_T (ltb 64 n || ltb n k) f))
    where
      go : (large : Bool) → ((T large → ⊥) → (n ≤ 64) × (k ≤ n) × (m < 10000)) → cond large 0 (m + k + 1) ≤ 10064
      go true small = omega arith
      go false small = let x = small (λ t. t) in omega (arith, x.0, x.1, x.2)

  rest_few : p.rest ≤ 10064 → (next_line b i p).rest ≤ 10064
  unfolding link_added place_added end_read
  rest_few few = next_each (λ r. r.rest ≤ 10064) few (λ _ n m k e form. begun_few n m k e form) (λ _ u v. few) (λ _ v. few) (λ _. few)

module _ (g : Progress) where
  pub after_none : advanced_by g 0 ≡ g
  unfolding advanced_by
  after_none = refl

  pub after_one : (j : ℕ) → advanced (advanced_by g j) ≡ advanced_by g (j + 1)
  unfolding advanced_by
  after_one j = subst (λ (k : ℕ). advanced (advanced_by g j) ≡ advanced_by g k) (sym (add-one j)) refl

  pub after_low : (j : ℕ) → (advanced_by g j).reader.at ≤ g.reader.at + 13 * j
  unfolding advanced_by
  after_low zero = omega arith
  after_low (suc j) =
      let r = advanced_by g j in
      let low : r.reader.at ≤ g.reader.at + 13 * j = after_low j in
      omega (arith, low, width_small r.reader.sheet.now r.reader.at r.parsed)

  pub after_sound : Sound g.parsed → (j : ℕ) → Sound (advanced_by g j).parsed
  unfolding advanced_by
  after_sound s zero = s
  after_sound s (suc j) = let r = advanced_by g j in sound_kept r.reader.sheet.now r.reader.at r.parsed (after_sound s j)

  pub after_sheet : (j : ℕ) → (advanced_by g j).reader.sheet ≡ g.reader.sheet
  unfolding advanced_by
  after_sheet zero = refl
  after_sheet (suc j) = after_sheet j

  pub after_steps : (j : ℕ) → ((advanced_by g j).reader.at, (advanced_by g j).parsed) ≡ steps g.reader.sheet.now j (g.reader.at, g.parsed)
  unfolding advanced_by steps step
  after_steps zero = refl
  after_steps (suc j) = λ z. step (after_sheet j z).now (after_steps j z)

module _ (g : Progress) where
  -- line 1, then as many lines as it says, is the whole sheet
  pub after_whole : g.reader.at ≡ 0 → g.parsed ≡ blank → (advanced_by (advanced_by g 1) (advanced_by g 1).parsed.rest).parsed ≡ parsed_of g.reader.sheet.now
  unfolding parsed_of
  after_whole start none_yet =
      let b = g.reader.sheet.now in
      let first = advanced_by g 1 in
      let begun_at : (first.reader.at, first.parsed) ≡ steps b 1 (0, blank) = after_steps g 1 ∙ ap₂ (λ (i : ℕ) (p : Parsed). steps b 1 (i, p)) start none_yet in
      ap (λ (s : ℕ × Parsed). s.1) (after_steps first first.parsed.rest)
      ∙ (λ z. (steps (after_sheet g 1 z).now (begun_at z).1.rest (begun_at z)).1)

  pub after_few : g.reader.at ≡ 0 → g.parsed ≡ blank → (advanced_by g 1).reader.at + 13 * (advanced_by g 1).parsed.rest < 900000
  unfolding advanced_by
  after_few start none_yet =
      let few = rest_few g.reader.sheet.now g.reader.at g.parsed (subst (λ (p : Parsed). p.rest ≤ 10064) (sym none_yet) (omega arith)) in
      omega (arith, start, few, width_small g.reader.sheet.now g.reader.at g.parsed)
