-- The line in which a sheet stops having the form: what the definitions mean.
--   stops_at                 where so many lines have the form and the next one has not, that next one is the line
--   stops_line               all lines before it have the form; it has not, or it is the one after the last
--   stopped_eleven, stopped_else     it is told exactly where the sheet is refused with 11; else 0
--   stopped_few              it is at most 2082, so a field has room for it
-- Assumes nothing.
use Prim.Native.Nat.{ℕ, suc, ◌+◌, ◌-◌, ◌≤◌, ◌<◌}
use mathlib.Core.Path.{◌≡◌, refl, sym, ap, ◌∙◌, subst}
use mathlib.Core.Bool.{Bool, cond, not}
use mathlib.Core.Logic.{◌⊎◌, inl, inr}
use mathlib.Core.List.{List}
use mathlib.Core.Option.{Option, none, some}
use native.Mathlib.Omega.{arith}
use lib.Dec.{T, eqb, eqb→eq, not_T, T_not}
use Rattle.bitset.specs.Below.{first_below}
use Rattle.bitset.proofs.Tests.{decided, below_or, cond_yes, cond_no}
use Rattle.bitset.proofs.Below.{first, first_unique, first_earliest}
use Rattle.sheet.specs.Sheet.{points_of, links_of, places_of, headed, line_fits, read_answer, stops_in, stopped_with, stopped_in}
use Rattle.sheet.proofs.Form.{fits_before, out_there, line_link}
use Rattle.sheet.proofs.Sheets.{refused_late}
use Rattle.sheet.proofs.Accepted.{line_out}
use Rattle.sheet.proofs.Longest.{links_most}

module _ (b : List ℕ) where
  abbrev lines : ℕ
  lines = suc (links_of b + places_of b)

  abbrev misfits : ℕ → Bool
  misfits l = not (line_fits b l)

  pub stops_at : (g : ℕ) → g ≤ lines → ((l : ℕ) → l < g → T (line_fits b l)) → (g < lines → T (line_fits b g) → ⊥) → suc g ≡ stops_in b
  unfolding stops_in
  stops_at g within fit out =
      ap suc (first_unique (record { within = within; holds = λ l. not_T (line_fits b g) (out l); least = λ i l t. T_not (line_fits b i) t (fit i l) }))

  pub stops_line : (l : ℕ) → stops_in b ≡ suc l → ((i : ℕ) → i < l → T (line_fits b i)) × ((T (line_fits b l) → ⊥) ⊎ (l ≡ lines))
  unfolding stops_in
  stops_line l e =
      let here : first_below lines misfits ≡ l = omega (arith, e) in
      (λ i h. fits_before lines (line_fits b) i (omega (arith, here, h)), go here (below_or (first_below lines misfits) lines))
    where
      go : first_below lines misfits ≡ l → (first_below lines misfits < lines) ⊎ (lines ≤ first_below lines misfits) → (T (line_fits b l) → ⊥) ⊎ (l ≡ lines)
      go here (inl low) = inl (subst (λ (x : ℕ). T (line_fits b x) → ⊥) here (out_there lines (line_fits b) low))
      go here (inr high) = inr (omega (arith, here, high, (first lines misfits).within))

  pub stopped_eleven : read_answer b ≡ some 11 → stopped_in b ≡ stops_in b
  unfolding stopped_in stopped_with
  stopped_eleven e = ap (λ (answer : Option ℕ). stopped_with answer b) e

  pub stopped_else : (read_answer b ≡ some 11 → ⊥) → stopped_in b ≡ 0
  unfolding stopped_in stopped_with
  stopped_else other = go (read_answer b) refl
    where
      go : (answer : Option ℕ) → read_answer b ≡ answer → stopped_with answer b ≡ 0
      go none e = refl
      go (some r) e = cond_no (eqb r 11) (stops_in b) 0 (λ t. other (e ∙ ap some (eqb→eq r 11 t)))

  -- ---- how far it can be

  -- the links before the first line that has not the form
  links_before : T (headed b) → points_of b ≤ 64 → (j : ℕ) → j ≤ links_of b → suc j ≤ first_below lines misfits → j ≤ 2016
  links_before head few j l before =
      links_most b j (λ i h. line_out b i (subst (λ (x : Bool). T x) (line_link b i (omega arith)) (fits_before lines (line_fits b) (suc i) (omega arith)))) few

  stops_few : (T (headed b) → (points_of b ≤ 64) × (places_of b ≤ points_of b)) → stops_in b ≤ 2082
  unfolding stops_in line_fits
  stops_few small = go (decided (headed b))
    where
      early : T (headed b) → first_below lines misfits ≤ links_of b → (0 < first_below lines misfits) ⊎ (first_below lines misfits ≤ 0) → suc (first_below lines misfits) ≤ 2082
      early head low (inl some_fit) = let few = links_before head (small head).0 (first_below lines misfits - 1) (omega (arith, low)) (omega (arith, some_fit)) in omega (arith, few)
      early head low (inr none-fits) = omega (arith, none-fits)

      late : T (headed b) → (links_of b < first_below lines misfits) ⊎ (first_below lines misfits ≤ links_of b) → suc (first_below lines misfits) ≤ 2082
      late head (inl high) =
          let few = links_before head (small head).0 (links_of b) (omega arith) high in
          omega (arith, few, (small head).0, (small head).1, (first lines misfits).within)
      late head (inr low) = early head low (below_or 0 (first_below lines misfits))

      go : T (headed b) ⊎ (T (headed b) → ⊥) → suc (first_below lines misfits) ≤ 2082
      go (inl head) = late head (below_or (links_of b) (first_below lines misfits))
      go (inr out) = let at_once = first_earliest lines misfits 0 (not_T (headed b) out) in omega (arith, at_once)

  pub stopped_few : stopped_in b ≤ 2082
  unfolding stopped_in stopped_with
  stopped_few = go (read_answer b) refl
    where
      pick : {r : ℕ} → read_answer b ≡ some r → T (eqb r 11) ⊎ (T (eqb r 11) → ⊥) → cond (eqb r 11) (stops_in b) 0 ≤ 2082
      pick {r} e (inl t) =
          subst (λ (x : ℕ). x ≤ 2082) (sym (cond_yes (eqb r 11) (stops_in b) 0 t))
          (stops_few (λ head. let late = refused_late b (e ∙ ap some (eqb→eq r 11 t)) head in (late.0, late.1)))
      pick {r} e (inr f) = subst (λ (x : ℕ). x ≤ 2082) (sym (cond_no (eqb r 11) (stops_in b) 0 f)) (omega arith)

      go : (answer : Option ℕ) → read_answer b ≡ answer → stopped_with answer b ≤ 2082
      go none e = omega arith
      go (some r) e = pick e (decided (eqb r 11))
