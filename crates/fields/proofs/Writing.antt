-- Lines written field by field.
--   sets_append            what is written behind what was written
--   put_is                 the four columns of a field
--   line_long              how long a line is
--   Lining l at numbers out end i      the fields of the first i numbers are written, up to end;   lining_*
-- Assumes nothing.
use Prim.Native.Nat.{ℕ, suc, ◌+◌, ◌*◌, ◌/◌, ◌≤◌, ◌<◌}
use mathlib.Core.Path.{◌≡◌, refl, sym, ap, ap₂, ◌∙◌, subst}
use mathlib.Core.List.{List, [], ◌∷◌, ◌++◌, append_assoc, append-nil}
use native.Mathlib.Numerals.{add-one}
use native.Mathlib.Omega.{arith}
use lib.ListN.{length, set, get_or, take, length-append}
use lib.Seq.{sets, take_all, length-take-le, take-suc}
use Rattle.fields.specs.Field.{ones, lead, field, fields, line}

pub sets_append : (l : List ℕ) (i : ℕ) (xs ys : List ℕ) → sets l i (xs ++ ys) ≡ sets (sets l i xs) (i + length xs) ys
sets_append l i [] ys = let e : i ≡ i + 0 = omega arith in ap (λ (m : ℕ). sets l m ys) e
sets_append l i (x ∷ xs) ys =
    let e : suc i + length xs ≡ i + suc (length xs) = omega arith in
    sets_append (set l i x) (suc i) xs ys ∙ ap (λ (m : ℕ). sets (sets (set l i x) (suc i) xs) m ys) e

pub put_is : (l : List ℕ) (i x : ℕ) {a b c d : ℕ} → a ≡ lead (x / 10 / 10 / 10) → b ≡ lead (x / 10 / 10) → c ≡ lead (x / 10) → d ≡ ones x
    → set (set (set (set l i a) (i + 1) b) (i + 2) c) (i + 3) d ≡ sets l i (field x)
unfolding field
put_is l i x {a} {b} {c} {d} p q r s =
    let one : i + 1 ≡ suc i = omega arith in
    let two : i + 2 ≡ suc (suc i) = omega arith in
    let three : i + 3 ≡ suc (suc (suc i)) = omega arith in
    ap₂ (λ (y z : ℕ). set (set (set (set l i a) y b) z c) (i + 3) d) one two
    ∙ ap (λ (y : ℕ). set (set (set (set l i a) (suc i) b) (suc (suc i)) c) y d) three
    ∙ ap₂ (λ (y z : ℕ). set (set (set (set l i y) (suc i) z) (suc (suc i)) c) (suc (suc (suc i))) d) p q
    ∙ ap₂ (λ (y z : ℕ). set (set (set (set l i (lead (x / 10 / 10 / 10))) (suc i) (lead (x / 10 / 10))) (suc (suc i)) y) (suc (suc (suc i))) z) r s

fields_more : (xs : List ℕ) (x : ℕ) → fields (xs ++ x ∷ []) ≡ fields xs ++ field x
unfolding fields
fields_more [] x = append-nil (field x)
fields_more (y ∷ xs) x = ap (λ (b : List ℕ). field y ++ b) (fields_more xs x) ∙ sym (append_assoc (field y) (fields xs) (field x))

fields_long : (xs : List ℕ) → length (fields xs) ≡ 4 * length xs
unfolding fields field
fields_long [] = omega arith
fields_long (x ∷ xs) = omega (arith, length-append (field x) (fields xs), fields_long xs)

pub line_long : (xs : List ℕ) → length (line xs) ≡ 4 * length xs + 1
unfolding line
line_long xs = length-append (fields xs) (10 ∷ []) ∙ ap (λ (n : ℕ). n + 1) (fields_long xs)

-- the fields of the first i numbers stand in the list, up to end
pub record Lining (l : List ℕ) (at : ℕ) (numbers out : List ℕ) (end i : ℕ) : Type 0 where
  pub written : out ≡ sets l at (fields (take i numbers))
  pub place : end ≡ at + 4 * i

module _ (l : List ℕ) (at : ℕ) (numbers : List ℕ) where
  pub lining_start : Lining l at numbers l at 0
  unfolding fields
  lining_start = record { written = refl; place = omega arith }

  module _ {out : List ℕ} {end i : ℕ} (s : Lining l at numbers out end i) where
    behind : i ≤ length numbers → end ≡ at + length (fields (take i numbers))
    behind h = omega (arith, s.place, fields_long (take i numbers), length-take-le i numbers h)

    pub lining_next : i < length numbers → {x : ℕ} → x ≡ get_or numbers i 0 → {out' : List ℕ} {end' : ℕ} → out' ≡ sets out end (field x) → end' ≡ end + 4
        → Lining l at numbers out' end' (i + 1)
    lining_next h {x} is {out'} {end'} at_out at_end =
        let begun = fields (take i numbers) in
        let grown : fields (take (suc i) numbers) ≡ begun ++ field x =
        ap fields (take-suc numbers i 0 h) ∙ fields_more (take i numbers) (get_or numbers i 0) ∙ ap (λ (y : ℕ). begun ++ field y) (sym is) in
        subst (λ (j : ℕ). Lining l at numbers out' end' j) (sym (add-one i)) (record {
          written =
              at_out ∙ ap₂ (λ (m : List ℕ) (y : ℕ). sets m y (field x)) s.written (behind (omega (arith, h)))
              ∙ sym (sets_append l at begun (field x)) ∙ ap (λ (b : List ℕ). sets l at b) (sym grown);
          place = omega (arith, at_end, s.place);
        })

    pub lining_end : i ≡ length numbers → set out end 10 ≡ sets l at (line numbers)
    unfolding line
    lining_end all =
        let whole : take i numbers ≡ numbers = take_all i numbers (omega (arith, all)) in
        ap₂ (λ (m : List ℕ) (y : ℕ). sets m y (10 ∷ [])) s.written (behind (omega (arith, all)))
        ∙ sym (sets_append l at (fields (take i numbers)) (10 ∷ [])) ∙ ap (λ (b : List ℕ). sets l at (fields b ++ 10 ∷ [])) whole
