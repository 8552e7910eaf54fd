-- Bytes that stand in a list of bytes, and what is read where they do.
--   equal_test                      equal numbers pass the test
--   Stands b i l                    the bytes l stand in b from i on
--   stands_left, stands_right, stands_both     two lists one behind the other
--   stands_whole, whole_stands      a list stands in itself, and in no other that is as long
--   lines_length, stands_line, lines_stand     lines of one length: how long they are; each stands where its turn comes
--   field_read, field_written       where a field stands, its number is read;   stands_byte, byte_stands   and a byte
-- Assumes nothing.
use Prim.Native.Nat.{ℕ, zero, suc, ◌+◌, ◌-◌, ◌*◌, ◌/◌, ◌≤◌, ◌<◌}
use native.Mathlib.Nat.{add-zero, zero-add, mul-suc, mul-zero}
use mathlib.Core.Path.{◌≡◌, sym, ap, ◌∙◌, subst}
use mathlib.Core.Bool.{◌&&◌}
use mathlib.Core.Logic.{◌⊎◌, inl, inr}
use mathlib.Core.List.{List, [], ◌∷◌, ◌++◌}
use native.Mathlib.Omega.{arith}
use lib.Dec.{T, eqb, eqb→eq, eqb_refl}
use lib.ListN.{length, length-append, get_or-append}
use lib.Seq.{get_or-append-add, ext_get_or}
use Rattle.bitset.proofs.Tests.{and_in, and_out, below_or}
use Rattle.bitset.proofs.Below.{first}
use Rattle.searches.specs.Ordering.{at}
use Rattle.fields.specs.Field.{ones, lead, field, is_field_at, field_at}
use Rattle.sheet.specs.Written.{lines}
use Rattle.fields.proofs.Fields.{decoded, field_found}

pub equal_test : {x y : ℕ} → x ≡ y → T (eqb x y)
equal_test {x} e = subst (λ (z : ℕ). T (eqb x z)) e (eqb_refl x)

abbrev pub Stands : List ℕ → ℕ → List ℕ → Type 0
Stands b i l = (r : ℕ) → r < length l → at b (i + r) ≡ at l r

pub stands_whole : (b : List ℕ) → Stands b 0 b
stands_whole b r h = ap (λ (y : ℕ). at b y) (zero-add r)

pub whole_stands : (b l : List ℕ) → length b ≡ length l → Stands b 0 l → b ≡ l
whole_stands b l e s = ext_get_or 0 b l e (λ r h. ap (λ (y : ℕ). at b y) (sym (zero-add r)) ∙ s r (omega arith))

module _ (b : List ℕ) (i : ℕ) (l l' : List ℕ) where
  pub stands_left : Stands b i (l ++ l') → Stands b i l
  stands_left s r h = s r (omega (arith, length-append l l')) ∙ get_or-append l l' 0 r h

  pub stands_right : Stands b i (l ++ l') → Stands b (i + length l) l'
  stands_right s r h =
      let e : i + length l + r ≡ i + (length l + r) = omega arith in
      ap (λ (y : ℕ). at b y) e ∙ s (length l + r) (omega (arith, length-append l l')) ∙ get_or-append-add l l' r 0

  pub stands_both : Stands b i l → Stands b (i + length l) l' → Stands b i (l ++ l')
  stands_both s s' r h = go (below_or r (length l))
    where
      go : (r < length l) ⊎ (length l ≤ r) → at b (i + r) ≡ at (l ++ l') r
      go (inl g) = s r g ∙ sym (get_or-append l l' 0 r g)
      go (inr g) =
          let d : ℕ = r - length l in
          let e : r ≡ length l + d = omega arith in
          let e' : i + r ≡ i + length l + d = omega arith in
          ap (λ (y : ℕ). at b y) e' ∙ s' d (omega (arith, length-append l l')) ∙ sym (get_or-append-add l l' d 0) ∙ ap (λ (y : ℕ). at (l ++ l') y) (sym e)

-- ---- lines

module _ (b : List ℕ) (line : ℕ → List ℕ) (size : ℕ) (sized : (x : ℕ) → length (line x) ≡ size) where
  pub lines_length : (l : List ℕ) → length (lines line l) ≡ size * length l
  unfolding lines
  lines_length [] = sym (mul-zero size)
  lines_length (x ∷ l) = length-append (line x) (lines line l) ∙ omega (arith, sized x, lines_length l, mul-suc size (length l))

  -- the line that comes j-th after the first is the j-th of the rest
  later : (i x j : ℕ) → i + length (line x) + size * j ≡ i + size * suc j
  later i x j = omega (arith, sized x, mul-suc size j)

  pub stands_line : (i : ℕ) (l : List ℕ) → Stands b i (lines line l) → (j : ℕ) → j < length l → Stands b (i + size * j) (line (at l j))
  unfolding lines
  stands_line i [] s j h = absurd (omega arith)
  stands_line i (x ∷ l) s zero h =
      subst (λ (y : ℕ). Stands b y (line x)) (sym (ap (λ (y : ℕ). i + y) (mul-zero size) ∙ add-zero i)) (stands_left b i (line x) (lines line l) s)
  stands_line i (x ∷ l) s (suc j) h =
      subst (λ (y : ℕ). Stands b y (line (at l j))) (later i x j)
      (stands_line (i + length (line x)) l (stands_right b i (line x) (lines line l) s) j (omega arith))

  pub lines_stand : (i : ℕ) (l : List ℕ) → ((j : ℕ) → j < length l → Stands b (i + size * j) (line (at l j))) → Stands b i (lines line l)
  unfolding lines
  lines_stand i [] each = λ r h. absurd (omega arith)
  lines_stand i (x ∷ l) each =
      stands_both b i (line x) (lines line l)
      (subst (λ (y : ℕ). Stands b y (line x)) (ap (λ (y : ℕ). i + y) (mul-zero size) ∙ add-zero i) (each 0 (omega arith)))
      (lines_stand (i + length (line x)) l (λ j h. subst (λ (y : ℕ). Stands b y (line (at l j))) (sym (later i x j)) (each (suc j) (omega arith))))

-- ---- fields and bytes

module _ (b : List ℕ) (i : ℕ) where
  pub stands_byte : {c : ℕ} → Stands b i (c ∷ []) → at b i ≡ c
  stands_byte s = ap (λ (y : ℕ). at b y) (sym (add-zero i)) ∙ s 0 (omega arith)

  pub byte_stands : {c : ℕ} → at b i ≡ c → Stands b i (c ∷ [])
  byte_stands e zero h = ap (λ (y : ℕ). at b y) (add-zero i) ∙ e
  byte_stands e (suc r) h = absurd (omega arith)

  stands_field : (x : ℕ) → Stands b i (field x) → T (is_field_at b i x)
  unfolding is_field_at field
  stands_field x s =
      let e1 = eqb (at b i) (lead (x / 10 / 10 / 10)) in
      let e2 = eqb (at b (i + 1)) (lead (x / 10 / 10)) in
      let e3 = eqb (at b (i + 2)) (lead (x / 10)) in
      let e4 = eqb (at b (i + 3)) (ones x) in
      and_in (e1 && e2) (e3 && e4)
      (and_in e1 e2 (equal_test (ap (λ (y : ℕ). at b y) (sym (add-zero i)) ∙ s 0 (omega arith))) (equal_test (s 1 (omega arith))))
      (and_in e3 e4 (equal_test (s 2 (omega arith))) (equal_test (s 3 (omega arith))))

  field_stands : (x : ℕ) → T (is_field_at b i x) → Stands b i (field x)
  unfolding is_field_at field
  field_stands x t =
      let e1 = eqb (at b i) (lead (x / 10 / 10 / 10)) in
      let e2 = eqb (at b (i + 1)) (lead (x / 10 / 10)) in
      let e3 = eqb (at b (i + 2)) (lead (x / 10)) in
      let e4 = eqb (at b (i + 3)) (ones x) in
      let halves = and_out (e1 && e2) (e3 && e4) t in
      let left = and_out e1 e2 halves.0 in
      let right = and_out e3 e4 halves.1 in
      go (eqb→eq (at b i) (lead (x / 10 / 10 / 10)) left.0) (eqb→eq (at b (i + 1)) (lead (x / 10 / 10)) left.1)
      (eqb→eq (at b (i + 2)) (lead (x / 10)) right.0) (eqb→eq (at b (i + 3)) (ones x) right.1)
    where
      go : {p q r o : ℕ} → at b i ≡ p → at b (i + 1) ≡ q → at b (i + 2) ≡ r → at b (i + 3) ≡ o → Stands b i (p ∷ q ∷ r ∷ o ∷ [])
      go e f g h zero l = ap (λ (y : ℕ). at b y) (add-zero i) ∙ e
      go e f g h (suc zero) l = f
      go e f g h (suc (suc zero)) l = g
      go e f g h (suc (suc (suc zero))) l = h
      go e f g h (suc (suc (suc (suc y)))) l = absurd (omega arith)

  -- a field and what follows it
  pub field_read : (x : ℕ) (l : List ℕ) → x < 10000 → Stands b i (field x ++ l) → (field_at b i ≡ x) × Stands b (i + 4) l
  unfolding field
  field_read x l small s =
      let t = stands_field x (stands_left b i (field x) l s) in
      (sym (field_found b i (sym (decoded b i x small t)) t), stands_right b i (field x) l s)

  pub field_written : (x : ℕ) (l : List ℕ) → x < 10000 → field_at b i ≡ x → Stands b (i + 4) l → Stands b i (field x ++ l)
  unfolding field field_at
  field_written x l small e s =
      stands_both b i (field x) l
      (field_stands x (subst (λ (y : ℕ). T (is_field_at b i y)) e ((first 10000 (is_field_at b i)).holds (subst (λ (y : ℕ). y < 10000) (sym e) small)))) s
