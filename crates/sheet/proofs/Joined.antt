-- The rows that the links of a sheet make, bit by bit.
--   joins u v x y           the link of u and v leads from x to y
--   joins_in, joins_out     its two ends are u and v;   joins_back   it leads both ways
--   joined_length, member_joined   a link more: as many rows as before, its two bits are set, and no others
--   rows_length, rows_words there are 64 rows, each a word of 64 bits (AllWords);   set_words   so they are with another word in one row
--   Small b j               the points of the first j links are below 64
--   member_rows             bit y of row x is set exactly when a link leads from x to y
-- Assumes nothing.
use Prim.Native.Nat.{ℕ, zero, suc, ◌^◌, ◌<◌}
use mathlib.Core.Path.{◌≡◌, refl, sym, ap, ap₂, ◌∙◌, subst}
use mathlib.Core.Bool.{Bool, ◌&&◌, ◌||◌, or_comm, or_assoc, and_comm}
use mathlib.Core.Logic.{◌⊎◌, inl, inr}
use mathlib.Core.List.{List, [], ◌∷◌}
use native.Mathlib.Omega.{arith}
use borrow.Author.Tests.{eq-eqb}
use lib.Dec.{T, eqb, eqb→eq, eqb_refl}
use lib.ListN.{length, set, replicate, length-set, length-replicate}
use lib.Seq.{get_or-set_same, get_or-set_other}
use Rattle.bitset.specs.Below.{any_below}
use Rattle.bitset.specs.Word.{member, inserted}
use Rattle.bitset.proofs.Tests.{and_in, and_out, or_inr, or_out, decided, is_false}
use Rattle.bitset.proofs.Word.{member_inserted, member_zero, inserted_word}
use Rattle.searches.specs.Ordering.{at}
use Rattle.sheet.specs.Sheet.{from_of, to_of, joined_rows}
use Rattle.lines.specs.Line.{joined}

unfoldable pub joins : ℕ → ℕ → ℕ → ℕ → Bool
joins u v x y = (eqb v x && eqb u y) || (eqb u x && eqb v y)

module _ (u v x y : ℕ) where
  pub joins_back : joins u v x y ≡ joins u v y x
  unfolding joins
  joins_back =
      or_comm (eqb v x && eqb u y) (eqb u x && eqb v y)
      ∙ ap₂ (λ (a b : Bool). a || b) (and_comm (eqb u x) (eqb v y)) (and_comm (eqb v x) (eqb u y))

  pub joins_out : T (joins u v x y) → ((u ≡ x) × (v ≡ y)) ⊎ ((u ≡ y) × (v ≡ x))
  unfolding joins
  joins_out t = go (or_out (eqb v x && eqb u y) (eqb u x && eqb v y) t)
    where
      go : T (eqb v x && eqb u y) ⊎ T (eqb u x && eqb v y) → ((u ≡ x) × (v ≡ y)) ⊎ ((u ≡ y) × (v ≡ x))
      go (inl s) = let both = and_out (eqb v x) (eqb u y) s in inr (eqb→eq u y both.1, eqb→eq v x both.0)
      go (inr s) = let both = and_out (eqb u x) (eqb v y) s in inl (eqb→eq u x both.0, eqb→eq v y both.1)

pub joins_in : (u v : ℕ) → T (joins u v u v)
unfolding joins
joins_in u v = or_inr (eqb v u && eqb u v) (eqb u u && eqb v v) (and_in (eqb u u) (eqb v v) (eqb_refl u) (eqb_refl v))

-- ---- one link more

-- v is put into row u
member_entered : (rows : List ℕ) {u v : ℕ} → u < length rows → v < 64 → (x y : ℕ)
    → member (at (set rows u (inserted (at rows u) v)) x) y ≡ ((eqb u x && eqb v y) || member (at rows x) y)
member_entered rows {u} {v} hu hv x y = go (decided (eqb u x))
  where
    go : T (eqb u x) ⊎ (T (eqb u x) → ⊥) → member (at (set rows u (inserted (at rows u) v)) x) y ≡ ((eqb u x && eqb v y) || member (at rows x) y)
    go (inl t) =
        subst (λ (z : ℕ). member (at (set rows u (inserted (at rows u) v)) z) y ≡ ((eqb u z && eqb v y) || member (at rows z) y)) (eqb→eq u x t)
        (ap (λ (z : ℕ). member z y) (get_or-set_same rows u (inserted (at rows u) v) 0 hu) ∙ member_inserted (at rows u) hv y
        ∙ ap (λ (b : Bool). (b && eqb v y) || member (at rows u) y) (sym (eq-eqb u u refl)))
    go (inr out) =
        ap (λ (z : ℕ). member z y) (get_or-set_other rows u x (inserted (at rows u) v) 0 (λ e. out (subst (λ (z : ℕ). T (eqb z x)) e (eqb_refl x))))
        ∙ sym (ap (λ (b : Bool). (b && eqb v y) || member (at rows x) y) (is_false (eqb u x) out))

module _ (rows : List ℕ) (u v : ℕ) where
  pub joined_length : length (joined u v rows) ≡ length rows
  unfolding joined
  joined_length =
      let half = set rows u (inserted (at rows u) v) in
      length-set half v (inserted (at half v) u) ∙ length-set rows u (inserted (at rows u) v)

  pub member_joined : u < length rows → v < length rows → u < 64 → v < 64 → (x y : ℕ)
      → member (at (joined u v rows) x) y ≡ (joins u v x y || member (at rows x) y)
  unfolding joined joins
  member_joined lu lv hu hv x y =
      let half = set rows u (inserted (at rows u) v) in
      member_entered half {u = v} {v = u} (subst (λ (n : ℕ). v < n) (sym (length-set rows u (inserted (at rows u) v))) lv) hu x y
      ∙ ap (λ (b : Bool). (eqb v x && eqb u y) || b) (member_entered rows lu hv x y)
      ∙ sym (or_assoc (eqb v x && eqb u y) (eqb u x && eqb v y) (member (at rows x) y))

-- ---- all links

-- every row is a word of 64 bits
abbrev pub AllWords : List ℕ → Type 0
AllWords rows = (x : ℕ) → at rows x < 2 ^ 64

pub set_words : (rows : List ℕ) (u r : ℕ) → AllWords rows → r < 2 ^ 64 → AllWords (set rows u r)
set_words [] u r words small x = words x
set_words (row ∷ rows) zero r words small zero = small
set_words (row ∷ rows) zero r words small (suc x) = words (suc x)
set_words (row ∷ rows) (suc u) r words small zero = words zero
set_words (row ∷ rows) (suc u) r words small (suc x) = set_words rows u r (λ y. words (suc y)) small x

all_zero : (n x : ℕ) → at (replicate n 0) x ≡ 0
all_zero zero x = refl
all_zero (suc n) zero = refl
all_zero (suc n) (suc x) = all_zero n x

module _ (b : List ℕ) where
  pub rows_length : (j : ℕ) → length (joined_rows b j) ≡ 64
  unfolding joined_rows
  rows_length zero = length-replicate {A = ℕ} 64 0
  rows_length (suc j) = joined_length (joined_rows b j) (from_of b j) (to_of b j) ∙ rows_length j

  pub rows_words : (j : ℕ) → AllWords (joined_rows b j)
  unfolding joined_rows joined
  rows_words zero x = subst (λ (y : ℕ). y < 2 ^ 64) (sym (all_zero 64 x)) (omega arith)
  rows_words (suc j) x =
      let u = from_of b j in
      let v = to_of b j in
      let rows = joined_rows b j in
      let half = set rows u (inserted (at rows u) v) in
      let fine : AllWords half = set_words rows u (inserted (at rows u) v) (rows_words j) (inserted_word (rows_words j u) v) in
      set_words half v (inserted (at half v) u) fine (inserted_word (fine v) u) x

  abbrev pub Small : ℕ → Type 0
  Small j = (i : ℕ) → i < j → (from_of b i < 64) × (to_of b i < 64)

  pub member_rows : (j : ℕ) → Small j → (x y : ℕ) → member (at (joined_rows b j) x) y ≡ any_below j (λ i. joins (from_of b i) (to_of b i) x y)
  unfolding joined_rows any_below
  member_rows zero small x y = ap (λ (z : ℕ). member z y) (all_zero 64 x) ∙ member_zero y
  member_rows (suc j) small x y =
      let here = small j (omega arith) in
      let long : length (joined_rows b j) ≡ 64 = rows_length j in
      let u : from_of b j < 64 = here.0 in
      let v : to_of b j < 64 = here.1 in
      member_joined (joined_rows b j) (from_of b j) (to_of b j) (omega arith) (omega arith) u v x y
      ∙ ap (λ (t : Bool). joins (from_of b j) (to_of b j) x y || t) (member_rows j (λ i l. small i (omega arith)) x y)
