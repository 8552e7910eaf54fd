-- The form of a sheet, part by part.
--   first_out n f            the first number below n at which a test fails;   fits_before, out_there   it holds before, and fails there
--   not_large                n and k are not too large
--   head_out                 line 1 has the form
--   formed_out               the later lines have it, and nothing follows them
--   line_link, line_place    a line after the first is a link's or a place's
-- Assumes nothing.
use Prim.Native.Nat.{ℕ, suc, ◌-◌, ◌≤◌, ◌<◌}
use mathlib.Core.Path.{◌≡◌}
use mathlib.Core.Bool.{Bool, not, ◌&&◌, ◌||◌}
use mathlib.Core.List.{List}
use native.Mathlib.Omega.{arith}
use lib.Dec.{T, ltb, eqb, ltb→lt, lt→ltb, nltb→le, eqb→eq, not_T, T_not}
use lib.ListN.{length}
use Rattle.bitset.specs.Below.{all_below, first_below}
use Rattle.bitset.proofs.Tests.{and_out, not_not, or_inl, or_inr, cond_yes, cond_no}
use Rattle.bitset.proofs.Below.{first, all_out}
use Rattle.searches.specs.Ordering.{at}
use Rattle.lines.proofs.LineByLine.{numbers_out}
use Rattle.sheet.specs.Sheet.{points_of, links_of, places_of, headed, link_fits, place_start, place_fits, formed, line_fits}

-- ---- the first number at which a test fails

module _ (n : ℕ) (f : ℕ → Bool) where
  abbrev pub first_out : ℕ
  first_out = first_below n (λ i. not (f i))

  pub fits_before : (i : ℕ) → i < first_out → T (f i)
  fits_before i l = not_not (f i) (not_T (not (f i)) ((first n (λ i. not (f i))).least i l))

  pub out_there : first_out < n → T (f first_out) → ⊥
  out_there l t = T_not (f first_out) ((first n (λ i. not (f i))).holds l) t

-- ---- the tests on a sheet

pub not_large : (n k : ℕ) → (T (ltb 64 n || ltb n k) → ⊥) → (n ≤ 64) × (k ≤ n)
not_large n k out = (
  nltb→le 64 n (not_T (ltb 64 n) (λ t. out (or_inl (ltb 64 n) (ltb n k) t))),
  nltb→le n k (not_T (ltb n k) (λ t. out (or_inr (ltb 64 n) (ltb n k) t))),
)

module _ (b : List ℕ) where
  pub head_out : T (headed b) → (links_of b < 10000) × (at b 12 ≡ 10)
  unfolding headed
  head_out t = let x = numbers_out (points_of b) (links_of b) (places_of b) (eqb (at b 12) 10) t in (x.0, eqb→eq (at b 12) 10 x.2)

  pub formed_out : T (formed b) → ((j : ℕ) → j < links_of b → T (link_fits b j)) × ((j : ℕ) → j < places_of b → T (place_fits b j)) × (length b ≡ place_start b (places_of b))
  unfolding formed
  formed_out t =
      let links = all_below (links_of b) (link_fits b) in
      let places = all_below (places_of b) (place_fits b) in
      let whole = and_out (links && places) (eqb (length b) (place_start b (places_of b))) t in
      let both = and_out links places whole.0 in
      (all_out (links_of b) (link_fits b) both.0, all_out (places_of b) (place_fits b) both.1, eqb→eq (length b) (place_start b (places_of b)) whole.1)

  pub line_link : (j : ℕ) → j < links_of b → line_fits b (suc j) ≡ link_fits b j
  unfolding line_fits
  line_link j l = cond_yes (ltb j (links_of b)) (link_fits b j) (place_fits b (j - links_of b)) (lt→ltb j (links_of b) l)

  pub line_place : (j : ℕ) → links_of b ≤ j → line_fits b (suc j) ≡ place_fits b (j - links_of b)
  unfolding line_fits
  line_place j l = cond_no (ltb j (links_of b)) (link_fits b j) (place_fits b (j - links_of b)) (λ t. let h = ltb→lt j (links_of b) t in omega arith)
