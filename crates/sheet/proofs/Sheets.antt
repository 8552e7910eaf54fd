-- What a sheet holds, as the code keeps it: the places as bytes, and the tests on them.
--   tabulate_length, tabulate_at     a list given entry by entry
--   bytes_length, bytes_at           the places as bytes
--   outside_same, repeated_same      refusals 8 and 9 on them
--   all_inside                       what the places say of their numbers
--   held_of                          what is held, part by part
--   points_few, places_few, places_points, walk_read   what is known of a sheet that is read
--   refused_late                     what an 11 says where line 1 has the form
-- Assumes nothing.
use Prim.Native.Nat.{ℕ, zero, suc, ◌%◌, ◌≤◌, ◌<◌}
use mathlib.Core.Path.{◌≡◌, refl, sym, ap, ap₂, ◌∙◌, subst}
use mathlib.Core.Bool.{Bool, false}
use mathlib.Core.Logic.{◌⊎◌, inl, inr}
use mathlib.Core.List.{List, [], ◌∷◌, ◌++◌}
use mathlib.Core.Option.{none, some}
use native.Mathlib.Omega.{arith}
use lib.Dec.{T, ltb, eqb, leb, nltb→le, le→leb, not_T, T_not}
use lib.ListN.{length, take, set, length-append, length-set, length-replicate, get_or-append}
use lib.Seq.{get_or-set_same, get_or-set_other, get_or_at, get_or-take, length-take-le, ext_get_or}
use Rattle.bitset.specs.Below.{any_below}
use Rattle.bitset.proofs.Tests.{is_false, below_or, below_suc}
use Rattle.bitset.proofs.Below.{any_at, any_same}
use Rattle.searches.specs.Ordering.{at}
use Rattle.searches.specs.Answer.{vertex_outside, repeated, Accepts, Refuses}
use Rattle.searches.proofs.Refusals.{none_accepts, first_refuses}
use Rattle.sheet.specs.Sheet.{points_of, links_of, places_of, headed, walk_of, sheet_tests, read_answer, place_at, formed, tabulate, joined_rows}
use Rattle.sheet.specs.Lines.{beyond, placed_bytes, held_unless}

module _ (f : ℕ → ℕ) where
  pub tabulate_length : (k : ℕ) → length (tabulate k f) ≡ k
  unfolding tabulate
  tabulate_length zero = refl
  tabulate_length (suc k) = length-append (tabulate k f) (f k ∷ []) ∙ omega (arith, tabulate_length k)

  pub tabulate_at : (k p : ℕ) → p < k → at (tabulate k f) p ≡ f p
  unfolding tabulate
  tabulate_at zero p l = absurd (omega arith)
  tabulate_at (suc k) p l = go (tabulate_at k p) (below_suc k p l)
    where
      go : (p < k → at (tabulate k f) p ≡ f p) → (p < k) ⊎ (p ≡ k) → at (tabulate k f ++ f k ∷ []) p ≡ f p
      go rest (inl h) = get_or-append (tabulate k f) (f k ∷ []) 0 p (omega (arith, tabulate_length k)) ∙ rest h
      go rest (inr e) =
          subst (λ (x : ℕ). at (tabulate k f ++ f k ∷ []) x ≡ f x) (sym e) (get_or_at (tabulate k f) (f k) [] 0 k (tabulate_length k))

module _ (b : List ℕ) where
  pub bytes_length : (k : ℕ) → length (placed_bytes b k) ≡ 64
  unfolding placed_bytes
  bytes_length zero = length-replicate {A = ℕ} 64 0
  bytes_length (suc k) = length-set (placed_bytes b k) k (place_at b k % 256) ∙ bytes_length k

  pub bytes_at : (k p : ℕ) → k ≤ 64 → p < k → at (placed_bytes b k) p ≡ place_at b p % 256
  unfolding placed_bytes
  bytes_at zero p h l = absurd (omega arith)
  bytes_at (suc k) p h l = go (bytes_at k p (omega arith)) (below_suc k p l)
    where
      go : (p < k → at (placed_bytes b k) p ≡ place_at b p % 256) → (p < k) ⊎ (p ≡ k) → at (set (placed_bytes b k) k (place_at b k % 256)) p ≡ place_at b p % 256
      go rest (inl g) = get_or-set_other (placed_bytes b k) k p (place_at b k % 256) 0 (λ e. omega arith) ∙ rest g
      go rest (inr e) =
          subst (λ (x : ℕ). at (set (placed_bytes b k) k (place_at b k % 256)) x ≡ place_at b x % 256) (sym e)
          (get_or-set_same (placed_bytes b k) k (place_at b k % 256) 0 (omega (arith, bytes_length k)))

  pub outside_same : (n k : ℕ) → any_below k (beyond n b) ≡ vertex_outside n (tabulate k (place_at b)) k
  unfolding vertex_outside beyond
  outside_same n k =
      any_same k (beyond n b) (λ p. leb n (at (tabulate k (place_at b)) p)) (λ p l. ap (λ (x : ℕ). leb n x) (sym (tabulate_at (place_at b) k p l)))

  -- a point is its own lowest byte
  pub byte_point : (k p : ℕ) → k ≤ 64 → p < k → place_at b p < 64 → at (placed_bytes b k) p ≡ place_at b p
  byte_point k p h l small = bytes_at k p h l ∙ omega arith

  pub repeated_same : (k : ℕ) → k ≤ 64 → ((p : ℕ) → p < k → place_at b p < 64) → repeated (placed_bytes b k) k ≡ repeated (tabulate k (place_at b)) k
  unfolding repeated
  repeated_same k h small =
      any_same k (λ q. any_below q (λ p. eqb (at (placed_bytes b k) p) (at (placed_bytes b k) q)))
      (λ q. any_below q (λ p. eqb (at (tabulate k (place_at b)) p) (at (tabulate k (place_at b)) q)))
      (λ q l. any_same q (λ p. eqb (at (placed_bytes b k) p) (at (placed_bytes b k) q)) (λ p. eqb (at (tabulate k (place_at b)) p) (at (tabulate k (place_at b)) q))
      (λ p g. ap₂ (λ (x y : ℕ). eqb x y) (same p (omega arith)) (same q l)))
    where
      same : (p : ℕ) → p < k → at (placed_bytes b k) p ≡ at (tabulate k (place_at b)) p
      same p l = byte_point k p h l (small p l) ∙ sym (tabulate_at (place_at b) k p l)

-- ---- what the tests say

-- all places are points where none is beyond
pub all_inside : (b : List ℕ) (n k : ℕ) → false ≡ any_below k (beyond n b) → (p : ℕ) → p < k → place_at b p < n
unfolding beyond
all_inside b n k inside p l = go (below_or (place_at b p) n)
  where
    go : (place_at b p < n) ⊎ (n ≤ place_at b p) → place_at b p < n
    go (inl h) = h
    go (inr h) = absurd (subst (λ (x : Bool). T x) (sym inside) (any_at k (λ j. leb n (place_at b j)) p l (le→leb n (place_at b p) h)))

-- what is held, part by part
pub held_of : (b : List ℕ) {n k : ℕ} {rows ordering : List ℕ} → n ≡ points_of b → rows ≡ joined_rows b (links_of b) → k ≡ places_of b
    → ordering ≡ placed_bytes b (places_of b) → record { n = n; rows = rows; k = k; ordering = ordering } ≡ held_unless none b
unfolding held_unless
held_of b {n} {k} {rows} {ordering} p q r s =
    ap₂ (λ (x : ℕ) (y : List ℕ). record { n = x; rows = y; k = k; ordering = ordering }) p q
    ∙ ap₂ (λ (x : ℕ) (y : List ℕ). record { n = points_of b; rows = joined_rows b (links_of b); k = x; ordering = y }) r s

-- a sheet that is refused with 11 although line 1 has the form has few points, no more places, and a later line that is malformed
pub refused_late : (b : List ℕ) → read_answer b ≡ some 11 → T (headed b) → (points_of b ≤ 64) × (places_of b ≤ points_of b) × (T (formed b) → ⊥)
unfolding read_answer sheet_tests
refused_late b e h = late (first_refuses (sheet_tests b) 11 e)
  where
    late : Refuses 11 (sheet_tests b) → (points_of b ≤ 64) × (places_of b ≤ points_of b) × (T (formed b) → ⊥)
    late (inl x) = absurd (T_not (headed b) x.1 h)
    late (inr (out, inl x)) = absurd (omega (arith, x.0))
    late (inr (out, inr (few, inl x))) = absurd (omega (arith, x.0))
    late (inr (out, inr (few, inr (short, inl x)))) =
        (nltb→le 64 (points_of b) (not_T (ltb 64 (points_of b)) few), nltb→le (points_of b) (places_of b) (not_T (ltb (points_of b) (places_of b)) short), T_not (formed b) x.1)
    late (inr (out, inr (few, inr (short, inr (form, inl x))))) = absurd (omega (arith, x.0))
    late (inr (out, inr (few, inr (short, inr (form, inr (inside, inl x)))))) = absurd (omega (arith, x.0))
    late (inr (out, inr (few, inr (short, inr (form, inr (inside, inr x)))))) = absurd x.1

-- ---- a sheet that is read

module _ (b : List ℕ) (accepted : none ≡ read_answer b) where
  tried : Accepts (sheet_tests b)
  unfolding read_answer
  tried = none_accepts (sheet_tests b) (sym accepted)

  pub points_few : points_of b ≤ 64
  unfolding sheet_tests
  points_few = nltb→le 64 (points_of b) (not_T (ltb 64 (points_of b)) tried.1.0)

  pub places_few : places_of b ≤ points_of b
  unfolding sheet_tests
  places_few = nltb→le (points_of b) (places_of b) (not_T (ltb (points_of b) (places_of b)) tried.1.1.0)

  pub places_points : (p : ℕ) → p < places_of b → place_at b p < points_of b
  unfolding sheet_tests walk_of
  places_points =
      all_inside b (points_of b) (places_of b)
      (sym (outside_same b (points_of b) (places_of b) ∙ is_false (vertex_outside (points_of b) (walk_of b) (places_of b)) tried.1.1.1.1.0))

  -- the bytes are the walk
  pub walk_read : take (places_of b) (placed_bytes b (places_of b)) ≡ walk_of b
  unfolding walk_of
  walk_read =
      let k = places_of b in
      let few : k ≤ 64 = omega (arith, places_few, points_few) in
      let long : length (take k (placed_bytes b k)) ≡ k = length-take-le k (placed_bytes b k) (omega (arith, bytes_length b k)) in
      ext_get_or 0 (take k (placed_bytes b k)) (tabulate k (place_at b)) (long ∙ sym (tabulate_length (place_at b) k)) (λ p l.
      let h : p < k = omega (arith, long) in
      get_or-take k (placed_bytes b k) p 0 h ∙ byte_point b k p few h (omega (arith, places_points p h, points_few)) ∙ sym (tabulate_at (place_at b) k p h))
