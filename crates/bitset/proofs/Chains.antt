-- What `any` and `position` find in a list, said by the searches below a number: f is what the test p says of the item at each index.
--   items_any, items_all           `any` and `all` over a list
--   items_first, items_position    `position` over a list, by the index or the length, and as an Option
--   first_any                      `any` over the first k items of a list
--   behind_any                     `any` over the items behind the first m
--   rest_item                      what is left of a list behind u items begins with the item at u
--   found_first                    an index at which f holds and below which it does not, or none: found_below
--   found_range                    what `find` over the numbers from 0 up finds is found_below
--   found_or                       found_below, read with the bound for none, is first_below
--   found_test                     found_below holds a number where any_below holds
-- Assumes nothing.
use mathlib.Core.Path.{◌≡◌, sym, ap, ◌∙◌, subst}
use mathlib.Core.Bool.{Bool, true, false, cond, ◌&&◌}
use mathlib.Core.List.{List, [], ◌∷◌}
use mathlib.Core.Logic.{◌⊎◌, inl, inr}
use Prim.Native.Nat.{ℕ, zero, suc, ◌+◌, ◌-◌, ◌≤◌, ◌<◌}
use native.Mathlib.Omega.{arith}
use lib.Dec.{T, leb, ltb, leb→le}
use lib.ListN.{length, get_or, take, drop, length-drop}
use lib.Seq.{length-take-le, get_or-take}
use borrow.Author.Tests.{le-leb, lt-ltb, le-ltb}
use Rattle.std.specs.Prelude.{Option, Some, None, MatchOption, position}
use Rattle.std.specs.Option.{unwrap_or, is_some}
use Rattle.std.specs.List.{list_any, list_all, position_or_len}
use Rattle.std.proofs.lemmas.List.{get_or-drop, drop_more}
use Rattle.std.proofs.lemmas.List.Sums.{position_or_len_is}
use Rattle.bitset.specs.Below.{any_below, all_below, first_below, found_below}
use Rattle.bitset.proofs.Tests.{and_in, and_out, or_inl, or_inr, or_out, same_test, is_true, is_false, below_or}
use Rattle.bitset.proofs.Below as below
use Rattle.bitset.proofs.Below.{any_out, any_at, all_out, all_in, any_same, first, first_unique}

-- ---- over a whole list

module _ {A : Type 0} (p : A → Bool) (d : A) where
  any_there : (xs : List A) (i : ℕ) → i < length xs → T (p (get_or xs i d)) → T (list_any p xs)
  any_there [] i l t = absurd (omega arith)
  any_there (x ∷ xs) zero l t = or_inl (p x) (list_any p xs) t
  any_there (x ∷ xs) (suc i) l t = or_inr (p x) (list_any p xs) (any_there xs i (omega arith) t)

  some_there : (xs : List A) → T (list_any p xs) → below.Some (length xs) (λ i. p (get_or xs i d))
  some_there [] t = absurd t
  some_there (x ∷ xs) t = go (some_there xs) (or_out (p x) (list_any p xs) t)
    where
      go : (T (list_any p xs) → below.Some (length xs) (λ i. p (get_or xs i d))) → T (p x) ⊎ T (list_any p xs)
          → below.Some (suc (length xs)) (λ i. p (get_or (x ∷ xs) i d))
      go rest (inl here) = record { at = 0; below = omega arith; holds = here }
      go rest (inr behind) = let s = rest behind in record { at = suc s.at; below = omega (arith, s.below); holds = s.holds }

  all_there : (xs : List A) → T (list_all p xs) → (i : ℕ) → i < length xs → T (p (get_or xs i d))
  all_there [] t i l = absurd (omega arith)
  all_there (x ∷ xs) t zero l = (and_out (p x) (list_all p xs) t).0
  all_there (x ∷ xs) t (suc i) l = all_there xs (and_out (p x) (list_all p xs) t).1 i (omega arith)

  each_there : (xs : List A) → ((i : ℕ) → i < length xs → T (p (get_or xs i d))) → T (list_all p xs)
  each_there [] h = tt
  each_there (x ∷ xs) h = and_in (p x) (list_all p xs) (h 0 (omega arith)) (each_there xs (λ i l. h (suc i) (omega arith)))

  module _ (xs : List A) (f : ℕ → Bool) (said : (i : ℕ) → i < length xs → p (get_or xs i d) ≡ f i) where
    pub items_any : list_any p xs ≡ any_below (length xs) f
    items_any =
        same_test (list_any p xs) (any_below (length xs) f)
        (λ t. let s = some_there xs t in any_at (length xs) f s.at s.below (subst (λ (b : Bool). T b) (said s.at s.below) s.holds))
        (λ t. let s = any_out (length xs) f t in any_there xs s.at s.below (subst (λ (b : Bool). T b) (sym (said s.at s.below)) s.holds))

    pub items_all : list_all p xs ≡ all_below (length xs) f
    items_all =
        same_test (list_all p xs) (all_below (length xs) f)
        (λ t. all_in (length xs) f (λ i l. subst (λ (b : Bool). T b) (said i l) (all_there xs t i l)))
        (λ t. each_there xs (λ i l. subst (λ (b : Bool). T b) (sym (said i l)) (all_out (length xs) f t i l)))

    pub items_first : position_or_len p xs ≡ first_below (length xs) f
    items_first =
        let r = first (length xs) f in
        position_or_len_is p xs (first_below (length xs) f) d r.within
        (λ i l. said i (omega (arith, r.within)) ∙ is_false (f i) (r.least i l))
        (λ l. said (first_below (length xs) f) l ∙ is_true (f (first_below (length xs) f)) (r.holds l))

    pub items_position : position p xs ≡ found_below (length xs) f
    unfolding found_below
    items_position = ap (λ (i : ℕ). cond (ltb i (length xs)) (Some i) None) items_first

  -- ---- over a part of a list

  pub first_any : (k : ℕ) (xs : List A) → k ≤ length xs → list_any p (take k xs) ≡ any_below k (λ i. p (get_or xs i d))
  first_any k xs h =
      let long : length (take k xs) ≡ k = length-take-le k xs h in
      items_any (take k xs) (λ i. p (get_or xs i d)) (λ i l. ap p (get_or-take k xs i d (omega arith))) ∙ ap (λ (n : ℕ). any_below n (λ i. p (get_or xs i d))) long

  pub behind_any : (m : ℕ) (xs : List A) → list_any p (drop m xs) ≡ any_below (length xs) (λ i. leb m i && p (get_or xs i d))
  behind_any m xs =
      same_test (list_any p (drop m xs)) (any_below (length xs) (λ i. leb m i && p (get_or xs i d)))
      (λ t.
      let s = some_there (drop m xs) t in
      any_at (length xs) (λ i. leb m i && p (get_or xs i d)) (m + s.at) (omega (arith, s.below, length-drop m xs))
      (and_in (leb m (m + s.at)) (p (get_or xs (m + s.at) d)) (subst (λ (b : Bool). T b) (sym (le-leb m (m + s.at) (omega arith))) tt)
      (subst (λ (x : A). T (p x)) (get_or-drop m xs s.at d) s.holds)))
      (λ t.
      let s = any_out (length xs) (λ i. leb m i && p (get_or xs i d)) t in
      let both = and_out (leb m s.at) (p (get_or xs s.at d)) s.holds in
      let up : m ≤ s.at = leb→le m s.at both.0 in
      let there : m + (s.at - m) ≡ s.at = omega arith in
      any_there (drop m xs) (s.at - m) (omega (arith, s.below, length-drop m xs))
      (subst (λ (x : A). T (p x)) (sym (get_or-drop m xs (s.at - m) d ∙ ap (λ (i : ℕ). get_or xs i d) there)) both.1))

-- ---- a list gone through from the front

pub rest_item : {A : Type 0} (xs : List A) (d : A) (u : ℕ) {x : A} {rest : List A} → x ∷ rest ≡ drop u xs → (u < length xs) × (x ≡ get_or xs u d) × (rest ≡ drop (u + 1) xs)
rest_item {A} xs d u {x} {rest} e =
    let there : u < length xs = omega (arith, ap length e, length-drop u xs) in
    let same : x ∷ rest ≡ get_or xs u d ∷ drop (u + 1) xs = e ∙ drop_more xs u d there in
    (there, ap (λ (l : List A). get_or l 0 d) same, ap (drop 1) same)

-- ---- the number found

module _ (n : ℕ) (f : ℕ → Bool) where
  pub found_or : unwrap_or (found_below n f) n ≡ first_below n f
  unfolding found_below
  found_or = go (below_or (first_below n f) n)
    where
      go : (first_below n f < n) ⊎ (n ≤ first_below n f) → unwrap_or (cond (ltb (first_below n f) n) (Some (first_below n f)) None) n ≡ first_below n f
      go (inl l) = ap (λ (b : Bool). unwrap_or (cond b (Some (first_below n f)) None) n) (lt-ltb (first_below n f) n l)
      go (inr l) = ap (λ (b : Bool). unwrap_or (cond b (Some (first_below n f)) None) n) (le-ltb (first_below n f) n l) ∙ omega (arith, (first n f).within)

  pub found_first : (r : Option ℕ)
      → MatchOption r ((i : ℕ) → i < n → T (f i) → ⊥) (λ i. (i < n) × T (f i) × ((j : ℕ) → j < i → T (f j) → ⊥)) → r ≡ found_below n f
  unfolding found_below
  found_first None none =
      let all : n ≡ first_below n f = first_unique (record { within = omega arith; holds = λ l. absurd (omega arith); least = none }) in
      ap (λ (b : Bool). cond b (Some (first_below n f)) None) (sym (le-ltb (first_below n f) n (omega arith)))
  found_first (Some i) (l, t, least) =
      let here : i ≡ first_below n f = first_unique (record { within = omega arith; holds = λ _. t; least = least }) in
      ap Some here ∙ ap (λ (b : Bool). cond b (Some (first_below n f)) None) (sym (lt-ltb (first_below n f) n (omega arith)))

  pub found_range : (r : Option ℕ)
      → MatchOption r ((i : ℕ) → 0 ≤ i → i < n → f i ≡ false) (λ i. (0 ≤ i) × (i < n) × (f i ≡ true) × ((j : ℕ) → 0 ≤ j → j < i → f j ≡ false))
      → r ≡ found_below n f
  found_range None none = found_first None (λ i l t. subst (λ (b : Bool). T b) (none i (omega arith) l) t)
  found_range (Some i) (_, l, holds, least) =
      found_first (Some i) (l, subst (λ (b : Bool). T b) (sym holds) tt, λ j h t. subst (λ (b : Bool). T b) (least j (omega arith) h) t)

  pub found_test : is_some (found_below n f) ≡ any_below n f
  unfolding found_below
  found_test =
      go (below_or (first_below n f) n)
    where
      go : (first_below n f < n) ⊎ (n ≤ first_below n f) → is_some (cond (ltb (first_below n f) n) (Some (first_below n f)) None) ≡ any_below n f
      go (inl l) =
          ap (λ (b : Bool). is_some (cond b (Some (first_below n f)) None)) (lt-ltb (first_below n f) n l)
          ∙ sym (is_true (any_below n f) (any_at n f (first_below n f) l ((first n f).holds l)))
      go (inr l) =
          ap (λ (b : Bool). is_some (cond b (Some (first_below n f)) None)) (le-ltb (first_below n f) n l)
          ∙ sym (is_false (any_below n f) (λ t. let s = any_out n f t in (first n f).least s.at (omega (arith, s.below)) s.holds))
