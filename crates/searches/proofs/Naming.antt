-- Names and numbers of kept vertices: two rising maps, inverse to each other.
--   number_rises, number_below     a greater kept vertex has a greater number; all are below how many are kept
--   name_below, name_kept, number_name, name_number, name_rises
--   number_same                    one number, one vertex
-- Assumes nothing.
use mathlib.Core.Path.{◌≡◌, sym, subst}
use mathlib.Core.Bool.{Bool, true, false, cond, ◌&&◌}
use mathlib.Core.Logic.{◌⊎◌, inl, inr}
use Prim.Native.Nat.{ℕ, zero, suc, ◌≤◌, ◌<◌}
use native.Mathlib.Omega.{arith}
use lib.Dec.{T, eqb, eqb→eq, eqb_refl}
use Rattle.bitset.specs.Below.{count_below, first_below}
use Rattle.bitset.proofs.Tests.{and_in, and_out, cond_yes, below_or, three_ways}
use Rattle.bitset.proofs.Below.{Some, first, first_found}
use Rattle.searches.specs.Without.{number_of, name_of}

module _ (kept : ℕ → Bool) where
  number_next : (v : ℕ) → T (kept v) → number_of kept (suc v) ≡ suc (number_of kept v)
  unfolding number_of count_below
  number_next v t = cond_yes (kept v) (suc (count_below v kept)) (count_below v kept) t

  number_climbs : (u v : ℕ) → u ≤ v → number_of kept u ≤ number_of kept v
  unfolding number_of count_below
  number_climbs u zero l = let e : u ≡ 0 = omega arith in subst (λ (x : ℕ). count_below x kept ≤ 0) (sym e) (omega arith)
  number_climbs u (suc v) l = go (below_or v u) (number_climbs u v)
    where
      up : (b : Bool) (r : ℕ) → r ≤ cond b (suc r) r
      up true r = omega arith
      up false r = omega arith

      go : (v < u) ⊎ (u ≤ v) → (u ≤ v → count_below u kept ≤ count_below v kept) → count_below u kept ≤ count_below (suc v) kept
      go (inl h) rest = let e : u ≡ suc v = omega arith in subst (λ (x : ℕ). count_below u kept ≤ count_below x kept) e (omega arith)
      go (inr h) rest = let a = rest h in let b = up (kept v) (count_below v kept) in omega arith

  pub number_rises : (u v : ℕ) → T (kept u) → u < v → number_of kept u < number_of kept v
  number_rises u v t l =
      let a = number_climbs (suc u) v l in
      let b = number_next u t in
      omega arith

  pub number_same : (u v : ℕ) → T (kept u) → T (kept v) → number_of kept u ≡ number_of kept v → u ≡ v
  number_same u v a b e = go (three_ways u v)
    where
      go : (u < v) ⊎ ((u ≡ v) ⊎ (v < u)) → u ≡ v
      go (inl l) = let h = number_rises u v a l in absurd (omega arith)
      go (inr (inl p)) = p
      go (inr (inr l)) = let h = number_rises v u b l in absurd (omega arith)

  -- the kept vertex with a number
  numbers : ℕ → ℕ → Bool
  numbers i v = kept v && eqb (number_of kept v) i

  some_named : (n i : ℕ) → i < count_below n kept → Some n (numbers i)
  unfolding number_of count_below numbers
  some_named zero i l = absurd (omega arith)
  some_named (suc n) i l = go (some_named n i) (kept n) (λ t. t) l (below_or i (count_below n kept))
    where
      wider : Some n (numbers i) → Some (suc n) (numbers i)
      wider s = record { at = s.at; below = omega (arith, s.below); holds = s.holds }

      go : (i < count_below n kept → Some n (numbers i)) → (b : Bool) → (T b → T (kept n)) → i < cond b (suc (count_below n kept)) (count_below n kept)
          → (i < count_below n kept) ⊎ (count_below n kept ≤ i) → Some (suc n) (numbers i)
      go rest b top l (inl h) = wider (rest h)
      go rest true top l (inr h) =
          let e : count_below n kept ≡ i = omega arith in
          record {
            at = n;
            below = omega arith;
            holds = and_in (kept n) (eqb (count_below n kept) i) (top tt) (subst (λ (x : ℕ). T (eqb (count_below n kept) x)) e (eqb_refl (count_below n kept)));
          }
      go rest false top l (inr h) = absurd (omega arith)

  module _ (n : ℕ) where
    name_found : (i : ℕ) → i < count_below n kept → (name_of n kept i < n) × (T (kept (name_of n kept i)) × (number_of kept (name_of n kept i) ≡ i))
    unfolding name_of numbers
    name_found i l =
        let h = first_found (some_named n i l) in
        let v : ℕ = first_below n (numbers i) in
        let both = and_out (kept v) (eqb (number_of kept v) i) ((first n (numbers i)).holds h) in
        (h, (both.0, eqb→eq (number_of kept v) i both.1))

    pub name_below : (i : ℕ) → i < count_below n kept → name_of n kept i < n
    name_below i l = (name_found i l).0

    pub name_kept : (i : ℕ) → i < count_below n kept → T (kept (name_of n kept i))
    name_kept i l = (name_found i l).1.0

    pub number_name : (i : ℕ) → i < count_below n kept → number_of kept (name_of n kept i) ≡ i
    number_name i l = (name_found i l).1.1

    pub number_below : (v : ℕ) → v < n → T (kept v) → number_of kept v < count_below n kept
    unfolding number_of
    number_below v l t = number_rises v n t l

    pub number_beyond : (v : ℕ) → n ≤ v → count_below n kept ≤ number_of kept v
    unfolding number_of
    number_beyond v l = number_climbs n v l

    pub name_number : (v : ℕ) → v < n → T (kept v) → name_of n kept (number_of kept v) ≡ v
    name_number v l t =
        let h = number_below v l t in
        number_same (name_of n kept (number_of kept v)) v (name_kept (number_of kept v) h) t (number_name (number_of kept v) h)

    pub name_rises : (i j : ℕ) → i < j → j < count_below n kept → name_of n kept i < name_of n kept j
    name_rises i j l h = go (below_or (name_of n kept i) (name_of n kept j))
      where
        go : (name_of n kept i < name_of n kept j) ⊎ (name_of n kept j ≤ name_of n kept i) → name_of n kept i < name_of n kept j
        go (inl g) = g
        go (inr g) =
            let a = number_climbs (name_of n kept j) (name_of n kept i) g in
            let b = number_name i (omega arith) in
            let c = number_name j h in
            absurd (omega arith)
