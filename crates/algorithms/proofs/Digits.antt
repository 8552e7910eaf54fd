-- Of two lists of falling digits the lexicographically larger one has the largest digit that is in just one of them.
--   Descending xs               each digit is above all later ones
--   LargestDifference xs ys     a digit of xs, not of ys, above which all of ys' digits are digits of xs too
--   larger_out, larger_in       lexicographically larger exactly when there is such a digit
--   single_itself               a list of one digit is not larger than itself
-- Assumes nothing.
use mathlib.Core.Path.{◌≡◌, refl, subst}
use mathlib.Core.Bool.{◌&&◌, ◌||◌}
use mathlib.Core.Logic.{◌⊎◌, inl, inr}
use mathlib.Core.List.{List, [], ◌∷◌}
use Prim.Native.Nat.{ℕ, ◌≤◌, ◌<◌}
use native.Mathlib.Omega.{arith}
use lib.Dec.{T, ltb, ltb→lt, lt→ltb, eqb, eqb→eq, eqb_refl}
use Rattle.bitset.proofs.Tests.{and_in, and_out, or_inl, or_inr, or_out, three_ways}
use Rattle.algorithms.specs.Lists.{among, Pairwise}
use Rattle.algorithms.specs.Digits.{lex_larger}
use Rattle.algorithms.proofs.Lists.{among_here, among_later, among_none, among_out}

abbrev pub Descending : List ℕ → Type 0
Descending xs = Pairwise (λ x y. y < x) xs

pub record LargestDifference (xs ys : List ℕ) : Type 0 where
  pub digit : ℕ
  pub ours : T (among xs digit)
  pub theirs : T (among ys digit) → ⊥
  pub above : (y : ℕ) → T (among ys y) → digit < y → T (among xs y)

-- no digit is above the first
at_most_first : (x : ℕ) (xs : List ℕ) → Descending (x ∷ xs) → (y : ℕ) → T (among (x ∷ xs) y) → y ≤ x
at_most_first x xs d y t = go (among_out x y xs t)
  where
    go : (x ≡ y) ⊎ T (among xs y) → y ≤ x
    go (inl e) = omega arith
    go (inr r) = omega (arith, d.0 y r)

-- the same first digit makes no difference
same_first_out : (x y : ℕ) (xs ys : List ℕ) → x ≡ y → Descending (x ∷ xs) → LargestDifference xs ys → LargestDifference (x ∷ xs) (y ∷ ys)
same_first_out x y xs ys e d rest = record {
  digit = rest.digit;
  ours = among_later x rest.digit xs rest.ours;
  theirs = λ t. theirs (among_out y rest.digit ys t);
  above = λ z t l. above z (among_out y z ys t) l;
}
  where
    theirs : (y ≡ rest.digit) ⊎ T (among ys rest.digit) → ⊥
    theirs (inl same) = let l = d.0 rest.digit rest.ours in omega arith
    theirs (inr r) = rest.theirs r

    above : (z : ℕ) → (y ≡ z) ⊎ T (among ys z) → rest.digit < z → T (among (x ∷ xs) z)
    above z (inl same) l = among_here x z xs (omega arith)
    above z (inr r) l = among_later x z xs (rest.above z r l)

same_first_in : (x y : ℕ) (xs ys : List ℕ) → x ≡ y → Descending (y ∷ ys) → LargestDifference (x ∷ xs) (y ∷ ys) → LargestDifference xs ys
same_first_in x y xs ys e d whole = record {
  digit = whole.digit;
  ours = ours (among_out x whole.digit xs whole.ours);
  theirs = λ t. whole.theirs (among_later y whole.digit ys t);
  above = λ z t l. above z t (among_out x z xs (whole.above z (among_later y z ys t) l));
}
  where
    ours : (x ≡ whole.digit) ⊎ T (among xs whole.digit) → T (among xs whole.digit)
    ours (inl same) = absurd (whole.theirs (among_here y whole.digit ys (omega arith)))
    ours (inr r) = r

    above : (z : ℕ) → T (among ys z) → (x ≡ z) ⊎ T (among xs z) → T (among xs z)
    above z t (inl same) = let l = d.0 z t in absurd (omega arith)
    above z t (inr r) = r

pub larger_out : (xs ys : List ℕ) → Descending xs → Descending ys → T (lex_larger xs ys) → LargestDifference xs ys
unfolding lex_larger
larger_out [] ys d d' t = absurd t
larger_out (x ∷ xs) [] d d' t = record { digit = x; ours = among_here x x xs refl; theirs = among_none x; above = λ y t' l. absurd (among_none y t') }
larger_out (x ∷ xs) (y ∷ ys) d d' t = go (or_out (ltb y x) (eqb x y && lex_larger xs ys) t) (larger_out xs ys d.1 d'.1)
  where
    go : T (ltb y x) ⊎ T (eqb x y && lex_larger xs ys) → (T (lex_larger xs ys) → LargestDifference xs ys) → LargestDifference (x ∷ xs) (y ∷ ys)
    go (inl p) rest =
        let l : y < x = ltb→lt y x p in
        record {
          digit = x;
          ours = among_here x x xs refl;
          theirs = λ t'. let m = at_most_first y ys d' x t' in omega arith;
          above = λ z t' h. let m = at_most_first y ys d' z t' in absurd (omega arith);
        }
    go (inr p) rest =
        let both = and_out (eqb x y) (lex_larger xs ys) p in
        same_first_out x y xs ys (eqb→eq x y both.0) d (rest both.1)

pub larger_in : (xs ys : List ℕ) → Descending xs → Descending ys → LargestDifference xs ys → T (lex_larger xs ys)
unfolding lex_larger
larger_in [] ys d d' w = absurd (among_none w.digit w.ours)
larger_in (x ∷ xs) [] d d' w = tt
larger_in (x ∷ xs) (y ∷ ys) d d' w = go (three_ways x y) (larger_in xs ys d.1 d'.1)
  where
    go : (x < y) ⊎ ((x ≡ y) ⊎ (y < x)) → (LargestDifference xs ys → T (lex_larger xs ys)) → T (ltb y x || (eqb x y && lex_larger xs ys))
    go (inl l) rest =
        let m = at_most_first x xs d w.digit w.ours in
        let h = at_most_first x xs d y (w.above y (among_here y y ys refl) (omega arith)) in
        absurd (omega arith)
    go (inr (inl e)) rest =
        or_inr (ltb y x) (eqb x y && lex_larger xs ys)
        (and_in (eqb x y) (lex_larger xs ys) (subst (λ (z : ℕ). T (eqb x z)) e (eqb_refl x)) (rest (same_first_in x y xs ys e d' w)))
    go (inr (inr l)) rest = or_inl (ltb y x) (eqb x y && lex_larger xs ys) (lt→ltb y x l)

pub single_itself : (x : ℕ) → T (lex_larger (x ∷ []) (x ∷ [])) → ⊥
single_itself x t =
    let falls : Descending (x ∷ []) = (λ u r. absurd (among_none u r), tt) in
    let most = larger_out (x ∷ []) (x ∷ []) falls falls t in
    most.theirs most.ours
