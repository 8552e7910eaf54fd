-- Sets of numbers read as sets of positions: the number i is at position i - 1. One set is inside another exactly when its positions are, and
-- it holds as many numbers as there are positions.
--   Numbers k f set         the numbers of the set are those of the positions f below k
--   inside_out, inside_in   one set is inside another;   as_many   how many numbers a set holds
--   sets_reading            such sets can be read as the labels of a search in which the larger of two is ahead
--   neighbour_reading       so algorithm 6 goes by MNS' rule
--   counted_reading         so algorithm 7 goes by MCS' rule
-- Assumes nothing.
use mathlib.Core.Path.{◌≡◌, sym, ap₂, subst}
use mathlib.Core.Bool.{Bool, not, ◌&&◌, ◌||◌}
use mathlib.Core.Logic.{◌⊎◌, inl, inr, ◌↔◌}
use Prim.Native.Nat.{ℕ, suc, ◌≤◌, ◌<◌}
use native.Mathlib.Omega.{arith}
use lib.Dec.{T, ltb, ltb→lt, lt→ltb, eqb, eqb→eq, eqb_refl, not_T, T_not}
use Rattle.bitset.specs.Below.{count_below, within}
use Rattle.bitset.proofs.Tests.{and_in, and_out, or_inl, or_inr, or_out, same_test, cond_no, below_suc}
use Rattle.bitset.proofs.Count.{count_fewer, count_bottom, count_proper}
use Rattle.bitset.proofs.Sets.{within_in, within_out}
use Rattle.searches.specs.Kind.{Search, mns, mcs}
use Rattle.searches.specs.Label.{outranks}
use Rattle.algorithms.specs.Labelling.{Labels}
use Rattle.algorithms.specs.NeighbourSets.{set_labels}
use Rattle.algorithms.specs.MaximalNeighbourhood.{neighbour_sets}
use Rattle.algorithms.specs.MaximumCardinality.{counted_sets}
use Rattle.algorithms.proofs.Labelling.{Reading}

pub record Numbers (k : ℕ) (f : ℕ → Bool) (set : ℕ → Bool) : Type 0 where
  pub only : (i : ℕ) → T (set i) → (p : ℕ) × (p < k) × T (f p) × (suc p ≡ i)
  pub all : (p : ℕ) → p < k → T (f p) → T (set (suc p))

-- a number that is there is that of a position
its_position : (k : ℕ) (f set : ℕ → Bool) → Numbers k f set → (p : ℕ) → T (set (suc p)) → (p < k) × T (f p)
its_position k f set m p t =
    let q = m.only (suc p) t in
    (omega (arith, q.1, q.3), subst (λ (x : ℕ). T (f x)) (omega (arith, q.3)) q.2)

-- ---- inside

module _ (n k : ℕ) (room : k ≤ n) (f g set set' : ℕ → Bool) (fs : Numbers k f set) (gs : Numbers k g set') where
  inside_out : T (within (suc n) set set') → T (within k f g)
  inside_out t = within_in k f g (λ p l in_f. (its_position k g set' gs p (within_out (suc n) set set' t (suc p) (omega arith) (fs.all p l in_f))).1)

  inside_in : T (within k f g) → T (within (suc n) set set')
  inside_in t = within_in (suc n) set set' (λ i l in_set.
      let p = fs.only i in_set in
      subst (λ (x : ℕ). T (set' x)) p.3 (gs.all p.0 p.1 (within_out k f g t p.0 p.1 p.2)))

-- ---- how many

module _ (n k : ℕ) (room : k ≤ n) (f set : ℕ → Bool) (m : Numbers k f set) where
  -- 0 is nobody's number, and each other number is of one position
  as_many : count_below (suc n) set ≡ count_below k f
  as_many =
      omega (
        arith,
        count_bottom n set,
        cond_no {A = ℕ} (set 0) 1 0 (λ t. let p = m.only 0 t in omega (arith, p.3)),
        count_fewer k n room (λ p. set (suc p)) f
            (λ p l. same_test (set (suc p)) (f p) (λ t. (its_position k f set m p t).1) (m.all p l)) (λ p t. (its_position k f set m p t).0),
      )

-- ---- what the sets say, as vertices are numbered

module _ (k : ℕ) (f : ℕ → Bool) (set : ℕ → Bool) (m : Numbers k f set) where
  numbers_same : (g : ℕ → Bool) → ((p : ℕ) → p < k → f p ≡ g p) → Numbers k g set
  numbers_same g same = record {
    only = λ i t. let p = m.only i t in (p.0, p.1, subst (λ (b : Bool). T b) (same p.0 p.1) p.2, p.3);
    all = λ p l t. m.all p l (subst (λ (b : Bool). T b) (sym (same p l)) t);
  }

  numbers_kept : (T (f k) → ⊥) → Numbers (suc k) f set
  numbers_kept none = record {
    only = λ i t. let p = m.only i t in (p.0, omega (arith, p.1), p.2, p.3);
    all = λ p l t. go p t (below_suc k p l);
  }
    where
      go : (p : ℕ) → T (f p) → (p < k) ⊎ (p ≡ k) → T (set (suc p))
      go p t (inl l) = m.all p l t
      go p t (inr e) = absurd (none (subst (λ (x : ℕ). T (f x)) e t))

  numbers_put : T (f k) → Numbers (suc k) f (λ j. eqb (suc k) j || set j)
  numbers_put new = record {
    only = λ i t. out i (or_out (eqb (suc k) i) (set i) t);
    all = λ p l t. put p t (below_suc k p l);
  }
    where
      out : (i : ℕ) → T (eqb (suc k) i) ⊎ T (set i) → (p : ℕ) × (p < suc k) × T (f p) × (suc p ≡ i)
      out i (inl t) = (k, omega arith, new, eqb→eq (suc k) i t)
      out i (inr t) = let p = m.only i t in (p.0, omega (arith, p.1), p.2, p.3)

      put : (p : ℕ) → T (f p) → (p < k) ⊎ (p ≡ k) → T (eqb (suc k) (suc p) || set (suc p))
      put p t (inl l) = or_inr (eqb (suc k) (suc p)) (set (suc p)) (m.all p l t)
      put p t (inr e) = or_inl (eqb (suc k) (suc p)) (set (suc p)) (subst (λ (q : ℕ). T (eqb (suc k) (suc q))) (sym e) (eqb_refl (suc k)))

-- ---- both at once

module _ (s : Search) (n : ℕ) (larger : (ℕ → Bool) → (ℕ → Bool) → Bool) where
  abbrev labels : Labels
  labels = set_labels larger

  -- asked of the comparison: larger is ahead, a set with a number more is larger, and of two sets not each is larger
  sets_reading : ((k : ℕ) (c b x y : ℕ → Bool) → k ≤ n → Numbers k c x → Numbers k b y → T (larger x y) ↔ T (outranks s k c b))
      → ((x y : ℕ → Bool) → ((i : ℕ) → i < suc n → T (x i) → T (y i)) → (a : ℕ) → a < suc n → T (y a) → (T (x a) → ⊥) → T (larger y x))
      → ((x y : ℕ → Bool) → T (larger x y) → T (larger y x) → ⊥) → Reading s n labels Numbers
  sets_reading rule more one_way = record {
    blank_means = λ f. record { only = λ i t. absurd t; all = λ p l. absurd (omega arith) };
    put_means = λ k f set l new m. numbers_put k f set m new;
    kept_means = λ k f set none m. numbers_kept k f set m none;
    means_same = λ k f g set same m. numbers_same k f set m g same;
    larger_ahead = λ k c b x y l cs bs. (rule k c b x y l cs bs).0;
    ahead_larger = λ k c b x y l cs bs. (rule k c b x y l cs bs).1;
    first_larger = first_larger;
    blank_smaller = λ t. one_way labels.blank labels.first t first_larger;
    first_itself = λ t. one_way labels.first labels.first t t;
  }
    where
      first_larger : T (larger labels.first labels.blank)
      first_larger = more labels.blank labels.first (λ i l t. absurd t) 0 (omega arith) tt (λ t. t)

-- ---- algorithm 6

-- one set is properly inside another: both ways
properly : (a b a' b' : Bool) → (T a → T a') → (T b' → T b) → T (a && not b) → T (a' && not b')
properly a b a' b' forth back t =
    let both = and_out a (not b) t in
    and_in a' (not b') (forth both.0) (not_T b' (λ x. T_not b both.1 (back x)))

pub neighbour_reading : (n : ℕ) → Reading mns n (neighbour_sets n) Numbers
unfolding outranks
neighbour_reading n =
    sets_reading mns n (neighbour_sets n).larger
    (λ k c b x y l cs bs. (
      properly (within (suc n) y x) (within (suc n) x y) (within k b c) (within k c b) (inside_out n k l b c y x bs cs) (inside_in n k l c b x y cs bs),
      properly (within k b c) (within k c b) (within (suc n) y x) (within (suc n) x y) (inside_in n k l b c y x bs cs) (inside_out n k l c b x y cs bs),
    ))
    (λ x y part a l inside out.
    and_in (within (suc n) x y) (not (within (suc n) y x)) (within_in (suc n) x y part)
    (not_T (within (suc n) y x) (λ t. out (within_out (suc n) y x t a l inside))))
    (λ x y t u. T_not (within (suc n) x y) (and_out (within (suc n) y x) (not (within (suc n) x y)) t).1 (and_out (within (suc n) x y) (not (within (suc n) y x)) u).0)

-- ---- algorithm 7

pub counted_reading : (n : ℕ) → Reading mcs n (counted_sets n) Numbers
unfolding outranks
counted_reading n =
    sets_reading mcs n (counted_sets n).larger
    (λ k c b x y l cs bs.
    let same = ap₂ (λ (i j : ℕ). ltb i j) (as_many n k l b y bs) (as_many n k l c x cs) in
    (subst (λ (t : Bool). T t) same, subst (λ (t : Bool). T t) (sym same)))
    (λ x y part a l inside out. lt→ltb (count x) (count y) (count_proper (suc n) x y part a l inside out))
    (λ x y t u. omega (arith, ltb→lt (count y) (count x) t, ltb→lt (count x) (count y) u))
  where
    count : (ℕ → Bool) → ℕ
    count set = count_below (suc n) set
