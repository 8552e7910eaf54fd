-- Orderings: which vertices are placed, how many, and what does not change when the list behind the first k positions does.
--   placed_in, placed_out        placed: the vertex stands at some position
--   Agree k w w'                 the two lists hold the same vertices at their first k positions
--   placed_agree, ordering_agree, begins_agree, agree_begins
--   ordering_prefix, ordering_unplaced, same_position
--   up_to, up_to_full              0, 1, .., n - 1 is a full ordering
--   some_unplaced, all_placed    fewer than n positions leave a vertex unplaced, n leave none
-- Assumes nothing.
use mathlib.Core.Path.{◌≡◌, refl, sym, ap, ◌∙◌, subst}
use mathlib.Core.Bool.{not}
use mathlib.Core.Logic.{◌⊎◌, inl, inr}
use mathlib.Core.List.{List, [], ◌∷◌, ◌++◌}
use Prim.Native.Nat.{ℕ, zero, suc, ◌≤◌, ◌<◌}
use native.Mathlib.Omega.{arith}
use native.Mathlib.Numerals.{add-one}
use lib.Dec.{T, eqb, eqb→eq, eqb_refl}
use lib.ListN.{length, take, length-append, length-take, get_or-append}
use lib.Seq.{length-take-le, get_or-take, get_or-append_seam, ext_get_or}
use Rattle.bitset.specs.Below.{any_below, count_below}
use Rattle.bitset.proofs.Tests.{below_suc, three_ways}
use Rattle.bitset.proofs.Below.{Some, any_out, any_at, any_same}
use Rattle.bitset.proofs.Count.{count_none, count_le, count_missing, count_all, count_added}
use Rattle.searches.specs.Ordering.{at, placed, IsOrdering, IsFullOrdering, Begins}

module _ (w : List ℕ) where
  pub placed_in : (k v p : ℕ) → p < k → at w p ≡ v → T (placed w k v)
  unfolding placed
  placed_in k v p l e = any_at k (λ p. eqb (at w p) v) p l (subst (λ (x : ℕ). T (eqb (at w p) x)) e (eqb_refl (at w p)))

  pub placed_out : (k v : ℕ) → T (placed w k v) → (p : ℕ) × (p < k) × (at w p ≡ v)
  unfolding placed
  placed_out k v t = let s = any_out k (λ p. eqb (at w p) v) t in (s.at, s.below, eqb→eq (at w s.at) v s.holds)

  -- what is placed stays placed
  pub placed_more : (j k v : ℕ) → j ≤ k → T (placed w j v) → T (placed w k v)
  placed_more j k v l t = let s = placed_out j v t in placed_in k v s.0 (omega (arith, s.1)) s.2

-- ---- the same first k positions

abbrev pub Agree : ℕ → List ℕ → List ℕ → Type 0
Agree k w w' = (p : ℕ) → p < k → at w p ≡ at w' p

pub agree_sym : (k : ℕ) (w w' : List ℕ) → Agree k w w' → Agree k w' w
agree_sym k w w' a p l = sym (a p l)

pub agree_fewer : (j k : ℕ) (w w' : List ℕ) → j ≤ k → Agree k w w' → Agree j w w'
agree_fewer j k w w' h a p l = a p (omega arith)

pub placed_agree : (k v : ℕ) (w w' : List ℕ) → Agree k w w' → placed w k v ≡ placed w' k v
unfolding placed
placed_agree k v w w' a = any_same k (λ p. eqb (at w p) v) (λ p. eqb (at w' p) v) (λ p l. ap (λ (x : ℕ). eqb x v) (a p l))

pub take_agree : (k : ℕ) (w : List ℕ) → Agree k (take k w) w
take_agree k w p l = get_or-take k w p 0 l

pub begins_agree : (k : ℕ) (w r : List ℕ) → k ≤ length w → Begins w k r → (k ≤ length r) × Agree k r w
begins_agree k w r l b =
    let e : length (take k r) ≡ k = ap length b ∙ length-take-le k w l in
    (omega (arith, e, length-take k r), λ p h. sym (get_or-take k r p 0 h) ∙ ap (λ (x : List ℕ). at x p) b ∙ get_or-take k w p 0 h)

pub agree_begins : (k : ℕ) (w r : List ℕ) → k ≤ length w → k ≤ length r → Agree k r w → Begins w k r
agree_begins k w r l h a =
    let lr : length (take k r) ≡ k = length-take-le k r h in
    ext_get_or 0 (take k r) (take k w) (lr ∙ sym (length-take-le k w l)) (λ p i.
    let i' : p < k = omega (arith, i, lr) in
    get_or-take k r p 0 i' ∙ a p i' ∙ sym (get_or-take k w p 0 i'))

-- ---- orderings

module _ (n : ℕ) where
  pub ordering_prefix : {w : List ℕ} {k : ℕ} (j : ℕ) → j ≤ k → IsOrdering n w k → IsOrdering n w j
  ordering_prefix j l o = record {
    long = omega (arith, o.long);
    vertices = λ p h. o.vertices p (omega arith);
    distinct = λ p q h i. o.distinct p q h (omega arith);
  }

  pub ordering_agree : {w : List ℕ} {k : ℕ} (w' : List ℕ) → k ≤ length w' → Agree k w w' → IsOrdering n w k → IsOrdering n w' k
  ordering_agree w' l a o = record {
    long = l;
    vertices = λ p h. subst (λ (x : ℕ). x < n) (a p h) (o.vertices p h);
    distinct = λ p q h i e. o.distinct p q h i (a p (omega arith) ∙ e ∙ sym (a q i));
  }

  pub ordering_unplaced : {w : List ℕ} {k : ℕ} → IsOrdering n w k → (j : ℕ) → j < k → T (placed w j (at w j)) → ⊥
  ordering_unplaced {w} o j l t = let s = placed_out w j (at w j) t in o.distinct s.0 j s.1 l s.2

  -- distinct vertices: where the same one stands, the position is the same
  pub same_position : {w : List ℕ} {k : ℕ} → IsOrdering n w k → (p q : ℕ) → p < k → q < k → at w p ≡ at w q → p ≡ q
  same_position o p q h l e = go (three_ways p q)
    where
      go : (p < q) ⊎ ((p ≡ q) ⊎ (q < p)) → p ≡ q
      go (inl i) = absurd (o.distinct p q i l e)
      go (inr (inl same)) = same
      go (inr (inr i)) = absurd (o.distinct q p i h (sym e))

  placed_count : (w : List ℕ) (k : ℕ) → IsOrdering n w k → count_below n (placed w k) ≡ k
  unfolding placed any_below
  placed_count w zero o = count_none n (placed w zero) (λ v l t. t)
  placed_count w (suc k) o =
      let shorter = ordering_prefix k (omega arith) o in
      count_added n (placed w k) (at w k) (o.vertices k (omega arith)) (ordering_unplaced o k (omega arith)) ∙ ap suc (placed_count w k shorter)

  -- n vertices make no longer ordering than n
  pub ordering_fits : {w : List ℕ} {k : ℕ} → IsOrdering n w k → k ≤ n
  ordering_fits {w} {k} o = let l = count_le n (placed w k) in omega (arith, placed_count w k o)

  pub some_unplaced : {w : List ℕ} {k : ℕ} → IsOrdering n w k → k < n → Some n (λ v. not (placed w k v))
  some_unplaced {w} {k} o l = count_missing n (placed w k) (omega (arith, placed_count w k o))

  pub all_placed : {w : List ℕ} → IsOrdering n w n → (v : ℕ) → v < n → T (placed w n v)
  all_placed {w} o = count_all n (placed w n) (placed_count w n o)

-- ---- one vertex more

pub length_grown : (w : List ℕ) (v : ℕ) → length (w ++ v ∷ []) ≡ suc (length w)
length_grown w v = length-append w (v ∷ []) ∙ add-one (length w)

pub grown_agree : (w : List ℕ) (v : ℕ) → Agree (length w) (w ++ v ∷ []) w
grown_agree w v p l = get_or-append w (v ∷ []) 0 p l

pub grown_last : (w : List ℕ) (v : ℕ) → at (w ++ v ∷ []) (length w) ≡ v
grown_last w v = get_or-append_seam w v [] 0

-- ---- the vertices by number

unfoldable pub up_to : ℕ → List ℕ
up_to zero = []
up_to (suc n) = up_to n ++ n ∷ []

up_to_length : (n : ℕ) → length (up_to n) ≡ n
unfolding up_to
up_to_length zero = refl
up_to_length (suc n) = length_grown (up_to n) n ∙ ap suc (up_to_length n)

up_to_at : (n p : ℕ) → p < n → at (up_to n) p ≡ p
unfolding up_to
up_to_at zero p l = absurd (omega arith)
up_to_at (suc n) p l = go (below_suc n p l) (up_to_at n p)
  where
    go : (p < n) ⊎ (p ≡ n) → (p < n → at (up_to n) p ≡ p) → at (up_to n ++ n ∷ []) p ≡ p
    go (inl h) rest = grown_agree (up_to n) n p (omega (arith, up_to_length n)) ∙ rest h
    go (inr e) rest = ap (λ (q : ℕ). at (up_to n ++ n ∷ []) q) (e ∙ sym (up_to_length n)) ∙ grown_last (up_to n) n ∙ sym e

pub up_to_full : (n : ℕ) → IsFullOrdering n (up_to n)
up_to_full n =
    let e : length (up_to n) ≡ n = up_to_length n in
    record {
      ordering = record {
        long = omega arith;
        vertices = λ p l. subst (λ (v : ℕ). v < n) (sym (up_to_at n p l)) l;
        distinct = λ p q h i same. let x = up_to_at n p (omega arith) in let y = up_to_at n q i in omega arith;
      };
      full = e;
    }
