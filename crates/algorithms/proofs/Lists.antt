-- Entries of lists, and what holds between each entry and each later one.
--   among_*              which entries a list has that was put together, kept in part or turned round
--   among_position, position_among   an entry stands at some position
--   pairwise_*           what holds between its entries
--   order_backward       a list in any order is so from its other end too
--   Earlier r u u'       u comes before u' in the ordering r
--   order_listed, listed_earlier   the entries of a full ordering at which a test holds, kept in the ordering's order
--   full_list_in, full_list_out      full_list: a full ordering
-- Assumes nothing.
use mathlib.Core.Path.{◌≡◌, refl, sym, subst}
use mathlib.Core.Bool.{Bool, true, false, cond, not, ◌&&◌}
use mathlib.Core.Logic.{◌⊎◌, inl, inr}
use mathlib.Core.List.{List, [], ◌∷◌, ◌++◌}
use Prim.Native.Nat.{ℕ, zero, suc, ◌≤◌, ◌<◌}
use native.Mathlib.Omega.{arith}
use lib.Dec.{T, eqb, eqb→eq, eqb_refl, not_T, T_not}
use lib.ListN.{length}
use Rattle.bitset.proofs.Tests.{and_in, and_out, or_inl, or_inr, or_out, below_or, three_ways}
use Rattle.searches.specs.Ordering.{at, placed, IsFullOrdering}
use Rattle.searches.specs.Answer.{vertex_outside, repeated}
use Rattle.searches.proofs.Ordering.{placed_in, placed_out, all_placed}
use Rattle.searches.proofs.Refusals.{vertex_outside_in, vertex_outside_out, repeated_in, repeated_out}
use Rattle.algorithms.specs.Following.{full_list}
use Rattle.algorithms.specs.Lists.{among, keep, backward, Pairwise, InAnyOrder}

-- ---- entries

pub among_here : (x u : ℕ) (xs : List ℕ) → x ≡ u → T (among (x ∷ xs) u)
unfolding among
among_here x u xs e = or_inl (eqb x u) (among xs u) (subst (λ (y : ℕ). T (eqb x y)) e (eqb_refl x))

pub among_later : (x u : ℕ) (xs : List ℕ) → T (among xs u) → T (among (x ∷ xs) u)
unfolding among
among_later x u xs t = or_inr (eqb x u) (among xs u) t

pub among_none : (u : ℕ) → T (among [] u) → ⊥
unfolding among
among_none u t = t

pub among_out : (x u : ℕ) (xs : List ℕ) → T (among (x ∷ xs) u) → (x ≡ u) ⊎ T (among xs u)
unfolding among
among_out x u xs t = go (or_out (eqb x u) (among xs u) t)
  where
    go : T (eqb x u) ⊎ T (among xs u) → (x ≡ u) ⊎ T (among xs u)
    go (inl e) = inl (eqb→eq x u e)
    go (inr r) = inr r

pub among_append_out : (xs ys : List ℕ) (u : ℕ) → T (among (xs ++ ys) u) → T (among xs u) ⊎ T (among ys u)
among_append_out [] ys u t = inr t
among_append_out (x ∷ xs) ys u t = go (among_out x u (xs ++ ys) t) (among_append_out xs ys u)
  where
    go : (x ≡ u) ⊎ T (among (xs ++ ys) u) → (T (among (xs ++ ys) u) → T (among xs u) ⊎ T (among ys u)) → T (among (x ∷ xs) u) ⊎ T (among ys u)
    go (inl e) rest = inl (among_here x u xs e)
    go (inr r) rest = further (rest r)
      where
        further : T (among xs u) ⊎ T (among ys u) → T (among (x ∷ xs) u) ⊎ T (among ys u)
        further (inl l) = inl (among_later x u xs l)
        further (inr l) = inr l

pub among_append_left : (xs ys : List ℕ) (u : ℕ) → T (among xs u) → T (among (xs ++ ys) u)
among_append_left [] ys u t = absurd (among_none u t)
among_append_left (x ∷ xs) ys u t = go (among_out x u xs t) (among_append_left xs ys u)
  where
    go : (x ≡ u) ⊎ T (among xs u) → (T (among xs u) → T (among (xs ++ ys) u)) → T (among (x ∷ xs ++ ys) u)
    go (inl e) rest = among_here x u (xs ++ ys) e
    go (inr r) rest = among_later x u (xs ++ ys) (rest r)

pub among_append_right : (xs ys : List ℕ) (u : ℕ) → T (among ys u) → T (among (xs ++ ys) u)
among_append_right [] ys u t = t
among_append_right (x ∷ xs) ys u t = among_later x u (xs ++ ys) (among_append_right xs ys u t)

pub among_last : (xs : List ℕ) (x u : ℕ) → x ≡ u → T (among (xs ++ x ∷ []) u)
among_last xs x u e = among_append_right xs (x ∷ []) u (among_here x u [] e)

pub among_last_out : (xs : List ℕ) (x u : ℕ) → T (among (xs ++ x ∷ []) u) → T (among xs u) ⊎ (x ≡ u)
among_last_out xs x u t = go (among_append_out xs (x ∷ []) u t)
  where
    single : (x ≡ u) ⊎ T (among [] u) → x ≡ u
    single (inl e) = e
    single (inr r) = absurd (among_none u r)

    go : T (among xs u) ⊎ T (among (x ∷ []) u) → T (among xs u) ⊎ (x ≡ u)
    go (inl l) = inl l
    go (inr r) = inr (single (among_out x u [] r))

pub among_keep_out : (f : ℕ → Bool) (xs : List ℕ) (u : ℕ) → T (among (keep f xs) u) → T (among xs u) × T (f u)
unfolding keep
among_keep_out f [] u t = absurd (among_none u t)
among_keep_out f (x ∷ xs) u t = go (f x) (λ y. y) t (among_keep_out f xs u)
  where
    go : (b : Bool) → (T b → T (f x)) → T (among (cond b (x ∷ keep f xs) (keep f xs)) u)
        → (T (among (keep f xs) u) → T (among xs u) × T (f u)) → T (among (x ∷ xs) u) × T (f u)
    go true holds t rest = split (among_out x u (keep f xs) t)
      where
        split : (x ≡ u) ⊎ T (among (keep f xs) u) → T (among (x ∷ xs) u) × T (f u)
        split (inl e) = (among_here x u xs e, subst (λ (y : ℕ). T (f y)) e (holds tt))
        split (inr r) = let both = rest r in (among_later x u xs both.0, both.1)
    go false holds t rest = let both = rest t in (among_later x u xs both.0, both.1)

pub among_keep_in : (f : ℕ → Bool) (xs : List ℕ) (u : ℕ) → T (among xs u) → T (f u) → T (among (keep f xs) u)
unfolding keep
among_keep_in f [] u t p = t
among_keep_in f (x ∷ xs) u t p = go (f x) (λ y. y) (among_out x u xs t) (λ r. among_keep_in f xs u r p)
  where
    go : (b : Bool) → (T (f x) → T b) → (x ≡ u) ⊎ T (among xs u) → (T (among xs u) → T (among (keep f xs) u)) → T (among (cond b (x ∷ keep f xs) (keep f xs)) u)
    go true holds (inl e) rest = among_here x u (keep f xs) e
    go true holds (inr r) rest = among_later x u (keep f xs) (rest r)
    go false holds (inl e) rest = absurd (holds (subst (λ (y : ℕ). T (f y)) (sym e) p))
    go false holds (inr r) rest = rest r

pub among_position : (xs : List ℕ) (u : ℕ) → T (among xs u) → (p : ℕ) × (p < length xs) × (at xs p ≡ u)
among_position [] u t = absurd (among_none u t)
among_position (x ∷ xs) u t = go (among_out x u xs t) (among_position xs u)
  where
    go : (x ≡ u) ⊎ T (among xs u) → (T (among xs u) → (p : ℕ) × (p < length xs) × (at xs p ≡ u)) → (p : ℕ) × (p < length (x ∷ xs)) × (at (x ∷ xs) p ≡ u)
    go (inl e) rest = (0, omega arith, e)
    go (inr r) rest = let s = rest r in (suc s.0, omega (arith, s.1), s.2)

pub position_among : (xs : List ℕ) (p u : ℕ) → p < length xs → at xs p ≡ u → T (among xs u)
position_among [] p u l e = absurd (omega arith)
position_among (x ∷ xs) zero u l e = among_here x u xs e
position_among (x ∷ xs) (suc p) u l e = among_later x u xs (position_among xs p u (omega arith) e)

-- ---- between entries

pub pairwise_map : {rel rel' : ℕ → ℕ → Type 0} (xs : List ℕ) → ((u u' : ℕ) → T (among xs u) → T (among xs u') → rel u u' → rel' u u')
    → Pairwise rel xs → Pairwise rel' xs
pairwise_map [] h p = tt
pairwise_map (x ∷ xs) h p = (
  λ u t. h x u (among_here x x xs refl) (among_later x u xs t) (p.0 u t),
  pairwise_map xs (λ u u' t t'. h u u' (among_later x u xs t) (among_later x u' xs t')) p.1,
)

pub pairwise_any : (xs : List ℕ) → Pairwise (λ u u'. Unit {0}) xs
pairwise_any [] = tt
pairwise_any (x ∷ xs) = (λ u t. tt, pairwise_any xs)

module _ (rel : ℕ → ℕ → Type 0) where
  pub pairwise_keep : (f : ℕ → Bool) (xs : List ℕ) → Pairwise rel xs → Pairwise rel (keep f xs)
  unfolding keep
  pairwise_keep f [] p = tt
  pairwise_keep f (x ∷ xs) p = go (f x) (pairwise_keep f xs p.1)
    where
      go : (b : Bool) → Pairwise rel (keep f xs) → Pairwise rel (cond b (x ∷ keep f xs) (keep f xs))
      go true rest = (λ u t. p.0 u (among_keep_out f xs u t).0, rest)
      go false rest = rest

  pub pairwise_last : (xs : List ℕ) (y : ℕ) → Pairwise rel xs → ((u : ℕ) → T (among xs u) → rel u y) → Pairwise rel (xs ++ y ∷ [])
  pairwise_last [] y p h = (λ u t. absurd (among_none u t), tt)
  pairwise_last (x ∷ xs) y p h = (λ u t. go u (among_last_out xs y u t), pairwise_last xs y p.1 (λ u t. h u (among_later x u xs t)))
    where
      go : (u : ℕ) → T (among xs u) ⊎ (y ≡ u) → rel x u
      go u (inl t) = p.0 u t
      go u (inr e) = subst (λ (z : ℕ). rel x z) e (h x (among_here x x xs refl))

  -- by position
  pub pairwise_by_position : (xs : List ℕ) → ((p q : ℕ) → p < q → q < length xs → rel (at xs p) (at xs q)) → Pairwise rel xs
  pairwise_by_position [] h = tt
  pairwise_by_position (x ∷ xs) h = (
    λ u t.
        let s = among_position xs u t in
        subst (λ (y : ℕ). rel x y) s.2 (h 0 (suc s.0) (omega arith) (omega (arith, s.1))),
    pairwise_by_position xs (λ p q l i. h (suc p) (suc q) (omega arith) (omega arith)),
  )

-- ---- from the other end

pub among_backward_out : (xs : List ℕ) (u : ℕ) → T (among (backward xs) u) → T (among xs u)
unfolding backward
among_backward_out [] u t = t
among_backward_out (x ∷ xs) u t = go (among_last_out (backward xs) x u t) (among_backward_out xs u)
  where
    go : T (among (backward xs) u) ⊎ (x ≡ u) → (T (among (backward xs) u) → T (among xs u)) → T (among (x ∷ xs) u)
    go (inl r) rest = among_later x u xs (rest r)
    go (inr e) rest = among_here x u xs e

pub among_backward_in : (xs : List ℕ) (u : ℕ) → T (among xs u) → T (among (backward xs) u)
unfolding backward
among_backward_in [] u t = t
among_backward_in (x ∷ xs) u t = go (among_out x u xs t) (among_backward_in xs u)
  where
    go : (x ≡ u) ⊎ T (among xs u) → (T (among xs u) → T (among (backward xs) u)) → T (among (backward xs ++ x ∷ []) u)
    go (inl e) rest = among_last (backward xs) x u e
    go (inr r) rest = among_append_left (backward xs) (x ∷ []) u (rest r)

pub pairwise_backward : (rel : ℕ → ℕ → Type 0) (xs : List ℕ) → Pairwise rel xs → Pairwise (λ u u'. rel u' u) (backward xs)
unfolding backward
pairwise_backward rel [] p = tt
pairwise_backward rel (x ∷ xs) p =
    pairwise_last (λ u u'. rel u' u) (backward xs) x (pairwise_backward rel xs p.1) (λ u t. p.0 u (among_backward_out xs u t))

pub order_backward : {n : ℕ} {f : ℕ → Bool} (xs : List ℕ) → InAnyOrder n f xs → InAnyOrder n f (backward xs)
order_backward xs o = record {
  only = λ u t. o.only u (among_backward_out xs u t);
  all = λ u l p. among_backward_in xs u (o.all u l p);
  once = pairwise_map (backward xs) (λ u u' t t' apart e. apart (sym e)) (pairwise_backward (λ u u'. u ≡ u' → ⊥) xs o.once);
}

-- ---- in the order of a full ordering

-- u stands before wherever u' stands
abbrev pub Earlier : List ℕ → ℕ → ℕ → Type 0
Earlier r u u' = (p : ℕ) → p < length r → at r p ≡ u' → T (placed r p u)

module _ (n : ℕ) (r : List ℕ) (full : IsFullOrdering n r) where
  apart_by_position : (p q : ℕ) → p < q → q < length r → at r p ≡ at r q → ⊥
  apart_by_position p q l h = full.ordering.distinct p q l (omega (arith, full.full))

  earlier_by_position : (p q : ℕ) → p < q → q < length r → Earlier r (at r p) (at r q)
  earlier_by_position p q l h i k e = go (three_ways i q)
    where
      go : (i < q) ⊎ ((i ≡ q) ⊎ (q < i)) → T (placed r i (at r p))
      go (inl m) = absurd (apart_by_position i q m h e)
      go (inr (inl same)) = placed_in r i (at r p) p (omega arith) refl
      go (inr (inr m)) = absurd (apart_by_position q i m k (sym e))

  pub order_listed : (f : ℕ → Bool) → InAnyOrder n f (keep f r)
  order_listed f = record {
    only = λ u t.
        let both = among_keep_out f r u t in
        let s = among_position r u both.0 in
        (subst (λ (x : ℕ). x < n) s.2 (full.ordering.vertices s.0 (omega (arith, s.1, full.full))), both.1);
    all = λ u l p.
        let s = placed_out r n u (all_placed n full.ordering u l) in
        among_keep_in f r u (position_among r s.0 u (omega (arith, s.1, full.full)) s.2) p;
    once = pairwise_keep (λ u u'. u ≡ u' → ⊥) f r (pairwise_by_position (λ u u'. u ≡ u' → ⊥) r apart_by_position);
  }

  pub listed_earlier : (f : ℕ → Bool) → Pairwise (Earlier r) (keep f r)
  listed_earlier f = pairwise_keep (Earlier r) f r (pairwise_by_position (Earlier r) r earlier_by_position)

-- ---- a list that has each vertex once, as a test

pub full_list_out : (n : ℕ) (r : List ℕ) → T (full_list n r) → IsFullOrdering n r
unfolding full_list
full_list_out n r t =
    let both = and_out (eqb (length r) n) (not (vertex_outside n r n) && not (repeated r n)) t in
    let rest = and_out (not (vertex_outside n r n)) (not (repeated r n)) both.1 in
    let e : length r ≡ n = eqb→eq (length r) n both.0 in
    record {
      ordering = record {
        long = omega arith;
        vertices = λ p l. vertex p l (below_or (at r p) n) (T_not (vertex_outside n r n) rest.0);
        distinct = λ p q l h same. T_not (repeated r n) rest.1 (repeated_in r n p q l h same);
      };
      full = e;
    }
  where
    vertex : (p : ℕ) → p < n → (at r p < n) ⊎ (n ≤ at r p) → (T (vertex_outside n r n) → ⊥) → at r p < n
    vertex p l (inl h) none = h
    vertex p l (inr h) none = absurd (none (vertex_outside_in r n n p l h))

pub full_list_in : (n : ℕ) (r : List ℕ) → IsFullOrdering n r → T (full_list n r)
unfolding full_list
full_list_in n r full =
    and_in (eqb (length r) n) (not (vertex_outside n r n) && not (repeated r n)) (subst (λ (x : ℕ). T (eqb (length r) x)) full.full (eqb_refl (length r)))
    (and_in (not (vertex_outside n r n)) (not (repeated r n))
    (not_T (vertex_outside n r n) (λ t. let x = vertex_outside_out r n n t in let l = full.ordering.vertices x.0 x.1 in omega (arith, x.2)))
    (not_T (repeated r n) (λ t. let x = repeated_out r n t in full.ordering.distinct x.0 x.1 x.2 x.3 x.4)))
