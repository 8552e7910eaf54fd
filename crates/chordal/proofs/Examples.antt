-- The definitions, run. A chordless cycle and an elimination order as tests that compute, and that these say the same; then a list of plans with cycles and
-- orders to try, each answered by the tests.
--   is_ordering, next_to, as_next, is_chordless_cycle, closed, is_elimination_order    the tests
--   cycle_exactly, order_exactly                                they hold exactly where the definitions do
--   Example, examples, examples_right                           what they tell
-- Assumes nothing.
use mathlib.Core.Path.{◌≡◌, refl, sym, subst}
use mathlib.Core.Logic.{◌↔◌, ◌⊎◌, inl, inr}
use mathlib.Core.Bool.{Bool, true, false, not, ◌&&◌, ◌||◌, beq}
use mathlib.Core.List.{List, [], ◌∷◌, map}
use Prim.Native.Nat.{ℕ, suc, ◌<◌}
use lib.Dec.{T, leb, eqb, eqb→eq, eqb_refl, leb→le, le→leb, T_not, not_T}
use lib.ListN.{length}
use Rattle.bitset.specs.Below.{any_below, all_below}
use Rattle.bitset.specs.Word.{member}
use Rattle.bitset.proofs.Tests.{and_in, and_out, or_inl, or_inr, or_out, same_test, decided}
use Rattle.bitset.proofs.Below.{all_in, all_out}
use Rattle.searches.specs.Ordering.{arcs, at, IsOrdering}
use Rattle.searches.specs.Answer.{vertex_outside, repeated}
use Rattle.searches.proofs.Answers.{clear, all_inside, none_repeated}
use Rattle.chordal.specs.Chordal.{NextTo, IsChordlessCycle, IsEliminationOrder}

-- ---- the definitions as tests

unfoldable pub is_ordering : ℕ → List ℕ → ℕ → Bool
is_ordering n w k = leb k (length w) && (not (vertex_outside n w k) && not (repeated w k))

unfoldable pub next_to : ℕ → ℕ → ℕ → Bool
next_to m p q = eqb (suc p) q || (eqb p 0 && eqb (suc q) m)

module _ (arc : ℕ → ℕ → Bool) (n : ℕ) where
  -- of a pair of positions: linked exactly if next to each other
  unfoldable pub as_next : List ℕ → ℕ → ℕ → ℕ → Bool
  as_next c m q p = beq (arc (at c p) (at c q)) (next_to m p q)

  unfoldable pub is_chordless_cycle : List ℕ → ℕ → Bool
  is_chordless_cycle c m = leb 4 m && (is_ordering n c m && all_below m (λ q. all_below q (as_next c m q)))

  -- of three positions: the two later ones linked if both are linked to the first
  unfoldable pub closed : List ℕ → ℕ → ℕ → ℕ → Bool
  closed e r q p = not (arc (at e p) (at e q) && arc (at e p) (at e r)) || arc (at e q) (at e r)

  unfoldable pub is_elimination_order : List ℕ → Bool
  is_elimination_order e = is_ordering n e n && all_below n (λ r. all_below r (λ q. all_below q (closed e r q)))

-- ---- what they mean

ordering_out : (n : ℕ) (w : List ℕ) (k : ℕ) → T (is_ordering n w k) → IsOrdering n w k
unfolding is_ordering
ordering_out n w k t =
    let x = and_out (leb k (length w)) (not (vertex_outside n w k) && not (repeated w k)) t in
    let y = and_out (not (vertex_outside n w k)) (not (repeated w k)) x.1 in
    clear n w k (leb→le k (length w) x.0) (T_not (vertex_outside n w k) y.0) (T_not (repeated w k) y.1)

ordering_in : (n : ℕ) (w : List ℕ) (k : ℕ) → IsOrdering n w k → T (is_ordering n w k)
unfolding is_ordering
ordering_in n w k o =
    and_in (leb k (length w)) (not (vertex_outside n w k) && not (repeated w k)) (le→leb k (length w) o.long)
    (and_in (not (vertex_outside n w k)) (not (repeated w k)) (not_T (vertex_outside n w k) (all_inside o)) (not_T (repeated w k) (none_repeated o)))

next_out : (m p q : ℕ) → T (next_to m p q) → NextTo m p q
unfolding next_to
next_out m p q t = go (or_out (eqb (suc p) q) (eqb p 0 && eqb (suc q) m) t)
  where
    go : T (eqb (suc p) q) ⊎ T (eqb p 0 && eqb (suc q) m) → NextTo m p q
    go (inl e) = inl (eqb→eq (suc p) q e)
    go (inr x) = let y = and_out (eqb p 0) (eqb (suc q) m) x in inr (eqb→eq p 0 y.0, eqb→eq (suc q) m y.1)

next_in : (m p q : ℕ) → NextTo m p q → T (next_to m p q)
unfolding next_to
next_in m p q (inl e) = or_inl (eqb (suc p) q) (eqb p 0 && eqb (suc q) m) (subst (λ (x : ℕ). T (eqb (suc p) x)) e (eqb_refl (suc p)))
next_in m p q (inr x) =
    or_inr (eqb (suc p) q) (eqb p 0 && eqb (suc q) m)
    (and_in (eqb p 0) (eqb (suc q) m) (subst (λ (y : ℕ). T (eqb p y)) x.0 (eqb_refl p)) (subst (λ (y : ℕ). T (eqb (suc q) y)) x.1 (eqb_refl (suc q))))

beq_out : (a b : Bool) → T (beq a b) → a ≡ b
beq_out true true t = refl
beq_out false false t = refl
beq_out true false t = absurd t
beq_out false true t = absurd t

beq_in : (a : Bool) → T (beq a a)
beq_in true = tt
beq_in false = tt

module _ (arc : ℕ → ℕ → Bool) (n : ℕ) where
  pub cycle_exactly : (c : List ℕ) (m : ℕ) → T (is_chordless_cycle arc n c m) ↔ IsChordlessCycle arc n c m
  unfolding is_chordless_cycle as_next
  cycle_exactly c m = (out, in')
    where
      pairs : ℕ → Bool
      pairs q = all_below q (as_next arc n c m q)

      out : T (is_chordless_cycle arc n c m) → IsChordlessCycle arc n c m
      out t =
          let x = and_out (leb 4 m) (is_ordering n c m && all_below m pairs) t in
          let y = and_out (is_ordering n c m) (all_below m pairs) x.1 in
          let same : (p q : ℕ) → p < q → q < m → arc (at c p) (at c q) ≡ next_to m p q =
          λ p q h k. beq_out (arc (at c p) (at c q)) (next_to m p q) (all_out q (as_next arc n c m q) (all_out m pairs y.1 q k) p h)
          in
          record {
            four = leb→le 4 m x.0;
            distinct = ordering_out n c m y.0;
            linked = λ p q h k. (
              λ u. next_out m p q (subst (λ (b : Bool). T b) (same p q h k) u),
              λ u. subst (λ (b : Bool). T b) (sym (same p q h k)) (next_in m p q u),
            );
          }

      in' : IsChordlessCycle arc n c m → T (is_chordless_cycle arc n c m)
      in' x =
          and_in (leb 4 m) (is_ordering n c m && all_below m pairs) (le→leb 4 m x.four)
          (and_in (is_ordering n c m) (all_below m pairs) (ordering_in n c m x.distinct)
          (all_in m pairs (λ q k. all_in q (as_next arc n c m q) (λ p h.
          subst (λ (b : Bool). T (beq (arc (at c p) (at c q)) b))
          (same_test (arc (at c p) (at c q)) (next_to m p q) (λ u. next_in m p q ((x.linked p q h k).0 u)) (λ u. (x.linked p q h k).1 (next_out m p q u)))
          (beq_in (arc (at c p) (at c q)))))))

  pub order_exactly : (e : List ℕ) → T (is_elimination_order arc n e) ↔ IsEliminationOrder arc n e
  unfolding is_elimination_order closed
  order_exactly e = (out, in')
    where
      triples : ℕ → ℕ → Bool
      triples r q = all_below q (closed arc n e r q)

      all_three : ℕ → Bool
      all_three r = all_below r (triples r)

      out : T (is_elimination_order arc n e) → IsEliminationOrder arc n e
      out t =
          let x = and_out (is_ordering n e n) (all_below n all_three) t in
          record {
            all = ordering_out n e n x.0;
            later = λ p q r h k l a b.
                told (arc (at e p) (at e q) && arc (at e p) (at e r)) (arc (at e q) (at e r)) (or_out (not (arc (at e p) (at e q) && arc (at e p) (at e r))) (arc (at e q) (at e r))
                (all_out q (closed arc n e r q) (all_out r (triples r) (all_out n all_three x.1 r l) q k) p h))
                (and_in (arc (at e p) (at e q)) (arc (at e p) (at e r)) a b);
          }
        where
          told : (a b : Bool) → T (not a) ⊎ T b → T a → T b
          told a b (inl f) t = absurd (T_not a f t)
          told a b (inr u) t = u

      in' : IsEliminationOrder arc n e → T (is_elimination_order arc n e)
      in' x =
          and_in (is_ordering n e n) (all_below n all_three) (ordering_in n e n x.all)
          (all_in n all_three (λ r l. all_in r (triples r) (λ q k. all_in q (closed arc n e r q) (λ p h. go p q r h k l (decided (arc (at e p) (at e q) && arc (at e p) (at e r)))))))
        where
          go : (p q r : ℕ) → p < q → q < r → r < n → T (arc (at e p) (at e q) && arc (at e p) (at e r)) ⊎ (T (arc (at e p) (at e q) && arc (at e p) (at e r)) → ⊥)
              → T (closed arc n e r q p)
          go p q r h k l (inl t) =
              let y = and_out (arc (at e p) (at e q)) (arc (at e p) (at e r)) t in
              or_inr (not (arc (at e p) (at e q) && arc (at e p) (at e r))) (arc (at e q) (at e r)) (x.later p q r h k l y.0 y.1)
          go p q r h k l (inr f) =
              or_inl (not (arc (at e p) (at e q) && arc (at e p) (at e r))) (arc (at e q) (at e r)) (not_T (arc (at e p) (at e q) && arc (at e p) (at e r)) f)

-- ---- examples

pub record Example : Type 0 where
  pub rows : List ℕ
  -- the list that is tried: its first entries, as many as are told, as a cycle, and as many as there are points as an order
  pub list : List ℕ
  pub many : ℕ
  pub is_cycle : Bool
  pub is_order : Bool

abbrev try : List ℕ → List ℕ → ℕ → Bool → Bool → Example
try rows list many is_cycle is_order = record { rows = rows; list = list; many = many; is_cycle = is_cycle; is_order = is_order }

-- the links 0-1, 1-2, 2-3, 0-3; with 0-2 too; with 1-3 as well
abbrev ring : List ℕ
ring = 10 ∷ 5 ∷ 10 ∷ 5 ∷ []

abbrev chord : List ℕ
chord = 14 ∷ 5 ∷ 11 ∷ 5 ∷ []

abbrev complete : List ℕ
complete = 14 ∷ 13 ∷ 11 ∷ 7 ∷ []

-- the links 0-1, 0-2, 1-2
abbrev triangle : List ℕ
triangle = 6 ∷ 5 ∷ 3 ∷ []

-- the links 0-1, 1-2, and 3 by itself
abbrev pieces : List ℕ
pieces = 2 ∷ 5 ∷ 2 ∷ 0 ∷ []

-- the link 0-1 and, apart from it, the ring 2-3-4-5
abbrev pieces_with_ring : List ℕ
pieces_with_ring = 2 ∷ 1 ∷ 40 ∷ 20 ∷ 40 ∷ 20 ∷ []

abbrev pub examples : List Example
examples =
    try ring (0 ∷ 1 ∷ 2 ∷ 3 ∷ []) 4 true false
    ∷ try ring (2 ∷ 1 ∷ 0 ∷ 3 ∷ []) 4 true false
    ∷ try ring (0 ∷ 2 ∷ 1 ∷ 3 ∷ []) 4 false false
    ∷ try ring (0 ∷ 1 ∷ 2 ∷ 3 ∷ []) 3 false false
    ∷ try ring (0 ∷ 1 ∷ 2 ∷ 3 ∷ 0 ∷ []) 5 false false
    ∷ try chord (0 ∷ 1 ∷ 2 ∷ 3 ∷ []) 4 false false
    ∷ try chord (1 ∷ 0 ∷ 2 ∷ 3 ∷ []) 4 false true
    ∷ try chord (1 ∷ 3 ∷ 0 ∷ 2 ∷ []) 4 false true
    ∷ try chord (1 ∷ 3 ∷ 0 ∷ []) 3 false false
    ∷ try chord (1 ∷ 3 ∷ 0 ∷ 3 ∷ []) 4 false false
    ∷ try complete (3 ∷ 1 ∷ 0 ∷ 2 ∷ []) 4 false true
    ∷ try triangle (0 ∷ 1 ∷ 2 ∷ []) 3 false true
    ∷ try triangle (2 ∷ 1 ∷ 0 ∷ 77 ∷ []) 4 false true
    ∷ try pieces (0 ∷ 3 ∷ 2 ∷ 1 ∷ []) 4 false true
    ∷ try pieces (1 ∷ 0 ∷ 2 ∷ 3 ∷ []) 4 false false
    ∷ try pieces_with_ring (5 ∷ 2 ∷ 3 ∷ 4 ∷ 0 ∷ 1 ∷ []) 4 true false
    ∷ try pieces_with_ring (5 ∷ 2 ∷ 3 ∷ 4 ∷ 0 ∷ 1 ∷ []) 6 false false
    ∷ try (0 ∷ []) (0 ∷ []) 1 false true
    ∷ try [] [] 0 false true
    ∷ []

pub examples_right : (map (λ (e : Example). is_chordless_cycle (arcs e.rows) (length e.rows) e.list e.many) examples ≡ map (λ (e : Example). e.is_cycle) examples)
    × (map (λ (e : Example). is_elimination_order (arcs e.rows) (length e.rows) e.list) examples ≡ map (λ (e : Example). e.is_order) examples)
unfolding member any_below all_below arcs vertex_outside repeated is_ordering next_to as_next is_chordless_cycle closed is_elimination_order
examples_right = (refl, refl)
