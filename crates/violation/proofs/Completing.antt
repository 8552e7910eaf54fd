-- Who completes a violation with the vertices at positions i and j, and that the two steps find the first of them.
--   front_at                       the front, with the vertices looked up
--   completes_same                 to complete a violation is to make one
--   completes_vertex, completes_behind   who does is a vertex, and where it is placed it is behind j
--   first_there, first_nowhere     the search by number tells whether position i starts a violation
--   last_third, last_vertex        what the two steps find is the first candidate, and a vertex
-- Assumes nothing.
use mathlib.Core.Path.{◌≡◌, refl, sym, ap, ap₂, ◌∙◌, subst}
use mathlib.Core.Bool.{Bool, true, false, cond, not, ◌&&◌}
use mathlib.Core.Logic.{◌⊎◌, inl, inr}
use mathlib.Core.List.{List}
use Prim.Native.Nat.{ℕ, ◌+◌, ◌-◌, ◌<◌, ◌≤◌}
use native.Mathlib.Omega.{arith}
use lib.Dec.{T, ltb, eqb, ltb→lt, lt→ltb, eqb→eq, not_T, T_not}
use lib.ListN.{length, get_or}
use Rattle.bitset.specs.Below.{first_below}
use Rattle.bitset.specs.Word.{member, common}
use Rattle.bitset.proofs.Tests.{and_in, and_out, and_same, and_true, is_true, below_or, three_ways, cond_yes, cond_no}
use Rattle.bitset.proofs.Below.{IsFirst, first, first_found, first_earliest, first_unique, any_out, any_at}
use Rattle.bitset.proofs.Word.{member_zero, member_common}
use Rattle.searches.specs.Kind.{Search}
use Rattle.searches.specs.Ordering.{arcs, at, placed}
use Rattle.searches.specs.Violation.{third}
use Rattle.searches.proofs.Ordering.{placed_in}
use Rattle.searches.proofs.Judge.{third_vertex}
use Rattle.labels.specs.Words.{unexcused_in}
use Rattle.steps.specs.Steps.{free_after}
use Rattle.violation.specs.Fault.{violates_in, last_in, first_in, front_in, completes_in, behind_in, last_of, Searchable}
use Rattle.steps.proofs.Representation.{free_members, free_vertex}

-- ---- the front

pub front_at : (rows w : List ℕ) (free i j : ℕ) {front a b : ℕ} → a ≡ at w i → b ≡ at w j → front ≡ front_in rows free a b
    → front ≡ front_in rows free (at w i) (at w j)
front_at rows w free i j first middle e = e ∙ ap₂ (λ (x y : ℕ). front_in rows free x y) first middle

front_members : (rows : List ℕ) (free a b c : ℕ) → member (front_in rows free a b) c ≡ ((arcs rows a c && not (arcs rows a b)) && member free c)
unfolding front_in arcs
front_members rows free a b c = go (arcs rows a b)
  where
    none : (x : Bool) → false ≡ ((x && false) && member free c)
    none true = refl
    none false = refl

    go : (leads : Bool) → member (cond leads 0 (common (get_or rows a 0) free)) c ≡ ((arcs rows a c && not leads) && member free c)
    go true = member_zero c ∙ none (arcs rows a c)
    go false = member_common (get_or rows a 0) free c ∙ ap (λ (b : Bool). b && member free c) (and_true (arcs rows a c))

-- ---- who completes a violation

module _ (s : Search) (rows w labels : List ℕ) (free k j i : ℕ) {front mine : ℕ} (at_front : front ≡ front_in rows free (at w i) (at w j))
    (at-mine : mine ≡ get_or labels (at w j) 0) where
  abbrev leads : ℕ → Bool
  leads c = arcs rows (at w i) c && not (arcs rows (at w i) (at w j))

  pub completes_same : (c : ℕ) → completes_in s labels front i mine c ≡ violates_in s rows w labels free j i c
  unfolding completes_in violates_in
  completes_same c =
      ap₂ (λ (x y : ℕ). member x c && unexcused_in s i (get_or labels c 0) y) at_front at-mine
      ∙ ap (λ (x : Bool). x && unexcused_in s i (get_or labels c 0) (get_or labels (at w j) 0))
      (front_members rows free (at w i) (at w j) c ∙ and_same (leads c) (member free c) (member free c && not (eqb c (at w j))) (λ t. other t))
    where
      other : T (leads c) → member free c ≡ (member free c && not (eqb c (at w j)))
      other t =
          let both = and_out (arcs rows (at w i) c) (not (arcs rows (at w i) (at w j))) t in
          and_true (member free c)
          ∙ ap (λ (b : Bool). member free c && b)
          (sym (is_true (not (eqb c (at w j)))
          (not_T (eqb c (at w j)) (λ same. T_not (arcs rows (at w i) (at w j)) both.1 (subst (λ (x : ℕ). T (arcs rows (at w i) x)) (eqb→eq c (at w j) same) both.0)))))

  module _ {weights : List ℕ} (able : Searchable s rows w k labels weights free j) where
    abbrev n : ℕ
    n = length rows

    abbrev test : ℕ → Bool
    test = completes_in s labels front i mine

    abbrev behind : ℕ → Bool
    behind = behind_in s labels front i mine w j

    abbrev last : ℕ → Bool
    last = last_in s rows w labels free j k i

    -- what the front says of c
    in_front : (c : ℕ) → T (test c) → T (leads c) × T (member (free_after able.all w j) c)
    unfolding completes_in
    in_front c t =
        let inside = (and_out (member front c) (unexcused_in s i (get_or labels c 0) mine) t).0 in
        let both = and_out (leads c) (member free c) (subst (λ (b : Bool). T b) (ap (λ (x : ℕ). member x c) at_front ∙ front_members rows free (at w i) (at w j) c) inside) in
        (both.0, subst (λ (x : ℕ). T (member x c)) able.unplaced both.1)

    pub completes_vertex : (c : ℕ) → T (test c) → c < n
    completes_vertex c t = free_vertex able.all w able.within j c (in_front c t).1

    pub completes_behind : (p : ℕ) → p < k → T (test (at w p)) → j < p
    completes_behind p l t = go (three_ways p j) (in_front (at w p) t)
      where
        go : (p < j) ⊎ ((p ≡ j) ⊎ (j < p)) → T (leads (at w p)) × T (member (free_after able.all w j) (at w p)) → j < p
        go (inl h) f =
            let unplaced = (and_out (member able.all (at w p)) (not (placed w j (at w p))) (subst (λ (b : Bool). T b) (free_members able.all w j (at w p)) f.1)).1 in
            absurd (T_not (placed w j (at w p)) unplaced (placed_in w j (at w p) p h refl))
        go (inr (inl same)) f =
            let both = and_out (arcs rows (at w i) (at w p)) (not (arcs rows (at w i) (at w j))) f.0 in
            absurd (T_not (arcs rows (at w i) (at w j)) both.1 (subst (λ (x : ℕ). T (arcs rows (at w i) (at w x))) same both.0))
        go (inr (inr h)) f = h

    -- the candidates that are placed, and the others
    last_placed : (e : ℕ) → e < k → (third w k e ≡ at w e) × (last e ≡ test (at w e))
    unfolding third last_in
    last_placed e l =
        let is = cond_yes (ltb e k) (at w e) (e - k) (lt→ltb e k l) in
        (is, ap (λ (v : ℕ). violates_in s rows w labels free j i v) is ∙ sym (completes_same (at w e)))

    last_number : (e : ℕ) → k ≤ e → (third w k e ≡ e - k) × (last e ≡ test (e - k))
    unfolding third last_in
    last_number e l =
        let is = cond_no (ltb e k) (at w e) (e - k) (λ t. omega (arith, ltb→lt e k t)) in
        (is, ap (λ (v : ℕ). violates_in s rows w labels free j i v) is ∙ sym (completes_same (e - k)))

    number_last : (c : ℕ) → T (test c) → T (last (k + c))
    number_last c holds =
        let z : k + c - k ≡ c = omega arith in
        subst (λ (b : Bool). T b) (sym (last_number (k + c) (omega arith)).1) (subst (λ (x : ℕ). T (test x)) (sym z) holds)

    -- a candidate that violates completes
    last_out : (e : ℕ) → T (last e) → T (test (third w k e))
    unfolding last_in
    last_out e t = subst (λ (b : Bool). T b) (sym (completes_same (third w k e))) t

    -- ---- whether the search by number found something

    pub first_there : {c : ℕ} → c ≡ first_below 64 test → c < 64 → T (first_in s rows w labels free j k i)
    unfolding first_in
    first_there {c} e l =
        let holds : T (test c) = subst (λ (x : ℕ). T (test x)) (sym e) ((first 64 test).holds (omega arith)) in
        any_at (k + n) last (k + c) (omega (arith, completes_vertex c holds)) (number_last c holds)

    pub first_nowhere : {c : ℕ} → c ≡ first_below 64 test → 64 ≤ c → T (first_in s rows w labels free j k i) → ⊥
    unfolding first_in
    first_nowhere {c} e l t =
        let x = any_out (k + n) last t in
        omega (
          arith,
          first_earliest 64 test (third w k x.at) (last_out x.at x.holds),
          third_vertex w k n able.vertices x.at x.below,
          able.small,
        )

    -- ---- what the two steps find

    -- no position before one that was found, or before k where none was, completes a violation
    none_before : (p : ℕ) → p ≤ first_below k behind → (e : ℕ) → e < p → T (last e) → ⊥
    unfolding behind_in
    none_before p h e l t =
        let inside : e < k = omega (arith, (first k behind).within) in
        let holds = subst (λ (b : Bool). T b) (last_placed e inside).1 t in
        (first k behind).least e (omega arith) (and_in (ltb j e) (test (at w e)) (lt→ltb j e (completes_behind e inside holds)) holds)

    by_position : first_below k behind < k → IsFirst (k + n) last (first_below k behind)
    unfolding behind_in
    by_position l =
        let p = first_below k behind in
        record {
          within = omega arith;
          holds = λ _. subst (λ (b : Bool). T b) (sym (last_placed p l).1) (and_out (ltb j p) (test (at w p)) ((first k behind).holds l)).1;
          least = none_before p (omega arith);
        }

    by_number : k ≤ first_below k behind → T (first_in s rows w labels free j k i) → IsFirst (k + n) last (k + first_below 64 test)
    by_number l t =
        let c = first_below 64 test in
        let found : c < 64 = found_below (below_or c 64) in
        let holds = (first 64 test).holds found in
        record {
          within = omega (arith, completes_vertex c holds);
          holds = λ _. number_last c holds;
          least = λ e h u. before e h u (below_or e k);
        }
      where
        found_below : (first_below 64 test < 64) ⊎ (64 ≤ first_below 64 test) → first_below 64 test < 64
        found_below (inl h) = h
        found_below (inr h) = absurd (first_nowhere refl h t)

        before : (e : ℕ) → e < k + first_below 64 test → T (last e) → (e < k) ⊎ (k ≤ e) → ⊥
        before e h u (inl g) = none_before k l e g u
        before e h u (inr g) = (first 64 test).least (e - k) (omega arith) (subst (λ (b : Bool). T b) (last_number e g).1 u)

    pub last_third : {c : ℕ} → c ≡ last_of s labels front i mine w j k → T (first_in s rows w labels free j k i) → c ≡ third w k (first_below (k + n) last)
    unfolding last_of
    last_third {c} e t = e ∙ go (below_or p k)
      where
        p : ℕ
        p = first_below k behind

        number : ℕ
        number = first_below 64 test

        go : (p < k) ⊎ (k ≤ p) → cond (ltb p k) (at w p) number ≡ third w k (first_below (k + n) last)
        go (inl l) =
            cond_yes (ltb p k) (at w p) number (lt→ltb p k l) ∙ sym (last_placed p l).0 ∙ ap (λ (x : ℕ). third w k x) (first_unique (by_position l))
        go (inr l) =
            let z : number ≡ k + number - k = omega arith in
            cond_no (ltb p k) (at w p) number (λ u. omega (arith, ltb→lt p k u)) ∙ z ∙ sym (last_number (k + number) (omega arith)).0
            ∙ ap (λ (x : ℕ). third w k x) (first_unique (by_number l t))

    pub last_vertex : T (first_in s rows w labels free j k i) → last_of s labels front i mine w j k < n
    unfolding first_in
    last_vertex t =
        omega (arith, last_third refl t, third_vertex w k n able.vertices (first_below (k + n) last) (first_found (any_out (k + n) last t)))
