-- Judge of the graph without some vertices, named back, is judge of the whole graph with only the kept third vertices looked at.
--   violates_same        the tests on three vertices agree
--   judge_kept_lem           and so do the verdicts
-- Assumes nothing.
use mathlib.Core.Path.{◌≡◌, sym, ap, ◌∙◌, subst}
use mathlib.Core.Bool.{Bool, true, cond, ◌&&◌}
use mathlib.Core.Logic.{◌⊎◌, inl, inr}
use mathlib.Core.List.{List}
use Prim.Native.Nat.{ℕ, suc, ◌+◌, ◌-◌, ◌≤◌, ◌<◌}
use native.Mathlib.Omega.{arith}
use lib.Dec.{T, ltb, lt→ltb, ltb→lt}
use Rattle.bitset.specs.Below.{first_below, count_below}
use Rattle.bitset.proofs.Tests.{and_out, is_true, cond_yes, cond_no, below_or}
use Rattle.bitset.proofs.Below.{any_same, any_out, first, first_same, first_found}
use Rattle.searches.specs.Kind.{Search}
use Rattle.searches.specs.Ordering.{at, placed, IsOrdering}
use Rattle.searches.specs.Label.{label}
use Rattle.searches.specs.Violation.{condition, meets, violates, Verdict, passes, fails, third, is_last, is_first, is_middle, judge}
use Rattle.searches.proofs.Reason.{meets_same}
use Rattle.searches.proofs.Judge.{third_placed, third_other, third_vertex}
use Rattle.searches.specs.Without.{number_of, name_of, numbered, arcs_of, named_verdict, judge_without}
use Rattle.searches.proofs.Kept.{kept_last, kept_first, kept_middle, judge_kept}
use Rattle.searches.proofs.RisingMap.{RisingMap, any_along, first_along}
use Rattle.searches.proofs.Naming.{number_below, name_number, name_below, name_kept, name_rises}
use Rattle.searches.proofs.Renumbered.{named_at, numbered_ordering, placed_same}

module _ (s : Search) (arc : ℕ → ℕ → Bool) (n : ℕ) (kept : ℕ → Bool) (w : List ℕ) (k : ℕ) (o : IsOrdering n w k) (stays : (p : ℕ) → p < k → T (kept (at w p))) where
  -- the graph without the others
  abbrev n' : ℕ
  n' = count_below n kept

  abbrev arc' : ℕ → ℕ → Bool
  arc' = arcs_of n kept arc

  abbrev w' : List ℕ
  w' = numbered kept w

  abbrev name : ℕ → ℕ
  name = name_of n kept

  pub arc_same : (p c : ℕ) → p < k → arc' (at w' p) c ≡ arc (at w p) (name c)
  unfolding arcs_of
  arc_same p c l = ap (λ (v : ℕ). arc v (name c)) (named_at n kept w k o stays p l)

  arc_placed : (p q : ℕ) → p < k → q < k → arc' (at w' p) (at w' q) ≡ arc (at w p) (at w q)
  arc_placed p q l h = arc_same p (at w' q) l ∙ ap (λ (v : ℕ). arc (at w p) v) (named_at n kept w k o stays q h)

  pub violates_same : (i j c : ℕ) → i < j → j < k → c < n' → violates s arc' w' i j c ≡ violates s arc w i j (name c)
  unfolding violates label
  violates_same i j c h l g =
      let a : arc' (at w' i) c ≡ arc (at w i) (name c) = arc_same i c (omega arith) in
      let b : arc' (at w' i) (at w' j) ≡ arc (at w i) (at w j) = arc_placed i j (omega arith) l in
      let p : placed w' (suc j) c ≡ placed w (suc j) (name c) = placed_same n kept w k o stays (suc j) l c g in
      let x : meets (condition s i) j (label arc' w' c) (label arc' w' (at w' j)) ≡ meets (condition s i) j (label arc w (name c)) (label arc w (at w j)) =
      meets_same j (label arc' w' c) (label arc' w' (at w' j)) (label arc w (name c)) (label arc w (at w j)) (λ d m. arc_same d c (omega arith))
      (λ d m. arc_placed d j (omega arith) l) (condition s i)
      in
      cc

  -- ---- the candidates for c: the positions stay, the numbers are named

  place : ℕ → ℕ
  place e = cond (ltb e k) e (k + name (e - k))

  place_position : (e : ℕ) → e < k → place e ≡ e
  unfolding place
  place_position e l = cond_yes (ltb e k) e (k + name (e - k)) (lt→ltb e k l)

  place_number : (e : ℕ) → k ≤ e → place e ≡ k + name (e - k)
  unfolding place
  place_number e l = cond_no (ltb e k) e (k + name (e - k)) (λ t. omega (arith, ltb→lt e k t))

  third_place : (e : ℕ) → third w k (place e) ≡ name (third w' k e)
  third_place e = go (below_or e k)
    where
      go : (e < k) ⊎ (k ≤ e) → third w k (place e) ≡ name (third w' k e)
      go (inl l) =
          ap (third w k) (place_position e l) ∙ third_placed w k e l ∙ sym (named_at n kept w k o stays e l) ∙ ap name (sym (third_placed w' k e l))
      go (inr l) =
          let p = place_number e l in
          ap (third w k) p ∙ third_other w k (k + name (e - k)) (omega arith) ∙ same ∙ ap name (sym (third_other w' k e l))
        where
          same : k + name (e - k) - k ≡ name (e - k)
          same = omega arith

  third_inside : (e : ℕ) → e < k + n' → third w' k e < n'
  third_inside = third_vertex w' k n' (numbered_ordering n kept w k o stays).vertices

  last_along : (j i : ℕ) → i < j → j < k → RisingMap (k + n) (k + n') place (kept_last s arc n kept w k j i) (is_last s arc' n' w' k j i)
  unfolding kept_last is_last
  last_along j i h l = record {
    inside = λ e g. inside e g (below_or e k);
    rises = λ d e g m. rises d e g m (below_or d k) (below_or e k);
    same = λ e g.
        let c = third_inside e g in
        let t : kept (third w k (place e)) ≡ true = ap kept (third_place e) ∙ is_true (kept (name (third w' k e))) (name_kept kept n (third w' k e) c) in
        violates_same i j (third w' k e) h l c ∙ ap (violates s arc w i j) (sym (third_place e))
        ∙ sym (ap (λ (b : Bool). b && violates s arc w i j (third w k (place e))) t);
    met = λ x g t. met x g (and_out (kept (third w k x)) (violates s arc w i j (third w k x)) t).0 (below_or x k);
  }
    where
      inside : (e : ℕ) → e < k + n' → (e < k) ⊎ (k ≤ e) → place e < k + n
      inside e g (inl m) = let p = place_position e m in omega arith
      inside e g (inr m) = let p = place_number e m in let q = name_below kept n (e - k) (omega arith) in omega arith

      rises : (d e : ℕ) → d < e → e < k + n' → (d < k) ⊎ (k ≤ d) → (e < k) ⊎ (k ≤ e) → place d < place e
      rises d e g m (inl x) (inl y) = let p = place_position d x in let q = place_position e y in omega arith
      rises d e g m (inl x) (inr y) = let p = place_position d x in let q = place_number e y in omega arith
      rises d e g m (inr x) (inl y) = absurd (omega arith)
      rises d e g m (inr x) (inr y) =
          let p = place_number d x in
          let q = place_number e y in
          let r = name_rises kept n (d - k) (e - k) (omega arith) (omega arith) in
          omega arith

      met : (x : ℕ) → x < k + n → T (kept (third w k x)) → (x < k) ⊎ (k ≤ x) → (e : ℕ) × (e < k + n') × (place e ≡ x)
      met x g t (inl m) = (x, omega arith, place_position x m)
      met x g t (inr m) =
          let u : T (kept (x - k)) = subst (λ (v : ℕ). T (kept v)) (third_other w k x m) t in
          let b = number_below kept n (x - k) (omega arith) u in
          let i : ℕ = number_of kept (x - k) in
          (k + i, omega arith, place_number (k + i) (omega arith) ∙ back i (name_number kept n (x - k) (omega arith) u))
        where
          back : (i : ℕ) → name i ≡ x - k → k + name (k + i - k) ≡ x
          back i e = let d : k + i - k ≡ i = omega arith in let f : name (k + i - k) ≡ name i = ap name d in omega arith

  -- ---- the three searches

  first_kept : (j i : ℕ) → i < j → j < k → is_first s arc' n' w' k j i ≡ kept_first s arc n kept w k j i
  unfolding is_first kept_first
  first_kept j i h l = sym (any_along (last_along j i h l))

  pub middle_kept : (j : ℕ) → j < k → is_middle s arc' n' w' k j ≡ kept_middle s arc n kept w k j
  unfolding is_middle kept_middle
  middle_kept j l = any_same j (is_first s arc' n' w' k j) (kept_first s arc n kept w k j) (λ i h. first_kept j i h l)

  shown : ℕ → ℕ → ℕ → Verdict
  shown j i e = cond (ltb j k) (fails (at w i) (at w j) (third w k e)) passes

  pub judge_kept_lem : judge_without s arc n kept w k ≡ judge_kept s arc n kept w k
  unfolding judge_without judge judge_kept shown named_verdict is_middle is_first
  judge_kept_lem = start (below_or j k) ∙ ap from (first_same k (is_middle s arc' n' w' k) (kept_middle s arc n kept w k) middle_kept)
    where
      j : ℕ
      j = first_below k (is_middle s arc' n' w' k)

      i : ℕ
      i = first_below j (is_first s arc' n' w' k j)

      e : ℕ
      e = first_below (k + n') (is_last s arc' n' w' k j i)

      from : ℕ → Verdict
      from x =
          let y = first_below x (kept_first s arc n kept w k x) in
          shown x y (first_below (k + n) (kept_last s arc n kept w k x y))

      there : Verdict
      there = fails (at w' i) (at w' j) (third w' k e)

      start : (j < k) ⊎ (k ≤ j) → named_verdict n kept (cond (ltb j k) there passes) ≡ from j
      start (inl l) =
          let h : i < j = first_found (any_out j (is_first s arc' n' w' k j) ((first k (is_middle s arc' n' w' k)).holds l)) in
          let g : e < k + n' = first_found (any_out (k + n') (is_last s arc' n' w' k j i) ((first j (is_first s arc' n' w' k j)).holds h)) in
          let same_i : i ≡ first_below j (kept_first s arc n kept w k j) = first_same j (is_first s arc' n' w' k j) (kept_first s arc n kept w k j) (λ x m. first_kept j x m l) in
          let same_e : place e ≡ first_below (k + n) (kept_last s arc n kept w k j i) = first_along (last_along j i h l) g in
          let a : name (at w' i) ≡ at w i = named_at n kept w k o stays i (omega arith) in
          let b : name (at w' j) ≡ at w j = named_at n kept w k o stays j l in
          let c : name (third w' k e) ≡ third w k (place e) = sym (third_place e) in
          let named : fails (name (at w' i)) (name (at w' j)) (name (third w' k e)) ≡ fails (at w i) (at w j) (third w k (place e)) = cc in
          ap (named_verdict n kept) (cond_yes (ltb j k) there passes (lt→ltb j k l)) ∙ named
          ∙ sym (cond_yes (ltb j k) (fails (at w i) (at w j) (third w k (place e))) passes (lt→ltb j k l))
          ∙ ap (λ (x : ℕ). shown j i x) same_e ∙ ap (λ (x : ℕ). shown j x (first_below (k + n) (kept_last s arc n kept w k j x))) same_i
      start (inr l) =
          let out : T (ltb j k) → ⊥ = λ t. omega (arith, ltb→lt j k t) in
          let y = first_below j (kept_first s arc n kept w k j) in
          ap (named_verdict n kept) (cond_no (ltb j k) there passes out)
          ∙ sym (cond_no (ltb j k) (fails (at w y) (at w j) (third w k (first_below (k + n) (kept_last s arc n kept w k j y)))) passes out)
