-- The test on three vertices, from what is kept at the turn of the second one.
--   row_there, vertex_fits, turn_fits    rows, vertices and positions are in their lists
--   faulty_staged                        what is kept there is what the replay left
--   unlinked, linked_both, placed_before, middle_itself   each condition that fails alone refutes
--   unexcused_violates                   where all others hold, the search's own condition is the answer
-- Assumes nothing.
use mathlib.Core.Path.{◌≡◌, sym, ap, ap₂, ◌∙◌, subst}
use mathlib.Core.Logic.{◌⊎◌, inl, inr}
use mathlib.Core.Bool.{Bool, true, false, not, ◌&&◌}
use mathlib.Core.List.{List}
use Prim.Native.Nat.{ℕ, suc, ◌+◌, ◌*◌, ◌≤◌, ◌<◌}
use native.Mathlib.Omega.{arith}
use lib.Dec.{T, ltb, lt→ltb, not_T, T_not}
use lib.ListN.{length}
use Rattle.bitset.proofs.Tests.{and_in, and_out, is_true, is_false, said_true, said_false, below_suc}
use Rattle.searches.specs.Kind.{Search}
use Rattle.searches.specs.Ordering.{at, placed, IsOrdering}
use Rattle.searches.specs.Table.{arcs_wide}
use Rattle.searches.specs.Label.{label}
use Rattle.searches.specs.Violation.{Violates, condition, meets, violates}
use Rattle.searches.specs.declared.Mark.{Mark}
use Rattle.searches.proofs.Ordering.{placed_in, placed_out, placed_more, ordering_unplaced, ordering_fits}
use Rattle.searches.proofs.Violations.{violates_out}
use Rattle.steps.proofs.Representation.{meets_cut}
use Rattle.tables.specs.Rows.{in_set, row_of}
use Rattle.wide.specs.Steps.{IsGraph, Staged}
use Rattle.wide.specs.Fault.{Faulty}

pub faulty_staged : {s : Search} {mark : Mark} {table w labels smallest largest weights placed' free reached : List ℕ} {n k j : ℕ}
    → IsGraph mark n table → IsOrdering n w k → j < k → Staged s table n w j labels smallest largest weights placed' free reached
    → Faulty s table n w k labels weights free j
faulty_staged graph o l staged = record {
  small = graph.small;
  whole = graph.whole;
  inside = graph.inside;
  ordering = o;
  turn = l;
  weighed = staged.stored.weighed;
  labelled = staged.labelled;
  free_is = staged.free_is;
  size = staged.sizes.1;
}

module _ {s : Search} {table : List ℕ} {n : ℕ} {w : List ℕ} {k : ℕ} {labels weights free : List ℕ} {j : ℕ} (x : Faulty s table n w k labels weights free j) where
  pub row_there : (p : ℕ) {v : ℕ} → p < k → v ≡ at w p → 8 * v + 8 ≤ length table
  row_there p l e = omega (arith, x.ordering.vertices p l, x.whole, e)

  pub vertex_fits : (p : ℕ) {v : ℕ} → p < k → v ≡ at w p → v < 512
  vertex_fits p l e = omega (arith, x.ordering.vertices p l, x.small, e)

  pub turn_fits : j < 512
  turn_fits = omega (arith, x.turn, x.small, ordering_fits n x.ordering)

  abbrev arc : ℕ → ℕ → Bool
  arc = arcs_wide 8 table

  -- a stands at position i, b at position j
  module _ (i c : ℕ) (l : i < j) (vertex : c < n) where
    refuted : (Violates s arc n w k i j c → ⊥) → false ≡ violates s arc w i j c
    refuted against = sym (is_false (violates s arc w i j c) (λ t. against (violates_out s arc w i j c n k l x.turn vertex t)))

    free_there : in_set free c ≡ (ltb c n && not (placed w j c))
    free_there = x.free_is c (omega (arith, x.small))

    pub unlinked : {r : Bool} {a : ℕ} → a ≡ at w i → r ≡ arc a c → r ≡ false → false ≡ violates s arc w i j c
    unlinked at_a e said = refuted (λ t. said_false (arc (at w i) c) (e ∙ ap (λ (u : ℕ). arc u c) at_a) said t.linked)

    pub linked_both : {r : Bool} {a b : ℕ} → a ≡ at w i → b ≡ at w j → r ≡ arc a b → r ≡ true → false ≡ violates s arc w i j c
    linked_both at_a at_b e said = refuted (λ t. t.apart (said_true (arc (at w i) (at w j)) (e ∙ ap₂ arc at_a at_b) said))

    pub placed_before : {r : Bool} → r ≡ in_set free c → r ≡ false → false ≡ violates s arc w i j c
    placed_before e said =
        refuted (λ t. said_false (ltb c n && not (placed w j c)) (e ∙ free_there) said
        (and_in (ltb c n) (not (placed w j c)) (lt→ltb c n vertex) (not_T (placed w j c) (λ u. t.later (placed_more w j (suc j) c (omega arith) u)))))

    pub middle_itself : {b : ℕ} → b ≡ at w j → c ≡ b → false ≡ violates s arc w i j c
    middle_itself at_b e = refuted (λ t. t.later (placed_in w (suc j) c j (omega arith) (sym (e ∙ at_b))))

    module _ (there : T (in_set free c)) (other : c ≡ at w j → ⊥) where
      unplaced : T (placed w j c) → ⊥
      unplaced = T_not (placed w j c) (and_out (ltb c n) (not (placed w j c)) (subst (λ (t : Bool). T t) free_there there)).1

      later : T (placed w (suc j) c) → ⊥
      later t = let p = placed_out w (suc j) c t in go p.0 p.2 (below_suc j p.0 p.1)
        where
          go : (p : ℕ) → at w p ≡ c → (p < j) ⊎ (p ≡ j) → ⊥
          go p e (inl h) = unplaced (placed_in w j c p h e)
          go p e (inr h) = other (sym e ∙ ap (λ (q : ℕ). at w q) h)

      -- the kept rows are the labels
      own_same : meets (condition s i) 512 (row_of labels c) (row_of labels (at w j)) ≡ meets (condition s i) j (label arc w c) (label arc w (at w j))
      own_same =
          meets_cut j 512 (row_of labels c) (row_of labels (at w j)) (label arc w c) (label arc w (at w j)) (omega (arith, turn_fits))
          (λ p. x.labelled c p vertex unplaced)
          (λ p. x.labelled (at w j) p (x.ordering.vertices j x.turn) (ordering_unplaced n x.ordering j x.turn)) (condition s i)

      answered : {r : Bool} → T (arc (at w i) c) → (T (arc (at w i) (at w j)) → ⊥)
          → r ≡ meets (condition s i) 512 (row_of labels c) (row_of labels (at w j)) → r ≡ violates s arc w i j c
      unfolding violates
      answered linked apart e =
          let own = meets (condition s i) j (label arc w c) (label arc w (at w j)) in
          e ∙ own_same
          ∙ sym (ap (λ (t : Bool). t && not (arc (at w i) (at w j)) && not (placed w (suc j) c) && own) (is_true (arc (at w i) c) linked)
          ∙ ap₂ (λ (t u : Bool). true && t && u && own) (is_true (not (arc (at w i) (at w j))) (not_T (arc (at w i) (at w j)) apart))
          (is_true (not (placed w (suc j) c)) (not_T (placed w (suc j) c) later)))

    pub unexcused_violates : {r links both there : Bool} {a b : ℕ} → a ≡ at w i → b ≡ at w j → links ≡ arc a c → links ≡ true → both ≡ arc a b → both ≡ false
        → there ≡ in_set free c → there ≡ true → (c ≡ b → ⊥) → r ≡ meets (condition s i) 512 (row_of labels c) (row_of labels b) → r ≡ violates s arc w i j c
    unexcused_violates at_a at_b e said g apart f known other own =
        answered (said_true (in_set free c) f known) (λ same. other (same ∙ sym at_b))
        (said_true (arc (at w i) c) (e ∙ ap (λ (u : ℕ). arc u c) at_a) said) (said_false (arc (at w i) (at w j)) (g ∙ ap₂ arc at_a at_b) apart)
        (own ∙ ap (λ (v : ℕ). meets (condition s i) 512 (row_of labels c) (row_of labels v)) at_b)
