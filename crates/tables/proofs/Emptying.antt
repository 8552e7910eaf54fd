-- The words of a row emptied one by one.
--   Emptying v labels₀ labels i   the words of v's row below i are empty, those of the other rows as they were
--   emptying_start, emptying_next, emptying_end   the loop over the words begins, how it goes on, and ends
-- Assumes nothing.
use mathlib.Core.Path.{◌≡◌, refl, sym, ap, ◌∙◌, subst}
use mathlib.Core.Bool.{Bool, not, ◌&&◌}
use mathlib.Core.Logic.{◌⊎◌, inl, inr}
use mathlib.Core.List.{List}
use Prim.Native.Nat.{ℕ, ◌+◌, ◌*◌, ◌/◌, ◌%◌, ◌≤◌, ◌<◌}
use native.Mathlib.Omega.{arith}
use lib.Dec.{T, eqb, eqb→eq, eqb_refl}
use lib.ListN.{length, get_or, set, length-set}
use lib.Seq.{get_or-set_same, get_or-set_other}
use Rattle.bitset.specs.Word.{member}
use Rattle.bitset.proofs.Tests.{decided, is_true, is_false, below_or}
use Rattle.bitset.proofs.Word.{member_zero}
use Rattle.searches.specs.Table.{arcs_wide}
use Rattle.tables.specs.Rows.{EmptiedRow}
use Rattle.tables.proofs.Bits.{arc_word, row_below}

pub record Emptying (v : ℕ) (labels₀ labels : List ℕ) (i : ℕ) : Type 0 where
  pub size : length labels ≡ length labels₀
  pub done : (x : ℕ) → 8 * v ≤ x → x < 8 * v + i → get_or labels x 0 ≡ 0
  pub kept : (x : ℕ) → (8 * v ≤ x → x < 8 * v + 8 → ⊥) → get_or labels x 0 ≡ get_or labels₀ x 0

module _ {v : ℕ} {labels₀ : List ℕ} where
  pub emptying_start : Emptying v labels₀ labels₀ 0
  emptying_start = record { size = refl; done = λ x l h. absurd (omega (arith, l, h)); kept = λ x out. refl }

  module _ {labels : List ℕ} {i : ℕ} (e : Emptying v labels₀ labels i) where
    pub emptying_next : i < 8 → 8 * v + 8 ≤ length labels₀ → Emptying v labels₀ (set labels (8 * v + i) 0) (i + 1)
    emptying_next index inside = record {
      size = length-set labels (8 * v + i) 0 ∙ e.size;
      done = λ x l h. written x l h (decided (eqb x (8 * v + i)));
      kept = λ x out. get_or-set_other labels (8 * v + i) x 0 0 (λ same. out (omega (arith, same)) (omega (arith, same))) ∙ e.kept x out;
    }
      where
        written : (x : ℕ) → 8 * v ≤ x → x < 8 * v + (i + 1) → T (eqb x (8 * v + i)) ⊎ (T (eqb x (8 * v + i)) → ⊥) → get_or (set labels (8 * v + i) 0) x 0 ≡ 0
        written x l h (inl t) =
            ap (λ (y : ℕ). get_or (set labels (8 * v + i) 0) y 0) (eqb→eq x (8 * v + i) t) ∙ get_or-set_same labels (8 * v + i) 0 0 (omega (arith, e.size))
        written x l h (inr out) =
            let other : x ≡ 8 * v + i → ⊥ = λ same. out (subst (λ (y : ℕ). T (eqb x y)) same (eqb_refl x)) in
            get_or-set_other labels (8 * v + i) x 0 0 other ∙ e.done x l (omega (arith, other))

    pub emptying_end : 8 ≤ i → EmptiedRow v labels₀ labels
    emptying_end over = record { same_length = e.size; row = λ u q _. go u q (below_or q 512) (decided (eqb v u)) }
      where
        go : (u q : ℕ) → (q < 512) ⊎ (512 ≤ q) → T (eqb v u) ⊎ (T (eqb v u) → ⊥) → arcs_wide 8 labels u q ≡ (not (eqb v u) && arcs_wide 8 labels₀ u q)
        go u q near (inl t) =
            is_false (arcs_wide 8 labels u q) (λ there.
            let h = row_below labels u q there in
            let same : v ≡ u = eqb→eq v u t in
            subst (λ (b : Bool). T b) (arc_word 8 labels u q h ∙ ap (λ (x : ℕ). member x (q % 64)) (e.done (8 * u + q / 64) (omega arith) (omega arith)) ∙ member_zero (q % 64)) there)
            ∙ ap (λ (b : Bool). not b && arcs_wide 8 labels₀ u q) (sym (is_true (eqb v u) t))
        go u q (inl near) (inr out) =
            let other : v ≡ u → ⊥ = λ same. out (subst (λ (y : ℕ). T (eqb v y)) same (eqb_refl v)) in
            arc_word 8 labels u q near ∙ ap (λ (x : ℕ). member x (q % 64)) (e.kept (8 * u + q / 64) (λ l h. other (omega (arith, l, h))))
            ∙ sym (arc_word 8 labels₀ u q near) ∙ ap (λ (b : Bool). not b && arcs_wide 8 labels₀ u q) (sym (is_false (eqb v u) out))
        go u q (inr far) (inr out) =
            is_false (arcs_wide 8 labels u q) (λ there. omega (arith, far, row_below labels u q there))
            ∙ sym (is_false (arcs_wide 8 labels₀ u q) (λ there. omega (arith, far, row_below labels₀ u q there)))
            ∙ ap (λ (b : Bool). not b && arcs_wide 8 labels₀ u q) (sym (is_false (eqb v u) out))
