-- Empty labels, and a label that is cleared.
--   none_any, none_smallest, none_largest, none_weighs   what is kept of a label with no position
--   row_cleared                   an emptied row is a cleared label
--   stored_cleared                the label of one vertex is empty, and the running values and the weight are written for it: Stored again
-- Assumes nothing.
use mathlib.Core.Path.{◌≡◌, sym, ap, ◌∙◌, subst, fun_ext}
use mathlib.Core.Bool.{Bool, true, false, cond, not, ◌&&◌}
use mathlib.Core.Logic.{◌⊎◌, inl, inr}
use mathlib.Core.List.{List}
use mathlib.Core.Option.{none, some}
use Prim.Native.Nat.{ℕ, ◌<◌}
use native.Mathlib.Omega.{arith}
use lib.Dec.{T, eqb, eqb→eq, eqb_refl}
use lib.ListN.{length, get_or, set, length-set}
use lib.Seq.{get_or-set_same, get_or-set_other}
use Rattle.bitset.specs.Below.{any_below, first_below, last_below}
use Rattle.bitset.proofs.Tests.{decided, is_true, is_false}
use Rattle.bitset.proofs.Below.{any_out}
use Rattle.searches.specs.Kind.{Search}
use Rattle.searches.specs.Label.{empty}
use Rattle.searches.specs.Running.{smallest_in, largest_in}
use Rattle.tables.specs.Rows.{row_of, EmptiedRow}
use Rattle.wide.specs.Store.{smallest_kept, largest_kept, weight_in, Stored, Cleared}
use Rattle.wide.proofs.Heaviest.{no_weight}

-- ---- nothing is kept

module _ (f : ℕ → Bool) (no : (q : ℕ) → f q ≡ false) where
  pub none_any : (m : ℕ) → any_below m f ≡ false
  none_any m = is_false (any_below m f) (λ t. let x = any_out m f t in subst (λ (b : Bool). T b) (no x.at) x.holds)

  none_empty : (m : ℕ) → empty m f ≡ true
  unfolding empty
  none_empty m = ap not (none_any m)

  pub none_smallest : smallest_kept (smallest_in 512 f) ≡ 512
  unfolding smallest_in smallest_kept
  none_smallest = ap (λ (b : Bool). smallest_kept (cond b none (some (first_below 512 f)))) (none_empty 512)

  pub none_largest : largest_kept (largest_in 512 f) ≡ 0
  unfolding largest_in largest_kept
  none_largest = ap (λ (b : Bool). largest_kept (cond b none (some (last_below 512 f)))) (none_empty 512)

  pub none_weighs : (s : Search) → weight_in s 512 f ≡ 0
  none_weighs = no_weight f (λ t. subst (λ (b : Bool). T b) (none_any 512) t)

-- ---- what is kept of a vertex is cleared

pub row_cleared : {v : ℕ} {labels labels' : List ℕ} → EmptiedRow v labels labels' → Cleared v labels labels'
unfolding row_of
row_cleared e = record { label = e.row }

module _ {v : ℕ} {labels labels' : List ℕ} (vertex : v < 512) (c : Cleared v labels labels') where
  -- x is the value of an empty label
  kept_cleared : (value : (ℕ → Bool) → ℕ) {x : ℕ} → ((f : ℕ → Bool) → ((q : ℕ) → f q ≡ false) → value f ≡ x) → (kept : List ℕ) → length kept ≡ 512
      → ((u : ℕ) → u < 512 → get_or kept u 0 ≡ value (row_of labels u)) → (u : ℕ) → u < 512 → get_or (set kept v x) u 0 ≡ value (row_of labels' u)
  kept_cleared value {x} bare kept size all u l = go (decided (eqb v u))
    where
      go : T (eqb v u) ⊎ (T (eqb v u) → ⊥) → get_or (set kept v x) u 0 ≡ value (row_of labels' u)
      go (inl t) =
          ap (λ (y : ℕ). get_or (set kept v x) y 0) (sym (eqb→eq v u t)) ∙ get_or-set_same kept v x 0 (omega (arith, size))
          ∙ sym (bare (row_of labels' u) (λ q. c.label u q l ∙ ap (λ (b : Bool). not b && row_of labels u q) (is_true (eqb v u) t)))
      go (inr out) =
          get_or-set_other kept v u x 0 (λ same. out (subst (λ (y : ℕ). T (eqb v y)) (sym same) (eqb_refl v))) ∙ all u l
          ∙ ap value (fun_ext (λ q. sym (c.label u q l ∙ ap (λ (b : Bool). not b && row_of labels u q) (is_false (eqb v u) out))))

  pub stored_cleared : length labels' ≡ length labels → (s : Search) {smallest largest weights : List ℕ} → Stored s labels smallest largest weights
      → Stored s labels' (set smallest v 512) (set largest v 0) (set weights v 0)
  stored_cleared same s {smallest} {largest} {weights} r = record {
    weighed = record {
      size = length-set weights v 0 ∙ r.weighed.size;
      room = same ∙ r.weighed.room;
      is = kept_cleared (weight_in s 512) (λ f no. none_weighs f no s) weights r.weighed.size r.weighed.is;
    };
    sizes = (length-set smallest v 512 ∙ r.sizes.0, length-set largest v 0 ∙ r.sizes.1);
    keeps_smallest = kept_cleared (λ f. smallest_kept (smallest_in 512 f)) (λ f no. none_smallest f no) smallest r.sizes.0 r.keeps_smallest;
    keeps_largest = kept_cleared (λ f. largest_kept (largest_in 512 f)) (λ f no. none_largest f no) largest r.sizes.1 r.keeps_largest;
  }
