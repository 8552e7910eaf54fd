-- Who is beaten, who is offered and who is chosen, by what is kept, is who is so in searches/.
--   staged_beaten     an unplaced vertex is beaten
--   staged_open       a vertex is offered
--   staged_chosen     the choice by a tie-break
--   staged_choosable  it can be made
-- Assumes nothing.
use mathlib.Core.Path.{◌≡◌, sym, ap, ◌∙◌}
use mathlib.Core.Bool.{Bool, not, ◌&&◌}
use mathlib.Core.List.{List}
use Prim.Native.Nat.{ℕ, ◌≤◌, ◌<◌}
use native.Mathlib.Omega.{arith}
use lib.Dec.{T, ltb, lt→ltb, T_not}
use lib.ListN.{length, get_or}
use Rattle.bitset.proofs.Tests.{and_out, and_same, is_true}
use Rattle.bitset.proofs.Below.{any_fewer, last_same}
use Rattle.searches.specs.Kind.{Search}
use Rattle.searches.specs.Ordering.{at, placed, IsOrdering, IsFullOrdering}
use Rattle.searches.specs.Table.{arcs_wide}
use Rattle.searches.specs.Label.{label, outranks}
use Rattle.searches.specs.Run.{offered}
use Rattle.searches.specs.CarryOn.{choice}
use Rattle.searches.proofs.Ordering.{placed_out, all_placed, some_unplaced}
use Rattle.steps.proofs.Representation.{outranks_cut}
use Rattle.tables.specs.Rows.{in_set, row_of}
use Rattle.wide.specs.Store.{beats_in, beaten_in, open_in, chosen_in}
use Rattle.wide.specs.Steps.{beats, beaten, Staged, Ranked, Choosable}
use Rattle.wide.proofs.Staging.{staged_unplaced, staged_free}

module _ {s : Search} {table : List ℕ} {n : ℕ} {w : List ℕ} {j : ℕ} {labels smallest largest weights placed' free reached : List ℕ}
    (st : Staged s table n w j labels smallest largest weights placed' free reached) (small : n ≤ 512) (fits : j ≤ 512) where
  abbrev arc : ℕ → ℕ → Bool
  arc = arcs_wide 8 table

  free_unplaced : (u : ℕ) → u < n → in_set free u ≡ not (placed w j u)
  free_unplaced u l = st.free_is u (omega arith) ∙ ap (λ (b : Bool). b && not (placed w j u)) (is_true (ltb u n) (lt→ltb u n l))

  pub staged_beaten : (v : ℕ) → v < n → (T (placed w j v) → ⊥) → beaten_in s labels free v ≡ beaten s arc n w j v
  unfolding beaten_in beats_in beaten beats
  staged_beaten v l out =
      any_fewer n 512 small (λ u. in_set free u && outranks s 512 (row_of labels u) (row_of labels v)) (λ u. not (placed w j u) && outranks s j (label arc w u) (label arc w v))
      (λ u h. and_same (in_set free u) (outranks s 512 (row_of labels u) (row_of labels v)) (outranks s j (label arc w u) (label arc w v)) (λ t.
      outranks_cut j 512 (row_of labels u) (row_of labels v) (label arc w u) (label arc w v) fits (λ p. st.labelled u p h (staged_unplaced st u t).1) (λ p. st.labelled v p l out) s)
      ∙ ap (λ (b : Bool). b && outranks s j (label arc w u) (label arc w v)) (free_unplaced u h))
      (λ u t. (staged_unplaced st u (and_out (in_set free u) (outranks s 512 (row_of labels u) (row_of labels v)) t).0).0)

  pub staged_open : (v : ℕ) → v < 512 → open_in s labels free v ≡ offered s arc n w j v
  unfolding open_in offered beaten beats
  staged_open v l =
      and_same (in_set free v) (not (beaten_in s labels free v)) (not (beaten s arc n w j v)) (λ t. let x = staged_unplaced st v t in ap not (staged_beaten v x.0 x.1))
      ∙ ap (λ (b : Bool). b && not (beaten s arc n w j v)) (st.free_is v l)

  module _ (t : List ℕ) (names : IsFullOrdering n t) where
    pub staged_chosen : chosen_in s labels free t ≡ choice s arc n t w j
    unfolding chosen_in choice
    staged_chosen =
        ap (λ (q : ℕ). at t q) (last_same (length t) (λ q. open_in s labels free (at t q)) (λ q. offered s arc n w j (at t q))
        (λ q l. staged_open (at t q) (omega (arith, small, names.ordering.vertices q (omega (arith, l, names.full))))))

    -- while a vertex is unplaced
    pub staged_choosable : {ranks : List ℕ} → Ranked t ranks → IsOrdering n w j → j < n → Choosable s labels weights free reached t ranks
    staged_choosable {ranks} ranked o l = record {
      weighed = st.stored.weighed;
      covers = st.covers;
      bare = st.bare;
      sizes = (st.sizes.1, st.sizes.2);
      ranked = ranked;
      short = omega (arith, small, names.full);
      named = λ v _ f. named v (placed_out t n v (all_placed n names.ordering v (staged_unplaced st v f).0));
      some =
          let x = some_unplaced n o l in
          (x.at, omega (arith, x.below), staged_free st x.at small x.below (T_not (placed w j x.at) x.holds));
    }
      where
        named : (v : ℕ) → (q : ℕ) × (q < n) × (at t q ≡ v) → (get_or ranks v 0 < length t) × (at t (get_or ranks v 0) ≡ v)
        named v (q, h, e) =
            let r : get_or ranks v 0 ≡ q = ap (λ (x : ℕ). get_or ranks x 0) (sym e) ∙ (ranked.entry q (omega (arith, h, names.full))).1 in
            (omega (arith, r, h, names.full), ap (λ (x : ℕ). at t x) r ∙ e)
