-- The running values that are kept beside the labels are the smallest and the largest position in each label.
--   smallest_cut, largest_cut           a set that ends at a bound has its smallest and largest number below it
--   smallest_running, largest_running   the bytes are those of running_smallest and running_largest
--   tracked_after                       after each vertex of an ordering they are, of an unplaced vertex, the label's smallest and largest position
--   consistent_after                    so what is kept beside those labels agrees with them, also the count in row AND placed mask
-- Assumes nothing.
use mathlib.Core.Path.{◌≡◌, sym, ap, ◌∙◌, subst}
use mathlib.Core.Bool.{Bool, not, ◌&&◌}
use mathlib.Core.Logic.{◌⊎◌, inl, inr}
use mathlib.Core.List.{List}
use mathlib.Core.Option.{Option, some}
use Prim.Native.Nat.{ℕ, zero, suc, ◌≤◌, ◌<◌}
use native.Mathlib.Omega.{arith}
use lib.Dec.{T, ltb, eqb, eqb→eq, not_T}
use lib.ListN.{length, get_or}
use Rattle.bitset.specs.Below.{any_below, first_below, last_below}
use Rattle.bitset.specs.Word.{member}
use Rattle.bitset.proofs.Tests.{not_not, decided, cond_yes, cond_no}
use Rattle.bitset.proofs.Below.{any_out, any_fewer, first, first_found, first_unique, last, last_unique}
use Rattle.searches.specs.Ordering.{arcs, at, IsOrdering}
use Rattle.searches.specs.Label.{label, empty}
use Rattle.searches.specs.Running.{smallest_in, largest_in, running_smallest, running_largest}
use Rattle.searches.proofs.Ordering.{ordering_fits}
use Rattle.searches.proofs.Running.{smallest_found, smallest_absent, largest_found, largest_absent, unchanged_unless_grown, smallest_begins, largest_moves, smallest_stays, keeps_smallest, keeps_largest, smallest_none, largest_none}
use Rattle.labels.specs.Weights.{smallest_byte, largest_byte, Consistent}
use Rattle.labels.specs.Words.{label_with, smallest_with, largest_with, changed_by}
use Rattle.lookup.specs.Columns.{Transposed}
use Rattle.steps.specs.Steps.{AreVertices, labels_after, smallest_after, largest_after, free_after, placed_after}
use Rattle.steps.proofs.Representation.{cut_same, cut_below, free_vertex, free_earlier, kept_length, kept_start, kept_next, label_members}
use Rattle.steps.proofs.Tallying.{tallied_after}

-- ---- sets that end at a bound

-- f is f' below j and holds nowhere else
module _ (j m : ℕ) (l : j ≤ m) (f f' : ℕ → Bool) (cut : (p : ℕ) → f p ≡ (ltb p j && f' p)) where
  same_some : any_below m f ≡ any_below j f'
  same_some = any_fewer j m l f f' (cut_same j f f' cut) (cut_below j f f' cut)

  inside : (p : ℕ) → p < j → T (f' p) → T (f p)
  inside p h t = subst (λ (b : Bool). T b) (sym (cut_same j f f' cut p h)) t

  outside : (p : ℕ) → T (f p) → T (f' p)
  outside p t = subst (λ (b : Bool). T b) (cut_same j f f' cut p (cut_below j f f' cut p t)) t

  pub smallest_cut : smallest_in m f ≡ smallest_in j f'
  smallest_cut = go (decided (any_below j f'))
    where
      go : T (any_below j f') ⊎ (T (any_below j f') → ⊥) → smallest_in m f ≡ smallest_in j f'
      go (inl t) =
          let h = first_found (any_out j f' t) in
          smallest_found m f (subst (λ (b : Bool). T b) (sym same_some) t)
          ∙ ap some (sym (first_unique (record {
            within = omega arith;
            holds = λ _. inside (first_below j f') h ((first j f').holds h);
            least = λ i g x. (first j f').least i g (outside i x);
          }))) ∙ sym (smallest_found j f' t)
      go (inr out) = smallest_absent m f (λ t. out (subst (λ (b : Bool). T b) same_some t)) ∙ sym (smallest_absent j f' out)

  pub largest_cut : largest_in m f ≡ largest_in j f'
  largest_cut = go (decided (any_below j f'))
    where
      go : T (any_below j f') ⊎ (T (any_below j f') → ⊥) → largest_in m f ≡ largest_in j f'
      go (inl t) =
          let top = last (any_out j f' t) in
          largest_found m f (subst (λ (b : Bool). T b) (sym same_some) t)
          ∙ ap some (sym (last_unique (record {
            below = omega (arith, top.below);
            holds = inside (last_below j f') top.below top.holds;
            greatest = λ i g x. top.greatest i (cut_below j f f' cut i x) (outside i x);
          }))) ∙ sym (largest_found j f' t)
      go (inr out) = largest_absent m f (λ t. out (subst (λ (b : Bool). T b) same_some t)) ∙ sym (largest_absent j f' out)

-- ---- along an ordering

module _ (rows : List ℕ) (all : ℕ) (w : List ℕ) (k : ℕ) (small : length rows ≤ 64) (inside : AreVertices (length rows) all) (o : IsOrdering (length rows) w k) where
  abbrev arc : ℕ → ℕ → Bool
  arc = arcs rows

  pub smallest_running : (j : ℕ) → j ≤ k → (v : ℕ) → T (member (free_after all w j) v) → get_or (smallest_after rows all w j) v 0 ≡ smallest_byte (running_smallest arc w v j)
  unfolding changed_by smallest_with smallest_byte label arcs empty any_below
  smallest_running zero h v f = kept_start smallest_with 64 rows all w v (omega (arith, free_vertex all w inside 0 v f)) ∙ ap smallest_byte (sym ((smallest_none arc w v 0).1 tt))
  smallest_running (suc j) h v f =
      kept_next smallest_with 64 rows all w j v (omega (arith, free_vertex all w inside (suc j) v f)) f
      ∙ ap (changed_by (smallest_with j) row v) (smallest_running j (omega arith) v (free_earlier rows all w j v f)) ∙ go (decided (label arc w v j))
    where
      row : ℕ
      row = get_or rows (at w j) 0

      now : Option ℕ
      now = running_smallest arc w v j

      grown : T (label arc w v j) → T (empty j (label arc w v)) ⊎ (T (empty j (label arc w v)) → ⊥)
          → smallest_with j (smallest_byte now) ≡ smallest_byte (running_smallest arc w v (suc j))
      grown t (inl none_yet) =
          let gone = (smallest_none arc w v j).1 none_yet in
          ap (λ (x : Option ℕ). smallest_with j (smallest_byte x)) gone ∙ ap smallest_byte (sym (smallest_begins arc w v j t gone))
      grown t (inr not_empty) =
          let q = first_below j (label arc w v) in
          let some_there = not_not (any_below j (label arc w v)) (not_T (not (any_below j (label arc w v))) not_empty) in
          let there = keeps_smallest arc w v j ∙ smallest_found j (label arc w v) some_there in
          let below = first_found (any_out j (label arc w v) some_there) in
          ap (λ (x : Option ℕ). smallest_with j (smallest_byte x)) there
          ∙ cond_no (eqb q 64) j q (λ u. omega (arith, eqb→eq q 64 u, ordering_fits (length rows) o))
          ∙ ap smallest_byte (sym (smallest_stays arc w v j q there))

      go : T (label arc w v j) ⊎ (T (label arc w v j) → ⊥)
          → changed_by (smallest_with j) row v (smallest_byte now) ≡ smallest_byte (running_smallest arc w v (suc j))
      go (inl t) = cond_yes (member row v) (smallest_with j (smallest_byte now)) (smallest_byte now) t ∙ grown t (decided (empty j (label arc w v)))
      go (inr same) =
          cond_no (member row v) (smallest_with j (smallest_byte now)) (smallest_byte now) same ∙ ap smallest_byte (sym (unchanged_unless_grown arc w v j same).0)

  pub largest_running : (j : ℕ) → j ≤ k → (v : ℕ) → T (member (free_after all w j) v) → get_or (largest_after rows all w j) v 0 ≡ largest_byte (running_largest arc w v j)
  unfolding changed_by largest_byte label arcs empty any_below
  largest_running zero h v f = kept_start largest_with 0 rows all w v (omega (arith, free_vertex all w inside 0 v f)) ∙ ap largest_byte (sym ((largest_none arc w v 0).1 tt))
  largest_running (suc j) h v f =
      kept_next largest_with 0 rows all w j v (omega (arith, free_vertex all w inside (suc j) v f)) f
      ∙ ap (changed_by (largest_with j) row v) (largest_running j (omega arith) v (free_earlier rows all w j v f)) ∙ go (decided (label arc w v j))
    where
      row : ℕ
      row = get_or rows (at w j) 0

      now : ℕ
      now = largest_byte (running_largest arc w v j)

      go : T (label arc w v j) ⊎ (T (label arc w v j) → ⊥) → changed_by (largest_with j) row v now ≡ largest_byte (running_largest arc w v (suc j))
      go (inl t) = cond_yes (member row v) (suc j) now t ∙ ap largest_byte (sym (largest_moves arc w v j t))
      go (inr same) = cond_no (member row v) (suc j) now same ∙ ap largest_byte (sym (unchanged_unless_grown arc w v j same).1)

  -- of an unplaced vertex
  pub tracked_after : (j : ℕ) → j ≤ k → (v : ℕ) → T (member (free_after all w j) v)
      → let word = get_or (labels_after rows all w j) v 0 in
      (get_or (smallest_after rows all w j) v 0 ≡ smallest_byte (smallest_in 64 (member word))) × (get_or (largest_after rows all w j) v 0 ≡ largest_byte (largest_in 64 (member word)))
  tracked_after j h v f =
      let word = get_or (labels_after rows all w j) v 0 in
      let fits : j ≤ 64 = omega (arith, ordering_fits (length rows) o) in
      let cut = label_members rows all w k small inside o j h v f in (
        smallest_running j h v f ∙ ap smallest_byte (keeps_smallest arc w v j ∙ sym (smallest_cut j 64 fits (member word) (label arc w v) cut)),
        largest_running j h v f ∙ ap largest_byte (keeps_largest arc w v j ∙ sym (largest_cut j 64 fits (member word) (label arc w v) cut)),
      )

  pub consistent_after : {columns : List ℕ} → Transposed rows columns → (j : ℕ) → j ≤ k → (row : ℕ) → ((v : ℕ) → T (member row v) → T (member (free_after all w j) v))
      → Consistent columns (placed_after w j) row (labels_after rows all w j) (smallest_after rows all w j) (largest_after rows all w j)
  consistent_after {columns} transpose j h row unplaced = record {
    long = (kept_length label_with 0 rows all w j, kept_length smallest_with 64 rows all w j, kept_length largest_with 0 rows all w j);
    tallied = λ v _ t. tallied_after rows w k small o all inside columns transpose j h v (unplaced v t);
    keeps_smallest = λ v _ t. (tracked_after j h v (unplaced v t)).0;
    keeps_largest = λ v _ t. (tracked_after j h v (unplaced v t)).1;
  }
