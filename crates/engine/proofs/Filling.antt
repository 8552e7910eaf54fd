-- Filling an ordering up by its words is carrying it on.
--   fill_length                    how many vertices are filled in
--   filled, fill_after             what is filled in behind a list, and behind one with a vertex more
--   fill_grows, carry_fills        growing and carrying on fill in just that
-- Assumes nothing.
use mathlib.Core.Path.{◌≡◌, refl, sym, ap, ap₂, ◌∙◌}
use mathlib.Core.Bool.{Bool}
use mathlib.Core.List.{List, [], ◌∷◌, ◌++◌, append-nil, append_assoc}
use Prim.Native.Nat.{ℕ, zero, suc, ◌+◌, ◌-◌, ◌≤◌, ◌<◌}
use native.Mathlib.Omega.{arith}
use lib.Dec.{T}
use lib.ListN.{length, take}
use lib.Seq.{length-take-le}
use Rattle.bitset.specs.Below.{count_below}
use Rattle.bitset.specs.Word.{member, removed}
use Rattle.searches.specs.Kind.{Search}
use Rattle.searches.specs.Ordering.{arcs, at, IsOrdering, IsFullOrdering}
use Rattle.searches.specs.Without.{IsKeptOrdering}
use Rattle.searches.proofs.Ordering.{take_agree, length_grown}
use Rattle.searches.proofs.Kept.{choice_kept, grow_kept, carry_on_kept}
use Rattle.searches.proofs.CarryOnKept.{part_stays, stays_more}
use Rattle.labels.specs.Words.{spread_to}
use Rattle.offers.specs.Open.{chosen_in}
use Rattle.steps.specs.Steps.{AreVertices, grown_by, labels_after, free_after}
use Rattle.filling.specs.Fill.{fill_in}
use Rattle.filling.proofs.Growing.{labels_agree, free_agree, labels_grown, free_grown, choice_same}

pub fill_length : (s : Search) (rows t : List ℕ) (m p : ℕ) (labels : List ℕ) (free : ℕ) → length (fill_in s rows t m p labels free) ≡ m
unfolding fill_in
fill_length s rows t zero p labels free = refl
fill_length s rows t (suc m) p labels free =
    let v = chosen_in s labels free t in
    ap suc (fill_length s rows t m (suc p) (spread_to (grown_by rows free v) p labels) (removed free v))

module _ (s : Search) (rows : List ℕ) (all : ℕ) (small : length rows ≤ 64) (inside : AreVertices (length rows) all) where
  abbrev n : ℕ
  n = length rows

  abbrev arc : ℕ → ℕ → Bool
  arc = arcs rows

  -- what is filled in behind w
  abbrev pub filled : List ℕ → ℕ → List ℕ → List ℕ
  filled t m w = fill_in s rows t m (length w) (labels_after rows all w (length w)) (free_after all w (length w))

  pub fill_after : (t w : List ℕ) (v m : ℕ)
      → (w ++ v ∷ []) ++ filled t m (w ++ v ∷ [])
      ≡ w ++ v ∷ fill_in s rows t m (suc (length w)) (spread_to (grown_by rows (free_after all w (length w)) v) (length w) (labels_after rows all w (length w))) (removed (free_after all w (length w)) v)
  fill_after t w v m =
      let w' : List ℕ = w ++ v ∷ [] in
      ap (λ (p : ℕ). w' ++ fill_in s rows t m p (labels_after rows all w' p) (free_after all w' p)) (length_grown w v)
      ∙ ap₂ (λ (labels : List ℕ) (free : ℕ). w' ++ fill_in s rows t m (suc (length w)) labels free) (labels_grown w v rows all) (free_grown w v all)
      ∙ append_assoc w (v ∷ []) _

  pub fill_grows : (t w : List ℕ) → IsFullOrdering n t → IsKeptOrdering n (member all) w (length w) → (m : ℕ) → length w + m ≡ count_below n (member all)
      → grow_kept s arc n (member all) t m w ≡ w ++ filled t m w
  unfolding grow_kept fill_in
  fill_grows t w names x zero e = sym (append-nil w)
  fill_grows t w names x (suc m) e =
      let k : ℕ = length w in
      let c : ℕ = choice_kept s arc n (member all) t w k in
      let len : length (w ++ c ∷ []) ≡ suc k = length_grown w c in
      fill_grows t (w ++ c ∷ []) names (stays_more s arc n (member all) t names w x (omega arith)) m (omega arith)
      ∙ fill_after t w c m
      ∙ ap (λ (v : ℕ). w ++ v ∷ fill_in s rows t m (suc k) (spread_to (grown_by rows (free_after all w k) v) k (labels_after rows all w k)) (removed (free_after all w k) v))
      (choice_same s rows small all inside t w k x.ordering)

  pub carry_fills : (t out : List ℕ) (k : ℕ) → IsFullOrdering n t → IsOrdering n out k → ((p : ℕ) → p < k → T (member all (at out p))) → (m : ℕ)
      → k + m ≡ count_below n (member all)
      → carry_on_kept s arc n (member all) t out k
      ≡ take k out ++ fill_in s rows t m k (labels_after rows all out k) (free_after all out k)
  unfolding carry_on_kept
  carry_fills t out k names o stays m whole =
      let w : List ℕ = take k out in
      let len : length w ≡ k = length-take-le k out o.long in
      let left : count_below n (member all) - k ≡ m = omega arith in
      ap (λ (x : ℕ). grow_kept s arc n (member all) t x w) left
      ∙ fill_grows t w names (part_stays n (member all) out k o stays) m (omega arith)
      ∙ ap (λ (p : ℕ). w ++ fill_in s rows t m p (labels_after rows all w p) (free_after all w p)) len
      ∙ ap₂ (λ (labels : List ℕ) (free : ℕ). w ++ fill_in s rows t m k labels free) (labels_agree rows all w out k (take_agree k out)) (free_agree all w out k (take_agree k out))
