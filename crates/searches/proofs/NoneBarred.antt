-- Which vertices are kept matters below n only; and where all of these are kept, the answers are those for the graph itself.
--   judge_alike, offered_alike, carry_on_alike   two tests of who is kept that are equal below n
--   count_whole                                 all of n are n
--   judge_all, offered_all, carry_on_all   all are kept
-- Assumes nothing.
use mathlib.Core.Path.{◌≡◌, refl, sym, ap, ap₂, ◌∙◌}
use mathlib.Core.Bool.{Bool, true, false, cond, not, ◌&&◌}
use mathlib.Core.Logic.{◌⊎◌, inl, inr}
use mathlib.Core.List.{List, [], ◌∷◌, ◌++◌}
use Prim.Native.Nat.{ℕ, zero, suc, ◌+◌, ◌-◌, ◌<◌, ◌≤◌}
use native.Mathlib.Omega.{arith}
use lib.Dec.{T, ltb, ltb→lt}
use lib.ListN.{length, take}
use Rattle.bitset.specs.Below.{any_below, first_below, count_below}
use Rattle.bitset.proofs.Tests.{is_true, is_false, below_or, cond_yes}
use Rattle.bitset.proofs.Below.{any_same, first_same, last_same}
use Rattle.bitset.proofs.Count.{count_same}
use Rattle.searches.specs.Kind.{Search}
use Rattle.searches.specs.Ordering.{at, placed, IsOrdering, IsFullOrdering}
use Rattle.searches.specs.Label.{label, outranks}
use Rattle.searches.specs.Run.{offered}
use Rattle.searches.specs.Violation.{Verdict, passes, fails, third, is_last, is_first, is_middle, judge}
use Rattle.searches.specs.CarryOn.{choice, grow, carry_on}
use Rattle.searches.specs.Without.{judge_without, offered_without, carry_on_without}
use Rattle.searches.proofs.Judge.{third_vertex}
use Rattle.searches.proofs.Kept.{kept_last, kept_first, kept_middle, judge_kept, offered_kept, choice_kept, grow_kept, carry_on_kept}
use Rattle.searches.proofs.JudgeKept.{judge_kept_lem}
use Rattle.searches.proofs.OfferedKept.{offered_kept_lem}
use Rattle.searches.proofs.CarryOnKept.{carry_on-kept}

-- ---- two tests that are equal below n

module _ (s : Search) (arc : ℕ → ℕ → Bool) (n : ℕ) (kept kept' : ℕ → Bool) (same : (v : ℕ) → v < n → kept v ≡ kept' v) where
  module _ (w : List ℕ) (k : ℕ) (o : IsOrdering n w k) where
    last_alike : (j i e : ℕ) → e < k + n → kept_last s arc n kept w k j i e ≡ kept_last s arc n kept' w k j i e
    unfolding kept_last
    last_alike j i e l = ap (λ (b : Bool). b && is_last s arc n w k j i e) (same (third w k e) (third_vertex w k n o.vertices e l))

    first_alike : (j i : ℕ) → kept_first s arc n kept w k j i ≡ kept_first s arc n kept' w k j i
    unfolding kept_first
    first_alike j i = any_same (k + n) (kept_last s arc n kept w k j i) (kept_last s arc n kept' w k j i) (last_alike j i)

    middle_alike : (j : ℕ) → kept_middle s arc n kept w k j ≡ kept_middle s arc n kept' w k j
    unfolding kept_middle
    middle_alike j = any_same j (kept_first s arc n kept w k j) (kept_first s arc n kept' w k j) (λ i _. first_alike j i)

    pub judge_alike : judge_kept s arc n kept w k ≡ judge_kept s arc n kept' w k
    unfolding judge_kept
    judge_alike = ap from (first_same k (kept_middle s arc n kept w k) (kept_middle s arc n kept' w k) (λ j _. middle_alike j)) ∙ alike (first_below k (kept_middle s arc n kept' w k))
      where
        shown : ℕ → ℕ → ℕ → Verdict
        shown j i e = cond (ltb j k) (fails (at w i) (at w j) (third w k e)) passes

        from : ℕ → Verdict
        from j =
            let i = first_below j (kept_first s arc n kept w k j) in
            shown j i (first_below (k + n) (kept_last s arc n kept w k j i))

        alike : (j : ℕ)
            → from j ≡ shown j (first_below j (kept_first s arc n kept' w k j)) (first_below (k + n) (kept_last s arc n kept' w k j (first_below j (kept_first s arc n kept' w k j))))
        alike j =
            let i : ℕ = first_below j (kept_first s arc n kept' w k j) in
            ap (λ (x : ℕ). shown j x (first_below (k + n) (kept_last s arc n kept w k j x)))
            (first_same j (kept_first s arc n kept w k j) (kept_first s arc n kept' w k j) (λ x _. first_alike j x))
            ∙ ap (shown j i) (first_same (k + n) (kept_last s arc n kept w k j i) (kept_last s arc n kept' w k j i) (last_alike j i))

  pub offered_alike : (w : List ℕ) (k v : ℕ) → offered_kept s arc n kept w k v ≡ offered_kept s arc n kept' w k v
  unfolding offered_kept
  offered_alike w k v = go (below_or v n)
    where
      ahead : ℕ → Bool
      ahead u = not (placed w k u) && outranks s k (label arc w u) (label arc w v)

      rest : (ℕ → Bool) → Bool → Bool
      rest stays inside = inside && not (placed w k v) && not (any_below n (λ u. stays u && ahead u))

      beaten : any_below n (λ u. kept u && ahead u) ≡ any_below n (λ u. kept' u && ahead u)
      beaten = any_same n (λ u. kept u && ahead u) (λ u. kept' u && ahead u) (λ u l. ap (λ (b : Bool). b && ahead u) (same u l))

      outside : (a b : Bool) → (a && false) ≡ (b && false)
      outside true true = refl
      outside true false = refl
      outside false true = refl
      outside false false = refl

      go : (v < n) ⊎ (n ≤ v) → (kept v && rest kept (ltb v n)) ≡ (kept' v && rest kept' (ltb v n))
      go (inl l) = ap₂ (λ (a b : Bool). a && (ltb v n && not (placed w k v) && not b)) (same v l) beaten
      go (inr l) =
          let out : ltb v n ≡ false = is_false (ltb v n) (λ t. omega (arith, ltb→lt v n t)) in
          ap (λ (b : Bool). kept v && rest kept b) out ∙ outside (kept v) (kept' v) ∙ sym (ap (λ (b : Bool). kept' v && rest kept' b) out)

  module _ (t : List ℕ) where
    grow_alike : (m : ℕ) (w : List ℕ) → grow_kept s arc n kept t m w ≡ grow_kept s arc n kept' t m w
    unfolding grow_kept choice_kept
    grow_alike zero w = refl
    grow_alike (suc m) w =
        grow_alike m (w ++ choice_kept s arc n kept t w (length w) ∷ [])
        ∙ ap (λ (q : ℕ). grow_kept s arc n kept' t m (w ++ at t q ∷ []))
        (last_same (length t) (λ q. offered_kept s arc n kept w (length w) (at t q)) (λ q. offered_kept s arc n kept' w (length w) (at t q))
        (λ q _. offered_alike w (length w) (at t q)))

    pub carry_on_alike : (w : List ℕ) (k : ℕ) → carry_on_kept s arc n kept t w k ≡ carry_on_kept s arc n kept' t w k
    unfolding carry_on_kept
    carry_on_alike w k = ap (λ (m : ℕ). grow_kept s arc n kept t (m - k) (take k w)) (count_same n kept kept' same) ∙ grow_alike (count_below n kept' - k) (take k w)

-- ---- where all are kept

everyone : ℕ → Bool
everyone v = true

pub count_whole : (n : ℕ) (kept : ℕ → Bool) → ((v : ℕ) → v < n → T (kept v)) → count_below n kept ≡ n
unfolding count_below
count_whole zero kept all = refl
count_whole (suc n) kept all =
    cond_yes (kept n) (suc (count_below n kept)) (count_below n kept) (all n (omega arith)) ∙ ap suc (count_whole n kept (λ v l. all v (omega arith)))

module _ (s : Search) (arc : ℕ → ℕ → Bool) (n : ℕ) (kept : ℕ → Bool) (all : (v : ℕ) → v < n → T (kept v)) where
  same : (v : ℕ) → v < n → kept v ≡ everyone v
  unfolding everyone
  same v l = is_true (kept v) (all v l)

  stays : {w : List ℕ} {k : ℕ} → IsOrdering n w k → (p : ℕ) → p < k → T (kept (at w p))
  stays {w} o p l = all (at w p) (o.vertices p l)

  pub judge_all : (w : List ℕ) (k : ℕ) → IsOrdering n w k → judge_without s arc n kept w k ≡ judge s arc n w k
  unfolding judge_kept judge kept_middle is_middle kept_first is_first kept_last everyone
  judge_all w k o = judge_kept_lem s arc n kept w k o (stays o) ∙ judge_alike s arc n kept everyone same w k o

  everyone_offered : (w : List ℕ) (k v : ℕ) → offered_kept s arc n everyone w k v ≡ offered s arc n w k v
  unfolding offered_kept offered everyone
  everyone_offered w k v = refl

  pub offered_all : (w : List ℕ) (k : ℕ) → IsOrdering n w k → (v : ℕ) → offered_without s arc n kept w k v ≡ offered s arc n w k v
  offered_all w k o v = offered_kept_lem s arc n kept w k o (stays o) v ∙ offered_alike s arc n kept everyone same w k v ∙ everyone_offered w k v

  module _ (t : List ℕ) where
    everyone_grown : (m : ℕ) (w : List ℕ) → grow_kept s arc n everyone t m w ≡ grow s arc n t m w
    unfolding grow_kept grow choice_kept choice offered_kept offered everyone
    everyone_grown zero w = refl
    everyone_grown (suc m) w = everyone_grown m (w ++ choice s arc n t w (length w) ∷ [])

    pub carry_on_all : IsFullOrdering n t → (w : List ℕ) (k : ℕ) → IsOrdering n w k → carry_on_without s arc n kept t w k ≡ carry_on s arc n t w k
    unfolding carry_on_kept carry_on everyone
    carry_on_all names w k o =
        carry_on-kept s arc n kept t names w k o (stays o) ∙ carry_on_alike s arc n kept everyone same t w k
        ∙ ap (λ (m : ℕ). grow_kept s arc n everyone t (m - k) (take k w)) (count_whole n everyone (λ v _. tt)) ∙ everyone_grown (n - k) (take k w)
