-- Carrying on: a passed prefix grows to a full ordering that passes, and there is one such ordering for each tie-break.
--   choice_last, chosen_offered        the choice is offered and stands last
--   carry_on_carries                    what carrying on a greedy prefix gives
--   carried_on_unique                   nothing else takes the last offered vertex everywhere
--   passes_comes_back, comes_back_passes   a full ordering passes exactly when it comes back by its reverse
-- Assumes nothing.
use mathlib.Core.Path.{◌≡◌, refl, sym, ap, ◌∙◌, subst}
use mathlib.Core.Bool.{Bool}
use mathlib.Core.Logic.{◌⊎◌, inl, inr}
use mathlib.Core.List.{List, [], ◌∷◌, ◌++◌, reverse, reverse-cons}
use Prim.Native.Nat.{ℕ, zero, suc, ◌+◌, ◌-◌, ◌≤◌, ◌<◌}
use native.Mathlib.Omega.{arith}
use lib.Dec.{T}
use lib.ListN.{length, take, length-reverse, get_or-append}
use lib.Seq.{length-take-le, ext_get_or, get_or-append_seam}
use Rattle.bitset.specs.Below.{last_below}
use Rattle.bitset.proofs.Tests.{below_or, below_suc, three_ways}
use Rattle.bitset.proofs.Below.{IsLast, last}
use Rattle.searches.specs.Kind.{Search}
use Rattle.searches.specs.Ordering.{at, IsOrdering, IsFullOrdering}
use Rattle.searches.specs.Run.{offered}
use Rattle.searches.specs.Violation.{passes, judge}
use Rattle.searches.specs.CarryOn.{choice, grow, carry_on, LastOffered, CarriedOn}
use Rattle.searches.proofs.Ordering.{Agree, agree_sym, agree_fewer, take_agree, agree_begins, begins_agree, placed_in, placed_out, all_placed}
use Rattle.searches.proofs.Ordering.{length_grown, grown_agree, grown_last}
use Rattle.searches.proofs.Run.{offered_out, offered_agree, some_offered, Greedy, greedy_ordering, greedy_agree, greedy_grown}
use Rattle.searches.proofs.Violations.{greedy_unviolated, unviolated_greedy}
use Rattle.searches.proofs.Judge.{passes_unviolated, unviolated_passes}

module _ (s : Search) (arc : ℕ → ℕ → Bool) (n : ℕ) where
  pub greedy_passes : (w : List ℕ) (k : ℕ) → k ≤ length w → Greedy s arc n w k → judge s arc n w k ≡ passes
  greedy_passes w k l g = unviolated_passes s arc n w k (greedy_ordering s arc n w k l g) (greedy_unviolated s arc w n k g)

  pub passes_greedy : (w : List ℕ) (k : ℕ) → IsOrdering n w k → judge s arc n w k ≡ passes → Greedy s arc n w k
  passes_greedy w k o p = unviolated_greedy s arc w n k o (passes_unviolated s arc n w k o p)

  module _ (t : List ℕ) where
    -- ---- the offered vertex that stands last

    last_offered_agree : (r r' : List ℕ) (p : ℕ) → Agree (suc p) r r' → LastOffered s arc n t r p → LastOffered s arc n t r' p
    last_offered_agree r r' p a x =
        let same : at r p ≡ at r' p = a p (omega arith) in
        let a' : Agree p r r' = agree_fewer p (suc p) r r' (omega arith) a in
        record {
          offers = subst (λ (v : ℕ). T (offered s arc n r' p v)) same (offered_agree s arc n p (at r p) r r' a' x.offers);
          stands = x.stands;
          inside = x.inside;
          there = x.there ∙ same;
          last = λ q l h o. x.last q l h (offered_agree s arc n p (at t q) r' r (agree_sym p r r' a') o);
        }

    -- two such vertices after the same prefix are one
    last_offered_unique : (r r' : List ℕ) (p : ℕ) → Agree p r r' → LastOffered s arc n t r p → LastOffered s arc n t r' p → at r p ≡ at r' p
    last_offered_unique r r' p a x y = go (three_ways x.stands y.stands)
      where
        go : (x.stands < y.stands) ⊎ ((x.stands ≡ y.stands) ⊎ (y.stands < x.stands)) → at r p ≡ at r' p
        go (inl l) =
            absurd (x.last y.stands l y.inside (offered_agree s arc n p (at t y.stands) r' r (agree_sym p r r' a)
            (subst (λ (v : ℕ). T (offered s arc n r' p v)) (sym y.there) y.offers)))
        go (inr (inl e)) = sym x.there ∙ ap (λ (q : ℕ). at t q) e ∙ y.there
        go (inr (inr l)) =
            absurd (y.last x.stands l x.inside (offered_agree s arc n p (at t x.stands) r r' a
            (subst (λ (v : ℕ). T (offered s arc n r p v)) (sym x.there) x.offers)))

    module _ (names : IsFullOrdering n t) where
      standing : List ℕ → ℕ → ℕ → Bool
      standing w k q = offered s arc n w k (at t q)

      choice_last : (w : List ℕ) (k : ℕ) → IsOrdering n w k → k < n → IsLast (length t) (standing w k) (last_below (length t) (standing w k))
      unfolding standing
      choice_last w k o l =
          let u = some_offered s arc n o l in
          let p = placed_out t n u.at (all_placed n names.ordering u.at u.below) in
          last {n = length t} {f = standing w k} (record {
            at = p.0;
            below = omega (arith, p.1, names.full);
            holds = subst (λ (v : ℕ). T (offered s arc n w k v)) (sym p.2) u.holds;
          })

      pub chosen_offered : (w : List ℕ) → IsOrdering n w (length w) → length w < n → T (offered s arc n w (length w) (choice s arc n t w (length w)))
      unfolding choice standing
      chosen_offered w o l = (choice_last w (length w) o l).holds

      chosen_last : (w : List ℕ) → IsOrdering n w (length w) → length w < n → LastOffered s arc n t (w ++ choice s arc n t w (length w) ∷ []) (length w)
      unfolding choice standing
      chosen_last w o l =
          let c = choice s arc n t w (length w) in
          let k = length w in
          let found = choice_last w k o l in
          let a : Agree k w (w ++ c ∷ []) = agree_sym k (w ++ c ∷ []) w (grown_agree w c) in
          record {
            offers = subst (λ (v : ℕ). T (offered s arc n (w ++ c ∷ []) k v)) (sym (grown_last w c)) (offered_agree s arc n k c w (w ++ c ∷ []) a found.holds);
            stands = last_below (length t) (standing w k);
            inside = found.below;
            there = sym (grown_last w c);
            last = λ q h i x. let g = found.greatest q i (offered_agree s arc n k (at t q) (w ++ c ∷ []) w (grown_agree w c) x) in omega arith;
          }

      -- ---- growing to n vertices

      record Grown (w r : List ℕ) : Type 0 where
        agrees : Agree (length w) r w
        long : length r ≡ n
        greedy : Greedy s arc n r n
        lasts : (p : ℕ) → length w ≤ p → p < n → LastOffered s arc n t r p

      grow_grown : (m : ℕ) (w : List ℕ) → length w + m ≡ n → Greedy s arc n w (length w) → Grown w (grow s arc n t m w)
      unfolding grow
      grow_grown zero w e g =
          let same : length w ≡ n = omega arith in
          record {
            agrees = λ p l. refl;
            long = same;
            greedy = subst (λ (k : ℕ). Greedy s arc n w k) same g;
            lasts = λ p l h. absurd (omega arith);
          }
      grow_grown (suc m) w e g =
          step (greedy_ordering s arc n w (length w) (omega arith) g) (omega arith) (λ len g'. grow_grown m (w ++ c ∷ []) (omega arith) g')
        where
          c : ℕ
          c = choice s arc n t w (length w)

          w' : List ℕ
          w' = w ++ c ∷ []

          step : IsOrdering n w (length w) → length w < n → (length w' ≡ suc (length w) → Greedy s arc n w' (length w') → Grown w' (grow s arc n t m w'))
              → Grown w (grow s arc n t m w')
          step o l rest =
              let len : length w' ≡ suc (length w) = length_grown w c in
              let r = rest len (subst (λ (k : ℕ). Greedy s arc n w' k) (sym len) (greedy_grown s arc n w c g (chosen_offered w o l))) in
              record {
                agrees = λ p h. r.agrees p (omega arith) ∙ grown_agree w c p h;
                long = r.long;
                greedy = r.greedy;
                lasts = λ p h i. at_p r len o l p i (below_or (length w) p) h;
              }
            where
              at_p : Grown w' (grow s arc n t m w') → length w' ≡ suc (length w) → IsOrdering n w (length w) → length w < n → (p : ℕ) → p < n
                  → (length w < p) ⊎ (p ≤ length w) → length w ≤ p → LastOffered s arc n t (grow s arc n t m w') p
              at_p r len o l p i (inl h) _ = r.lasts p (omega arith) i
              at_p r len o l p i (inr h) g =
                  let same : length w ≡ p = omega arith in
                  subst (λ (x : ℕ). LastOffered s arc n t (grow s arc n t m w') x) same
                  (last_offered_agree w' (grow s arc n t m w') (length w) (λ q j. sym (r.agrees q (omega arith))) (chosen_last w o l))

      carry_on_grown : (w : List ℕ) (k : ℕ) → k ≤ length w → k ≤ n → Greedy s arc n w k → Grown (take k w) (carry_on s arc n t w k)
      unfolding carry_on
      carry_on_grown w k l h g =
          let len : length (take k w) ≡ k = length-take-le k w l in
          grow_grown (n - k) (take k w) (omega arith)
          (subst (λ (x : ℕ). Greedy s arc n (take k w) x) (sym len) (greedy_agree s arc n k w (take k w) (agree_sym k (take k w) w (take_agree k w)) g))

      pub carry_on_carries : (w : List ℕ) (k : ℕ) → k ≤ length w → k ≤ n → Greedy s arc n w k → CarriedOn s arc n t w k (carry_on s arc n t w k)
      carry_on_carries w k l h g =
          let r = carry_on_grown w k l h g in
          let len : length (take k w) ≡ k = length-take-le k w l in
          let whole : n ≤ length (carry_on s arc n t w k) = omega (arith, r.long) in
          record {
            full = record { ordering = greedy_ordering s arc n (carry_on s arc n t w k) n whole r.greedy; full = r.long };
            begins = agree_begins k w (carry_on s arc n t w k) l (omega arith) (λ p i. r.agrees p (omega arith) ∙ take_agree k w p i);
            passing = greedy_passes (carry_on s arc n t w k) n whole r.greedy;
            chosen = λ p i j. r.lasts p (omega arith) j;
          }

    -- ---- and to nothing else

    chosen_agree : (w r r' : List ℕ) (k : ℕ) → k ≤ length w → CarriedOn s arc n t w k r → CarriedOn s arc n t w k r' → (m : ℕ) → m ≤ n → Agree m r r'
    chosen_agree w r r' k l x y zero h = λ p i. absurd (omega arith)
    chosen_agree w r r' k l x y (suc m) h = λ p i. go (chosen_agree w r r' k l x y m (omega arith)) p (below_suc m p i) (below_or p k)
      where
        go : Agree m r r' → (p : ℕ) → (p < m) ⊎ (p ≡ m) → (p < k) ⊎ (k ≤ p) → at r p ≡ at r' p
        go a p (inl i) b = a p i
        go a p (inr e) (inl i) = (begins_agree k w r l x.begins).1 p i ∙ sym ((begins_agree k w r' l y.begins).1 p i)
        go a p (inr e) (inr i) =
            last_offered_unique r r' p (agree_fewer p m r r' (omega arith) a) (x.chosen p i (omega arith)) (y.chosen p i (omega arith))

    pub carried_on_unique : (w r r' : List ℕ) (k : ℕ) → k ≤ length w → CarriedOn s arc n t w k r → CarriedOn s arc n t w k r' → r ≡ r'
    carried_on_unique w r r' k l x y =
        let e : length r ≡ n = x.full.full in
        ext_get_or 0 r r' (e ∙ sym y.full.full) (λ p i. chosen_agree w r r' k l x y n (omega arith) p (omega arith))

-- ---- the reverse as tie-break

at_reverse : (w : List ℕ) (q : ℕ) → q < length w → at (reverse w) q ≡ at w (length w - suc q)
at_reverse [] q l = absurd (omega arith)
at_reverse (x ∷ xs) q l = ap (λ (y : List ℕ). at y q) (reverse-cons x xs) ∙ go (below_suc (length xs) q l) (at_reverse xs q)
  where
    len : length (reverse xs) ≡ length xs
    len = length-reverse xs

    go : (q < length xs) ⊎ (q ≡ length xs) → (q < length xs → at (reverse xs) q ≡ at xs (length xs - suc q))
        → at (reverse xs ++ x ∷ []) q ≡ at (x ∷ xs) (suc (length xs) - suc q)
    go (inl h) rest =
        get_or-append (reverse xs) (x ∷ []) 0 q (omega (arith, len)) ∙ rest h
        ∙ ap (λ (i : ℕ). at (x ∷ xs) i) (let e : suc (length xs - suc q) ≡ suc (length xs) - suc q = omega arith in e)
    go (inr e) rest =
        ap (λ (i : ℕ). at (reverse xs ++ x ∷ []) i) (e ∙ sym len) ∙ get_or-append_seam (reverse xs) x [] 0
        ∙ ap (λ (i : ℕ). at (x ∷ xs) i) (let z : 0 ≡ suc (length xs) - suc q = omega arith in z)

module _ (n : ℕ) (w : List ℕ) (all : IsFullOrdering n w) where
  turned : (q : ℕ) → q < n → at (reverse w) q ≡ at w (n - suc q)
  turned q l =
      let e : length w ≡ n = all.full in
      at_reverse w q (omega arith) ∙ ap (λ (m : ℕ). at w (m - suc q)) e

  pub reverse_full : IsFullOrdering n (reverse w)
  reverse_full =
      let e : length (reverse w) ≡ n = length-reverse w ∙ all.full in
      record {
        ordering = record {
          long = omega arith;
          vertices = λ p l. subst (λ (v : ℕ). v < n) (sym (turned p l)) (all.ordering.vertices (n - suc p) (omega arith));
          distinct = λ p q h i same.
              all.ordering.distinct (n - suc q) (n - suc p) (omega arith) (omega arith) (sym (turned q i) ∙ sym same ∙ turned p (omega arith));
        };
        full = e;
      }

  module _ (s : Search) (arc : ℕ → ℕ → Bool) where
    by_reverse : Greedy s arc n w n → CarriedOn s arc n (reverse w) [] 0 w
    by_reverse g =
        let e : length (reverse w) ≡ n = reverse_full.full in
        record {
          full = all;
          begins = refl;
          passing = greedy_passes s arc n w n all.ordering.long g;
          chosen = λ p _ l. record {
            offers = g p l;
            stands = n - suc p;
            inside = omega arith;
            there = turned (n - suc p) (omega arith) ∙ ap (λ (i : ℕ). at w i) (let back : n - suc (n - suc p) ≡ p = omega arith in back);
            last = λ q h i o.
                (offered_out s arc n w p (at (reverse w) q) o).unplaced
                (placed_in w p (at (reverse w) q) (n - suc q) (omega arith) (sym (turned q (omega arith))));
          };
        }

    carried : CarriedOn s arc n (reverse w) [] 0 (carry_on s arc n (reverse w) [] 0)
    carried = carry_on_carries s arc n (reverse w) reverse_full [] 0 (omega arith) (omega arith) (λ j l. absurd (omega arith))

    pub passes_comes_back : judge s arc n w n ≡ passes → carry_on s arc n (reverse w) [] 0 ≡ w
    passes_comes_back p =
        carried_on_unique s arc n (reverse w) [] (carry_on s arc n (reverse w) [] 0) w 0 (omega arith) carried
        (by_reverse (passes_greedy s arc n w n all.ordering p))

    pub comes_back_passes : carry_on s arc n (reverse w) [] 0 ≡ w → judge s arc n w n ≡ passes
    comes_back_passes e = subst (λ (r : List ℕ). judge s arc n r n ≡ passes) e carried.passing
