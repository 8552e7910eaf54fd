-- A list of all vertices, with the others passed over, is a list of all new numbers.
--   numbered_full
-- Assumes nothing.
use mathlib.Core.Path.{◌≡◌, refl, sym, ap, ◌∙◌, subst}
use mathlib.Core.Bool.{Bool, true, false, cond}
use mathlib.Core.Logic.{◌⊎◌, inl, inr}
use mathlib.Core.List.{List, [], ◌∷◌}
use Prim.Native.Nat.{ℕ, zero, suc, ◌≤◌, ◌<◌}
use native.Mathlib.Omega.{arith}
use lib.Dec.{T, T_not}
use lib.ListN.{length}
use Rattle.bitset.specs.Below.{count_below}
use Rattle.bitset.proofs.Tests.{below_or, cond_yes}
use Rattle.searches.specs.Ordering.{at, placed, IsOrdering, IsFullOrdering}
use Rattle.searches.proofs.Ordering.{placed_in, placed_out, all_placed, ordering_fits, some_unplaced}
use Rattle.searches.specs.Without.{number_of, name_of, numbered}
use Rattle.searches.proofs.Naming.{number_below, number_same, number_name, name_below, name_kept}

module _ (kept : ℕ → Bool) where
  -- a kept vertex of t that has the number i
  record Source (t : List ℕ) (i : ℕ) : Type 0 where
    position : ℕ
    below : position < length t
    stays : T (kept (at t position))
    numbers : number_of kept (at t position) ≡ i

  later : {v : ℕ} {t : List ℕ} {i : ℕ} → Source t i → Source (v ∷ t) i
  later s = record { position = suc s.position; below = omega (arith, s.below); stays = s.stays; numbers = s.numbers }

  source : (t : List ℕ) (q : ℕ) → q < length (numbered kept t) → Source t (at (numbered kept t) q)
  unfolding numbered
  source [] q l = absurd (omega arith)
  source (v ∷ t) q l = go (kept v) (λ x. x) (source t) q l
    where
      go : (b : Bool) → (T b → T (kept v)) → ((q : ℕ) → q < length (numbered kept t) → Source t (at (numbered kept t) q))
          → (q : ℕ) → q < length (cond b (number_of kept v ∷ numbered kept t) (numbered kept t)) → Source (v ∷ t) (at (cond b (number_of kept v ∷ numbered kept t) (numbered kept t)) q)
      go true stays rest zero l = record { position = 0; below = omega arith; stays = stays tt; numbers = refl }
      go true stays rest (suc q) l = later (rest q (omega arith))
      go false stays rest q l = later (rest q l)

  target : (t : List ℕ) (p : ℕ) → p < length t → T (kept (at t p)) → (q : ℕ) × (q < length (numbered kept t)) × (at (numbered kept t) q ≡ number_of kept (at t p))
  unfolding numbered
  target [] p l stays = absurd (omega arith)
  target (v ∷ t) zero l stays = (0, go.0, go.1)
    where
      here : List ℕ
      here = cond (kept v) (number_of kept v ∷ numbered kept t) (numbered kept t)

      go : (0 < length here) × (at here 0 ≡ number_of kept v)
      go =
          subst (λ (x : List ℕ). (0 < length x) × (at x 0 ≡ number_of kept v)) (sym (cond_yes (kept v) (number_of kept v ∷ numbered kept t) (numbered kept t) stays))
          (omega arith, refl)
  target (v ∷ t) (suc p) l stays = go (kept v) (target t p (omega arith) stays)
    where
      go : (b : Bool) → (q : ℕ) × (q < length (numbered kept t)) × (at (numbered kept t) q ≡ number_of kept (at t p))
          → (q : ℕ) × (q < length (cond b (number_of kept v ∷ numbered kept t) (numbered kept t))) × (at (cond b (number_of kept v ∷ numbered kept t) (numbered kept t)) q ≡ number_of kept (at t p))
      go true x = (suc x.0, omega (arith, x.1), x.2)
      go false x = x

  distinct : (t : List ℕ) → ((p q : ℕ) → p < q → q < length t → at t p ≡ at t q → ⊥)
      → (p q : ℕ) → p < q → q < length (numbered kept t) → at (numbered kept t) p ≡ at (numbered kept t) q → ⊥
  unfolding numbered
  distinct [] d p q l h = absurd (omega arith)
  distinct (v ∷ t) d p q l h = go (kept v) (λ x. x) (distinct t (λ x y i j e. d (suc x) (suc y) (omega arith) (omega arith) e)) (source t) p q l h
    where
      go : (b : Bool) → (T b → T (kept v)) → ((p q : ℕ) → p < q → q < length (numbered kept t) → at (numbered kept t) p ≡ at (numbered kept t) q → ⊥)
          → ((q : ℕ) → q < length (numbered kept t) → Source t (at (numbered kept t) q))
          → (p q : ℕ) → p < q → q < length (cond b (number_of kept v ∷ numbered kept t) (numbered kept t))
          → at (cond b (number_of kept v ∷ numbered kept t) (numbered kept t)) p ≡ at (cond b (number_of kept v ∷ numbered kept t) (numbered kept t)) q → ⊥
      go true stays rest from p zero l h e = absurd (omega arith)
      go true stays rest from zero (suc q) l h e =
          let s = from q (omega arith) in
          d 0 (suc s.position) (omega arith) (omega (arith, s.below)) (number_same kept v (at t s.position) (stays tt) s.stays (e ∙ sym s.numbers))
      go true stays rest from (suc p) (suc q) l h e = rest p q (omega arith) (omega arith) e
      go false stays rest from p q l h e = rest p q l h e

pub numbered_full : (n : ℕ) (kept : ℕ → Bool) (t : List ℕ) → IsFullOrdering n t → IsFullOrdering (count_below n kept) (numbered kept t)
numbered_full n kept t names = record { ordering = subst (λ (k : ℕ). IsOrdering n' t' k) whole ordering; full = whole }
  where
    n' : ℕ
    n' = count_below n kept

    t' : List ℕ
    t' = numbered kept t

    ordering : IsOrdering n' t' (length t')
    ordering = record {
      long = omega arith;
      vertices = λ q l.
          let s = source kept t q l in
          subst (λ (i : ℕ). i < n') s.numbers (number_below kept n (at t s.position) (names.ordering.vertices s.position (omega (arith, s.below, names.full))) s.stays);
      distinct = distinct kept t (λ p q l h. names.ordering.distinct p q l (omega (arith, h, names.full)));
    }

    whole : length t' ≡ n'
    whole = go (below_or (length t') n')
      where
        go : (length t' < n') ⊎ (n' ≤ length t') → length t' ≡ n'
        go (inl l) =
            let u = some_unplaced n' ordering l in
            let v : ℕ = name_of n kept u.at in
            let p = placed_out t n v (all_placed n names.ordering v (name_below kept n u.at u.below)) in
            let q = target kept t p.0 (omega (arith, p.1, names.full)) (subst (λ (x : ℕ). T (kept x)) (sym p.2) (name_kept kept n u.at u.below)) in
            absurd (T_not (placed t' (length t') u.at) u.holds (placed_in t' (length t') u.at q.0 q.1
            (q.2 ∙ ap (λ (x : ℕ). number_of kept x) p.2 ∙ number_name kept n u.at u.below)))
        go (inr l) = omega (arith, ordering_fits n' ordering)
