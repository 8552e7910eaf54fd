-- The vertex that leads the front is the open one that stands last in the tie-break.
--   first_in_front     the smallest vertex of the front is in it
--   lead_chosen        the one that leads it is chosen
-- Assumes nothing.
use mathlib.Core.Path.{◌≡◌, sym, ap, ◌∙◌, subst}
use mathlib.Core.Bool.{Bool, not, ◌&&◌}
use mathlib.Core.Logic.{◌⊎◌, inl, inr}
use mathlib.Core.List.{List}
use Prim.Native.Nat.{ℕ, ◌≤◌, ◌<◌}
use native.Mathlib.Omega.{arith}
use lib.Dec.{T, not_T, T_not}
use lib.ListN.{length, get_or}
use Rattle.bitset.specs.Below.{any_below, first_below}
use Rattle.bitset.proofs.Tests.{and_in, and_out, decided}
use Rattle.bitset.proofs.Below.{Some, any_out, any_at, first, first_found, last_unique}
use Rattle.searches.specs.Kind.{Search}
use Rattle.searches.specs.Ordering.{at}
use Rattle.searches.specs.Label.{outranks}
use Rattle.searches.proofs.AheadToo.{ahead_of_none}
use Rattle.tables.specs.Rows.{in_set, row_of}
use Rattle.wide.specs.Store.{beats_in, beaten_in, open_in, chosen_in}
use Rattle.wide.specs.Steps.{Choosable}
use Rattle.wide.specs.Choice.{Fronted, Leads}
use Rattle.wide.proofs.Beaten.{ahead_reached}

module _ (s : Search) {labels weights free reached t ranks front : List ℕ} (c : Choosable s labels weights free reached t ranks) (f : Fronted free reached front) where
  pub first_in_front : {r : ℕ} → r ≡ first_below 512 (in_set front) → (r < 512) × T (in_set front r)
  first_in_front e = subst (λ (r : ℕ). (r < 512) × T (in_set front r)) (sym e) (first_found someone, (first 512 (in_set front)).holds (first_found someone))
    where
      someone : Some 512 (in_set front)
      someone =
          let u = c.some in
          let v = f.some u.0 u.1 u.2 in
          record { at = v.0; below = v.1; holds = v.2 }

  abbrev ahead : ℕ → ℕ → Bool
  ahead u v = outranks s 512 (row_of labels u) (row_of labels v)

  -- who is open is unbeaten, and who is free and unbeaten is open
  open_out : (v : ℕ) → T (open_in s labels free v) → T (in_set free v) × ((u : ℕ) → u < 512 → T (in_set free u) → T (ahead u v) → ⊥)
  unfolding open_in beaten_in beats_in
  open_out v o =
      let both = and_out (in_set free v) (not (any_below 512 (λ u. in_set free u && ahead u v))) o in (
        both.0,
        λ u l x a. T_not (any_below 512 (λ u. in_set free u && ahead u v)) both.1 (any_at 512 (λ u. in_set free u && ahead u v) u l (and_in (in_set free u) (ahead u v) x a)),
      )

  open_in_lem : (v : ℕ) → T (in_set free v) → ((u : ℕ) → u < 512 → T (in_set free u) → T (ahead u v) → ⊥) → T (open_in s labels free v)
  unfolding open_in beaten_in beats_in
  open_in_lem v x unbeaten =
      and_in (in_set free v) (not (any_below 512 (λ u. in_set free u && ahead u v))) x (not_T (any_below 512 (λ u. in_set free u && ahead u v)) (λ y.
      let u = any_out 512 (λ u. in_set free u && ahead u v) y in
      let both = and_out (in_set free u.at) (ahead u.at v) u.holds in
      unbeaten u.at u.below both.0 both.1))

  -- a free vertex outside the front is behind every one in it
  behind : (u v : ℕ) → u < 512 → v < 512 → T (in_set free u) → (T (in_set front u) → ⊥) → T (in_set front v) → T (ahead v u)
  behind u v l h x out y =
      let r = f.others u v l h x out y in
      let p = any_out 512 (row_of labels v) (subst (λ (b : Bool). T b) (c.covers v h (f.part v h y)) r.1) in
      ahead_of_none s 512 (row_of labels v) (row_of labels u) p.at p.below p.holds
      (λ d g z. r.0 (subst (λ (b : Bool). T b) (sym (c.covers u l x)) (any_at 512 (row_of labels u) d g z)))

  pub lead_chosen : {v : ℕ} → Leads s labels ranks (in_set front) v → v ≡ chosen_in s labels free t
  unfolding chosen_in
  lead_chosen {v} r = sym place.1 ∙ ap (λ (q : ℕ). at t q) (last_unique (record {
    below = place.0;
    holds = subst (λ (x : ℕ). T (open_in s labels free x)) (sym place.1) (open_in_lem v free_one unbeaten);
    greatest = later;
  }))
    where
      free_one : T (in_set free v)
      free_one = f.part v r.vertex r.member

      place : (get_or ranks v 0 < length t) × (at t (get_or ranks v 0) ≡ v)
      place = c.named v r.vertex free_one

      unbeaten : (u : ℕ) → u < 512 → T (in_set free u) → T (ahead u v) → ⊥
      unbeaten u l x a = go (decided (in_set front u))
        where
          go : T (in_set front u) ⊎ (T (in_set front u) → ⊥) → ⊥
          go (inl y) = r.unbeaten u l y a
          go (inr out) = (f.others u v l r.vertex x out r.member).0 (ahead_reached s labels free reached c.covers u v l x a)

      later : (q : ℕ) → q < length t → T (open_in s labels free (at t q)) → q ≤ get_or ranks v 0
      later q l o = go (decided (in_set front (at t q)))
        where
          entry : (at t q < 512) × (get_or ranks (at t q) 0 ≡ q)
          entry = c.ranked.entry q l

          mine : T (in_set free (at t q)) × ((u : ℕ) → u < 512 → T (in_set free u) → T (ahead u (at t q)) → ⊥)
          mine = open_out (at t q) o

          not_ahead : T (ahead v (at t q)) → ⊥
          not_ahead = mine.1 v r.vertex free_one

          go : T (in_set front (at t q)) ⊎ (T (in_set front (at t q)) → ⊥) → q ≤ get_or ranks v 0
          go (inl y) = omega (arith, entry.1, r.last (at t q) entry.0 y not_ahead)
          go (inr out) = absurd (not_ahead (behind (at t q) v entry.0 r.vertex mine.0 out r.member))
