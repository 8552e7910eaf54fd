-- The argument for any symmetric relation and any n: a LexDFS ordering has no gap, and then it is an elimination order from its end, or it has one, and then
-- a chordless cycle is found.
--   either, ordered
-- Assumes nothing.
use Prim.Native.Nat.{ℕ, ◌<◌}
use mathlib.Core.Path.{refl}
use mathlib.Core.Bool.{Bool}
use mathlib.Core.Logic.{◌⊎◌, inl, inr}
use mathlib.Core.List.{List, []}
use native.Mathlib.Omega.{arith}
use lib.Dec.{T}
use Rattle.bitset.specs.Below.{any_below}
use Rattle.bitset.proofs.Tests.{decided}
use Rattle.bitset.proofs.Below.{any_out, first_found}
use Rattle.searches.specs.Kind.{lex_dfs}
use Rattle.searches.specs.CarryOn.{CarriedOn, carry_on}
use Rattle.searches.proofs.Ordering.{up_to, up_to_full}
use Rattle.searches.proofs.CarryOn.{carry_on_carries}
use Rattle.chordal.specs.Chordal.{Symmetric, IsChordlessCycle, Chordal, IsEliminationOrder}
use Rattle.chordal.specs.Descent.{is_top, first_low, first_middle, first_top, cycle_length, listed, cycle_vertex, cycle_of, turned}
use Rattle.chordal.proofs.Descent as descent
use Rattle.chordal.proofs.Elimination.{first_gap, eliminates}
use Rattle.chordal.proofs.Listing.{listed_length, listed_at}

module _ (arc : ℕ → ℕ → Bool) (n : ℕ) (symmetric : Symmetric arc n) where
  abbrev w : List ℕ
  w = carry_on lex_dfs arc n (up_to n) [] 0

  carried : CarriedOn lex_dfs arc n (up_to n) [] 0 w
  carried = carry_on_carries lex_dfs arc n (up_to n) (up_to_full n) [] 0 (omega arith) (omega arith) (λ j l. absurd (omega arith))

  pub either : ((e : List ℕ) × IsEliminationOrder arc n e) ⊎ ((c : List ℕ) × (m : ℕ) × IsChordlessCycle arc n c m)
  unfolding first_top
  either = go (decided (any_below n (is_top arc w)))
    where
      l : ℕ
      l = first_top arc w n

      j : ℕ
      j = first_middle arc w l

      i : ℕ
      i = first_low arc w l j

      inside : T (any_below n (is_top arc w)) → l < n
      inside t = first_found (any_out n (is_top arc w) t)

      go : T (any_below n (is_top arc w)) ⊎ (T (any_below n (is_top arc w)) → ⊥)
          → ((e : List ℕ) × IsEliminationOrder arc n e) ⊎ ((c : List ℕ) × (m : ℕ) × IsChordlessCycle arc n c m)
      go (inl t) =
          let m = cycle_length arc w i l j in
          let f = cycle_vertex arc w i l j in
          let gap = first_gap arc n symmetric w l refl (inside t) in
          inr (cycle_of arc w i l j m, m, descent.cycle arc n w carried.full.ordering carried.passing i j l gap symmetric (listed m f) (omega (arith, listed_length m f)) (listed_at m f))
      go (inr none) =
          let f = turned w n in inl (listed n f, eliminates arc n symmetric w carried.full.ordering none (listed n f) (omega (arith, listed_length n f)) (listed_at n f))

  pub ordered : Chordal arc n → (e : List ℕ) × IsEliminationOrder arc n e
  ordered none = go either
    where
      go : ((e : List ℕ) × IsEliminationOrder arc n e) ⊎ ((c : List ℕ) × (m : ℕ) × IsChordlessCycle arc n c m) → (e : List ℕ) × IsEliminationOrder arc n e
      go (inl x) = x
      go (inr x) = absurd (none x.0 x.1 x.2)
