-- Where a vertex stands in an ordering.
--   found_placed, unfound_absent     22's test, from the position that the search for the vertex ends at
--   placed_stands                    a placed vertex stands at its position
--   at_position                      of distinct vertices each stands at one position only
-- Assumes nothing.
use mathlib.Core.Path.{◌≡◌, refl, ap}
use mathlib.Core.Bool.{true, false, not}
use mathlib.Core.List.{List}
use Prim.Native.Nat.{ℕ, ◌≤◌, ◌<◌}
use lib.Dec.{T, eqb, eqb→eq}
use lib.ListN.{length}
use Rattle.bitset.proofs.Tests.{is_true, is_false}
use Rattle.bitset.proofs.Below.{any_out, first, first_found}
use Rattle.bitset.proofs.Passed.{some_found, none_found}
use Rattle.searches.specs.Ordering.{at, placed, IsOrdering}
use Rattle.searches.proofs.Ordering.{placed_in, same_position}
use Rattle.route.specs.WayBack.{position_of}

module _ (w : List ℕ) (v : ℕ) where
  pub found_placed : {q : ℕ} → q ≡ position_of w v → q < length w → not (placed w (length w) v) ≡ false
  unfolding placed position_of
  found_placed {q} e l = ap not (is_true (placed w (length w) v) (some_found (length w) (λ p. eqb (at w p) v) q e l))

  pub unfound_absent : {q : ℕ} → q ≡ position_of w v → length w ≤ q → not (placed w (length w) v) ≡ true
  unfolding placed position_of
  unfound_absent {q} e l = ap not (is_false (placed w (length w) v) (none_found (length w) (λ p. eqb (at w p) v) q e l))

  pub placed_stands : T (placed w (length w) v) → (position_of w v < length w) × (at w (position_of w v) ≡ v)
  unfolding placed position_of
  placed_stands t =
      let l = first_found (any_out (length w) (λ p. eqb (at w p) v) t) in
      (l, eqb→eq (at w (position_of w v)) v ((first (length w) (λ p. eqb (at w p) v)).holds l))

pub at_position : {n : ℕ} {w : List ℕ} → IsOrdering n w (length w) → (p : ℕ) → p < length w → position_of w (at w p) ≡ p
at_position {n} {w} o p l =
    let x = placed_stands w (at w p) (placed_in w (length w) (at w p) p l refl) in
    same_position n o (position_of w (at w p)) p x.0 l x.1
