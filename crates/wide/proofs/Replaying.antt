-- The replay of an ordering: its invariant, and how it goes on and ends.
--   Replaying s table n w k .. j    j vertices are placed, none of which was beaten
--   replay_start
--   replay_vertex, replay_told      the turn of the next vertex: it is one, and what is told of it says whether the replay stops
--   replay_placeable, replay_next   it may be placed, and is
--   replay_ends
-- Assumes nothing.
use mathlib.Core.Path.{◌≡◌, sym, ap, ◌∙◌, subst}
use mathlib.Core.Bool.{Bool, false}
use mathlib.Core.List.{List}
use Prim.Native.Nat.{ℕ, suc, ◌+◌, ◌≤◌, ◌<◌}
use native.Mathlib.Omega.{arith}
use native.Mathlib.Numerals.{add-one}
use Rattle.bitset.specs.Below.{first_below}
use Rattle.bitset.proofs.Passed.{Passed, passed_start, passed_more, first_unfound}
use Rattle.searches.specs.Kind.{Search}
use Rattle.searches.specs.Ordering.{at, IsOrdering}
use Rattle.searches.specs.Table.{arcs_wide}
use Rattle.searches.specs.declared.Mark.{Mark}
use Rattle.searches.proofs.Ordering.{ordering_prefix, ordering_fits, ordering_unplaced}
use Rattle.wide.specs.Store.{Stored, Placed, beaten_in}
use Rattle.wide.specs.Steps.{stops, IsGraph, Staged, Placeable, Replayable}
use Rattle.wide.proofs.Staging.{staged_start, staged_placeable, staged_next}
use Rattle.wide.proofs.Offering.{staged_beaten}

module _ (s : Search) (table : List ℕ) (n : ℕ) (w : List ℕ) (k : ℕ) where
  pub record Replaying (labels smallest largest weights placed' free reached : List ℕ) (j : ℕ) : Type 0 where
    pub unbeaten : Passed k (stops s (arcs_wide 8 table) n w) j
    pub staged : Staged s table n w j labels smallest largest weights placed' free reached

  pub replay_start : {mark : Mark} {labels smallest largest weights placed' free reached : List ℕ}
      → Replayable mark table n w k labels smallest largest weights placed' free reached → Replaying labels smallest largest weights placed' free reached 0
  replay_start r = record { unbeaten = passed_start k (stops s (arcs_wide 8 table) n w); staged = staged_start s r }

  -- the turn of the vertex v at position j
  module _ {mark : Mark} (graph : IsGraph mark n table) (o : IsOrdering n w k) {labels smallest largest weights placed' free reached : List ℕ} {j : ℕ}
      (r : Replaying labels smallest largest weights placed' free reached j) (l : j < k) {v : ℕ} (at_v : v ≡ at w j) where
    pub replay_vertex : v < n
    replay_vertex = subst (λ (x : ℕ). x < n) (sym at_v) (o.vertices j l)

    pub replay_told : {told is : Bool} → told ≡ beaten_in s labels free v → told ≡ is → stops s (arcs_wide 8 table) n w j ≡ is
    unfolding stops
    replay_told e answer =
        sym (staged_beaten r.staged graph.small (omega (arith, graph.small, ordering_fits n o)) (at w j) (o.vertices j l) (ordering_unplaced n o j l))
        ∙ ap (λ (x : ℕ). beaten_in s labels free x) (sym at_v) ∙ sym e ∙ answer

    upto : IsOrdering n w (suc j)
    upto = ordering_prefix n (suc j) l o

    pub replay_placeable : Placeable s mark table labels smallest largest weights placed' free reached v j
    replay_placeable = staged_placeable r.staged graph upto at_v

    pub replay_next : {labels' smallest' largest' weights' placed'' free' reached' : List ℕ} → stops s (arcs_wide 8 table) n w j ≡ false
        → Placed table v j labels placed' free reached labels' placed'' free' reached' → Stored s labels' smallest' largest' weights'
        → Replaying labels' smallest' largest' weights' placed'' free' reached' (j + 1)
    replay_next {labels'} {smallest'} {largest'} {weights'} {placed''} {free'} {reached'} unstopped step stored = record {
      unbeaten = passed_more r.unbeaten l unstopped;
      staged = subst (λ (m : ℕ). Staged s table n w m labels' smallest' largest' weights' placed'' free' reached') (sym (add-one j)) (staged_next r.staged graph upto at_v step stored);
    }

  pub replay_ends : {labels smallest largest weights placed' free reached : List ℕ} {j : ℕ} → Replaying labels smallest largest weights placed' free reached j → k ≤ j
      → (k ≡ first_below k (stops s (arcs_wide 8 table) n w)) × Staged s table n w k labels smallest largest weights placed' free reached
  replay_ends {labels} {smallest} {largest} {weights} {placed'} {free} {reached} {j} r l =
      let e : j ≡ k = omega (arith, r.unbeaten.within) in
      (first_unfound r.unbeaten l, subst (λ (m : ℕ). Staged s table n w m labels smallest largest weights placed' free reached) e r.staged)
