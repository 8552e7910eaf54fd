-- What an open walk offers, and the placings by a tie-break.
--   member_offered               the offered set holds what is offered
--   offered_passes, passes_offered   those are the vertices with which the ordering, grown by one, passes judge
--   length_grow, following_holding   m placings of the last of the tie-break among the offered grow the ordering as carry-on does
--   full_refused                 where all that are not barred are placed, placing answers 14
-- Assumes nothing.
use Prim.Native.Nat.{ℕ, zero, suc, ◌+◌, ◌≤◌, ◌<◌}
use mathlib.Core.Path.{◌≡◌, refl, sym, ap, ◌∙◌, subst}
use mathlib.Core.Bool.{Bool}
use mathlib.Core.Logic.{inl, inr}
use mathlib.Core.List.{List, [], ◌∷◌, ◌++◌}
use mathlib.Core.Option.{some}
use native.Mathlib.Omega.{arith}
use lib.Dec.{T, eqb, eqb_refl, T_not}
use lib.ListN.{length}
use Rattle.bitset.specs.Below.{count_below}
use Rattle.bitset.specs.Word.{member}
use Rattle.bitset.proofs.Below.{last_same}
use Rattle.searches.specs.Kind.{search_of}
use Rattle.searches.specs.Ordering.{arcs, at, IsFullOrdering}
use Rattle.searches.specs.Violation.{passes}
use Rattle.searches.specs.Without.{IsKeptOrdering, judge_without, offered_without}
use Rattle.searches.specs.declared.Mark.{Mark}
use Rattle.searches.specs.Answer.{Accepts, unbarred, open_tests_barring, judge_barring}
use Rattle.searches.proofs.Ordering.{length_grown}
use Rattle.searches.proofs.Kept.{offered_kept, choice_kept, grow_kept}
use Rattle.searches.proofs.OfferedKept.{offered_kept_lem}
use Rattle.searches.proofs.CarryOnKept.{chosen_offered}
use Rattle.searches.proofs.DemandsBarring.{offered_exactly}
use Rattle.searches.proofs.Refusals.{refuses_first}
use Rattle.searches.proofs.Barring.{passes_accepts, judged_kept, kept_judged, judge_accepted}
use Rattle.traversal.specs.declared.Traversal.{Traversal}
use Rattle.traversal.specs.State.{in_service, well_formed, offered_set, place_tests, place_answer, grown}
use Rattle.traversal.specs.Moves.{holding, last_offered, following}
use Rattle.traversal.proofs.Answered.{offered_member}
use Rattle.traversal.proofs.Holding.{Sound, holding_formed, holding_offers, sound_grown, grown_offered}

module _ (kind : ℕ) (mark : Mark) (rows : List ℕ) (barred : ℕ) (valid : Accepts (open_tests_barring kind mark rows barred)) where
  abbrev kept : ℕ → Bool
  kept = unbarred barred

  abbrev n' : ℕ
  n' = count_below (length rows) kept

  abbrev test : List ℕ → ℕ → Bool
  test w v = offered_without (search_of kind) (arcs rows) (length rows) kept w (length w) v

  module _ (w : List ℕ) (sound : Sound kind mark rows barred valid w) where
    pub member_offered : (v : ℕ) → member (offered_set (holding kind mark rows barred w)) v ≡ test w v
    member_offered v =
        offered_member (holding kind mark rows barred w) (holding_formed kind mark rows barred valid w sound) v ∙ holding_offers kind mark rows barred valid w sound v

    pub offered_passes : (v : ℕ) → T (test w v) → judge_barring kind mark rows barred (w ++ v ∷ []) ≡ passes
    offered_passes v t =
        let x = (offered_exactly (search_of kind) (arcs rows) (length rows) kept w v sound.0 sound.1).0 t in
        let more = sym (length_grown w v) in
        judge_accepted kind mark rows barred (w ++ v ∷ [])
        (kept_judged kind mark rows barred (w ++ v ∷ []) valid (subst (λ (k : ℕ). IsKeptOrdering (length rows) kept (w ++ v ∷ []) k) more x.0))
        ∙ sym (ap (λ (k : ℕ). judge_without (search_of kind) (arcs rows) (length rows) kept (w ++ v ∷ []) k) more) ∙ x.1

    pub passes_offered : (v : ℕ) → judge_barring kind mark rows barred (w ++ v ∷ []) ≡ passes → T (test w v)
    passes_offered v p =
        let a = passes_accepts kind mark rows barred (w ++ v ∷ []) p in
        let more = length_grown w v in
        (offered_exactly (search_of kind) (arcs rows) (length rows) kept w v sound.0 sound.1).1 (
          subst (λ (k : ℕ). IsKeptOrdering (length rows) kept (w ++ v ∷ []) k) more (judged_kept kind mark rows barred (w ++ v ∷ []) a).1,
          sym (ap (λ (k : ℕ). judge_without (search_of kind) (arcs rows) (length rows) kept (w ++ v ∷ []) k) more)
              ∙ sym (judge_accepted kind mark rows barred (w ++ v ∷ []) a) ∙ p,
        )

    -- all that are not barred are placed
    pub full_refused : length w ≡ n' → (v : ℕ) → place_answer (holding kind mark rows barred w) v ≡ some 14
    unfolding place_answer place_tests holding in_service
    full_refused all v =
        refuses_first (place_tests (holding kind mark rows barred w) v) 14
        (inr (
          (λ x. T_not (well_formed (holding kind mark rows barred w)) x (holding_formed kind mark rows barred valid w sound)),
          inl (refl, subst (λ (m : ℕ). T (eqb (length w) m)) all (eqb_refl (length w))),
        ))

  -- ---- placing by a tie-break

  module _ (b : List ℕ) (names : IsFullOrdering (length rows) b) where
    abbrev next : List ℕ → ℕ
    next w = choice_kept (search_of kind) (arcs rows) (length rows) kept b w (length w)

    -- offered in the graph without the barred: among the others of the whole graph
    open_kept : (w : List ℕ) → Sound kind mark rows barred valid w → (v : ℕ) → test w v ≡ offered_kept (search_of kind) (arcs rows) (length rows) kept w (length w) v
    open_kept w sound v = offered_kept_lem (search_of kind) (arcs rows) (length rows) kept w (length w) sound.0.ordering sound.0.stays v

    pub last_chosen : (w : List ℕ) → Sound kind mark rows barred valid w → last_offered (holding kind mark rows barred w) b ≡ next w
    unfolding last_offered choice_kept
    last_chosen w sound =
        ap (λ (q : ℕ). at b q) (last_same (length b) (λ q. member (offered_set (holding kind mark rows barred w)) (at b q)) (λ q. offered_kept (search_of kind) (arcs rows) (length rows) kept w (length w) (at b q))
        (λ q _. member_offered w sound (at b q) ∙ open_kept w sound (at b q)))

    pub next_offered : (w : List ℕ) → Sound kind mark rows barred valid w → length w < n' → T (test w (next w))
    next_offered w sound l =
        subst (λ (t : Bool). T t) (sym (open_kept w sound (next w))) (chosen_offered (search_of kind) (arcs rows) (length rows) kept b names w sound.0 l)

    pub length_grow : (m : ℕ) (w : List ℕ) → length (grow_kept (search_of kind) (arcs rows) (length rows) kept b m w) ≡ length w + m
    unfolding grow_kept
    length_grow zero w = omega arith
    length_grow (suc m) w = length_grow m (w ++ next w ∷ []) ∙ omega (arith, length_grown w (next w))

    pub following_holding : (m : ℕ) (w : List ℕ) → Sound kind mark rows barred valid w → length w + m ≤ n'
        → (following m (holding kind mark rows barred w) b ≡ holding kind mark rows barred (grow_kept (search_of kind) (arcs rows) (length rows) kept b m w))
        × Sound kind mark rows barred valid (grow_kept (search_of kind) (arcs rows) (length rows) kept b m w)
    unfolding following grow_kept
    following_holding zero w sound l = (refl, sound)
    following_holding (suc m) w sound l =
        let t = next_offered w sound (omega arith) in
        let rest = following_holding m (w ++ next w ∷ []) (sound_grown kind mark rows barred valid w sound (next w) t) (omega (arith, length_grown w (next w))) in (
          ap (λ (v : ℕ). following m (grown (holding kind mark rows barred w) v) b) (last_chosen w sound)
              ∙ ap (λ (x : Traversal). following m x b) (grown_offered kind mark rows barred valid w sound (next w) t) ∙ rest.0,
          rest.1,
        )
