-- An open walk that holds an ordering: what it is made of, and how the calls change what it holds.
--   holding_plan, holding_walk, holding_full   its rows, its ordering, its arrays
--   Sound                            an ordering of vertices that are not barred, which passes
--   holding_formed                   it is well formed where what it holds is such an ordering
--   holding_offers                   and offers what is offered after its ordering
--   opened_holding, grown_holding, shrunk_holding      what open, place and take back make of it
-- Assumes nothing.
use Prim.Native.Nat.{ℕ, suc, ◌+◌, ◌-◌, ◌≤◌, ◌<◌}
use mathlib.Core.Path.{◌≡◌, refl, sym, ap, ap₂, ◌∙◌, subst}
use mathlib.Core.Bool.{Bool, not}
use mathlib.Core.Logic.{◌⊎◌, inl, inr}
use mathlib.Core.List.{List, [], ◌∷◌, ◌++◌, append_assoc}
use mathlib.Core.Option.{none}
use native.Mathlib.Omega.{arith}
use native.Mathlib.Numerals.{add-one}
use lib.Dec.{T, eqb, leb, eqb→eq, leb→le, not_T, T_not}
use lib.ListN.{length, take, set, replicate, length-append, length-replicate, get_or-replicate}
use lib.Seq.{take-append_seam, get_or-append-add, set-append_seam, take-suc, take-length}
use Rattle.bitset.specs.Below.{count_below}
use Rattle.bitset.specs.Word.{member}
use Rattle.bitset.proofs.Count.{count_le}
use Rattle.bitset.proofs.Tests.{decided, not_not, cond_yes, cond_no}
use Rattle.searches.specs.Kind.{search_of}
use Rattle.searches.specs.Ordering.{arcs, at, placed, IsOrdering}
use Rattle.searches.specs.Violation.{passes}
use Rattle.searches.specs.Without.{numbered, arcs_of, IsKeptOrdering, judge_without, offered_without}
use Rattle.searches.specs.declared.Mark.{Mark}
use Rattle.searches.specs.Answer.{open_tests, Accepts, Refuses, unbarred, open_tests_barring, open_barring}
use Rattle.searches.proofs.Ordering.{ordering_fits, length_grown}
use Rattle.searches.proofs.CarryOn.{greedy_passes, passes_greedy}
use Rattle.searches.proofs.Renumbered.{numbered_ordering}
use Rattle.searches.proofs.OfferedKept.{offered_kept_lem, offered_kept_out}
use Rattle.searches.proofs.ComesBack.{passes_without, without_passes}
use Rattle.searches.proofs.PartsBarring.{kept_prefix, kept_begins, judge_begins}
use Rattle.searches.proofs.DemandsBarring.{offered_exactly}
use Rattle.searches.proofs.Barring.{barred_outside_in, valid_graph, valid_set}
use Rattle.searches.proofs.Refusals.{accepts_none, accepts_or_refuses, refuses_first}
use Rattle.searches.proofs.Answers.{valid_small}
use Rattle.traversal.specs.State.{state, plan, walk, in_service, well_formed, WellFormed, offers, nothing_open, opened, place_tests, place_answer, grown, take_back_tests, take_back_answer, shrunk}
use Rattle.traversal.specs.Moves.{placing, front, remains, holding}
use Rattle.traversal.proofs.WellFormed.{well_formed_in}
use Rattle.traversal.proofs.Answered.{next_handed, kept_handed, place_room}

-- ---- a list with zeros behind it

-- behind the list there are zeros
padded_unused : (l : List ℕ) (i : ℕ) → length l ≤ i → i < 64 → at (l ++ replicate (64 - length l) 0) i ≡ 0
padded_unused l i h below =
    let behind : i ≡ length l + (i - length l) = omega arith in
    ap (λ (x : ℕ). at (l ++ replicate (64 - length l) 0) x) behind ∙ get_or-append-add l (replicate (64 - length l) 0) (i - length l) 0
    ∙ get_or-replicate (64 - length l) (i - length l) 0 0 (omega arith)

padded_length : (l : List ℕ) → length l ≤ 64 → length (l ++ replicate (64 - length l) 0) ≡ 64
padded_length l h = length-append l (replicate (64 - length l) 0) ∙ ap (λ (m : ℕ). length l + m) (length-replicate (64 - length l) 0) ∙ omega arith

-- one more zero
one_more : (m : ℕ) → m < 64 → replicate {A = ℕ} (64 - m) 0 ≡ 0 ∷ replicate (64 - suc m) 0
one_more m h = let e : 64 - m ≡ suc (64 - suc m) = omega arith in ap (λ (x : ℕ). replicate {A = ℕ} x 0) e

-- an entry written over the first zero, and over the last entry
padded_grown : (w : List ℕ) (v : ℕ) → length w < 64
    → set (w ++ replicate (64 - length w) 0) (length w) v ≡ (w ++ v ∷ []) ++ replicate (64 - length (w ++ v ∷ [])) 0
padded_grown w v h =
    ap (λ (z : List ℕ). set (w ++ z) (length w) v) (one_more (length w) h) ∙ set-append_seam w 0 (replicate (64 - suc (length w)) 0) v
    ∙ sym (append_assoc w (v ∷ []) (replicate (64 - suc (length w)) 0))
    ∙ ap (λ (m : ℕ). (w ++ v ∷ []) ++ replicate (64 - m) 0) (sym (length_grown w v))

padded_shrunk : (u : List ℕ) (x : ℕ) → length u < 64
    → set ((u ++ x ∷ []) ++ replicate (64 - length (u ++ x ∷ [])) 0) (length u) 0 ≡ u ++ replicate (64 - length u) 0
padded_shrunk u x h =
    ap (λ (m : ℕ). set ((u ++ x ∷ []) ++ replicate (64 - m) 0) (length u) 0) (length_grown u x)
    ∙ ap (λ (l : List ℕ). set l (length u) 0) (append_assoc u (x ∷ []) (replicate (64 - suc (length u)) 0))
    ∙ set-append_seam u x (replicate (64 - suc (length u)) 0) 0 ∙ ap (λ (z : List ℕ). u ++ z) (sym (one_more (length u) h))

-- ---- an open walk that holds w

module _ (kind : ℕ) (mark : Mark) (rows : List ℕ) (barred : ℕ) (valid : Accepts (open_tests_barring kind mark rows barred)) where
  abbrev kept : ℕ → Bool
  kept = unbarred barred

  -- an ordering of vertices that are not barred, which passes in the graph without the barred
  abbrev pub Sound : List ℕ → Type 0
  Sound w = IsKeptOrdering (length rows) kept w (length w) × (judge_without (search_of kind) (arcs rows) (length rows) kept w (length w) ≡ passes)

  pub sound_nothing : Sound []
  sound_nothing = (
    record { ordering = record { long = omega arith; vertices = λ p l. absurd (omega arith); distinct = λ p q h l. absurd (omega arith) }; stays = λ p l. absurd (omega arith) },
    without_passes (search_of kind) (arcs rows) (length rows) kept [] 0
        (greedy_passes (search_of kind) (arcs_of (length rows) kept (arcs rows)) (count_below (length rows) kept) (numbered kept []) 0 (omega arith) (λ j l. absurd (omega arith))),
  )

  pub holding_plan : (w : List ℕ) → plan (holding kind mark rows barred w) ≡ rows
  unfolding plan holding
  holding_plan w = take-append_seam rows (replicate (64 - length rows) 0)

  pub holding_walk : (w : List ℕ) → walk (holding kind mark rows barred w) ≡ w
  unfolding walk holding
  holding_walk w = take-append_seam w (replicate (64 - length w) 0)

  small : length rows ≤ 64
  small = valid_small kind mark rows (valid_graph kind mark rows barred valid)

  module _ (w : List ℕ) (sound : Sound w) where
    pub distinct : IsOrdering (length rows) w (length w)
    distinct = sound.0.ordering

    pub fits : length w ≤ count_below (length rows) kept
    fits = ordering_fits (count_below (length rows) kept) (numbered_ordering (length rows) kept w (length w) distinct sound.0.stays)

    short : length w ≤ 64
    short = omega (arith, fits, count_le (length rows) kept, small)

    pub holding_full : (length (holding kind mark rows barred w).rows ≡ 64) × (length (holding kind mark rows barred w).ordering ≡ 64)
    unfolding holding
    holding_full = (padded_length rows small, padded_length w short)

    holding_conditions : WellFormed (holding kind mark rows barred w)
    unfolding holding
    holding_conditions = record {
      points = small;
      valid = subst (λ (r : List ℕ). Accepts (open_tests kind mark r)) (sym (holding_plan w)) (valid_graph kind mark rows barred valid);
      set_inside = λ v l below m. valid_set kind mark rows barred valid (barred_outside_in barred (length rows) v below l m);
      distinct = subst (λ (x : List ℕ). IsOrdering (length rows) x (length w)) (sym (holding_walk w)) distinct;
      stays = λ p l. subst (λ (x : List ℕ). T (kept (at x p))) (sym (holding_walk w)) (sound.0.stays p l);
      passing =
          ap₂ (λ (r x : List ℕ). judge_without (search_of kind) (arcs r) (length rows) kept x (length w)) (holding_plan w) (holding_walk w) ∙ sound.1;
      rows_unused = padded_unused rows;
      places_unused = padded_unused w;
    }

    pub holding_formed : T (well_formed (holding kind mark rows barred w))
    holding_formed = well_formed_in (holding kind mark rows barred w) holding_full.0 holding_full.1 holding_conditions

    pub holding_offers : (v : ℕ) → offers (holding kind mark rows barred w) v ≡ offered_without (search_of kind) (arcs rows) (length rows) kept w (length w) v
    unfolding offers holding
    holding_offers v =
        ap₂ (λ (r x : List ℕ). offered_without (search_of kind) (arcs r) (length rows) kept x (length w) v) (holding_plan w) (holding_walk w)

    -- ---- placing

    -- an offered vertex is not refused
    offered_accepted : (v : ℕ) → T (offered_without (search_of kind) (arcs rows) (length rows) kept w (length w) v) → Accepts (place_tests (holding kind mark rows barred w) v)
    unfolding place_tests holding in_service unbarred
    offered_accepted v t =
        let more = (offered_exactly (search_of kind) (arcs rows) (length rows) kept w v sound.0 sound.1).0 t in
        let vertex = offered_kept_out (search_of kind) (arcs rows) (length rows) kept w (length w) v
        (subst (λ (b : Bool). T b) (offered_kept_lem (search_of kind) (arcs rows) (length rows) kept w (length w) distinct sound.0.stays v) t)
        in
        let longer = ordering_fits (count_below (length rows) kept) (numbered_ordering (length rows) kept (w ++ v ∷ []) (suc (length w)) more.0.ordering more.0.stays) in
        let some_left : T (eqb (length w) (in_service (holding kind mark rows barred w))) → ⊥ =
        λ x. omega (arith, eqb→eq (length w) (count_below (length rows) kept) x, longer)
        in
        let a_vertex : T (leb (length rows) v) → ⊥ = λ x. omega (arith, leb→le (length rows) v x, vertex.1) in
        let in_service_lem : T (member barred v) → ⊥ = T_not (member barred v) vertex.0 in
        let unplaced : T (placed (walk (holding kind mark rows barred w)) (length w) v) → ⊥ =
        λ x. vertex.2 (subst (λ (l : List ℕ). T (placed l (length w) v)) (holding_walk w) x)
        in
        let is_offered : T (not (offers (holding kind mark rows barred w) v)) → ⊥ =
        λ x. T_not (offers (holding kind mark rows barred w) v) x (subst (λ (b : Bool). T b) (sym (holding_offers v)) t)
        in
        ((λ x. T_not (well_formed (holding kind mark rows barred w)) x holding_formed), (some_left, (a_vertex, (in_service_lem, (unplaced, (is_offered, tt))))))

    pub sound_grown : (v : ℕ) → T (offered_without (search_of kind) (arcs rows) (length rows) kept w (length w) v) → Sound (w ++ v ∷ [])
    sound_grown v t =
        let more = (offered_exactly (search_of kind) (arcs rows) (length rows) kept w v sound.0 sound.1).0 t in
        subst (λ (m : ℕ). IsKeptOrdering (length rows) kept (w ++ v ∷ []) m × (judge_without (search_of kind) (arcs rows) (length rows) kept (w ++ v ∷ []) m ≡ passes))
        (sym (length_grown w v)) (more.0, more.1)

    pub place_accepted : (v : ℕ) → T (offered_without (search_of kind) (arcs rows) (length rows) kept w (length w) v) → place_answer (holding kind mark rows barred w) v ≡ none
    unfolding place_answer
    place_accepted v t = accepts_none (place_tests (holding kind mark rows barred w) v) (offered_accepted v t)

    pub grown_offered : (v : ℕ) → T (offered_without (search_of kind) (arcs rows) (length rows) kept w (length w) v)
        → grown (holding kind mark rows barred w) v ≡ holding kind mark rows barred (w ++ v ∷ [])
    unfolding grown holding
    grown_offered v t =
        sym (next_handed _ (holding kind mark rows barred w) (sym (place_accepted v t)))
        ∙ ap₂ (λ (k : ℕ) (o : List ℕ). state (record { 0 = kind }) mark (length rows) (rows ++ replicate (64 - length rows) 0) barred k o)
        (sym (length_grown w v ∙ sym (add-one (length w))))
        (padded_grown w v (place_room (holding kind mark rows barred w) holding_full.0 holding_full.1 v (sym (place_accepted v t))).1)

    pub grown_kept : (v : ℕ) → (T (offered_without (search_of kind) (arcs rows) (length rows) kept w (length w) v) → ⊥)
        → grown (holding kind mark rows barred w) v ≡ holding kind mark rows barred w
    unfolding grown place_answer place_tests
    grown_kept v out = go (accepts_or_refuses (place_tests (holding kind mark rows barred w) v))
      where
        go : Accepts (place_tests (holding kind mark rows barred w) v) ⊎ ((r : ℕ) × Refuses r (place_tests (holding kind mark rows barred w) v))
            → grown (holding kind mark rows barred w) v ≡ holding kind mark rows barred w
        go (inl a) =
            absurd (out (subst (λ (b : Bool). T b) (holding_offers v)
            (not_not (offers (holding kind mark rows barred w) v) (not_T (not (offers (holding kind mark rows barred w) v)) a.1.1.1.1.1.0))))
        go (inr x) = sym (kept_handed _ (holding kind mark rows barred w) (sym (refuses_first (place_tests (holding kind mark rows barred w) v) x.0 x.1)))

  -- ---- taking back

  pub sound_before : (u : List ℕ) (x : ℕ) → Sound (u ++ x ∷ []) → Sound u
  sound_before u x g =
      let s = search_of kind in
      let n = length rows in
      let n' = count_below n kept in
      let arc' = arcs_of n kept (arcs rows) in
      let w = u ++ x ∷ [] in
      let w' = numbered kept w in
      let less : length u ≤ length w = omega (arith, length_grown u x) in
      let there = numbered_ordering n kept w (length w) g.0.ordering g.0.stays in
      let greedy = passes_greedy s arc' n' w' (length w) there (passes_without s (arcs rows) n kept w (length w) g.1) in
      let cut = kept_prefix (length u) less g.0 in
      let front : take (length u) u ≡ take (length u) w = take-length u ∙ sym (take-append_seam u (x ∷ [])) in (
        kept_begins n kept w u (length u) cut front,
        judge_begins n kept w u (length u) cut front s (arcs rows)
            ∙ without_passes s (arcs rows) n kept w (length u) (greedy_passes s arc' n' w' (length u) (omega (arith, there.long)) (λ j l. greedy j (omega arith))),
      )

  pub shrunk_before : (u : List ℕ) (x : ℕ) → Sound (u ++ x ∷ []) → shrunk (holding kind mark rows barred (u ++ x ∷ [])) ≡ holding kind mark rows barred u
  unfolding shrunk take_back_answer take_back_tests holding
  shrunk_before u x g =
      let w = u ++ x ∷ [] in
      let last : length w - 1 ≡ length u = omega (arith, length_grown u x) in
      sym (next_handed _ (holding kind mark rows barred w) (sym (accepts_none (take_back_tests (holding kind mark rows barred w))
      ((λ y. T_not (well_formed (holding kind mark rows barred w)) y (holding_formed w g)), (λ y. omega (arith, eqb→eq (length w) 0 y, length_grown u x), tt)))))
      ∙ ap (λ (m : ℕ). state (record { 0 = kind }) mark (length rows) (rows ++ replicate (64 - length rows) 0) barred m (set (w ++ replicate (64 - length w) 0) m 0)) last
      ∙ ap (λ (o : List ℕ). state (record { 0 = kind }) mark (length rows) (rows ++ replicate (64 - length rows) 0) barred (length u) o)
      (padded_shrunk u x (omega (arith, length_grown u x, short w g)))

  pub shrunk_nothing : shrunk (holding kind mark rows barred []) ≡ holding kind mark rows barred []
  unfolding shrunk take_back_answer take_back_tests holding
  shrunk_nothing =
      sym (kept_handed _ (holding kind mark rows barred []) (sym (refuses_first (take_back_tests (holding kind mark rows barred [])) 17
      (inr ((λ y. T_not (well_formed (holding kind mark rows barred [])) y (holding_formed [] sound_nothing)), inl (refl, tt))))))

  -- ---- all three, for any ordering

  pub opened_holding : opened kind mark rows barred ≡ holding kind mark rows barred []
  unfolding opened open_barring holding
  opened_holding = sym (next_handed _ nothing_open (sym (accepts_none (open_tests_barring kind mark rows barred) valid)))

  pub grown_holding : (w : List ℕ) → Sound w → (v : ℕ)
      → (grown (holding kind mark rows barred w) v ≡ holding kind mark rows barred (remains (search_of kind) (arcs rows) (length rows) kept w (placing v)))
      × Sound (remains (search_of kind) (arcs rows) (length rows) kept w (placing v))
  unfolding remains
  grown_holding w sound v = go (decided (offered_without (search_of kind) (arcs rows) (length rows) kept w (length w) v))
    where
      go : T (offered_without (search_of kind) (arcs rows) (length rows) kept w (length w) v) ⊎ (T (offered_without (search_of kind) (arcs rows) (length rows) kept w (length w) v) → ⊥)
          → (grown (holding kind mark rows barred w) v ≡ holding kind mark rows barred (remains (search_of kind) (arcs rows) (length rows) kept w (placing v)))
          × Sound (remains (search_of kind) (arcs rows) (length rows) kept w (placing v))
      go (inl t) =
          let e = cond_yes (offered_without (search_of kind) (arcs rows) (length rows) kept w (length w) v) (w ++ v ∷ []) w t in
          (grown_offered w sound v t ∙ ap (λ (x : List ℕ). holding kind mark rows barred x) (sym e), subst (λ (x : List ℕ). Sound x) (sym e) (sound_grown w sound v t))
      go (inr out) =
          let e = cond_no (offered_without (search_of kind) (arcs rows) (length rows) kept w (length w) v) (w ++ v ∷ []) w out in
          (grown_kept w sound v out ∙ ap (λ (x : List ℕ). holding kind mark rows barred x) (sym e), subst (λ (x : List ℕ). Sound x) (sym e) sound)

  pub shrunk_holding : (w : List ℕ) → Sound w → (shrunk (holding kind mark rows barred w) ≡ holding kind mark rows barred (front w)) × Sound (front w)
  unfolding front
  shrunk_holding [] sound = (shrunk_nothing, sound)
  shrunk_holding (y ∷ ys) sound = (
    ap (λ (x : List ℕ). shrunk (holding kind mark rows barred x)) split ∙ shrunk_before u last whole ∙ ap (λ (x : List ℕ). holding kind mark rows barred x) ends,
    subst (λ (x : List ℕ). Sound x) ends (sound_before u last whole),
  )
    where
      u : List ℕ
      u = take (length ys) (y ∷ ys)

      last : ℕ
      last = at (y ∷ ys) (length ys)

      split : y ∷ ys ≡ u ++ last ∷ []
      split = sym (take-length (y ∷ ys)) ∙ take-suc (y ∷ ys) (length ys) 0 (omega arith)

      whole : Sound (u ++ last ∷ [])
      whole = subst (λ (x : List ℕ). Sound x) split sound

      ends : u ≡ take (length (y ∷ ys) - 1) (y ∷ ys)
      ends = let e : length ys ≡ length (y ∷ ys) - 1 = omega arith in ap (λ (m : ℕ). take m (y ∷ ys)) e
