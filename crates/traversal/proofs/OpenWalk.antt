-- The open walk: what holds of every state and every number, and of every list of placings and takings back after open.
-- A function's contract is an equation with `opened`, `grown`, `shrunk`, `offered_set` and the answers; each theorem's comment says which
-- sentence of 01 it is.
-- Assumes nothing.
use Prim.Native.Nat.{ℕ, ◌-◌, ◌≤◌, ◌<◌}
use mathlib.Core.Path.{◌≡◌, refl, sym, ap, ◌∙◌, subst}
use mathlib.Core.Bool.{Bool, not}
use mathlib.Core.Logic.{◌↔◌}
use mathlib.Core.List.{List, [], ◌∷◌, ◌++◌}
use mathlib.Core.Option.{none, some}
use native.Mathlib.Omega.{arith}
use lib.Dec.{T, T_not}
use lib.ListN.{length, take}
use lib.Seq.{take-length}
use Rattle.bitset.specs.Below.{count_below}
use Rattle.bitset.specs.Word.{member}
use Rattle.bitset.proofs.Tests.{and_out, cond_yes}
use Rattle.searches.specs.Kind.{search_of}
use Rattle.searches.specs.Ordering.{arcs, placed, IsOrdering, IsFullOrdering}
use Rattle.searches.specs.Run.{offered}
use Rattle.searches.specs.Violation.{passes}
use Rattle.searches.specs.Without.{number_of, numbered, arcs_of, offered_without, carry_on_without}
use Rattle.searches.specs.declared.Mark.{Mark}
use Rattle.searches.specs.Answer.{Accepts, Refuses, unbarred, open_tests_barring, judge_barring, open_barring, output_barring}
use Rattle.searches.proofs.Refusals.{refuses_first, first_refuses}
use Rattle.searches.proofs.Kept.{grow_kept, carry_on_kept}
use Rattle.searches.proofs.Ordering.{all_placed}
use Rattle.searches.proofs.Run.{offered_out}
use Rattle.searches.proofs.Renumbered.{numbered_ordering}
use Rattle.searches.proofs.CarryOnKept.{carry_on-kept}
use Rattle.searches.proofs.PartsBarring.{kept_begins, judge_begins, first_bytes}
use Rattle.traversal.specs.declared.Traversal.{Traversal}
use Rattle.bitset.specs.Word.{set_below}
use Rattle.traversal.specs.State.{state, plan, walk, in_service, well_formed, WellFormed, offers, nothing_open, opened, offered_set, place_tests, place_answer, grown, take_back_tests, take_back_answer, shrunk}
use Rattle.traversal.specs.Moves.{Move, placing, taking_back, moved, after, remains, remaining, holding, last_offered, following}
use Rattle.bitset.proofs.Joining.{set_none}
use Rattle.traversal.proofs.WellFormed.{well_formed_out, well_formed_in}
use Rattle.traversal.proofs.Answered.{kept_handed, field_handed}
use Rattle.traversal.proofs.Holding.{Sound, sound_nothing, fits, holding_walk, holding_formed, opened_holding, grown_holding, shrunk_holding, place_accepted}
use Rattle.traversal.proofs.Following.{member_offered, offered_passes, passes_offered, full_refused, last_chosen, next_offered, length_grow, following_holding}

-- ---- for every state that can arrive: its arrays have 64 entries

-- 13 is given exactly where 01 says that an open walk is not well formed
pub well_formed_exactly : (t : Traversal) → length t.rows ≡ 64 → length t.ordering ≡ 64 → T (well_formed t) ↔ WellFormed t
well_formed_exactly t rows-full ordering-full = (well_formed_out t rows-full ordering-full, well_formed_in t rows-full ordering-full)

-- when all is placed, of the points that are not barred, the offered set is empty
pub full_offers_none : (t : Traversal) → length t.rows ≡ 64 → length t.ordering ≡ 64 → T (well_formed t) → t.k ≡ in_service t → offered_set t ≡ 0
unfolding offered_set offers offered_without in_service
full_offers_none t rows-full ordering-full sound all =
    let x = well_formed_out t rows-full ordering-full sound in
    let kept = unbarred t.barred in
    let s = search_of t.kind.0 in
    let arc' = arcs_of t.n kept (arcs (plan t)) in
    let n' = count_below t.n kept in
    let w' = numbered kept (walk t) in
    let whole : IsOrdering n' w' n' = subst (λ (m : ℕ). IsOrdering n' w' m) all (numbered_ordering t.n kept (walk t) t.k x.distinct x.stays) in
    cond_yes (well_formed t) (set_below t.n (offers t)) 0 sound
    ∙ set_none t.n (offers t) (λ v _ o.
    let y = offered_out s arc' n' w' t.k (number_of kept v) (and_out (kept v) (offered s arc' n' w' t.k (number_of kept v)) o).1 in
    y.unplaced (subst (λ (m : ℕ). T (placed w' m (number_of kept v))) (sym all) (all_placed n' whole (number_of kept v) y.vertex)))

-- 02: K8, no barred point is offered
pub barred_not_offered : (t : Traversal) (v : ℕ) → T (member t.barred v) → T (offers t v) → ⊥
unfolding offers offered_without unbarred
barred_not_offered t v m o =
    T_not (member t.barred v) (and_out (not (member t.barred v)) _ o).0 m

-- each refusal in its stated case and no other, in 01's order
pub place_refuses : (t : Traversal) (v r : ℕ) → (place_answer t v ≡ some r) ↔ Refuses r (place_tests t v)
unfolding place_answer
place_refuses t v r = (first_refuses (place_tests t v) r, refuses_first (place_tests t v) r)

pub take_back_refuses : (t : Traversal) (r : ℕ) → (take_back_answer t ≡ some r) ↔ Refuses r (take_back_tests t)
unfolding take_back_answer
take_back_refuses t r = (first_refuses (take_back_tests t) r, refuses_first (take_back_tests t) r)

-- a refusal hands back the open walk as it came
pub place_keeps : (t : Traversal) (v r : ℕ) → place_answer t v ≡ some r → grown t v ≡ t
unfolding grown
place_keeps t v r e = sym (kept_handed _ t (sym e))

pub take_back_keeps : (t : Traversal) (r : ℕ) → take_back_answer t ≡ some r → shrunk t ≡ t
unfolding shrunk
take_back_keeps t r e = sym (kept_handed _ t (sym e))

-- a refused open hands back the open walk of kind 0 with n = 0 and everything else 0,
pub open_hands_nothing : (kind : ℕ) (mark : Mark) (rows : List ℕ) (barred r : ℕ) → open_barring kind mark rows barred ≡ some r → opened kind mark rows barred ≡ nothing_open
unfolding opened
open_hands_nothing kind mark rows barred r e = sym (kept_handed _ nothing_open (sym e))

-- 02: K4, and it is two-way,
pub refused_two_way : (kind : ℕ) (mark : Mark) (rows : List ℕ) (barred r : ℕ) → open_barring kind mark rows barred ≡ some r → (opened kind mark rows barred).mark ≡ Mark.TwoWay
unfolding nothing_open
refused_two_way kind mark rows barred r e = ap (λ (t : Traversal). t.mark) (open_hands_nothing kind mark rows barred r e)

-- 02: K8, with no point barred
pub refused_none_barred : (kind : ℕ) (mark : Mark) (rows : List ℕ) (barred r : ℕ) → open_barring kind mark rows barred ≡ some r → (opened kind mark rows barred).barred ≡ 0
unfolding nothing_open
refused_none_barred kind mark rows barred r e = ap (λ (t : Traversal). t.barred) (open_hands_nothing kind mark rows barred r e)

-- a field that placing and taking back write as it was stays, whatever is placed and taken back, refused or not
keeps : {A : Type 0} (field : Traversal → A) → ((t : Traversal) (k : ℕ) (ordering : List ℕ) → field (state t.kind t.mark t.n t.rows t.barred k ordering) ≡ field t)
    → (t : Traversal) (moves : List Move) → field (after t moves) ≡ field t
unfolding after moved grown shrunk
keeps field same t [] = refl
keeps field same t (placing v ∷ moves) = keeps field same (grown t v) moves ∙ field_handed field (place_answer t v) _ t (same t _ _)
keeps field same t (taking_back ∷ moves) = keeps field same (shrunk t) moves ∙ field_handed field (take_back_answer t) _ t (same t _ _)

-- 02: K4, the open walk keeps the mark: whatever it is, and whatever is placed and taken back, refused or not
pub keeps_mark : (t : Traversal) (moves : List Move) → (after t moves).mark ≡ t.mark
keeps_mark t moves = keeps (λ (x : Traversal). x.mark) (λ _ _ _. refl) t moves

-- 02: K8, and the set of barred points
pub keeps_barred : (t : Traversal) (moves : List Move) → (after t moves).barred ≡ t.barred
keeps_barred t moves = keeps (λ (x : Traversal). x.barred) (λ _ _ _. refl) t moves

-- ---- for every list of placings and takings back after open, refused ones among them

module _ (kind : ℕ) (mark : Mark) (rows : List ℕ) (barred : ℕ) (valid : Accepts (open_tests_barring kind mark rows barred)) where
  -- who is in service, and how many they are
  abbrev kept : ℕ → Bool
  kept = unbarred barred

  abbrev n' : ℕ
  n' = count_below (length rows) kept

  abbrev left : List ℕ → List Move → List ℕ
  left = remaining (search_of kind) (arcs rows) (length rows) kept

  moved_holding : (w : List ℕ) → Sound kind mark rows barred valid w → (m : Move)
      → (moved (holding kind mark rows barred w) m ≡ holding kind mark rows barred (remains (search_of kind) (arcs rows) (length rows) kept w m))
      × Sound kind mark rows barred valid (remains (search_of kind) (arcs rows) (length rows) kept w m)
  unfolding moved remains
  moved_holding w sound (placing v) = grown_holding kind mark rows barred valid w sound v
  moved_holding w sound taking_back = shrunk_holding kind mark rows barred valid w sound

  after_holding : (w : List ℕ) → Sound kind mark rows barred valid w → (moves : List Move)
      → (after (holding kind mark rows barred w) moves ≡ holding kind mark rows barred (left w moves)) × Sound kind mark rows barred valid (left w moves)
  unfolding after remaining
  after_holding w sound [] = (refl, sound)
  after_holding w sound (m ∷ moves) =
      let first = moved_holding w sound m in
      let rest = after_holding (remains (search_of kind) (arcs rows) (length rows) kept w m) first.1 moves in
      (ap (λ (t : Traversal). after t moves) first.0 ∙ rest.0, rest.1)

  module _ (moves : List Move) where
    abbrev now_open : Traversal
    now_open = after (opened kind mark rows barred) moves

    abbrev held : List ℕ
    held = left [] moves

    sound : Sound kind mark rows barred valid held
    sound = (after_holding [] (sound_nothing kind mark rows barred valid) moves).1

    -- the open walk has this kind, these rows and these barred points, holds what remains, and is 0 behind both
    pub holds_whole : now_open ≡ holding kind mark rows barred held
    holds_whole = ap (λ (t : Traversal). after t moves) (opened_holding kind mark rows barred valid) ∙ (after_holding [] (sound_nothing kind mark rows barred valid) moves).0

    -- the walk held is the placed points not taken back, in order
    pub walk_remains : walk now_open ≡ held
    walk_remains = ap walk holds_whole ∙ holding_walk kind mark rows barred valid held

    -- 02: K4, with the mark with which it was opened
    pub mark_remains : now_open.mark ≡ mark
    unfolding holding
    mark_remains = ap (λ (t : Traversal). t.mark) holds_whole

    -- every state handed out is well formed
    pub stays_well_formed : T (well_formed now_open)
    stays_well_formed = subst (λ (t : Traversal). T (well_formed t)) (sym holds_whole) (holding_formed kind mark rows barred valid held sound)

    -- 02: K8, and with the set of barred points with which it was opened
    pub barred_remains : now_open.barred ≡ barred
    unfolding holding
    barred_remains = ap (λ (t : Traversal). t.barred) holds_whole

    -- the offered set is exactly the points with which that walk, grown by one, passes judge
    pub offers_exactly : (v : ℕ) → T (member (offered_set now_open) v) ↔ (judge_barring kind mark rows barred (walk now_open ++ v ∷ []) ≡ passes)
    offers_exactly v =
        let set = ap (λ (t : Traversal). member (offered_set t) v) holds_whole ∙ member_offered kind mark rows barred valid held sound v in
        let grown_walk = ap (λ (w : List ℕ). judge_barring kind mark rows barred (w ++ v ∷ [])) walk_remains in (
          λ t. grown_walk ∙ offered_passes kind mark rows barred valid held sound v (subst (λ (b : Bool). T b) set t),
          λ p. subst (λ (b : Bool). T b) (sym set) (passes_offered kind mark rows barred valid held sound v (sym grown_walk ∙ p)),
        )

    -- placing the last of the tie-break among the offered: no such placing is refused until all that are not barred are placed,
    module _ (b : List ℕ) (names : IsFullOrdering (length rows) b) where
      abbrev count : ℕ
      count = n' - length held

      follows : (m : ℕ) → m ≤ count
          → (following m now_open b ≡ holding kind mark rows barred (grow_kept (search_of kind) (arcs rows) (length rows) kept b m held))
          × Sound kind mark rows barred valid (grow_kept (search_of kind) (arcs rows) (length rows) kept b m held)
      follows m l =
          let x = following_holding kind mark rows barred valid b names m held sound (omega (arith, fits kind mark rows barred valid held sound)) in
          (ap (λ (t : Traversal). following m t b) holds_whole ∙ x.0, x.1)

      pub placed_each : (m : ℕ) → m < count → place_answer (following m now_open b) (last_offered (following m now_open b) b) ≡ none
      placed_each m l =
          let x = follows m (omega arith) in
          let w = grow_kept (search_of kind) (arcs rows) (length rows) kept b m held in
          ap (λ (t : Traversal). place_answer t (last_offered t b)) x.0
          ∙ ap (λ (v : ℕ). place_answer (holding kind mark rows barred w) v) (last_chosen kind mark rows barred valid b names w x.1)
          ∙ place_accepted kind mark rows barred valid w x.1 _ (next_offered kind mark rows barred valid b names w x.1 (omega (arith, length_grow kind mark rows barred valid b names m held)))

      -- then placing anything is 14,
      pub then_full : (v : ℕ) → place_answer (following count now_open b) v ≡ some 14
      then_full v =
          let x = follows count (omega arith) in
          ap (λ (t : Traversal). place_answer t v) x.0
          ∙ full_refused kind mark rows barred valid (grow_kept (search_of kind) (arcs rows) (length rows) kept b count held) x.1
          (length_grow kind mark rows barred valid b names count held ∙ omega (arith, fits kind mark rows barred valid held sound)) v

      -- and the walk held is what carry-on writes, from that walk and by that tie-break
      pub follows_carry_on : (out : List ℕ) → length rows ≤ length out → take (length held) out ≡ held
          → walk (following count now_open b) ≡ take n' (output_barring kind mark rows barred b out (length held))
      unfolding carry_on_kept carry_on_without
      follows_carry_on out room front =
          let x = follows count (omega arith) in
          let begins : take (length held) out ≡ take (length held) held = front ∙ sym (take-length held) in
          let start = kept_begins (length rows) kept held out (length held) sound.0 begins in
          ap walk x.0 ∙ holding_walk kind mark rows barred valid (grow_kept (search_of kind) (arcs rows) (length rows) kept b count held)
          ∙ ap (λ (w : List ℕ). grow_kept (search_of kind) (arcs rows) (length rows) kept b count w) (sym front)
          ∙ sym (carry_on-kept (search_of kind) (arcs rows) (length rows) kept b names out (length held) start.ordering start.stays)
          ∙ sym (first_bytes kind mark rows barred b out (length held) (record { valid = valid; room = room; tie_break = names; start = start })
          (judge_begins (length rows) kept held out (length held) sound.0 begins (search_of kind) (arcs rows) ∙ sound.1))
