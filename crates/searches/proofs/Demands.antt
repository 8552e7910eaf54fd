-- The three demands, over the definitions that the functions' promises cite. Each theorem's comment says which sentence it is; the work is
-- done in the modules that the proofs cite. Demand 1; then 2 and 3 for any graph, that is any relation `arc` on the vertices below n, of which a
-- plan is a case, two-way or one-way; then 2 and 3 as the calls answer on kind byte, mark, rows and lists, which is `FormDemands` for rows.
-- The contracts of judge and carry-on are equations with `judge_barring`, `carry_on_barring` and `output_barring`, for which `DemandsBarring` has the demands; with
-- nothing barred these are `judge_answer`, `carry_on_answer` and `carry_on_output` (`NothingBarred`). A list that a contract does not name at exit is passed as `&`
-- and cannot change; that every call ends is part of every proof of a function.
-- Assumes nothing.
use mathlib.Core.Path.{◌≡◌}
use mathlib.Core.Logic.{◌↔◌}
use mathlib.Core.Bool.{Bool}
use mathlib.Core.List.{List, [], ◌∷◌, ◌++◌, reverse}
use mathlib.Core.Option.{none, some}
use Prim.Native.Nat.{ℕ, suc, ◌≤◌, ◌<◌}
use native.Mathlib.Omega.{arith}
use lib.Dec.{T}
use lib.ListN.{length, take, drop}
use Rattle.searches.specs.Kind.{Search, search_of}
use Rattle.searches.specs.Ordering.{arcs, placed, IsOrdering, IsFullOrdering}
use Rattle.searches.specs.Run.{offered, Run, BeginsRun}
use Rattle.searches.specs.Violation.{Violates, FirstViolation}
use Rattle.searches.specs.Violation.{passes, fails, refused, Fails, judge}
use Rattle.searches.specs.CarryOn.{carry_on, CarriedOn}
use Rattle.searches.specs.Answer.{open_tests, judge_tests, list_tests, carry_on_tests, Accepts, Refuses}
use Rattle.searches.specs.Answer.{judge_answer, open_answer, carry_on_answer, carry_on_output}
use Rattle.searches.specs.Form.{judge_tests_of, list_tests_of, carry_on_tests_of, judge_of, carry_on_of, output_of}
use Rattle.searches.specs.declared.Mark.{Mark}
use Rattle.searches.proofs.Ordering.{ordering_prefix, ordering_fits, length_grown}
use Rattle.searches.proofs.Run.{Unreached, all_offered_first, restart_allowed, restart_only_then}
use Rattle.searches.proofs.Judge.{passes_unviolated, unviolated_passes}
use Rattle.searches.proofs.CarryOn.{passes_greedy, carry_on_carries, carried_on_unique, passes_comes_back, comes_back_passes}
use Rattle.searches.proofs.Passing as passing
use Rattle.searches.proofs.Refusals.{refuses_first, first_refuses}
use Rattle.searches.proofs.FormDemands as form

-- ---- Demand 1: the caller's memory

-- each refusal in its stated case and no other: the answer is refusal r exactly when r's test holds and no earlier one does
pub judge_refuses : (kind : ℕ) (mark : Mark) (rows w : List ℕ) (r : ℕ) → (judge_answer kind mark rows w ≡ refused r) ↔ Refuses r (judge_tests kind mark rows w)
unfolding judge_answer judge_tests judge_of judge_tests_of
judge_refuses kind mark rows = form.judge_refuses (open_tests kind mark rows) (search_of kind) (arcs rows) (length rows)

pub carry_on_refuses : (kind : ℕ) (mark : Mark) (rows t out : List ℕ) (k r : ℕ)
    → (carry_on_answer kind mark rows t out k ≡ some r) ↔ Refuses r (carry_on_tests kind mark rows t out k)
unfolding carry_on_answer carry_on_of carry_on_tests list_tests carry_on_tests_of list_tests_of
carry_on_refuses kind mark rows = form.carry_on_refuses (open_tests kind mark rows) (search_of kind) (arcs rows) (length rows)

pub open_refuses : (kind : ℕ) (mark : Mark) (rows : List ℕ) (r : ℕ) → (open_answer kind mark rows ≡ some r) ↔ Refuses r (open_tests kind mark rows)
unfolding open_answer
open_refuses kind mark rows r = (first_refuses (open_tests kind mark rows) r, refuses_first (open_tests kind mark rows) r)

-- and then nothing is altered
pub refused_keeps : (kind : ℕ) (mark : Mark) (rows t out : List ℕ) (k r : ℕ) → Refuses r (carry_on_tests kind mark rows t out k) → carry_on_output kind mark rows t out k ≡ out
unfolding carry_on_output output_of carry_on_tests list_tests carry_on_tests_of list_tests_of
refused_keeps kind mark rows = form.refused_keeps (open_tests kind mark rows) (search_of kind) (arcs rows) (length rows)

-- the output list only where a successful call fills it: for every input its first k bytes, its bytes from n on and its length stay
pub output_stays : (kind : ℕ) (mark : Mark) (rows t out : List ℕ) (k : ℕ)
    → (take k (carry_on_output kind mark rows t out k) ≡ take k out) × (drop (length rows) (carry_on_output kind mark rows t out k) ≡ drop (length rows) out)
    × (length (carry_on_output kind mark rows t out k) ≡ length out)
unfolding carry_on_output output_of carry_on_tests list_tests carry_on_tests_of list_tests_of
output_stays kind mark rows = form.output_stays (open_tests kind mark rows) (search_of kind) (arcs rows) (length rows)

-- ---- Demands 2 and 3 for any graph

module _ (s : Search) (arc : ℕ → ℕ → Bool) (n : ℕ) where
  -- Demand 2

  -- judge agrees with the search: a walk passes exactly when some run begins with it
  pub judge_agrees : (w : List ℕ) (k : ℕ) → IsOrdering n w k → (judge s arc n w k ≡ passes) ↔ BeginsRun s arc n w k
  judge_agrees w k o = (passing.passes_begins s arc n w k o, passing.begins_passes s arc n w k o.long)

  -- the offered points agree with it: after a walk that passes, a point is offered exactly when some run begins with the walk and that point
  pub offered_agrees : (w : List ℕ) (v : ℕ) → IsOrdering n w (length w) → judge s arc n w (length w) ≡ passes
      → T (offered s arc n w (length w) v) ↔ BeginsRun s arc n (w ++ v ∷ []) (suc (length w))
  offered_agrees w v o p = (
    λ t. let x = passing.offered_grows s arc n w v o p t in passing.passes_begins s arc n (w ++ v ∷ []) (suc (length w)) x.0 x.1,
    λ b.
        let l : suc (length w) ≤ length (w ++ v ∷ []) = omega (arith, length_grown w v) in
        passing.grows_offered s arc n w v (passing.begins_ordering s arc n (w ++ v ∷ []) (suc (length w)) l b)
        (passing.begins_passes s arc n (w ++ v ∷ []) (suc (length w)) l b),
  )

  -- the offered set is exactly the points with which the walk, grown by one, passes
  pub offered_exactly : (w : List ℕ) (v : ℕ) → IsOrdering n w (length w) → judge s arc n w (length w) ≡ passes
      → T (offered s arc n w (length w) v)
      ↔ (IsOrdering n (w ++ v ∷ []) (suc (length w)) × (judge s arc n (w ++ v ∷ []) (suc (length w)) ≡ passes))
  offered_exactly w v o p = (passing.offered_grows s arc n w v o p, λ x. passing.grows_offered s arc n w v x.0 x.1)

  -- carried_on walks agree with it: what is carried on from a walk that passes is a run
  pub carry_on_agrees : (t w : List ℕ) (k : ℕ) → IsFullOrdering n t → IsOrdering n w k → judge s arc n w k ≡ passes → Run s arc n (carry_on s arc n t w k)
  carry_on_agrees t w k names o p =
      let x = carry_on_carries s arc n t names w k o.long (ordering_fits n o) (passes_greedy s arc n w k o p) in
      passing.passes_run s arc n (carry_on s arc n t w k) x.full x.passing

  -- restarts included: with nothing placed all are offered,
  pub start_anywhere : (w : List ℕ) (v : ℕ) → v < n → T (offered s arc n w 0 v)
  start_anywhere = all_offered_first s arc n

  -- and a new piece starts anywhere, but only when no unplaced point has a placed neighbour
  pub restart : (w : List ℕ) (k v : ℕ) → v < n → (T (placed w k v) → ⊥) → Unreached s arc n w k v
      → T (offered s arc n w k v) ↔ ((u : ℕ) → u < n → (T (placed w k u) → ⊥) → Unreached s arc n w k u)
  restart w k v l out alone = (restart_only_then s arc n w k v alone, restart_allowed s arc n w k v l out)

  -- a full walk passes exactly when carrying on from nothing, with that walk reversed as preference list, gives it again
  pub comes_back : (w : List ℕ) → IsFullOrdering n w → (judge s arc n w n ≡ passes) ↔ (carry_on s arc n (reverse w) [] 0 ≡ w)
  comes_back w f = (passes_comes_back n w f s arc, comes_back_passes n w f s arc)

  -- Demand 3, for every walk of distinct points and every cut m of it

  module _ (w : List ℕ) (k : ℕ) (o : IsOrdering n w k) (m : ℕ) (cut : m ≤ k) where
    -- judge passes the part exactly when some run of the search begins with it,
    pub passes_as_run : (judge s arc n w m ≡ passes) ↔ BeginsRun s arc n w m
    passes_as_run = judge_agrees w m (ordering_prefix n m cut o)

    -- and exactly when with only that part placed no three points stand in the fault relation
    pub passes_unfaulted : (judge s arc n w m ≡ passes) ↔ ((i j c : ℕ) → Violates s arc n w m i j c → ⊥)
    passes_unfaulted = (passes_unviolated s arc n w m (ordering_prefix n m cut o), unviolated_passes s arc n w m (ordering_prefix n m cut o))

    -- a passed part is carried on, whatever the preference list, to a walk of all points that begins with it, passes, and has at each added
    -- place the offered point that stands last in the list
    pub carried_on : (t : List ℕ) → IsFullOrdering n t → judge s arc n w m ≡ passes → CarriedOn s arc n t w m (carry_on s arc n t w m)
    carried_on t names p =
        let part = ordering_prefix n m cut o in
        carry_on_carries s arc n t names w m part.long (ordering_fits n part) (passes_greedy s arc n w m part p)

    -- and no other walk is such
    pub carried_on_alone : (t r r' : List ℕ) → CarriedOn s arc n t w m r → CarriedOn s arc n t w m r' → r ≡ r'
    carried_on_alone t r r' = carried_on_unique s arc n t w r r' m (ordering_prefix n m cut o).long

    -- a failed one is shown its first fault triple, all others come after it
    pub shown_first : (a b c : ℕ) → judge s arc n w m ≡ fails a b c → FirstViolation s arc n w m a b c
    shown_first a b c = passing.fails_first s arc n w m a b c (ordering_prefix n m cut o)

    -- cut just before its middle point it passes,
    pub passes_before : {a b c : ℕ} (f : FirstViolation s arc n w m a b c) → judge s arc n w f.j ≡ passes
    passes_before {a} {b} {c} = passing.cut_before_passes s arc n w m a b c (ordering_prefix n m cut o)

    -- cut anywhere further on it fails
    pub fails_after : {a b c : ℕ} (f : FirstViolation s arc n w m a b c) (l : ℕ) → f.j < l → l ≤ m → Fails (judge s arc n w l)
    fails_after {a} {b} {c} = passing.cut_after_fails s arc n w m a b c (ordering_prefix n m cut o)

-- ---- Demands 2 and 3, as the calls answer: for every valid kind and plan, whatever its mark

-- judge's answer on a part of a walk is the verdict that the theorems on any graph speak of
pub part_judged : (kind : ℕ) (mark : Mark) (rows w : List ℕ) (k : ℕ) → Accepts (open_tests kind mark rows) → IsOrdering (length rows) w k
    → judge_answer kind mark rows (take k w) ≡ judge (search_of kind) (arcs rows) (length rows) w k
unfolding judge_answer judge_tests judge_of judge_tests_of
part_judged kind mark rows = form.part_judged (open_tests kind mark rows) (search_of kind) (arcs rows) (length rows)

module _ (kind : ℕ) (mark : Mark) (rows : List ℕ) (valid : Accepts (open_tests kind mark rows)) where
  -- Demand 2: a full walk passes exactly when carrying on from nothing, with that walk reversed as preference list, gives it again
  pub written_again : (w out : List ℕ) → IsFullOrdering (length rows) w → length rows ≤ length out
      → (judge_answer kind mark rows w ≡ passes) ↔ (take (length rows) (carry_on_output kind mark rows (reverse w) out 0) ≡ w)
  unfolding judge_answer judge_tests judge_of judge_tests_of carry_on_output output_of carry_on_tests list_tests carry_on_tests_of list_tests_of
  written_again = form.written_again (open_tests kind mark rows) (search_of kind) (arcs rows) (length rows) valid

  -- Demand 3: for every walk of distinct points and every cut m of it,
  module _ (w : List ℕ) (k : ℕ) (o : IsOrdering (length rows) w k) (m : ℕ) (cut : m ≤ k) where
    -- judge passes the part exactly when some run of the search begins with it,
    pub part_as_run : (judge_answer kind mark rows (take m w) ≡ passes) ↔ BeginsRun (search_of kind) (arcs rows) (length rows) w m
    unfolding judge_answer judge_tests judge_of judge_tests_of
    part_as_run = form.part_as_run (open_tests kind mark rows) (search_of kind) (arcs rows) (length rows) valid w k o m cut

    -- and exactly when with only that part placed no three points stand in the fault relation
    pub part_unfaulted : (judge_answer kind mark rows (take m w) ≡ passes) ↔ ((i j c : ℕ) → Violates (search_of kind) (arcs rows) (length rows) w m i j c → ⊥)
    unfolding judge_answer judge_tests judge_of judge_tests_of
    part_unfaulted = form.part_unfaulted (open_tests kind mark rows) (search_of kind) (arcs rows) (length rows) valid w k o m cut

    -- a passed part, at the front of any output list with room, is carried on, whatever the preference list, and the first n bytes then hold a
    -- walk of all points that begins with it, passes, and has at each added place the offered point that stands last in the list
    pub part_carried_on : (t out : List ℕ) → IsFullOrdering (length rows) t → length rows ≤ length out → take m out ≡ take m w
        → judge_answer kind mark rows (take m w) ≡ passes
        → (carry_on_answer kind mark rows t out m ≡ none)
        × CarriedOn (search_of kind) (arcs rows) (length rows) t w m (take (length rows) (carry_on_output kind mark rows t out m))
    unfolding judge_answer judge_tests judge_of judge_tests_of carry_on_answer carry_on_output carry_on_of output_of carry_on_tests list_tests carry_on_tests_of list_tests_of
    part_carried_on = form.part_carried_on (open_tests kind mark rows) (search_of kind) (arcs rows) (length rows) valid w k o m cut

    -- a failed one is shown its first fault triple, all others come after it
    pub part_shown_first : (a b c : ℕ) → judge_answer kind mark rows (take m w) ≡ fails a b c
        → FirstViolation (search_of kind) (arcs rows) (length rows) w m a b c
    unfolding judge_answer judge_tests judge_of judge_tests_of
    part_shown_first = form.part_shown_first (open_tests kind mark rows) (search_of kind) (arcs rows) (length rows) valid w k o m cut

  module _ (w : List ℕ) (k : ℕ) (o : IsOrdering (length rows) w k) (a b c : ℕ) (f : FirstViolation (search_of kind) (arcs rows) (length rows) w k a b c) where
    -- cut just before its middle point it passes,
    pub part_passes_before : judge_answer kind mark rows (take f.j w) ≡ passes
    unfolding judge_answer judge_tests judge_of judge_tests_of
    part_passes_before = form.part_passes_before (open_tests kind mark rows) (search_of kind) (arcs rows) (length rows) valid w k o a b c f

    -- cut anywhere further on it fails
    pub part_fails_after : (l : ℕ) → f.j < l → l ≤ k → Fails (judge_answer kind mark rows (take l w))
    unfolding judge_answer judge_tests judge_of judge_tests_of
    part_fails_after = form.part_fails_after (open_tests kind mark rows) (search_of kind) (arcs rows) (length rows) valid w k o a b c f
