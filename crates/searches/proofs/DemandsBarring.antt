-- The three demands where points are barred: for every set of barred points, over the plan without them, which is the graph arc' on the numbers below n',
-- by the definitions that the functions' promises cite. Each theorem's comment says which sentence it is; the work is done in the modules that the
-- proofs cite. What Demands says of any graph holds for that plan, too: who is offered there, where a new piece starts, and that a walk is carried on to
-- no other. With nothing barred each answer is what it was (NothingBarred).
-- Assumes nothing.
use mathlib.Core.Path.{◌≡◌, sym, ◌∙◌}
use mathlib.Core.Logic.{◌↔◌}
use mathlib.Core.Bool.{Bool}
use mathlib.Core.List.{List, [], ◌∷◌, ◌++◌, reverse}
use mathlib.Core.Option.{none, some}
use Prim.Native.Nat.{ℕ, suc, ◌≤◌, ◌<◌}
use native.Mathlib.Omega.{arith}
use lib.Dec.{T}
use lib.ListN.{length, take, drop}
use Rattle.bitset.specs.Below.{count_below}
use Rattle.searches.specs.Kind.{Search, search_of}
use Rattle.searches.specs.Ordering.{arcs, at, IsOrdering, IsFullOrdering}
use Rattle.searches.specs.Run.{BeginsRun}
use Rattle.searches.specs.Violation.{Violates, FirstViolation, passes, fails, refused, Fails, judge}
use Rattle.searches.specs.CarryOn.{CarriedOn}
use Rattle.searches.specs.Without.{number_of, numbered, named, arcs_of, IsKeptOrdering, FirstKept, judge_without, offered_without}
use Rattle.searches.specs.Answer.{Accepts, Refuses, unbarred, open_tests_barring, judge_tests_barring, carry_on_tests_barring}
use Rattle.searches.specs.Answer.{open_barring, judge_barring, carry_on_barring, output_barring}
use Rattle.searches.specs.declared.Mark.{Mark}
use Rattle.searches.proofs.Refusals.{refuses_first, first_refuses}
use Rattle.searches.proofs.Renumbered.{numbered_ordering}
use Rattle.searches.proofs.ComesBack as without
use Rattle.searches.proofs.FirstKept.{fails_kept}
use Rattle.searches.proofs.Barring as barring
use Rattle.searches.proofs.Demands as demands
use Rattle.searches.proofs.PartsBarring as parts

-- ---- Demand 2 for any graph without some of its vertices

-- the offered set is exactly the points with which the walk, grown by one, passes: after a walk of unbarred points that passes
pub offered_exactly : (s : Search) (arc : ℕ → ℕ → Bool) (n : ℕ) (kept : ℕ → Bool) (w : List ℕ) (v : ℕ) → IsKeptOrdering n kept w (length w)
    → judge_without s arc n kept w (length w) ≡ passes
    → T (offered_without s arc n kept w (length w) v)
    ↔ (IsKeptOrdering n kept (w ++ v ∷ []) (suc (length w)) × (judge_without s arc n kept (w ++ v ∷ []) (suc (length w)) ≡ passes))
offered_exactly s arc n kept w v x p = (without.offered_grows s arc n kept w v x p, λ y. without.grows_offered s arc n kept w v x y.0 y.1)

module _ (kind : ℕ) (mark : Mark) (rows : List ℕ) (barred : ℕ) where
  abbrev s : Search
  s = search_of kind

  abbrev n : ℕ
  n = length rows

  -- who is in service; the plan without the others has n' points and the links arc'
  abbrev kept : ℕ → Bool
  kept = unbarred barred

  abbrev n' : ℕ
  n' = count_below n kept

  abbrev arc' : ℕ → ℕ → Bool
  arc' = arcs_of n kept (arcs rows)

  -- ---- Demand 1: the caller's memory

  -- each refusal in its stated case and no other: the answer is refusal r exactly when r's test holds and no earlier one does
  pub judge_refuses : (w : List ℕ) (r : ℕ) → (judge_barring kind mark rows barred w ≡ refused r) ↔ Refuses r (judge_tests_barring kind mark rows barred w)
  judge_refuses w r = (barring.refused_judge kind mark rows barred w r, barring.judge_refused kind mark rows barred w r)

  pub carry_on_refuses : (t out : List ℕ) (k r : ℕ)
      → (carry_on_barring kind mark rows barred t out k ≡ some r) ↔ Refuses r (carry_on_tests_barring kind mark rows barred t out k)
  unfolding carry_on_barring
  carry_on_refuses t out k r =
      let tests = carry_on_tests_barring kind mark rows barred t out k in
      (first_refuses tests r, refuses_first tests r)

  pub open_refuses : (r : ℕ) → (open_barring kind mark rows barred ≡ some r) ↔ Refuses r (open_tests_barring kind mark rows barred)
  unfolding open_barring
  open_refuses r = (first_refuses (open_tests_barring kind mark rows barred) r, refuses_first (open_tests_barring kind mark rows barred) r)

  -- and then nothing is altered
  pub refused_keeps : (t out : List ℕ) (k r : ℕ) → Refuses r (carry_on_tests_barring kind mark rows barred t out k) → output_barring kind mark rows barred t out k ≡ out
  refused_keeps = barring.carry_on-kept kind mark rows barred

  -- the output list only where a successful call fills it: for every input its first k bytes, its bytes from the number of unbarred points on and its
  -- length stay
  pub output_stays : (t out : List ℕ) (k : ℕ)
      → (take k (output_barring kind mark rows barred t out k) ≡ take k out) × (drop n' (output_barring kind mark rows barred t out k) ≡ drop n' out)
      × (length (output_barring kind mark rows barred t out k) ≡ length out)
  output_stays = parts.output_kept kind mark rows barred

  module _ (valid : Accepts (open_tests_barring kind mark rows barred)) where
    -- ---- Demand 2

    -- a walk of all unbarred points passes exactly when carrying on from nothing, with that walk reversed as preference list and the barred points in
    -- front of it, gives it again
    pub written_again : (w b out : List ℕ) → IsKeptOrdering n kept w (length w) → length w ≡ n' → IsFullOrdering n (b ++ reverse w)
        → ((p : ℕ) → p < length b → T (kept (at b p)) → ⊥) → n ≤ length out
        → (judge_barring kind mark rows barred w ≡ passes) ↔ (take n' (output_barring kind mark rows barred (b ++ reverse w) out 0) ≡ w)
    written_again w b out x whole names others room = (
      parts.passes_written_again kind mark rows barred valid w b x whole names others out room,
      parts.written_again_passes kind mark rows barred valid w b x whole names others out room,
    )

    -- ---- Demand 3: for every walk of distinct unbarred points and every cut m of it,

    module _ (w : List ℕ) (k : ℕ) (x : IsKeptOrdering n kept w k) where
      -- the walk on the plan without the barred
      abbrev w' : List ℕ
      w' = numbered kept w

      there : IsOrdering n' w' k
      there = numbered_ordering n kept w k x.ordering x.stays

      module _ (m : ℕ) (cut : m ≤ k) where
        part : IsKeptOrdering n kept w m
        part = parts.kept_prefix m cut x

        -- judge's answer on the part is the verdict on it in the plan without the barred, named back
        pub part_judged : judge_barring kind mark rows barred (take m w) ≡ judge_without s (arcs rows) n kept w m
        part_judged = parts.prefix_judged kind mark rows barred valid w m part

        passes_there : (judge_barring kind mark rows barred (take m w) ≡ passes) ↔ (judge s arc' n' w' m ≡ passes)
        passes_there = parts.passes_part kind mark rows barred valid w m part

        -- judge passes the part exactly when some run of the search on the plan without the barred begins with it,
        pub part_as_run : (judge_barring kind mark rows barred (take m w) ≡ passes) ↔ BeginsRun s arc' n' w' m
        part_as_run =
            let i = demands.passes_as_run s arc' n' w' k there m cut in
            (λ p. i.0 (passes_there.0 p), λ b. passes_there.1 (i.1 b))

        -- and exactly when with only that part placed no three of its points stand in the fault relation
        pub part_unfaulted : (judge_barring kind mark rows barred (take m w) ≡ passes) ↔ ((i j c : ℕ) → Violates s arc' n' w' m i j c → ⊥)
        part_unfaulted =
            let i = demands.passes_unfaulted s arc' n' w' k there m cut in
            (λ p. i.0 (passes_there.0 p), λ unfaulted. passes_there.1 (i.1 unfaulted))

        -- a passed part, at the front of any output list with room, is carried on, whatever the preference list of all points; the first bytes, as many as
        -- are unbarred, then hold, named back, a walk of all points of the plan without the barred that begins with it, passes, and has at each added place
        -- the offered point that stands last in the list
        pub part_carried_on : (t out : List ℕ) → IsFullOrdering n t → n ≤ length out → take m out ≡ take m w → judge_barring kind mark rows barred (take m w) ≡ passes
            → (carry_on_barring kind mark rows barred t out m ≡ none)
            × CarriedOn s arc' n' (numbered kept t) w' m (numbered kept (take n' (output_barring kind mark rows barred t out m)))
            × (named n kept (numbered kept (take n' (output_barring kind mark rows barred t out m))) ≡ take n' (output_barring kind mark rows barred t out m))
        part_carried_on t out names room front p =
            parts.part_carried kind mark rows barred valid w m part t out names room front (sym part_judged ∙ p)

        -- a failed one is shown the first fault triple of the plan without the barred, all others come after it,
        pub part_shown_first : (a b c : ℕ) → judge_barring kind mark rows barred (take m w) ≡ fails a b c
            → FirstViolation s arc' n' w' m (number_of kept a) (number_of kept b) (number_of kept c)
        part_shown_first a b c e = without.fails_without s (arcs rows) n kept w m part.ordering part.stays a b c (sym part_judged ∙ e)

        -- which is the first among the whole plan's triples whose c is unbarred
        pub part_shown_first_kept : (a b c : ℕ) → judge_barring kind mark rows barred (take m w) ≡ fails a b c → FirstKept s (arcs rows) n kept w m a b c
        part_shown_first_kept a b c e = fails_kept s (arcs rows) n kept w m part a b c (sym part_judged ∙ e)

      module _ (a b c : ℕ) (f : FirstViolation s arc' n' w' k a b c) where
        -- cut just before its middle point it passes,
        pub part_passes_before : judge_barring kind mark rows barred (take f.j w) ≡ passes
        part_passes_before = (passes_there f.j (omega (arith, f.is.middle))).1 (demands.passes_before s arc' n' w' k there k (omega arith) f)

        -- cut anywhere further on it fails
        pub part_fails_after : (l : ℕ) → f.j < l → l ≤ k → Fails (judge_barring kind mark rows barred (take l w))
        part_fails_after l h g =
            let y = without.without_fails s (arcs rows) n kept w l (demands.fails_after s arc' n' w' k there k (omega arith) f l h g) in
            (y.0, y.1, y.2, part_judged l g ∙ y.3)
