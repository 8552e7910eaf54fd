-- Judge on adjacency lists: what 02 asks of it (K10), and what the demands ask of judge, for every kind, mark, layout, barred set and walk. Each theorem's
-- comment says which sentence it is. n is the number of points and arc the relation that the lists give; the plan without the barred points is arc' on the
-- numbers below n'. Carry-on is on rows: on those of the layout.
-- Assumes nothing.
use Prim.Native.Nat.{ℕ, ◌≤◌, ◌<◌}
use mathlib.Core.Path.{◌≡◌, refl, sym, ap, ◌∙◌, subst}
use mathlib.Core.Bool.{Bool, false}
use mathlib.Core.List.{List, [], ◌∷◌, ◌++◌, reverse}
use mathlib.Core.Logic.{◌↔◌, ◌⊎◌, inl, inr}
use mathlib.Core.Option.{none}
use native.Mathlib.Omega.{arith}
use lib.Dec.{T}
use lib.ListN.{length, take}
use Rattle.bitset.specs.Below.{count_below}
use Rattle.bitset.specs.Matrix.{AreWords}
use Rattle.bitset.proofs.Tests.{below_or}
use Rattle.searches.specs.Kind.{Search, search_of}
use Rattle.searches.specs.Ordering.{arcs, at, IsFullOrdering}
use Rattle.searches.specs.Run.{BeginsRun}
use Rattle.searches.specs.Violation.{Violates, FirstViolation, Verdict, passes, fails, refused, Fails}
use Rattle.searches.specs.CarryOn.{CarriedOn}
use Rattle.searches.specs.Without.{number_of, numbered, named, arcs_of, IsKeptOrdering, FirstKept}
use Rattle.searches.specs.Answer.{bit_outside, Accepts, Refuses, unbarred, open_tests_barring, judge_barring, carry_on_barring, output_barring}
use Rattle.searches.specs.declared.Mark.{Mark}
use Rattle.searches.proofs.Refusals.{numbers, none_accepts, accepts_none}
use Rattle.searches.proofs.DemandsBarring as demands
use Rattle.adjacency.specs.Layout.{size_of, arcs_listed, form_tests, listed_tests, rows_listed, IsLayout}
use Rattle.adjacency.proofs.Layouts.{layout_of, arcs_same, rows_length}
use Rattle.lookup.proofs.Symmetry.{rows_within}
use Rattle.conversion.specs.Conversion.{offsets_of, neighbours_of}
use Rattle.conversion.proofs.Accepted.{form_accepted}
use Rattle.conversion.proofs.Neighbours.{offsets_length}
use Rattle.conversion.proofs.OfRows.{rows_layout, rows_back}
use Rattle.sparse.specs.Judge.{open_tests_listed, judge_tests_listed, judge_listed, SameGraph}
use Rattle.sparse.proofs.Same.{valid_formed, valid_layout, open_tests_same, listed_judged, large_refused, rows_of_graph, listed_refuses, refuses_listed}

-- on the lists that the conversion makes of rows, which are 64-bit words and not refused with 3, judge answers as on the rows, whatever kind, mark, barred
-- set and walk
pub judge_converted : (kind : ℕ) (mark : Mark) (rows : List ℕ) (barred : ℕ) → AreWords rows → bit_outside rows ≡ false
    → (w : List ℕ) → judge_listed kind mark (offsets_of rows) (neighbours_of rows) barred w ≡ judge_barring kind mark rows barred w
judge_converted kind mark rows barred words within w = go (below_or 64 (length rows))
  where
    go : (64 < length rows) ⊎ (length rows ≤ 64) → judge_listed kind mark (offsets_of rows) (neighbours_of rows) barred w ≡ judge_barring kind mark rows barred w
    go (inl many) = large_refused kind mark barred w rows (offsets_of rows) (neighbours_of rows) many (omega (arith, offsets_length rows))
    go (inr few) =
        let inside = rows_within rows few within in
        let x = rows_layout rows inside in
        listed_judged kind mark barred w x (sym (accepts_none (form_tests (offsets_of rows) (neighbours_of rows)) (form_accepted x)))
        ∙ ap (λ (r : List ℕ). judge_barring kind mark r barred w) (rows_back rows inside words)

module _ (kind : ℕ) (mark : Mark) (offsets neighbours : List ℕ) (barred : ℕ) where
  abbrev rows : List ℕ
  rows = rows_listed offsets neighbours

  -- ---- judge on the layout is judge on the rows

  -- on a layout, which is what is not refused with 26, judge answers as on its rows: passes, the same triple, or the same refusal
  pub judge_same : Accepts (form_tests offsets neighbours) → (w : List ℕ) → judge_listed kind mark offsets neighbours barred w ≡ judge_barring kind mark rows barred w
  unfolding size_of
  judge_same formed w = go (below_or 65 (length offsets))
    where
      go : (65 < length offsets) ⊎ (length offsets ≤ 65) → judge_listed kind mark offsets neighbours barred w ≡ judge_barring kind mark rows barred w
      go (inl many) = large_refused kind mark barred w rows offsets neighbours (omega (arith, rows_length offsets neighbours)) many
      go (inr few) = listed_judged kind mark barred w (layout_of offsets neighbours few formed) (sym (accepts_none (form_tests offsets neighbours) formed))

  -- so it does on any rows of the same plan, which are 64-bit words and not refused with 3
  pub judge_same_plan : (given : List ℕ) → AreWords given → bit_outside given ≡ false → SameGraph given offsets neighbours → Accepts (form_tests offsets neighbours)
      → (w : List ℕ) → judge_listed kind mark offsets neighbours barred w ≡ judge_barring kind mark given barred w
  judge_same_plan given words within same formed w = go (below_or 65 (length offsets))
    where
      go : (65 < length offsets) ⊎ (length offsets ≤ 65) → judge_listed kind mark offsets neighbours barred w ≡ judge_barring kind mark given barred w
      go (inl many) = large_refused kind mark barred w given offsets neighbours (omega (arith, same.as_many)) many
      go (inr few) =
          judge_same formed w
          ∙ ap (λ (r : List ℕ). judge_barring kind mark r barred w) (rows_of_graph (layout_of offsets neighbours few formed) same words within)

  -- ---- Demand 1: judge tries 1, 2, the six cases of 26, 4, 5, 23, 6, 8, 9 and 24, in this order,
  pub judge_order : (w : List ℕ) → numbers (judge_tests_listed kind mark offsets neighbours barred w) ≡ 1 ∷ 2 ∷ 26 ∷ 26 ∷ 26 ∷ 26 ∷ 26 ∷ 26 ∷ 4 ∷ 5 ∷ 23 ∷ 6 ∷ 8 ∷ 9 ∷ 24 ∷ []
  unfolding numbers judge_tests_listed open_tests_listed listed_tests form_tests
  judge_order w = refl

  -- and gives each refusal in its stated case and no other

  pub judge_refuses : (w : List ℕ) (r : ℕ) → (judge_listed kind mark offsets neighbours barred w ≡ refused r) ↔ Refuses r (judge_tests_listed kind mark offsets neighbours barred w)
  judge_refuses w r = (listed_refuses kind mark barred w offsets neighbours r, refuses_listed kind mark barred w offsets neighbours r)

  abbrev s : Search
  s = search_of kind

  abbrev n : ℕ
  n = size_of offsets

  abbrev arc : ℕ → ℕ → Bool
  arc = arcs_listed offsets neighbours

  abbrev kept : ℕ → Bool
  kept = unbarred barred

  abbrev n' : ℕ
  n' = count_below n kept

  abbrev arc' : ℕ → ℕ → Bool
  arc' = arcs_of n kept arc

  module _ (valid : Accepts (open_tests_listed kind mark offsets neighbours barred)) where
    layout : IsLayout offsets neighbours
    layout = valid_layout kind mark offsets neighbours barred valid

    formed : Accepts (form_tests offsets neighbours)
    formed = valid_formed kind mark offsets neighbours barred valid

    -- the rows of a valid layout are valid,
    pub valid_rows : Accepts (open_tests_barring kind mark rows barred)
    valid_rows =
        none_accepts (open_tests_barring kind mark rows barred)
        (sym (open_tests_same kind mark barred rows layout (sym (accepts_none (form_tests offsets neighbours) formed)))
        ∙ accepts_none (open_tests_listed kind mark offsets neighbours barred) valid)

    -- and what holds of their number and their arcs holds of those of the lists
    listed : (P : ℕ → (ℕ → ℕ → Bool) → Type 0) → P (length rows) (arcs rows) → P n arc
    listed P p = subst (λ (m : ℕ). P m arc) (rows_length offsets neighbours) (subst (λ (a : ℕ → ℕ → Bool). P (length rows) a) (arcs_same layout) p)

    -- ---- Demand 2: a walk of all unbarred points passes exactly when carrying on from nothing, with that walk reversed as preference list and the barred
    -- points in front of it, gives it again
    pub written_again : (w b out : List ℕ) → IsKeptOrdering n kept w (length w) → length w ≡ n' → IsFullOrdering n (b ++ reverse w)
        → ((p : ℕ) → p < length b → T (kept (at b p)) → ⊥) → n ≤ length out
        → (judge_listed kind mark offsets neighbours barred w ≡ passes) ↔ (take n' (output_barring kind mark rows barred (b ++ reverse w) out 0) ≡ w)
    written_again w b out x whole names others room =
        subst (λ (v : Verdict). (v ≡ passes) ↔ (take n' (output_barring kind mark rows barred (b ++ reverse w) out 0) ≡ w)) (sym (judge_same formed w))
        (listed (λ m a. IsKeptOrdering m kept w (length w) → length w ≡ count_below m kept → IsFullOrdering m (b ++ reverse w) → m ≤ length out
        → (judge_barring kind mark rows barred w ≡ passes) ↔ (take (count_below m kept) (output_barring kind mark rows barred (b ++ reverse w) out 0) ≡ w))
        (λ y all full space. demands.written_again kind mark rows barred valid_rows w b out y all full others space) x whole names room)

    -- ---- Demand 3: for every walk of distinct unbarred points and every cut m of it,

    module _ (w : List ℕ) (k : ℕ) (x : IsKeptOrdering n kept w k) where
      -- the walk on the plan without the barred
      abbrev w' : List ℕ
      w' = numbered kept w

      on_rows : IsKeptOrdering (length rows) kept w k
      on_rows = subst (λ (m : ℕ). IsKeptOrdering m kept w k) (sym (rows_length offsets neighbours)) x

      module _ (m : ℕ) (cut : m ≤ k) where
        -- what holds of judge's answer on the part in rows
        answered : (P : Verdict → ℕ → (ℕ → ℕ → Bool) → Type 0) → P (judge_barring kind mark rows barred (take m w)) (length rows) (arcs rows)
            → P (judge_listed kind mark offsets neighbours barred (take m w)) n arc
        answered P p = listed (P (judge_listed kind mark offsets neighbours barred (take m w))) (subst (λ (v : Verdict). P v (length rows) (arcs rows)) (sym (judge_same formed (take m w))) p)

        -- judge passes the part exactly when some run of the search begins with it,
        pub part_as_run : (judge_listed kind mark offsets neighbours barred (take m w) ≡ passes) ↔ BeginsRun s arc' n' w' m
        part_as_run =
            answered (λ v i a. (v ≡ passes) ↔ BeginsRun s (arcs_of i kept a) (count_below i kept) w' m)
            (demands.part_as_run kind mark rows barred valid_rows w k on_rows m cut)

        -- and exactly when with only that part placed no three of its points stand in the fault relation
        pub part_unfaulted : (judge_listed kind mark offsets neighbours barred (take m w) ≡ passes) ↔ ((i j c : ℕ) → Violates s arc' n' w' m i j c → ⊥)
        part_unfaulted =
            answered (λ v l a. (v ≡ passes) ↔ ((i j c : ℕ) → Violates s (arcs_of l kept a) (count_below l kept) w' m i j c → ⊥))
            (demands.part_unfaulted kind mark rows barred valid_rows w k on_rows m cut)

        -- a passed part is carried on, on the rows of the layout, whatever the preference list, to a walk of all unbarred points that begins with it, passes,
        -- and has at each added place the offered point that stands last in the list
        pub part_carried_on : (t out : List ℕ) → IsFullOrdering n t → n ≤ length out → take m out ≡ take m w → judge_listed kind mark offsets neighbours barred (take m w) ≡ passes
            → (carry_on_barring kind mark rows barred t out m ≡ none)
            × CarriedOn s arc' n' (numbered kept t) w' m (numbered kept (take n' (output_barring kind mark rows barred t out m)))
            × (named n kept (numbered kept (take n' (output_barring kind mark rows barred t out m))) ≡ take n' (output_barring kind mark rows barred t out m))
        part_carried_on t out names room front p =
            answered (λ v l a. IsFullOrdering l t → l ≤ length out → v ≡ passes → (carry_on_barring kind mark rows barred t out m ≡ none)
            × CarriedOn s (arcs_of l kept a) (count_below l kept) (numbered kept t) w' m (numbered kept (take (count_below l kept) (output_barring kind mark rows barred t out m)))
            × (named l kept (numbered kept (take (count_below l kept) (output_barring kind mark rows barred t out m))) ≡ take (count_below l kept) (output_barring kind mark rows barred t out m)))
            (λ full space q. demands.part_carried_on kind mark rows barred valid_rows w k on_rows m cut t out full space front q) names room p

        -- a failed one is shown the first fault triple of the plan without the barred, all others come after it,
        pub part_shown_first : (a b c : ℕ) → judge_listed kind mark offsets neighbours barred (take m w) ≡ fails a b c
            → FirstViolation s arc' n' w' m (number_of kept a) (number_of kept b) (number_of kept c)
        part_shown_first a b c =
            answered (λ v l r. v ≡ fails a b c → FirstViolation s (arcs_of l kept r) (count_below l kept) w' m (number_of kept a) (number_of kept b) (number_of kept c))
            (demands.part_shown_first kind mark rows barred valid_rows w k on_rows m cut a b c)

        -- which is the first among the whole plan's triples whose c is unbarred
        pub part_shown_first_kept : (a b c : ℕ) → judge_listed kind mark offsets neighbours barred (take m w) ≡ fails a b c → FirstKept s arc n kept w m a b c
        part_shown_first_kept a b c =
            answered (λ v l r. v ≡ fails a b c → FirstKept s r l kept w m a b c) (demands.part_shown_first_kept kind mark rows barred valid_rows w k on_rows m cut a b c)

      module _ (a b c : ℕ) (f : FirstViolation s arc' n' w' k a b c) where
        -- cut just before its middle point it passes,
        pub part_passes_before : judge_listed kind mark offsets neighbours barred (take f.j w) ≡ passes
        part_passes_before =
            judge_same formed (take f.j w)
            ∙ listed (λ l r. (g : FirstViolation s (arcs_of l kept r) (count_below l kept) w' k a b c) → judge_barring kind mark rows barred (take g.j w) ≡ passes)
            (λ g. demands.part_passes_before kind mark rows barred valid_rows w k on_rows a b c g) f

        -- cut anywhere further on it fails
        pub part_fails_after : (l : ℕ) → f.j < l → l ≤ k → Fails (judge_listed kind mark offsets neighbours barred (take l w))
        part_fails_after l h g =
            subst Fails (sym (judge_same formed (take l w)))
            (listed (λ i r. (y : FirstViolation s (arcs_of i kept r) (count_below i kept) w' k a b c) → y.j < l → Fails (judge_barring kind mark rows barred (take l w)))
            (λ y after. demands.part_fails_after kind mark rows barred valid_rows w k on_rows a b c y l after g) f h)
