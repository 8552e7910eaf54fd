-- What 02 asks of chordal plans (K9), over the definitions that the promise of `decide` cites. Each theorem's comment says which sentence it is; the work
-- is done in the modules that the proofs cite. First for any graph, that is any symmetric relation `arc` and any number n of vertices; then for whatever
-- the call answers. That the plan is not altered: it is passed as `&`. That the call ends is part of its proof.
-- Assumes nothing.
use mathlib.Core.Path.{◌≡◌, refl, sym, ap, ◌∙◌, subst}
use mathlib.Core.Logic.Iff
use mathlib.Core.Logic.{◌↔◌, ◌⊎◌, inl, inr}
use mathlib.Core.Bool.{Bool}
use mathlib.Core.List.{List, [], ◌∷◌, map}
use Prim.Native.Nat.{ℕ, ◌≤◌, ◌<◌}
use lib.Dec.{T}
use lib.ListN.{length, drop}
use Rattle.searches.specs.Ordering.{arcs}
use Rattle.searches.specs.Answer.{bit_outside, self_loop, two_way_tests, first_refusal, Accepts, Refuses, open_answer}
use Rattle.searches.specs.declared.Mark.{Mark}
use Rattle.searches.proofs.Refusals.{refuses_first, first_refuses}
use Rattle.chordal.specs.Chordal.{Symmetric, IsChordlessCycle, Chordal, IsEliminationOrder}
use Rattle.chordal.specs.Answer.{chordal_tests, Answer, chordal, cycle, refused, refusal_in, Shown}
use Rattle.chordal.proofs.Elimination as elimination
use Rattle.chordal.proofs.AnyGraph as any-graph
use Rattle.chordal.proofs.Deciding as deciding
use Rattle.chordal.proofs.Stated as stated

-- ---- for any graph

module _ (arc : ℕ → ℕ → Bool) (n : ℕ) (symmetric : Symmetric arc n) where
  -- there is an elimination order or a chordless cycle,
  pub either : ((e : List ℕ) × IsEliminationOrder arc n e) ⊎ ((c : List ℕ) × (m : ℕ) × IsChordlessCycle arc n c m)
  either = any-graph.either arc n symmetric

  -- and never both: a graph is chordal exactly when it has an elimination order
  pub chordal_exactly : Chordal arc n ↔ ((e : List ℕ) × IsEliminationOrder arc n e)
  chordal_exactly = (any-graph.ordered arc n symmetric, λ x. elimination.order_excludes_cycle arc n symmetric x.0 x.1)

-- ---- as the call answers: `before` and `after` are what the output list holds before the call and after it

module _ (mark : Mark) (rows before : List ℕ) (answer : Answer) (after : List ℕ)
    (told : refusal_in answer ≡ first_refusal (chordal_tests mark rows (length before))) (shown : Shown (arcs rows) (length rows) before answer after) where
  abbrev tests : List (ℕ × Bool)
  tests = chordal_tests mark rows (length before)

  -- what is shown, once the answer is known
  shown_as : {x : Answer} → answer ≡ x → Shown (arcs rows) (length rows) before x after
  shown_as e = subst (λ (y : Answer). Shown (arcs rows) (length rows) before y after) e shown

  -- ---- refusals

  -- checks are 2, 3, 4, 25, 5, then 10, in this order
  pub chordal_order : map (λ (test : ℕ × Bool). test.0) tests ≡ 2 ∷ 3 ∷ 4 ∷ 25 ∷ 5 ∷ 10 ∷ []
  unfolding two_way_tests chordal_tests
  chordal_order = refl

  -- each refusal in its stated case and no other: the answer is refusal r exactly when r's test holds and no earlier one does
  pub chordal_refuses : (r : ℕ) → (answer ≡ refused r) ↔ Refuses r tests
  unfolding refusal_in
  chordal_refuses r = (
    λ e. first_refuses tests r (sym told ∙ ap refusal_in e),
    λ x. stated.refused_alone answer r (told ∙ refuses_first tests r x),
  )

  -- 25 when the plan is one-way, directly after 4
  pub refused_one_way : (answer ≡ refused 25) ↔ ((length rows ≤ 64) × (T (bit_outside rows) → ⊥) × (T (self_loop rows) → ⊥) × (mark ≡ Mark.OneWay))
  refused_one_way = Iff.trans (chordal_refuses 25) (stated.mark_stated mark rows (length before))

  -- then 10 when the output has fewer than n bytes
  pub refused_for_room : (answer ≡ refused 10) ↔ (Accepts (two_way_tests mark rows) × (length before < length rows))
  refused_for_room = Iff.trans (chordal_refuses 10) (stated.room_stated mark rows (length before))

  -- refused, the output list is what it was
  pub refused_keeps : (r : ℕ) → answer ≡ refused r → after ≡ before
  refused_keeps r e = shown_as e

  -- ---- yes and no

  module _ (accepted : Accepts tests) where
    -- what is not refused is answered with yes or with no
    pub answered : (answer ≡ chordal) ⊎ ((m : ℕ) × (answer ≡ cycle m))
    answered = stated.answered answer tests told accepted

    -- yes is given exactly if no such cycle exists,
    pub yes_exactly : (answer ≡ chordal) ↔ Chordal (arcs rows) (length rows)
    yes_exactly = (λ e. (shown_as e).0, λ free. go free answered)
      where
        go : Chordal (arcs rows) (length rows) → (answer ≡ chordal) ⊎ ((m : ℕ) × (answer ≡ cycle m)) → answer ≡ chordal
        go free (inl e) = e
        go free (inr x) = absurd (free after x.0 (shown_as x.1).0)

    -- and no exactly if one does
    pub no_exactly : ((m : ℕ) × (answer ≡ cycle m)) ↔ ((c : List ℕ) × (m : ℕ) × IsChordlessCycle (arcs rows) (length rows) c m)
    no_exactly = (
      λ x. (after, x.0, (shown_as x.1).0),
      λ x. go x answered,
    )
      where
        go : ((c : List ℕ) × (m : ℕ) × IsChordlessCycle (arcs rows) (length rows) c m) → (answer ≡ chordal) ⊎ ((m : ℕ) × (answer ≡ cycle m))
            → (m : ℕ) × (answer ≡ cycle m)
        go x (inl e) = absurd (yes_exactly.0 e x.0 x.1 x.2)
        go x (inr y) = y

  -- ---- the output list

  -- yes comes with an elimination order of all points, in which the later neighbours of each point are linked to one another,
  pub yes_order : answer ≡ chordal → IsEliminationOrder (arcs rows) (length rows) after
  yes_order e = (shown_as e).1

  -- no with such a cycle, written in order, and its length
  pub no_cycle : (m : ℕ) → answer ≡ cycle m → IsChordlessCycle (arcs rows) (length rows) after m
  no_cycle m e = (shown_as e).0

  -- bytes after the order remain,
  pub behind_order : answer ≡ chordal → drop (length rows) after ≡ drop (length rows) before
  behind_order e = (shown_as e).2

  -- and so do those after the cycle
  pub behind_cycle : (m : ℕ) → answer ≡ cycle m → drop m after ≡ drop m before
  behind_cycle m e = (shown_as e).1

  -- and whatever is answered, the list is as long as it was
  pub output_length : length after ≡ length before
  output_length = deciding.output_length mark rows before answer after told shown

-- a two-way plan is refused with 2 to 5 exactly as open refuses it, whatever the kind
pub two_way_as_open : (kind : ℕ) (rows : List ℕ) → kind ≤ 6 → first_refusal (two_way_tests Mark.TwoWay rows) ≡ open_answer kind Mark.TwoWay rows
two_way_as_open = stated.two_way_as_open
