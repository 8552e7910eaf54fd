-- The open walk: when it is well formed, and what each call answers and hands back.
--   state kind mark n rows barred k ordering   the open walk of these parts
--   plan t, walk t                   its graph's rows, and its ordering                                            [01: plan, walk]
--   in_service t                      how many vertices are not barred                                              [02, K8: the unbarred points]
--   well_formed t                     the test;   WellFormed t   the same condition by condition                    [01: well formed; 02: K8]
--   Surveyed t m                     m has the unplaced vertices that are not barred, the kind, and the labels' words, after the walk
--   offers t v                       v is offered after the walk, in the graph without the barred vertices         [01: offered; 02: K8]
--   place_tests, take_back_tests        what is refused: numbers and tests in their order                             [01: from the state; 02: K8]
--   unless_refused answer next kept   the state that a call hands back: the next one, or the one that is kept
--   nothing_open                      the two-way open walk of kind 0 with n = 0 and everything else 0
--   opened kind mark rows barred     what open hands back                                                          [01: open]
--   offered_answer t, offered_set t    what offered answers
--   place_answer t v, grown t v       what placing v answers, and hands back                                        [01: placing]
--   take_back_answer t, shrunk t       likewise, of taking back                                                      [01: taking back]
use Rattle.std.specs.Prelude.{ℕ, ◌+◌, ◌-◌, ◌≤◌, ◌<◌, ◌≡◌, Bool, cond, not, ◌&&◌, List, [], ◌∷◌, ◌++◌, T, leb, eqb, length, take, set, replicate}
use Rattle.std.proofs.Math.Option.{Option, none, some}
use Rattle.bitset.specs.Below.{count_below}
use Rattle.bitset.specs.Word.{member, set_below}
use Rattle.searches.specs.Kind.{search_of}
use Rattle.searches.specs.Ordering.{arcs, at, placed, IsOrdering}
use Rattle.searches.specs.Violation.{passes}
use Rattle.searches.specs.Without.{judge_without, offered_without}
use Rattle.searches.specs.Answer.{is_pass, open_tests, Accepts, first_refusal, unbarred, judge_barring, open_barring}
use Rattle.searches.specs.declared.Kind.{Kind}
use Rattle.searches.specs.declared.Mark.{Mark}
use Rattle.lookup.specs.Unused.{used_from}
use Rattle.engine.specs.declared.after.Moment.{Moment}
use Rattle.engine.specs.Moments.{IsMoment}
use Rattle.traversal.specs.declared.Traversal.{Traversal}

abbrev pub state : Kind → Mark → ℕ → List ℕ → ℕ → ℕ → List ℕ → Traversal
state kind mark n rows barred k ordering = record { kind = kind; mark = mark; n = n; rows = rows; barred = barred; k = k; ordering = ordering }

unfoldable pub plan : Traversal → List ℕ
plan t = take t.n t.rows

unfoldable pub walk : Traversal → List ℕ
walk t = take t.k t.ordering

unfoldable pub in_service : Traversal → ℕ
in_service t = count_below t.n (unbarred t.barred)

-- ---- well formed

unfoldable pub well_formed : Traversal → Bool
well_formed t =
    leb t.n 64 && leb t.k t.n && not (used_from t.n t.rows) && not (used_from t.k t.ordering)
    && is_pass (judge_barring t.kind.0 t.mark (plan t) t.barred (walk t))

pub record WellFormed (t : Traversal) : Type 0 where
  -- its kind and plan are valid
  pub points : t.n ≤ 64
  pub valid : Accepts (open_tests t.kind.0 t.mark (plan t))
  -- its set of barred points has no bit at or above n
  pub set_inside : (v : ℕ) → t.n ≤ v → v < 64 → T (member t.barred v) → ⊥
  -- its walk is distinct points of the plan, none of them barred, and passes in the plan without the barred
  pub distinct : IsOrdering t.n (walk t) t.k
  pub stays : (p : ℕ) → p < t.k → T (unbarred t.barred (at (walk t) p))
  pub passing : judge_without (search_of t.kind.0) (arcs (plan t)) t.n (unbarred t.barred) (walk t) t.k ≡ passes
  -- unused rows and places are 0
  pub rows_unused : (u : ℕ) → t.n ≤ u → u < 64 → at t.rows u ≡ 0
  pub places_unused : (p : ℕ) → t.k ≤ p → p < 64 → at t.ordering p ≡ 0

abbrev pub Surveyed : Traversal → Moment → Type 0
Surveyed t m = IsMoment t.kind.0 (plan t) t.barred (walk t) m

-- ---- who is offered

unfoldable pub offers : Traversal → ℕ → Bool
offers t v = offered_without (search_of t.kind.0) (arcs (plan t)) t.n (unbarred t.barred) (walk t) t.k v

unfoldable pub offered_answer : Traversal → Option ℕ
offered_answer t = first_refusal ((13, not (well_formed t)) ∷ [])

unfoldable pub offered_set : Traversal → ℕ
offered_set t = cond (well_formed t) (set_below t.n (offers t)) 0

-- ---- the state that is handed back

unfoldable pub unless_refused : Option ℕ → Traversal → Traversal → Traversal
unless_refused none next kept = next
unless_refused (some r) next kept = kept

unfoldable pub nothing_open : Traversal
nothing_open = state (record { 0 = 0 }) Mark.TwoWay 0 (replicate 64 0) 0 0 (replicate 64 0)

unfoldable pub opened : ℕ → Mark → List ℕ → ℕ → Traversal
opened kind mark rows barred =
    unless_refused (open_barring kind mark rows barred)
    (state (record { 0 = kind }) mark (length rows) (rows ++ replicate (64 - length rows) 0) barred 0 (replicate 64 0)) nothing_open

unfoldable pub place_tests : Traversal → ℕ → List (ℕ × Bool)
place_tests t v =
    (13, not (well_formed t))
    ∷ (14, eqb t.k (in_service t))
    ∷ (8, leb t.n v)
    ∷ (24, member t.barred v)
    ∷ (15, placed (walk t) t.k v)
    ∷ (16, not (offers t v))
    ∷ []

unfoldable pub place_answer : Traversal → ℕ → Option ℕ
place_answer t v = first_refusal (place_tests t v)

unfoldable pub grown : Traversal → ℕ → Traversal
grown t v = unless_refused (place_answer t v) (state t.kind t.mark t.n t.rows t.barred (t.k + 1) (set t.ordering t.k v)) t

unfoldable pub take_back_tests : Traversal → List (ℕ × Bool)
take_back_tests t = (13, not (well_formed t)) ∷ (17, eqb t.k 0) ∷ []

unfoldable pub take_back_answer : Traversal → Option ℕ
take_back_answer t = first_refusal (take_back_tests t)

unfoldable pub shrunk : Traversal → Traversal
shrunk t = unless_refused (take_back_answer t) (state t.kind t.mark t.n t.rows t.barred (t.k - 1) (set t.ordering (t.k - 1) 0)) t
