-- Two unplaced vertices of an open walk compared: what holds of every state and every two numbers. The call's contract is an equation with
-- `compare_answer`; each theorem's comment says which sentence of 02 it is.
-- Assumes nothing.
use Prim.Native.Nat.{ℕ, ◌<◌}
use mathlib.Core.Path.{◌≡◌, refl, sym, ap, ◌∙◌, subst}
use mathlib.Core.Bool.{Bool, ◌&&◌}
use mathlib.Core.Logic.{◌↔◌}
use mathlib.Core.List.{List, [], ◌∷◌, map}
use native.Mathlib.Omega.{arith}
use lib.Dec.{T, not_T, T_not}
use lib.ListN.{length, take}
use Rattle.bitset.specs.Word.{member}
use Rattle.bitset.proofs.Tests.{is_true}
use Rattle.searches.specs.Kind.{Search, mns, search_of}
use Rattle.searches.specs.Ordering.{arcs, placed}
use Rattle.searches.specs.Label.{label, outranks}
use Rattle.searches.specs.Run.{offered}
use Rattle.searches.specs.Without.{number_of, name_of, numbered, arcs_of, offered_without, compared_without}
use Rattle.searches.specs.Comparison.{stands, turned}
use Rattle.searches.specs.Answer.{BothWays, Refuses, unbarred}
use Rattle.searches.specs.declared.Comparison.{Comparison}
use Rattle.searches.specs.declared.Kind.{Kind}
use Rattle.searches.specs.declared.Mark.{Mark}
use Rattle.searches.proofs.Run.{offered_in, offered_out}
use Rattle.searches.proofs.Refusals.{refuses_first}
use Rattle.searches.proofs.Level.{level_offered}
use Rattle.searches.proofs.Naming.{number_below, name_number, number_name, name_below, name_kept}
use Rattle.searches.proofs.Renumbered.{placed_same}
use Rattle.searches.proofs.Marks.{either_judge_barring}
use Rattle.searches.proofs.Comparing.{exactly_one, neither_mns, turned_round, level_itself}
use Rattle.traversal.specs.declared.Traversal.{Traversal}
use Rattle.traversal.specs.State.{state, plan, walk, in_service, well_formed, offers, offered_set}
use Rattle.traversal.specs.Compare.{compare_tests, Comparable, stance, told, refused, compare_answer}
use Rattle.traversal.proofs.WellFormed.{well_formed_out}
use Rattle.traversal.proofs.Answered.{offered_member}
use Rattle.traversal.proofs.Telling.{report_refused, told_stance, told_able, refused_tests, turned_able, tests_turned}

module _ (t : Traversal) where
  abbrev s : Search
  s = search_of t.kind.0

  -- the plan without the barred points, and v's label there after the walk
  abbrev kept : ℕ → Bool
  kept = unbarred t.barred

  abbrev arc' : ℕ → ℕ → Bool
  arc' = arcs_of t.n kept (arcs (plan t))

  abbrev n' : ℕ
  n' = in_service t

  abbrev w' : List ℕ
  w' = numbered kept (walk t)

  abbrev label_after : ℕ → ℕ → Bool
  label_after v = label arc' w' (number_of kept v)

  module _ (u v : ℕ) where
    -- ---- refusals

    -- 13, then 8, then 24, then 15, each on both points before the following one
    pub compare_order : map (λ (test : ℕ × Bool). test.0) (compare_tests t u v) ≡ 13 ∷ 8 ∷ 24 ∷ 15 ∷ []
    unfolding compare_tests
    compare_order = refl

    -- each refusal in its stated case and no other: the answer is refusal r exactly when r's test holds and no earlier one does
    pub compare_refuses : (r : ℕ) → (compare_answer t u v ≡ refused r) ↔ Refuses r (compare_tests t u v)
    compare_refuses r = (refused_tests t u v r, λ x. sym (report_refused t u v (sym (refuses_first (compare_tests t u v) r x))))

    -- ---- the answer

    -- an answer is told exactly where nothing is refused and it is the one of the four that holds of the two labels
    pub told_exactly : (x : Comparison) → (compare_answer t u v ≡ told x) ↔ (Comparable t u v × T (stands s t.k (label_after u) (label_after v) x))
    unfolding stance compared_without
    told_exactly x = (
      λ e. let both = told_able t u v x e in (both.0, (exactly_one s t.k (label_after u) (label_after v) x).1 both.1),
      λ both. told_stance t u v both.0 ∙ ap told ((exactly_one s t.k (label_after u) (label_after v) x).0 both.1),
    )

    -- 02: K6, neither comes with MNS alone
    pub neither_in_mns : compare_answer t u v ≡ told Comparison.Neither → s ≡ mns
    unfolding stance compared_without
    neither_in_mns e = neither_mns s t.k (label_after u) (label_after v) (told_able t u v Comparison.Neither e).1

    -- 02: K6, turning the two round turns ahead and behind,
    pub told_turned : (x : Comparison) → compare_answer t u v ≡ told x → compare_answer t v u ≡ told (turned x)
    unfolding stance compared_without
    told_turned x e =
        let both = told_able t u v x e in
        told_stance t v u (turned_able t u v both.0) ∙ ap told (turned_round s t.k (label_after u) (label_after v) ∙ ap turned both.1)

    -- and a refusal stays
    pub refused_turned : (r : ℕ) → compare_answer t u v ≡ refused r → compare_answer t v u ≡ refused r
    refused_turned r e =
        sym (report_refused t v u (sym (refuses_first (compare_tests t v u) r (subst (Refuses r) (tests_turned t u v) (refused_tests t u v r e)))))

  -- 02: K6, a point is level with itself
  pub compare_itself : (v : ℕ) → Comparable t v v → compare_answer t v v ≡ told Comparison.Level
  unfolding stance compared_without
  compare_itself v able = told_stance t v v able ∙ ap told (level_itself s t.k (label_after v))

  -- ---- and who is offered, of a state that can arrive: its arrays have 64 entries

  module _ (rows-full : length t.rows ≡ 64) (ordering-full : length t.ordering ≡ 64) where
    -- a vertex that may be compared is unplaced in the plan without the barred
    unplaced_there : (u v : ℕ) → Comparable t u v → (number_of kept u < n') × (T (placed w' t.k (number_of kept u)) → ⊥)
    unfolding in_service unbarred
    unplaced_there u v able =
        let x = well_formed_out t rows-full ordering-full able.formed in
        let stays : T (kept u) = not_T (member t.barred u) able.first_unbarred in
        let below = number_below kept t.n u able.first_vertex stays in (
          below,
          λ p. able.first_unplaced (subst (λ (b : Bool). T b)
              (placed_same t.n kept (walk t) t.k x.distinct x.stays t.k (omega arith) (number_of kept u) below
              ∙ ap (placed (walk t) t.k) (name_number kept t.n u able.first_vertex stays)) p),
        )

    -- who is offered there
    offered_there : (u v : ℕ) → Comparable t u v → member (offered_set t) u ≡ offered s arc' n' w' t.k (number_of kept u)
    unfolding offers offered_without in_service unbarred
    offered_there u v able =
        offered_member t able.formed u
        ∙ ap (λ (b : Bool). b && offered s arc' n' w' t.k (number_of kept u)) (is_true (kept u) (not_T (member t.barred u) able.first_unbarred))

    -- 02: K6, an unplaced point that is level with an offered one is offered
    pub level_with_offered : (u v : ℕ) → compare_answer t u v ≡ told Comparison.Level → T (member (offered_set t) v) → T (member (offered_set t) u)
    unfolding stands
    level_with_offered u v e o =
        let both = (told_exactly u v Comparison.Level).0 e in
        let able = both.0 in
        let there = unplaced_there u v able in
        subst (λ (b : Bool). T b) (sym (offered_there u v able))
        (level_offered s arc' n' w' t.k (number_of kept u) (number_of kept v) there.0 there.1 both.1
        (subst (λ (b : Bool). T b) (offered_there v u (turned_able t u v able)) o))

    -- an unplaced point is offered exactly when no comparison with another tells that it is behind
    pub offered_unless_behind : (u : ℕ) → Comparable t u u
        → T (member (offered_set t) u) ↔ ((v : ℕ) → compare_answer t u v ≡ told Comparison.Behind → ⊥)
    unfolding stands in_service unbarred
    offered_unless_behind u able = (
      λ o v e.
          let both = (told_exactly u v Comparison.Behind).0 e in
          let there = unplaced_there v u (turned_able t u v both.0) in
          (offered_out s arc' n' w' t.k (number_of kept u) (subst (λ (b : Bool). T b) (offered_there u u able) o)).unbeaten (number_of kept v)
          there.0 there.1 both.1,
      λ none.
          let there = unplaced_there u u able in
          subst (λ (b : Bool). T b) (sym (offered_there u u able)) (offered_in s arc' n' w' t.k (number_of kept u) (record {
            vertex = there.0;
            unplaced = there.1;
            unbeaten = λ c l free ahead. none (name_of t.n kept c) ((told_exactly u (name_of t.n kept c) Comparison.Behind).1 (
              with_named c l free,
              subst (λ (i : ℕ). T (outranks s t.k (label arc' w' i) (label_after u))) (sym (number_name kept t.n c l)) ahead,
            ));
          })),
    )
      where
        -- a vertex of the plan without the barred, by its name
        with_named : (c : ℕ) → c < n' → (T (placed w' t.k c) → ⊥) → Comparable t u (name_of t.n kept c)
        with_named c l free =
            let x = well_formed_out t rows-full ordering-full able.formed in
            record {
              formed = able.formed;
              first_vertex = able.first_vertex;
              second_vertex = name_below kept t.n c l;
              first_unbarred = able.first_unbarred;
              second_unbarred = T_not (member t.barred (name_of t.n kept c)) (name_kept kept t.n c l);
              first_unplaced = able.first_unplaced;
              second_unplaced = λ p.
                  free (subst (λ (b : Bool). T b) (sym (placed_same t.n kept (walk t) t.k x.distinct x.stays t.k (omega arith) c l)) p);
            }

-- ---- the mark

-- 02: K4, on a plan whose every link goes both ways the answer is the same under either mark
pub either_compare : (kind : Kind) (mark mark' : Mark) (n : ℕ) (rows : List ℕ) (barred k : ℕ) (ordering : List ℕ) → BothWays (take n rows) → (u v : ℕ)
    → compare_answer (state kind mark n rows barred k ordering) u v ≡ compare_answer (state kind mark' n rows barred k ordering) u v
unfolding compare_answer compare_tests stance well_formed plan walk
either_compare kind mark mark' n rows barred k ordering both u v = rw (either_judge_barring kind.0 mark mark' (take n rows) both barred (take k ordering))
