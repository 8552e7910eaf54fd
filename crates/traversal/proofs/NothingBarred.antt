-- With nothing barred the open walk answers as it did before there were barred vertices.
--   formed_none                      it is well formed where judge passes its walk on the whole plan, beside the other tests
--   service_none                     all n vertices are in service
--   offers_none, stance_none         who is offered, and how two stand to each other, in the whole plan
--   opened_none                      what open hands back
--   offered_none, place_none, compare_none   what offered, placing and comparing answer: their tests without 24
-- Taking back asks only whether the open walk is well formed and whether one is placed.
-- Assumes nothing.
use Prim.Native.Nat.{ℕ, ◌-◌, ◌<◌}
use mathlib.Core.Path.{◌≡◌, refl, sym, ap, ap₂, ◌∙◌, subst}
use mathlib.Core.Bool.{Bool, false, cond, not, ◌&&◌, ◌||◌}
use mathlib.Core.Logic.{◌⊎◌, inl, inr}
use mathlib.Core.List.{List, [], ◌∷◌, ◌++◌}
use mathlib.Core.Option.{Option, none, some}
use lib.Dec.{T, leb, eqb, nleb→lt, not_T}
use lib.ListN.{length, replicate}
use Rattle.bitset.specs.Word.{member, set_below}
use Rattle.bitset.proofs.Tests.{or_inl, or_inr, decided, not_not, cond_no}
use Rattle.bitset.proofs.Word.{member_zero}
use Rattle.searches.specs.Kind.{Search, search_of}
use Rattle.searches.specs.Ordering.{arcs, placed}
use Rattle.searches.specs.Label.{label}
use Rattle.searches.specs.Comparison.{compared}
use Rattle.searches.specs.Run.{offered}
use Rattle.searches.specs.Answer.{is_pass, first_refusal, judge_answer, open_answer, unbarred, judge_barring}
use Rattle.searches.specs.declared.Mark.{Mark}
use Rattle.searches.proofs.Refusals.{none_accepts, refuses_first}
use Rattle.searches.proofs.NoneBarred.{count_whole, offered_all}
use Rattle.searches.proofs.NothingBarred.{all_kept, open_none, judge_none}
use Rattle.searches.proofs.OfferedKept.{compared_kept}
use Rattle.lookup.specs.Unused.{used_from}
use Rattle.traversal.specs.declared.Traversal.{Traversal}
use Rattle.traversal.specs.State.{state, plan, walk, in_service, well_formed, offers, offered_set, unless_refused, nothing_open, opened, place_tests, place_answer}
use Rattle.traversal.specs.Compare.{compare_tests, stance, reported, compare_answer}
use Rattle.traversal.proofs.WellFormed.{well_formed_out}
use Rattle.traversal.proofs.Answered.{set_same_test}

pub opened_none : (kind : ℕ) (mark : Mark) (rows : List ℕ)
    → opened kind mark rows 0
    ≡ unless_refused (open_answer kind mark rows) (state (record { 0 = kind }) mark (length rows) (rows ++ replicate (64 - length rows) 0) 0 0 (replicate 64 0)) nothing_open
unfolding opened
opened_none kind mark rows =
    ap (λ (answer : Option ℕ). unless_refused answer (state (record { 0 = kind }) mark (length rows) (rows ++ replicate (64 - length rows) 0) 0 0 (replicate 64 0)) nothing_open)
    (open_none kind mark rows)

module _ (t : Traversal) (empty : t.barred ≡ 0) where
  abbrev s : Search
  s = search_of t.kind.0

  pub formed_none : well_formed t
      ≡ (leb t.n 64 && leb t.k t.n && not (used_from t.n t.rows) && not (used_from t.k t.ordering)
      && is_pass (judge_answer t.kind.0 t.mark (plan t) (walk t)))
  unfolding well_formed
  formed_none =
      ap (λ (b : Bool). leb t.n 64 && leb t.k t.n && not (used_from t.n t.rows) && not (used_from t.k t.ordering) && b)
      (ap is_pass (ap (λ (barred : ℕ). judge_barring t.kind.0 t.mark (plan t) barred (walk t)) empty ∙ judge_none t.kind.0 t.mark (plan t) (walk t)))

  kept_all : (v : ℕ) → v < t.n → T (unbarred t.barred v)
  kept_all v l = subst (λ (barred : ℕ). T (unbarred barred v)) (sym empty) (all_kept t.n v l)

  pub service_none : in_service t ≡ t.n
  unfolding in_service
  service_none = count_whole t.n (unbarred t.barred) kept_all

  not_barred : (v : ℕ) → member t.barred v ≡ false
  not_barred v = ap (λ (barred : ℕ). member barred v) empty ∙ member_zero v

  -- of a state that can arrive: its arrays have 64 entries
  module _ (rows-full : length t.rows ≡ 64) (ordering-full : length t.ordering ≡ 64) where
    abbrev there : ℕ → Bool
    there = offered s (arcs (plan t)) t.n (walk t) t.k

    abbrev label_of : ℕ → ℕ → Bool
    label_of = label (arcs (plan t)) (walk t)

    pub offers_none : T (well_formed t) → (v : ℕ) → offers t v ≡ there v
    unfolding offers
    offers_none formed v =
        let x = well_formed_out t rows-full ordering-full formed in
        offered_all s (arcs (plan t)) t.n (unbarred t.barred) kept_all (walk t) t.k x.distinct v

    pub stance_none : T (well_formed t) → (u v : ℕ) → u < t.n → v < t.n → stance t u v ≡ compared s t.k (label_of u) (label_of v)
    unfolding stance
    stance_none formed u v l h =
        let x = well_formed_out t rows-full ordering-full formed in
        compared_kept s (arcs (plan t)) t.n (unbarred t.barred) (walk t) t.k x.distinct x.stays u v l h (kept_all u l) (kept_all v h)

    pub offered_none : offered_set t ≡ cond (well_formed t) (set_below t.n there) 0
    unfolding offered_set
    offered_none = go (decided (well_formed t))
      where
        go : T (well_formed t) ⊎ (T (well_formed t) → ⊥) → cond (well_formed t) (set_below t.n (offers t)) 0 ≡ cond (well_formed t) (set_below t.n there) 0
        go (inl formed) = ap (λ (set : ℕ). cond (well_formed t) set 0) (set_same_test t.n (offers t) there (offers_none formed))
        go (inr out) = cond_no (well_formed t) (set_below t.n (offers t)) 0 out ∙ sym (cond_no (well_formed t) (set_below t.n there) 0 out)

    abbrev place_before : ℕ → List (ℕ × Bool)
    place_before v =
        (13, not (well_formed t)) ∷ (14, eqb t.k t.n) ∷ (8, leb t.n v) ∷ (15, placed (walk t) t.k v) ∷ (16, not (there v)) ∷ []

    pub place_none : (v : ℕ) → place_answer t v ≡ first_refusal (place_before v)
    unfolding place_answer place_tests first_refusal
    place_none v = go (decided (well_formed t))
      where
        tests : Bool → Bool → Bool → Option ℕ
        tests full named offers-it =
            first_refusal ((13, not (well_formed t)) ∷ (14, full) ∷ (8, leb t.n v) ∷ (24, named) ∷ (15, placed (walk t) t.k v) ∷ (16, not offers-it) ∷ [])

        go : T (well_formed t) ⊎ (T (well_formed t) → ⊥) → tests (eqb t.k (in_service t)) (member t.barred v) (offers t v) ≡ first_refusal (place_before v)
        go (inl formed) =
            ap₂ (λ (full named : Bool). tests full named (offers t v)) (ap (λ (m : ℕ). eqb t.k m) service_none) (not_barred v)
            ∙ ap (tests (eqb t.k t.n) false) (offers_none formed v)
        go (inr out) =
            refuses_first ((13, not (well_formed t)) ∷ (14, eqb t.k (in_service t)) ∷ (8, leb t.n v) ∷ (24, member t.barred v) ∷ (15, placed (walk t) t.k v) ∷ (16, not (offers t v)) ∷ []) 13
            (inl (refl, not_T (well_formed t) out)) ∙ sym (refuses_first (place_before v) 13 (inl (refl, not_T (well_formed t) out)))

    abbrev compare_before : ℕ → ℕ → List (ℕ × Bool)
    compare_before u v =
        (13, not (well_formed t)) ∷ (8, leb t.n u || leb t.n v) ∷ (15, placed (walk t) t.k u || placed (walk t) t.k v) ∷ []

    pub compare_none : (u v : ℕ) → compare_answer t u v ≡ reported (first_refusal (compare_before u v)) (compared s t.k (label_of u) (label_of v))
    unfolding compare_answer compare_tests first_refusal reported
    compare_none u v =
        ap (λ (b : Bool). reported (tests b) (stance t u v)) (ap₂ (λ (a b : Bool). a || b) (not_barred u) (not_barred v)) ∙ go (first_refusal (compare_before u v)) refl
      where
        tests : Bool → Option ℕ
        tests named = first_refusal ((13, not (well_formed t)) ∷ (8, leb t.n u || leb t.n v) ∷ (24, named) ∷ (15, placed (walk t) t.k u || placed (walk t) t.k v) ∷ [])

        go : (answer : Option ℕ) → first_refusal (compare_before u v) ≡ answer → reported answer (stance t u v) ≡ reported answer (compared s t.k (label_of u) (label_of v))
        go none e =
            let a = none_accepts (compare_before u v) e in
            ap (reported none) (stance_none (not_not (well_formed t) (not_T (not (well_formed t)) a.0)) u v
            (nleb→lt t.n u (not_T (leb t.n u) (λ x. a.1.0 (or_inl (leb t.n u) (leb t.n v) x))))
            (nleb→lt t.n v (not_T (leb t.n v) (λ x. a.1.0 (or_inr (leb t.n u) (leb t.n v) x)))))
        go (some r) e = refl
