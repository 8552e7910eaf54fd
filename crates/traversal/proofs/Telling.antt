-- What comparing two vertices answers, from its tests.
--   report_refused, report_told      a refusal where a test holds, else how the two stand
--   comparable_out, comparable_in    nothing is refused exactly where every condition holds
--   told_stance, told_able           how the two stand is told exactly where nothing is refused;   refused_tests   and a refusal where its test holds
--   turned_able, tests_turned        the two turned round
-- Assumes nothing.
use Prim.Native.Nat.{ℕ}
use mathlib.Core.Path.{◌≡◌, sym, ap, ap₂, ◌∙◌, subst}
use mathlib.Core.Bool.{Bool, not, ◌||◌, or_comm}
use mathlib.Core.Logic.{◌⊎◌, inl, inr, ⊎_elim}
use mathlib.Core.List.{List, [], ◌∷◌}
use mathlib.Core.Option.{Option, none, some}
use native.Mathlib.Omega.{arith}
use lib.Dec.{leb, leb→le, nleb→lt, not_T, T_not}
use Rattle.bitset.specs.Word.{member}
use Rattle.bitset.proofs.Tests.{or_inl, or_inr, or_out, not_not}
use Rattle.searches.specs.Ordering.{placed}
use Rattle.searches.specs.Answer.{first_refusal, Accepts, Refuses}
use Rattle.searches.specs.declared.Comparison.{Comparison}
use Rattle.searches.proofs.Refusals.{refuses_first, accepts_or_refuses, accepts_none}
use Rattle.traversal.specs.declared.Traversal.{Traversal}
use Rattle.traversal.specs.State.{walk, well_formed}
use Rattle.traversal.specs.Compare.{compare_tests, Comparable, stance, told, refused, reported, compare_answer}

module _ (t : Traversal) (u v : ℕ) where
  abbrev tests : List (ℕ × Bool)
  tests = compare_tests t u v

  pub report_refused : {r : ℕ} → some r ≡ first_refusal tests → refused r ≡ compare_answer t u v
  unfolding compare_answer reported
  report_refused e = ap (λ (refusal : Option ℕ). reported refusal (stance t u v)) e

  pub report_told : none ≡ first_refusal tests → told (stance t u v) ≡ compare_answer t u v
  unfolding compare_answer reported
  report_told e = ap (λ (refusal : Option ℕ). reported refusal (stance t u v)) e

  comparable_out : Accepts tests → Comparable t u v
  unfolding compare_tests
  comparable_out a = record {
    formed = not_not (well_formed t) (not_T (not (well_formed t)) a.0);
    first_vertex = nleb→lt t.n u (not_T (leb t.n u) (λ x. a.1.0 (or_inl (leb t.n u) (leb t.n v) x)));
    second_vertex = nleb→lt t.n v (not_T (leb t.n v) (λ x. a.1.0 (or_inr (leb t.n u) (leb t.n v) x)));
    first_unbarred = λ x. a.1.1.0 (or_inl (member t.barred u) (member t.barred v) x);
    second_unbarred = λ x. a.1.1.0 (or_inr (member t.barred u) (member t.barred v) x);
    first_unplaced = λ x. a.1.1.1.0 (or_inl (placed (walk t) t.k u) (placed (walk t) t.k v) x);
    second_unplaced = λ x. a.1.1.1.0 (or_inr (placed (walk t) t.k u) (placed (walk t) t.k v) x);
  }

  comparable_in : Comparable t u v → Accepts tests
  unfolding compare_tests
  comparable_in able = (
    λ x. T_not (well_formed t) x able.formed,
    (
      λ x. ⊎_elim (λ h. absurd (omega (arith, leb→le t.n u h, able.first_vertex))) (λ h. absurd (omega (arith, leb→le t.n v h, able.second_vertex)))
          (or_out (leb t.n u) (leb t.n v) x),
      (
        λ x. ⊎_elim able.first_unbarred able.second_unbarred (or_out (member t.barred u) (member t.barred v) x),
        (λ x. ⊎_elim able.first_unplaced able.second_unplaced (or_out (placed (walk t) t.k u) (placed (walk t) t.k v) x), tt),
      ),
    ),
  )

  pub told_stance : Comparable t u v → compare_answer t u v ≡ told (stance t u v)
  told_stance able = sym (report_told (sym (accepts_none tests (comparable_in able))))

  pub told_able : (x : Comparison) → compare_answer t u v ≡ told x → Comparable t u v × (stance t u v ≡ x)
  told_able x e = go (accepts_or_refuses tests)
    where
      go : Accepts tests ⊎ ((q : ℕ) × Refuses q tests) → Comparable t u v × (stance t u v ≡ x)
      go (inl a) = let able = comparable_out a in (able, cc (e, told_stance able))
      go (inr r) = let clash : ◌≡◌ {A = ℕ} 0 1 = cc (e, report_refused (sym (refuses_first tests r.0 r.1))) in absurd (omega arith)

  pub refused_tests : (r : ℕ) → compare_answer t u v ≡ refused r → Refuses r tests
  refused_tests r e = go (accepts_or_refuses tests)
    where
      go : Accepts tests ⊎ ((q : ℕ) × Refuses q tests) → Refuses r tests
      go (inl a) = let clash : ◌≡◌ {A = ℕ} 0 1 = cc (e, told_stance (comparable_out a)) in absurd (omega arith)
      go (inr x) =
          let same : x.0 ≡ r = cc (e, report_refused (sym (refuses_first tests x.0 x.1))) in
          subst (λ (q : ℕ). Refuses q tests) same x.1

  -- ---- the two turned round

  pub turned_able : Comparable t u v → Comparable t v u
  turned_able able = record {
    formed = able.formed;
    first_vertex = able.second_vertex;
    second_vertex = able.first_vertex;
    first_unbarred = able.second_unbarred;
    second_unbarred = able.first_unbarred;
    first_unplaced = able.second_unplaced;
    second_unplaced = able.first_unplaced;
  }

  pub tests_turned : compare_tests t u v ≡ compare_tests t v u
  unfolding compare_tests
  tests_turned =
      ap₂ (λ (outside taken : Bool). (13, not (well_formed t)) ∷ (8, outside) ∷ (24, member t.barred u || member t.barred v) ∷ (15, taken) ∷ [])
      (or_comm (leb t.n u) (leb t.n v)) (or_comm (placed (walk t) t.k u) (placed (walk t) t.k v))
      ∙ ap (λ (named : Bool). (13, not (well_formed t)) ∷ (8, leb t.n v || leb t.n u) ∷ (24, named) ∷ (15, placed (walk t) t.k v || placed (walk t) t.k u) ∷ [])
      (or_comm (member t.barred u) (member t.barred v))
