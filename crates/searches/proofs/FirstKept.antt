-- The triple that is shown, in the whole graph: the first among the violations whose third vertex is kept.
--   violation_named, violation_numbered   the violations of the graph without some vertices are those of the whole graph whose c is kept
--   rank_rises                            and the names of two candidates for c come in the order of the two
--   first_kept                            so its first violation, named, is the first of these;   fails_kept   which is shown
-- Assumes nothing.
use mathlib.Core.Path.{◌≡◌, sym, ap, ◌∙◌, subst}
use mathlib.Core.Bool.{Bool}
use mathlib.Core.Logic.{◌⊎◌, inl, inr}
use mathlib.Core.List.{List}
use Prim.Native.Nat.{ℕ, ◌+◌, ◌<◌}
use native.Mathlib.Omega.{arith}
use lib.Dec.{T}
use Rattle.bitset.specs.Below.{count_below}
use Rattle.bitset.proofs.Tests.{decided}
use Rattle.searches.specs.Kind.{Search}
use Rattle.searches.specs.Ordering.{at, placed}
use Rattle.searches.specs.Violation.{violates, Violates, rank, Precedes, FirstViolation, fails}
use Rattle.searches.specs.Without.{number_of, name_of, numbered, arcs_of, IsKeptOrdering, judge_without, FirstKept}
use Rattle.searches.proofs.Ordering.{same_position}
use Rattle.searches.proofs.Violations.{violates_in_lem, violates_out}
use Rattle.searches.proofs.Judge.{rank_placed, rank_unplaced}
use Rattle.searches.proofs.Naming.{number_below, name_below, name_kept, name_number, name_rises}
use Rattle.searches.proofs.Renumbered.{named_at, placed_same}
use Rattle.searches.proofs.JudgeKept.{violates_same}
use Rattle.searches.proofs.ComesBack.{fails_named}

module _ (s : Search) (arc : ℕ → ℕ → Bool) (n : ℕ) (kept : ℕ → Bool) (w : List ℕ) (k : ℕ) (x : IsKeptOrdering n kept w k) where
  abbrev n' : ℕ
  n' = count_below n kept

  abbrev arc' : ℕ → ℕ → Bool
  arc' = arcs_of n kept arc

  abbrev w' : List ℕ
  w' = numbered kept w

  abbrev name : ℕ → ℕ
  name = name_of n kept

  -- ---- the same violations

  same : (i j c : ℕ) → i < j → j < k → c < n' → violates s arc' w' i j c ≡ violates s arc w i j (name c)
  same = violates_same s arc n kept w k x.ordering x.stays

  pub violation_named : {i j c : ℕ} → Violates s arc' n' w' k i j c → Violates s arc n w k i j (name c)
  violation_named {i} {j} {c} v =
      violates_out s arc w i j (name c) n k v.before v.middle (name_below kept n c v.vertex)
      (subst (λ (b : Bool). T b) (same i j c v.before v.middle v.vertex) (violates_in_lem s arc' w' i j c v))

  pub violation_numbered : {i j c : ℕ} → T (kept c) → Violates s arc n w k i j c → Violates s arc' n' w' k i j (number_of kept c)
  violation_numbered {i} {j} {c} t v =
      let l : number_of kept c < n' = number_below kept n c v.vertex t in
      violates_out s arc' w' i j (number_of kept c) n' k v.before v.middle l
      (subst (λ (b : Bool). T b) (sym (same i j (number_of kept c) v.before v.middle l))
      (subst (λ (u : ℕ). T (violates s arc w i j u)) (sym (name_number kept n c v.vertex t)) (violates_in_lem s arc w i j c v)))

  -- ---- in the same order

  -- a placed vertex has its position for rank by its number and by its name; an unplaced one comes after all positions
  abbrev Ranked : ℕ → Type 0
  Ranked c = ((rank w' k c < k) × (rank w k (name c) ≡ rank w' k c)) ⊎ ((rank w' k c ≡ k + c) × (rank w k (name c) ≡ k + name c))

  ranked : (c : ℕ) → c < n' → Ranked c
  ranked c l = go (decided (placed w' k c))
    where
      placed_too : placed w' k c ≡ placed w k (name c)
      placed_too = placed_same n kept w k x.ordering x.stays k (omega arith) c l

      go : T (placed w' k c) ⊎ (T (placed w' k c) → ⊥) → Ranked c
      go (inl t) =
          let number = rank_placed w' k c t in
          let named = rank_placed w k (name c) (subst (λ (b : Bool). T b) placed_too t) in
          inl (
            number.0,
            same_position n x.ordering (rank w k (name c)) (rank w' k c) named.0 number.0
                (named.1 ∙ sym (ap name number.1) ∙ named_at n kept w k x.ordering x.stays (rank w' k c) number.0),
          )
      go (inr out) = inr (rank_unplaced w' k c out, rank_unplaced w k (name c) (λ t. out (subst (λ (b : Bool). T b) (sym placed_too) t)))

  rank_rises : (c d : ℕ) → c < n' → d < n' → rank w' k c < rank w' k d → rank w k (name c) < rank w k (name d)
  rank_rises c d l h less = go (ranked c l) (ranked d h)
    where
      go : Ranked c → Ranked d → rank w k (name c) < rank w k (name d)
      go (inl a) (inl b) = omega (arith, a.1, b.1)
      go (inl a) (inr b) = omega (arith, a.0, a.1, b.1)
      go (inr a) (inl b) = absurd (omega (arith, a.0, b.0))
      go (inr a) (inr b) = let up = name_rises kept n c d (omega (arith, a.0, b.0)) h in omega (arith, a.1, b.1)

  -- ---- the first

  pub first_kept : {a b c : ℕ} → FirstViolation s arc' n' w' k a b c → FirstKept s arc n kept w k (name a) (name b) (name c)
  first_kept {a} {b} {c} f = record {
    i = f.i;
    j = f.j;
    is = violation_named f.is;
    stays = name_kept kept n c f.is.vertex;
    a_stands = stands f.i a (omega (arith, f.is.before, f.is.middle)) f.a_stands;
    b_stands = stands f.j b f.is.middle f.b_stands;
    others_later = λ i' j' c' v t.
        later (name_number kept n c' v.vertex t) (number_below kept n c' v.vertex t) (f.others_later i' j' (number_of kept c') (violation_numbered t v));
  }
    where
      stands : (p v : ℕ) → p < k → at w' p ≡ v → at w p ≡ name v
      stands p v l e = sym (named_at n kept w k x.ordering x.stays p l) ∙ ap name e

      later : {i' j' c' : ℕ} → name (number_of kept c') ≡ c' → number_of kept c' < n'
          → ((i' ≡ f.i) × (j' ≡ f.j) × (number_of kept c' ≡ c)) ⊎ Precedes w' k f.i f.j c i' j' (number_of kept c')
          → ((i' ≡ f.i) × (j' ≡ f.j) × (c' ≡ name c)) ⊎ Precedes w k f.i f.j (name c) i' j' c'
      later e l (inl y) = inl (y.0, y.1, sym e ∙ ap name y.2)
      later e l (inr (inl y)) = inr (inl y)
      later e l (inr (inr (p, inl y))) = inr (inr (p, inl y))
      later {i'} {j'} {c'} e l (inr (inr (p, inr (q, y)))) =
          inr (inr (p, inr (q, subst (λ (u : ℕ). rank w k (name c) < rank w k u) e (rank_rises c (number_of kept c') f.is.vertex l y))))

  pub fails_kept : (a b c : ℕ) → judge_without s arc n kept w k ≡ fails a b c → FirstKept s arc n kept w k a b c
  fails_kept a b c e =
      let y = fails_named s arc n kept w k x.ordering x.stays a b c e in
      subst (λ (v : ℕ). FirstKept s arc n kept w k a b v) y.c_named
      (subst (λ (v : ℕ). FirstKept s arc n kept w k a v (name y.number_c)) y.b_named
      (subst (λ (v : ℕ). FirstKept s arc n kept w k v (name y.number_b) (name y.number_c)) y.a_named (first_kept y.first)))
