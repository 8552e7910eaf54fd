-- Offered in the graph without some vertices is offered among the kept ones of the whole graph, and two kept ones compare as they do there.
--   outranks_same, level_same, compared_same   equal labels compare equally
--   label_same                                 a label in the graph without some vertices is that of the vertex named
--   offered_kept_lem, compared_kept
--   offered_kept_out                            who is offered among the kept is kept, a vertex, and not placed
-- Assumes nothing.
use mathlib.Core.Path.{◌≡◌, refl, sym, ap, ap₂, ◌∙◌, subst}
use mathlib.Core.Bool.{Bool, false, not, ◌&&◌}
use mathlib.Core.Logic.{◌⊎◌, inl, inr}
use mathlib.Core.List.{List}
use Prim.Native.Nat.{ℕ, ◌≤◌, ◌<◌}
use native.Mathlib.Omega.{arith}
use lib.Dec.{T, ltb, lt→ltb, ltb→lt, T_not}
use Rattle.bitset.specs.Below.{any_below, count_below}
use Rattle.bitset.proofs.Tests.{and_out, and_same, same_test, is_true, is_false, below_or}
use Rattle.searches.specs.Kind.{Search}
use Rattle.searches.specs.Ordering.{at, placed, IsOrdering}
use Rattle.searches.specs.Label.{label, outranks}
use Rattle.searches.specs.Comparison.{alike, level, told_by, compared}
use Rattle.searches.specs.Run.{offered}
use Rattle.searches.specs.Violation.{condition}
use Rattle.searches.proofs.Reason.{meets_in, meets_out, meets_same, outranks→reason, reason→outranks}
use Rattle.searches.proofs.Level.{alike_in, alike_sym, alike_level, level_trans}
use Rattle.searches.specs.Without.{number_of, name_of, numbered, arcs_of, offered_without, compared_without}
use Rattle.searches.proofs.Kept.{offered_kept}
use Rattle.searches.proofs.RisingMap.{RisingMap, any_along}
use Rattle.searches.proofs.Naming.{number_beyond, number_below, name_number, name_below, name_kept, name_rises}
use Rattle.searches.proofs.Renumbered.{placed_same}
use Rattle.searches.proofs.JudgeKept.{arc_same}

module _ (s : Search) (k : ℕ) where
  outranks_forth : (c b c' b' : ℕ → Bool) → ((p : ℕ) → p < k → c p ≡ c' p) → ((p : ℕ) → p < k → b p ≡ b' p) → T (outranks s k c b) → T (outranks s k c' b')
  outranks_forth c b c' b' c_same b_same t =
      let r = outranks→reason k c b s t in
      reason→outranks k c' b' s (record {
        position = r.position;
        below = r.below;
        ours = subst (λ (x : Bool). T x) (c_same r.position r.below) r.ours;
        theirs = λ p. r.theirs (subst (λ (x : Bool). T x) (sym (b_same r.position r.below)) p);
        unexcused =
            let own = condition s r.position in
            meets_out k c' b' own (subst (λ (x : Bool). T x) (meets_same k c b c' b' c_same b_same own) (meets_in k c b own r.unexcused));
      })

  pub outranks_same : (c b c' b' : ℕ → Bool) → ((p : ℕ) → p < k → c p ≡ c' p) → ((p : ℕ) → p < k → b p ≡ b' p) → outranks s k c b ≡ outranks s k c' b'
  outranks_same c b c' b' c_same b_same =
      same_test (outranks s k c b) (outranks s k c' b') (outranks_forth c b c' b' c_same b_same)
      (outranks_forth c' b' c b (λ p l. sym (c_same p l)) (λ p l. sym (b_same p l)))

  level_forth : (c b c' b' : ℕ → Bool) → T (alike k c' c) → T (alike k b b') → T (level s k c b) → T (level s k c' b')
  level_forth c b c' b' c_same b_same t = level_trans s k c' c b' (alike_level s k c' c c_same) (level_trans s k c b b' t (alike_level s k b b' b_same))

  level_same : (c b c' b' : ℕ → Bool) → ((p : ℕ) → p < k → c p ≡ c' p) → ((p : ℕ) → p < k → b p ≡ b' p) → level s k c b ≡ level s k c' b'
  level_same c b c' b' c_same b_same =
      let ours : T (alike k c c') = alike_in k c c' c_same in
      let theirs : T (alike k b b') = alike_in k b b' b_same in
      same_test (level s k c b) (level s k c' b') (level_forth c b c' b' (alike_sym k c c' ours) theirs)
      (level_forth c' b' c b ours (alike_sym k b b' theirs))

  pub compared_same : (c b c' b' : ℕ → Bool) → ((p : ℕ) → p < k → c p ≡ c' p) → ((p : ℕ) → p < k → b p ≡ b' p) → compared s k c b ≡ compared s k c' b'
  unfolding compared
  compared_same c b c' b' c_same b_same =
      ap₂ (λ (x y : Bool). told_by x y (level s k c b)) (outranks_same c b c' b' c_same b_same) (outranks_same b c b' c' b_same c_same)
      ∙ ap (told_by (outranks s k c' b') (outranks s k b' c')) (level_same c b c' b' c_same b_same)

module _ (s : Search) (arc : ℕ → ℕ → Bool) (n : ℕ) (kept : ℕ → Bool) (w : List ℕ) (k : ℕ) (o : IsOrdering n w k) (stays : (p : ℕ) → p < k → T (kept (at w p))) where
  abbrev n' : ℕ
  n' = count_below n kept

  abbrev arc' : ℕ → ℕ → Bool
  arc' = arcs_of n kept arc

  abbrev w' : List ℕ
  w' = numbered kept w

  abbrev name : ℕ → ℕ
  name = name_of n kept

  pub label_same : (c v : ℕ) → name c ≡ v → (p : ℕ) → p < k → label arc' w' c p ≡ label arc w v p
  unfolding label
  label_same c v e p l = arc_same s arc n kept w k o stays p c l ∙ ap (λ (x : ℕ). arc (at w p) x) e

  ahead : (ℕ → ℕ → Bool) → List ℕ → ℕ → ℕ → Bool
  ahead g x v u = not (placed x k u) && outranks s k (label g x u) (label g x v)

  beaten_along : (v : ℕ) → v < n → T (kept v) → RisingMap n n' name (λ u. kept u && ahead arc w v u) (ahead arc' w' (number_of kept v))
  unfolding ahead
  beaten_along v l t = record {
    inside = name_below kept n;
    rises = name_rises kept n;
    same = λ c g.
        ap₂ (λ (a b : Bool). not a && b) (placed_same n kept w k o stays k (omega arith) c g)
        (outranks_same s k (label arc' w' c) (label arc' w' (number_of kept v)) (label arc w (name c)) (label arc w v)
        (label_same c (name c) refl) (label_same (number_of kept v) v (name_number kept n v l t)))
        ∙ sym (ap (λ (b : Bool). b && ahead arc w v (name c)) (is_true (kept (name c)) (name_kept kept n c g)));
    met = λ u g x.
        let h = (and_out (kept u) (ahead arc w v u) x).0 in
        (number_of kept u, number_below kept n u g h, name_number kept n u g h);
  }

  pub offered_kept_lem : (v : ℕ) → offered_without s arc n kept w k v ≡ offered_kept s arc n kept w k v
  unfolding offered_without offered offered_kept ahead
  offered_kept_lem v = and_same (kept v) _ _ (λ t. go t (below_or v n))
    where
      i : ℕ
      i = number_of kept v

      go : T (kept v) → (v < n) ⊎ (n ≤ v)
          → (ltb i n' && not (placed w' k i) && not (any_below n' (ahead arc' w' i)))
          ≡ (ltb v n && not (placed w k v) && not (any_below n (λ u. kept u && ahead arc w v u)))
      go t (inl l) =
          let h : i < n' = number_below kept n v l t in
          let a : ltb i n' ≡ ltb v n = is_true (ltb i n') (lt→ltb i n' h) ∙ sym (is_true (ltb v n) (lt→ltb v n l)) in
          let b : placed w' k i ≡ placed w k v = placed_same n kept w k o stays k (omega arith) i h ∙ ap (placed w k) (name_number kept n v l t) in
          let c : any_below n (λ u. kept u && ahead arc w v u) ≡ any_below n' (ahead arc' w' i) = any_along (beaten_along v l t) in
          cc
      go t (inr l) =
          let out : ltb i n' ≡ false = is_false (ltb i n') (λ x. omega (arith, ltb→lt i n' x, number_beyond kept n v l)) in
          let out' : ltb v n ≡ false = is_false (ltb v n) (λ x. omega (arith, ltb→lt v n x)) in
          ap (λ (b : Bool). b && not (placed w' k i) && not (any_below n' (ahead arc' w' i))) out
          ∙ sym (ap (λ (b : Bool). b && not (placed w k v) && not (any_below n (λ u. kept u && ahead arc w v u))) out')

  pub compared_kept : (u v : ℕ) → u < n → v < n → T (kept u) → T (kept v) → compared_without s arc n kept w k u v ≡ compared s k (label arc w u) (label arc w v)
  unfolding compared_without
  compared_kept u v l h t y =
      compared_same s k (label arc' w' (number_of kept u)) (label arc' w' (number_of kept v)) (label arc w u) (label arc w v)
      (label_same (number_of kept u) u (name_number kept n u l t)) (label_same (number_of kept v) v (name_number kept n v h y))

module _ (s : Search) (arc : ℕ → ℕ → Bool) (n : ℕ) (kept : ℕ → Bool) (w : List ℕ) (k : ℕ) where
  pub offered_kept_out : (v : ℕ) → T (offered_kept s arc n kept w k v) → T (kept v) × (v < n) × (T (placed w k v) → ⊥)
  unfolding offered_kept
  offered_kept_out v t =
      let beaten = any_below n (λ u. kept u && (not (placed w k u) && outranks s k (label arc w u) (label arc w v))) in
      let outer = and_out (kept v) (ltb v n && not (placed w k v) && not beaten) t in
      let inner = and_out (ltb v n) (not (placed w k v)) (and_out (ltb v n && not (placed w k v)) (not beaten) outer.1).0 in
      (outer.0, ltb→lt v n inner.0, T_not (placed w k v) inner.1)
