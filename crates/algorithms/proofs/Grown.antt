-- One vertex more: what is numbered, and which positions are in a label, before and after v is numbered behind w.
--   none_numbered; free_in, free_out                with nothing numbered, nobody is; free: an unnumbered vertex
--   numbered_before, numbered_now, numbered_after   with v numbered, u is if it was before, or is v
--   awaits_in, awaits_out                           awaits: v leads to u, which stays unnumbered
--   label_same, label_now                           labels keep their positions; length w is a new one where v leads to u
--   reached_after, reached_now, reached_before      who has a position in the label
--   ahead_already                                   who is ahead by an old position was ahead before, in a search that goes by excuses
-- Assumes nothing.
use mathlib.Core.Path.{◌≡◌, sym, ap, ◌∙◌, subst}
use mathlib.Core.Bool.{Bool, not}
use mathlib.Core.Logic.{◌⊎◌, inl, inr}
use mathlib.Core.List.{List, [], ◌∷◌, ◌++◌}
use Prim.Native.Nat.{ℕ, suc, ◌<◌}
use native.Mathlib.Omega.{arith}
use lib.Dec.{T, ltb, ltb→lt, lt→ltb, not_T, T_not}
use lib.ListN.{length}
use Rattle.bitset.proofs.Tests.{and_in, and_out, below_suc}
use Rattle.bitset.proofs.Below.{Some}
use Rattle.searches.specs.Ordering.{at}
use Rattle.searches.specs.Label.{label}
use Rattle.searches.specs.Violation.{none_excuses}
use Rattle.searches.proofs.Reason.{Reason}
use Rattle.searches.proofs.Ordering.{placed_in, placed_out, length_grown, grown_agree, grown_last}
use Rattle.algorithms.specs.Algorithm.{numbered, awaits}
use Rattle.algorithms.specs.Following.{free}

pub none_numbered : (u : ℕ) → T (numbered [] u) → ⊥
none_numbered u t = let p = placed_out [] 0 u t in omega (arith, p.1)

pub free_in : (n : ℕ) (w : List ℕ) (v : ℕ) → v < n → (T (numbered w v) → ⊥) → T (free n w v)
unfolding free
free_in n w v l out = and_in (ltb v n) (not (numbered w v)) (lt→ltb v n l) (not_T (numbered w v) out)

pub free_out : (n : ℕ) (w : List ℕ) (v : ℕ) → T (free n w v) → (v < n) × (T (numbered w v) → ⊥)
unfolding free
free_out n w v t = let both = and_out (ltb v n) (not (numbered w v)) t in (ltb→lt v n both.0, T_not (numbered w v) both.1)

module _ (w : List ℕ) (v : ℕ) where
  pub numbered_before : (u : ℕ) → T (numbered w u) → T (numbered (w ++ v ∷ []) u)
  numbered_before u t =
      let s = placed_out w (length w) u t in
      placed_in (w ++ v ∷ []) (length (w ++ v ∷ [])) u s.0 (omega (arith, s.1, length_grown w v)) (grown_agree w v s.0 s.1 ∙ s.2)

  pub numbered_now : (u : ℕ) → v ≡ u → T (numbered (w ++ v ∷ []) u)
  numbered_now u e = placed_in (w ++ v ∷ []) (length (w ++ v ∷ [])) u (length w) (omega (arith, length_grown w v)) (grown_last w v ∙ e)

  pub numbered_after : (u : ℕ) → T (numbered (w ++ v ∷ []) u) → T (numbered w u) ⊎ (v ≡ u)
  numbered_after u t = let s = placed_out (w ++ v ∷ []) (length (w ++ v ∷ [])) u t in
      go s.0 s.2 (below_suc (length w) s.0 (omega (arith, s.1, length_grown w v)))
    where
      go : (p : ℕ) → at (w ++ v ∷ []) p ≡ u → (p < length w) ⊎ (p ≡ length w) → T (numbered w u) ⊎ (v ≡ u)
      go p e (inl l) = inl (placed_in w (length w) u p l (sym (grown_agree w v p l) ∙ e))
      go p e (inr same) = inr (sym (grown_last w v) ∙ ap (λ (q : ℕ). at (w ++ v ∷ []) q) (sym same) ∙ e)

  module _ (arc : ℕ → ℕ → Bool) (u : ℕ) where
    pub awaits_in : T (arc v u) → (T (numbered (w ++ v ∷ []) u) → ⊥) → T (awaits arc w v u)
    unfolding awaits
    awaits_in t out = and_in (arc v u) (not (numbered (w ++ v ∷ []) u)) t (not_T (numbered (w ++ v ∷ []) u) out)

    pub awaits_out : T (awaits arc w v u) → T (arc v u) × (T (numbered (w ++ v ∷ []) u) → ⊥)
    unfolding awaits
    awaits_out t = let both = and_out (arc v u) (not (numbered (w ++ v ∷ []) u)) t in (both.0, T_not (numbered (w ++ v ∷ []) u) both.1)

    pub label_same : (p : ℕ) → p < length w → label arc (w ++ v ∷ []) u p ≡ label arc w u p
    unfolding label
    label_same p l = ap (λ (x : ℕ). arc x u) (grown_agree w v p l)

    pub label_now : label arc (w ++ v ∷ []) u (length w) ≡ arc v u
    unfolding label
    label_now = ap (λ (x : ℕ). arc x u) (grown_last w v)

    -- who is reached, now or before
    pub reached_after : Some (length w) (label arc w u) → Some (length (w ++ v ∷ [])) (label arc (w ++ v ∷ []) u)
    reached_after s = record {
      at = s.at;
      below = omega (arith, s.below, length_grown w v);
      holds = subst (λ (b : Bool). T b) (sym (label_same s.at s.below)) s.holds;
    }

    pub reached_now : T (arc v u) → Some (length (w ++ v ∷ [])) (label arc (w ++ v ∷ []) u)
    reached_now t = record { at = length w; below = omega (arith, length_grown w v); holds = subst (λ (b : Bool). T b) (sym label_now) t }

    pub reached_before : Some (length (w ++ v ∷ [])) (label arc (w ++ v ∷ []) u) → Some (length w) (label arc w u) ⊎ T (arc v u)
    reached_before s = go s.at s.holds (below_suc (length w) s.at (omega (arith, s.below, length_grown w v)))
      where
        go : (p : ℕ) → T (label arc (w ++ v ∷ []) u p) → (p < length w) ⊎ (p ≡ length w) → Some (length w) (label arc w u) ⊎ T (arc v u)
        go p t (inl l) = inl (record { at = p; below = l; holds = subst (λ (b : Bool). T b) (label_same p l) t })
        go p t (inr e) = inr (subst (λ (b : Bool). T b) (ap (λ (q : ℕ). label arc (w ++ v ∷ []) u q) e ∙ label_now) t)

-- in a search that goes by excuses, who is ahead by a position that was there before is ahead already
pub ahead_already : {excuses : ℕ → ℕ → Bool → Bool} (k : ℕ) (c b : ℕ → Bool) (r : Reason (λ i. none_excuses (excuses i)) (suc k) c b) → r.position < k
    → Reason (λ i. none_excuses (excuses i)) k c b
ahead_already k c b r l = record {
  position = r.position;
  below = l;
  ours = r.ours;
  theirs = r.theirs;
  unexcused = λ d h. r.unexcused d (omega arith);
}
