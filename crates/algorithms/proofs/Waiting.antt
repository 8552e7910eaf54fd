-- Queue and stack at once. Both list the unnumbered vertices to which a numbered one leads, in such an order that none is ahead of one that
-- stands before it. `tie` says what else holds between two of which neither is ahead: nothing, or that a given run has them in this order.
--   Waits w u                   u is unnumbered and a numbered vertex leads to it
--   InOrder w k u u'            u may stand before u'
--   Waiting w xs, Left w v xs   xs lists those who wait, in order; all but v
--   taken_offered, taken_left   the vertex taken is offered, and who else waits is left
--   next_front                  where the list keeps to a run's order, the run's next vertex is at the front
--   waiting_on                  the list after a turn, where it has who was left and who was added, in order
-- Assumes nothing.
use mathlib.Core.Path.{◌≡◌, refl, sym, subst}
use mathlib.Core.Bool.{Bool}
use mathlib.Core.Logic.{◌⊎◌, inl, inr}
use mathlib.Core.List.{List, [], ◌∷◌, ◌++◌}
use Prim.Native.Nat.{ℕ, suc, ◌<◌}
use native.Mathlib.Omega.{arith}
use lib.Dec.{T, eqb, eqb→eq, eqb_refl}
use lib.ListN.{length}
use Rattle.bitset.specs.Below.{any_below}
use Rattle.bitset.proofs.Tests.{decided}
use Rattle.bitset.proofs.Below.{Some, any_out, any_at}
use Rattle.searches.specs.Kind.{Search}
use Rattle.searches.specs.Ordering.{at}
use Rattle.searches.specs.Label.{label, outranks}
use Rattle.searches.specs.Run.{offered}
use Rattle.searches.proofs.Reason.{outranks→reason}
use Rattle.searches.proofs.StrictOrder.{outranks_irreflexive}
use Rattle.searches.proofs.Ordering.{Agree, agree_sym, placed_agree, length_grown, grown_agree}
use Rattle.searches.proofs.Run.{offered_in, offered_out, restart_allowed, restart_only_then, outranks_agree}
use Rattle.algorithms.specs.Lists.{among, Pairwise, InAnyOrder}
use Rattle.algorithms.specs.Algorithm.{numbered, awaits}
use Rattle.algorithms.specs.FrontFirst.{Takes, front, restart}
use Rattle.algorithms.specs.Following.{is_front}
use Rattle.algorithms.proofs.Lists.{among_here, among_later, among_none, among_out, Earlier}
use Rattle.algorithms.proofs.Grown.{free_in, numbered_before, numbered_now, numbered_after, awaits_in, awaits_out, reached_after, reached_now, reached_before}

module _ (s : Search) (arc : ℕ → ℕ → Bool) (n : ℕ) where
  pub record Waits (w : List ℕ) (u : ℕ) : Type 0 where
    pub vertex : u < n
    pub unnumbered : T (numbered w u) → ⊥
    pub reached : Some (length w) (label arc w u)

  module _ (tie : ℕ → ℕ → Type 0) where
    pub record InOrder (w : List ℕ) (k u u' : ℕ) : Type 0 where
      pub apart : u ≡ u' → ⊥
      pub behind : T (outranks s k (label arc w u') (label arc w u)) → ⊥
      pub tied : (T (outranks s k (label arc w u) (label arc w u')) → ⊥) → tie u u'

    pub record Waiting (w xs : List ℕ) : Type 0 where
      pub only : (u : ℕ) → T (among xs u) → Waits w u
      pub all : (u : ℕ) → Waits w u → T (among xs u)
      pub ordered : Pairwise (InOrder w (length w)) xs

    pub record Left (w : List ℕ) (v : ℕ) (xs : List ℕ) : Type 0 where
      pub only : (u : ℕ) → T (among xs u) → Waits w u × (v ≡ u → ⊥)
      pub all : (u : ℕ) → Waits w u → (v ≡ u → ⊥) → T (among xs u)
      pub ordered : Pairwise (InOrder w (length w)) xs

    -- ---- taking one

    unreached : (w : List ℕ) → Waiting w [] → (u : ℕ) → u < n → (T (numbered w u) → ⊥) → (p : ℕ) → p < length w → T (label arc w u p) → ⊥
    unreached w waiting u l out p h t =
        among_none u (waiting.all u (record { vertex = l; unnumbered = out; reached = record { at = p; below = h; holds = t } }))

    pub taken_offered : (w xs : List ℕ) (v : ℕ) (rest : List ℕ) → Waiting w xs → Takes n w xs v rest → T (offered s arc n w (length w) v)
    taken_offered w _ v _ waiting (front _ rest) =
        let me = waiting.only v (among_here v v rest refl) in
        offered_in s arc n w (length w) v (record {
          vertex = me.vertex;
          unplaced = me.unnumbered;
          unbeaten = λ u l out ahead.
              let r = outranks→reason (length w) (label arc w u) (label arc w v) s ahead in
              let there = waiting.all u (record { vertex = l; unnumbered = out; reached = record { at = r.position; below = r.below; holds = r.ours } }) in
              go u ahead (among_out v u rest there);
        })
      where
        go : (u : ℕ) → T (outranks s (length w) (label arc w u) (label arc w v)) → (v ≡ u) ⊎ T (among rest u) → ⊥
        go u ahead (inl e) =
            outranks_irreflexive s (length w) (label arc w v) (subst (λ (x : ℕ). T (outranks s (length w) (label arc w x) (label arc w v))) (sym e) ahead)
        go u ahead (inr t) = (waiting.ordered.0 u t).behind ahead
    taken_offered w _ v _ waiting (restart _ l out) = restart_allowed s arc n w (length w) v l out (unreached w waiting)

    pub taken_left : (w xs : List ℕ) (v : ℕ) (rest : List ℕ) → Waiting w xs → Takes n w xs v rest → Left w v rest
    taken_left w _ v _ waiting (front _ rest) = record {
      only = λ u t. (waiting.only u (among_later v u rest t), (waiting.ordered.0 u t).apart);
      all = λ u waits other. go u other (among_out v u rest (waiting.all u waits));
      ordered = waiting.ordered.1;
    }
      where
        go : (u : ℕ) → (v ≡ u → ⊥) → (v ≡ u) ⊎ T (among rest u) → T (among rest u)
        go u other (inl e) = absurd (other e)
        go u other (inr t) = t
    taken_left w _ v _ waiting (restart _ l out) = record {
      only = λ u t. absurd (among_none u t);
      all = λ u waits other. waiting.all u waits;
      ordered = tt;
    }

    -- the first turn takes the start vertex, and nobody waits
    pub start_left : (x v : ℕ) (rest : List ℕ) → Takes n [] (x ∷ []) v rest → (x ≡ v) × Left [] v rest
    start_left x _ _ (front _ _) = (
      refl,
      record {
        only = λ u t. absurd (among_none u t);
        all = λ u waits other. absurd (omega (arith, waits.reached.below));
        ordered = tt;
      },
    )

    -- ---- the list after a turn

    module _ (w : List ℕ) (v : ℕ) where
      -- numbering v leaves what was said of the first length w positions
      pub in_order_grown : (u u' : ℕ) → InOrder w (length w) u u' → InOrder (w ++ v ∷ []) (length w) u u'
      in_order_grown u u' o = record {
        apart = o.apart;
        behind = λ t. o.behind (outranks_agree s arc n (length w) u' u (w ++ v ∷ []) w (grown_agree w v) t);
        tied = λ level. o.tied (λ t. level (outranks_agree s arc n (length w) u u' w (w ++ v ∷ []) (agree_sym (length w) (w ++ v ∷ []) w (grown_agree w v)) t));
      }

      pub waiting_on : (rest new xs : List ℕ) → Left w v rest → InAnyOrder n (awaits arc w v) new
          → ((u : ℕ) → T (among xs u) → T (among rest u) ⊎ T (among new u)) → ((u : ℕ) → T (among rest u) ⊎ T (among new u) → T (among xs u))
          → Pairwise (InOrder (w ++ v ∷ []) (suc (length w))) xs → Waiting (w ++ v ∷ []) xs
      waiting_on rest new xs left order back forth ordered = record {
        only = λ u t. only u (back u t);
        all = λ u waits. forth u (all u waits (reached_before w v arc u waits.reached));
        ordered = subst (λ (k : ℕ). Pairwise (InOrder (w ++ v ∷ []) k) xs) (sym (length_grown w v)) ordered;
      }
        where
          only : (u : ℕ) → T (among rest u) ⊎ T (among new u) → Waits (w ++ v ∷ []) u
          only u (inl t) =
              let was = left.only u t in
              record { vertex = was.0.vertex; unnumbered = λ x. again (numbered_after w v u x); reached = reached_after w v arc u was.0.reached }
            where
              again : T (numbered w u) ⊎ (v ≡ u) → ⊥
              again (inl x) = (left.only u t).0.unnumbered x
              again (inr e) = (left.only u t).1 e
          only u (inr t) =
              let now = order.only u t in
              let both = awaits_out w v arc u now.1 in
              record { vertex = now.0; unnumbered = both.1; reached = reached_now w v arc u both.0 }

          all : (u : ℕ) → Waits (w ++ v ∷ []) u → Some (length w) (label arc w u) ⊎ T (arc v u) → T (among rest u) ⊎ T (among new u)
          all u waits (inl before) = inl (left.all u
              (record { vertex = waits.vertex; unnumbered = λ t. waits.unnumbered (numbered_before w v u t); reached = before })
              (λ e. waits.unnumbered (numbered_now w v u e)))
          all u waits (inr t) = inr (order.all u waits.vertex (awaits_in w v arc u t waits.unnumbered))

  -- ---- along a run

  module _ (r w : List ℕ) (so_far : Agree (length w) r w) (v : ℕ) (then : at r (length w) ≡ v) (inside : length w < length r) where
    -- who stands first is the run's next vertex: nobody is ahead of that one, so it waits too, level with the first, and the run had the first before
    first_next : (x : ℕ) (rest : List ℕ) → Waiting (Earlier r) w (x ∷ rest) → T (offered s arc n w (length w) v) → x ≡ v
    first_next x rest waiting o = go (decided (eqb x v)) (decided (any_below (length w) (label arc w v)))
      where
        me : Waits w x
        me = waiting.only x (among_here x x rest refl)

        later : (x ≡ v) ⊎ T (among rest v) → x ≡ v
        later (inl e) = e
        later (inr t) =
            let before = (waiting.ordered.0 v t).tied ((offered_out s arc n w (length w) v o).unbeaten x me.vertex me.unnumbered) in
            absurd (me.unnumbered (subst (λ (b : Bool). T b) (placed_agree (length w) x r w so_far) (before (length w) inside then)))

        go : T (eqb x v) ⊎ (T (eqb x v) → ⊥) → T (any_below (length w) (label arc w v)) ⊎ (T (any_below (length w) (label arc w v)) → ⊥) → x ≡ v
        go (inl t) _ = eqb→eq x v t
        go (inr _) (inl t) =
            let offer = offered_out s arc n w (length w) v o in
            later (among_out x v rest (waiting.all v (record { vertex = offer.vertex; unnumbered = offer.unplaced; reached = any_out (length w) (label arc w v) t })))
        go (inr _) (inr none) = absurd (restart_only_then s arc n w (length w) v (λ p l t. none (any_at (length w) (label arc w v) p l t)) o
            x me.vertex me.unnumbered me.reached.at me.reached.below me.reached.holds)

    pub next_front : (xs : List ℕ) → Waiting (Earlier r) w xs → T (offered s arc n w (length w) v) → T (is_front n w xs v)
    unfolding is_front
    next_front [] waiting o = let offer = offered_out s arc n w (length w) v o in free_in n w v offer.vertex offer.unplaced
    next_front (x ∷ rest) waiting o = subst (λ (y : ℕ). T (eqb x y)) (first_next x rest waiting o) (eqb_refl x)
