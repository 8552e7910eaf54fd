-- Algorithm 4: a stack is in DFS' order, largest position on top, and a turn keeps it so.
--   push_top        what push makes of the stack
--   push_adding     it keeps the stack in order
-- Assumes nothing.
use mathlib.Core.Path.{◌≡◌, refl, sym, subst}
use mathlib.Core.Bool.{Bool, not}
use mathlib.Core.Logic.{◌⊎◌, inl, inr}
use mathlib.Core.List.{List, [], ◌∷◌, ◌++◌}
use Prim.Native.Nat.{ℕ, suc, ◌<◌}
use native.Mathlib.Omega.{arith}
use lib.Dec.{T, ltb, ltb→lt, lt→ltb, eqb, eqb→eq, eqb_refl, not_T, T_not}
use lib.ListN.{length}
use Rattle.bitset.proofs.Tests.{decided, below_suc}
use Rattle.searches.specs.Kind.{dfs}
use Rattle.searches.specs.Label.{label, outranks}
use Rattle.searches.specs.Violation.{condition}
use Rattle.searches.proofs.Reason.{Reason, outranks→reason, reason→outranks}
use Rattle.algorithms.specs.Lists.{among, keep, Pairwise, InAnyOrder, each}
use Rattle.algorithms.specs.Algorithm.{numbered, awaits}
use Rattle.algorithms.specs.DepthStack.{push}
use Rattle.algorithms.proofs.Lists.{among_later, among_here, among_none, among_out, among_keep_out, among_keep_in, pairwise_map, pairwise_any, pairwise_keep}
use Rattle.algorithms.proofs.Grown.{ahead_already, numbered_after, awaits_in, awaits_out, label_now}
use Rattle.algorithms.proofs.Waiting.{InOrder, Left, in_order_grown}
use Rattle.algorithms.proofs.FrontFirst.{AddsOne, each_out, Adding}

-- ---- what push adds

-- a vertex that is pushed stands on top, and nowhere else
push_top : (stack : List ℕ) (u : ℕ) → push stack u ≡ u ∷ keep (λ x. not (eqb u x)) stack
unfolding push
push_top stack u = refl

push_out : (xs : List ℕ) (x u : ℕ) → T (among (keep (λ y. not (eqb x y)) xs) u) → T (among xs u) × (x ≡ u → ⊥)
push_out xs x u t =
    let both = among_keep_out (λ y. not (eqb x y)) xs u t in
    (both.0, λ e. T_not (eqb x u) both.1 (subst (λ (y : ℕ). T (eqb x y)) e (eqb_refl x)))

push_one : AddsOne push
push_one = record {
  out = λ xs x u t. out xs x u (among_out x u (others x xs) (subst (λ (zs : List ℕ). T (among zs u)) (push_top xs x) t));
  old = λ xs x u t. subst (λ (zs : List ℕ). T (among zs u)) (sym (push_top xs x)) (old xs x u t (decided (eqb x u)));
  new = λ xs x u e. subst (λ (zs : List ℕ). T (among zs u)) (sym (push_top xs x)) (among_here x u (others x xs) e);
}
  where
    others : ℕ → List ℕ → List ℕ
    others x xs = keep (λ y. not (eqb x y)) xs

    out : (xs : List ℕ) (x u : ℕ) → (x ≡ u) ⊎ T (among (others x xs) u) → T (among xs u) ⊎ (x ≡ u)
    out xs x u (inl e) = inr e
    out xs x u (inr t) = inl (push_out xs x u t).0

    old : (xs : List ℕ) (x u : ℕ) → T (among xs u) → T (eqb x u) ⊎ (T (eqb x u) → ⊥) → T (among (x ∷ others x xs) u)
    old xs x u t (inl e) = among_here x u (others x xs) (eqb→eq x u e)
    old xs x u t (inr apart) = among_later x u (others x xs) (among_keep_in (λ y. not (eqb x y)) xs u t (not_T (eqb x u) apart))

-- ---- one position more

module _ (k : ℕ) (c b : ℕ → Bool) where
  -- nobody is ahead of one with the new position
  on_top : T (b k) → T (outranks dfs (suc k) c b) → ⊥
  unfolding condition
  on_top new t = let r = outranks→reason (suc k) c b dfs t in go r (below_suc k r.position r.below)
    where
      go : (r : Reason (condition dfs) (suc k) c b) → (r.position < k) ⊎ (r.position ≡ k) → ⊥
      go r (inl l) = r.unexcused k (omega arith) new (lt→ltb r.position k l)
      go r (inr e) = r.theirs (subst (λ (p : ℕ). T (b p)) (sym e) new)

  -- who has it is ahead of one who has not
  moved_past : T (c k) → (T (b k) → ⊥) → T (outranks dfs (suc k) c b)
  unfolding condition
  moved_past new none = reason→outranks (suc k) c b dfs (record {
    position = k;
    below = omega arith;
    ours = new;
    theirs = none;
    unexcused = λ d l p x. omega (arith, ltb→lt k d x);
  })

  -- between two who have it not nothing changes
  still_behind : (T (c k) → ⊥) → (T (outranks dfs k c b) → ⊥) → T (outranks dfs (suc k) c b) → ⊥
  unfolding condition
  still_behind none behind t = let r = outranks→reason (suc k) c b dfs t in go r (below_suc k r.position r.below)
    where
      go : (r : Reason (condition dfs) (suc k) c b) → (r.position < k) ⊎ (r.position ≡ k) → ⊥
      go r (inl l) = behind (reason→outranks k c b dfs (ahead_already k c b r l))
      go r (inr e) = none (subst (λ (p : ℕ). T (c p)) e r.ours)

  still_ahead : (T (b k) → ⊥) → T (outranks dfs k c b) → T (outranks dfs (suc k) c b)
  unfolding condition
  still_ahead none t =
      let r = outranks→reason k c b dfs t in
      reason→outranks (suc k) c b dfs (record {
        position = r.position;
        below = omega (arith, r.below);
        ours = r.ours;
        theirs = r.theirs;
        unexcused = λ d h p x. go r d p x (below_suc k d h);
      })
    where
      go : (r : Reason (condition dfs) k c b) (d : ℕ) → T (b d) → T (ltb r.position d) → (d < k) ⊎ (d ≡ k) → ⊥
      go r d p x (inl l) = r.unexcused d l p x
      go r d p x (inr e) = none (subst (λ (q : ℕ). T (b q)) e p)

-- ---- a turn

module _ (arc : ℕ → ℕ → Bool) (n : ℕ) (tie : ℕ → ℕ → Type 0) (w : List ℕ) (v : ℕ) (rest : List ℕ) (left : Left dfs arc n tie w v rest) where
  -- with xs pushed: u is one of xs, and comes first by tie if u' is too; or neither is, and they are in order as before
  data Placed (xs : List ℕ) (u u' : ℕ) : Type 0 where
    pushed : T (among xs u) → (T (among xs u') → tie u u') → Placed xs u u'
    below : (T (among xs u) → ⊥) → (T (among xs u') → ⊥) → InOrder dfs arc n tie w (length w) u u' → Placed xs u u'

  abbrev Stacked : List ℕ → ℕ → ℕ → Type 0
  Stacked xs u u' = (u ≡ u' → ⊥) × Placed xs u u'

  stacked_later : (x : ℕ) (xs : List ℕ) (u u' : ℕ) → (x ≡ u → ⊥) → (x ≡ u' → ⊥) → Placed xs u u' → Placed (x ∷ xs) u u'
  stacked_later x xs u u' apart apart' (pushed t tied) = pushed (among_later x u xs t) (λ t'. go (among_out x u' xs t'))
    where
      go : (x ≡ u') ⊎ T (among xs u') → tie u u'
      go (inl e) = absurd (apart' e)
      go (inr r) = tied r
  stacked_later x xs u u' apart apart' (below out out' order) =
      below (λ t. go u apart out (among_out x u xs t)) (λ t. go u' apart' out' (among_out x u' xs t)) order
    where
      go : (y : ℕ) → (x ≡ y → ⊥) → (T (among xs y) → ⊥) → (x ≡ y) ⊎ T (among xs y) → ⊥
      go y other none (inl e) = other e
      go y other none (inr r) = none r

  stacked : (xs : List ℕ) → Pairwise tie xs → Pairwise (Stacked xs) (each push rest xs)
  unfolding each
  stacked [] arranged = pairwise_map rest (λ u u' t t' order. (order.apart, below (among_none u) (among_none u') order)) left.ordered
  stacked (x ∷ xs) arranged =
      subst (λ (zs : List ℕ). Pairwise (Stacked (x ∷ xs)) zs) (sym (push_top st x))
      (top, pairwise_map kept lower (pairwise_keep (Stacked xs) (λ y. not (eqb x y)) st (stacked xs arranged.1)))
    where
      st : List ℕ
      st = each push rest xs

      kept : List ℕ
      kept = keep (λ y. not (eqb x y)) st

      top : (u : ℕ) → T (among kept u) → Stacked (x ∷ xs) x u
      top u t = ((push_out st x u t).1, pushed (among_here x x xs refl) (λ r. go (among_out x u xs r)))
        where
          go : (x ≡ u) ⊎ T (among xs u) → tie x u
          go (inl e) = absurd ((push_out st x u t).1 e)
          go (inr r) = arranged.0 u r

      lower : (u u' : ℕ) → T (among kept u) → T (among kept u') → Stacked xs u u' → Stacked (x ∷ xs) u u'
      lower u u' t t' both = (both.0, stacked_later x xs u u' (push_out st x u t).1 (push_out st x u' t').1 both.1)

  module _ (new : List ℕ) (order : InAnyOrder n (awaits arc w v) new) where
    abbrev now : ℕ → ℕ → Bool
    now u = label arc (w ++ v ∷ []) u

    -- the pushed have the new position, the others in the stack have not
    new_position : (u : ℕ) → T (among new u) → T (now u (length w))
    new_position u t = subst (λ (b : Bool). T b) (sym (label_now w v arc u)) (awaits_out w v arc u (order.only u t).1).0

    no_position : (u : ℕ) → T (among rest u) ⊎ T (among new u) → (T (among new u) → ⊥) → T (now u (length w)) → ⊥
    no_position u (inr t) out x = out t
    no_position u (inl t) out x =
        let was = left.only u t in
        out (order.all u was.0.vertex (awaits_in w v arc u (subst (λ (b : Bool). T b) (label_now w v arc u) x) (λ y. again (numbered_after w v u y))))
      where
        again : T (numbered w u) ⊎ (v ≡ u) → ⊥
        again (inl y) = (left.only u t).0.unnumbered y
        again (inr e) = (left.only u t).1 e

    stack_ordered : Pairwise tie new → Pairwise (InOrder dfs arc n tie (w ++ v ∷ []) (suc (length w))) (each push rest new)
    stack_ordered arranged = pairwise_map (each push rest new) turn (stacked new arranged)
      where
        k : ℕ
        k = length w

        place : (u : ℕ) → T (among (each push rest new) u) → T (among rest u) ⊎ T (among new u)
        place u t = each_out push push_one rest new u t

        turn : (u u' : ℕ) → T (among (each push rest new) u) → T (among (each push rest new) u') → Stacked new u u'
            → InOrder dfs arc n tie (w ++ v ∷ []) (suc (length w)) u u'
        turn u u' t t' both = go both.1
          where
            go : Placed new u u' → InOrder dfs arc n tie (w ++ v ∷ []) (suc (length w)) u u'
            go (pushed p tied) = record {
              apart = both.0;
              behind = on_top k (now u') (now u) (new_position u p);
              tied = λ level. among_new (decided (among new u')) level;
            }
              where
                among_new : T (among new u') ⊎ (T (among new u') → ⊥) → (T (outranks dfs (suc k) (now u) (now u')) → ⊥) → tie u u'
                among_new (inl r) level = tied r
                among_new (inr out) level = absurd (level (moved_past k (now u) (now u') (new_position u p) (no_position u' (place u' t') out)))
            go (below out out' o) =
                let before = in_order_grown dfs arc n tie w v u u' o in
                record {
                  apart = both.0;
                  behind = still_behind k (now u') (now u) (no_position u' (place u' t') out') before.behind;
                  tied = λ level. before.tied (λ x. level (still_ahead k (now u) (now u') (no_position u' (place u' t') out') x));
                }

-- line 5 begins at the end of the list: who comes first in the run stands first in it, and is pushed last
pub push_adding : Adding dfs push (λ xs. xs) Pairwise
push_adding = record {
  one = push_one;
  anyhow = pairwise_any;
  in_line = λ order. order;
  arranges = λ tie xs p. p;
  ordered = λ arc n tie w v rest new left order arranged. stack_ordered arc n tie w v rest left new order arranged;
}
