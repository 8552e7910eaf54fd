-- Algorithm 2: a queue is in BFS' order, smallest position first, and a turn keeps it so.
--   enqueue_there, enqueue_new   what enqueue makes of the queue
--   enqueue_adding               it keeps the queue in order
-- Assumes nothing.
use mathlib.Core.Path.{◌≡◌, refl, sym, subst}
use mathlib.Core.Bool.{Bool}
use mathlib.Core.Logic.{◌⊎◌, inl, inr}
use mathlib.Core.List.{List, [], ◌∷◌, ◌++◌}
use Prim.Native.Nat.{ℕ, suc, ◌<◌}
use native.Mathlib.Omega.{arith}
use lib.Dec.{T, ltb→lt, lt→ltb}
use lib.ListN.{length}
use Rattle.bitset.proofs.Tests.{decided, below_suc, cond_yes, cond_no}
use Rattle.bitset.proofs.Below.{Some}
use Rattle.searches.specs.Kind.{bfs}
use Rattle.searches.specs.Label.{label, outranks}
use Rattle.searches.specs.Violation.{condition}
use Rattle.searches.proofs.Reason.{Reason, outranks→reason, reason→outranks}
use Rattle.algorithms.specs.Lists.{among, backward, Pairwise, each}
use Rattle.algorithms.specs.Algorithm.{awaits}
use Rattle.algorithms.specs.BreadthQueue.{enqueue}
use Rattle.algorithms.proofs.Lists.{among_later, among_here, among_append_left, among_last, among_last_out}
use Rattle.algorithms.proofs.Lists.{pairwise_map, pairwise_any, pairwise_last, pairwise_backward, order_backward}
use Rattle.algorithms.proofs.Grown.{ahead_already, numbered_before, numbered_now, awaits_out, label_same, label_now}
use Rattle.algorithms.proofs.Waiting.{InOrder, Left, in_order_grown}
use Rattle.algorithms.proofs.FrontFirst.{AddsOne, each_out, each_in, Adding}

-- a vertex that is in the queue is not put in again, and any other goes to its end
enqueue_there : (queue : List ℕ) (u : ℕ) → T (among queue u) → enqueue queue u ≡ queue
unfolding enqueue
enqueue_there queue u t = cond_yes (among queue u) queue (queue ++ u ∷ []) t

enqueue_new : (queue : List ℕ) (u : ℕ) → (T (among queue u) → ⊥) → enqueue queue u ≡ queue ++ u ∷ []
unfolding enqueue
enqueue_new queue u out = cond_no (among queue u) queue (queue ++ u ∷ []) out

-- ---- one position more

module _ (k : ℕ) (c b : ℕ → Bool) where
  -- a label with a position is not overtaken
  not_overtaken : Some k b → (T (outranks bfs k c b) → ⊥) → T (outranks bfs (suc k) c b) → ⊥
  unfolding condition
  not_overtaken some behind t = let r = outranks→reason (suc k) c b bfs t in go r (below_suc k r.position r.below)
    where
      go : (r : Reason (condition bfs) (suc k) c b) → (r.position < k) ⊎ (r.position ≡ k) → ⊥
      go r (inl l) = behind (reason→outranks k c b bfs (ahead_already k c b r l))
      go r (inr e) = r.unexcused some.at (omega (arith, some.below)) some.holds (lt→ltb some.at r.position (omega (arith, some.below)))

  stays_ahead : T (outranks bfs k c b) → T (outranks bfs (suc k) c b)
  unfolding condition
  stays_ahead t =
      let r = outranks→reason k c b bfs t in
      reason→outranks (suc k) c b bfs (record {
        position = r.position;
        below = omega (arith, r.below);
        ours = r.ours;
        theirs = r.theirs;
        unexcused = λ d h p x. r.unexcused d (omega (arith, ltb→lt d r.position x, r.below)) p x;
      })

  -- who was found earlier is ahead
  found_earlier : Some k c → ((p : ℕ) → p < k → T (b p) → ⊥) → T (outranks bfs (suc k) c b)
  unfolding condition
  found_earlier some none = reason→outranks (suc k) c b bfs (record {
    position = some.at;
    below = omega (arith, some.below);
    ours = some.holds;
    theirs = none some.at some.below;
    unexcused = λ d h p x. none d (omega (arith, ltb→lt d some.at x, some.below)) p;
  })

  -- who is found only now is not ahead of another one found now
  found_now : ((p : ℕ) → p < k → T (c p) → ⊥) → T (b k) → T (outranks bfs (suc k) c b) → ⊥
  found_now none new t = let r = outranks→reason (suc k) c b bfs t in go r (below_suc k r.position r.below)
    where
      go : (r : Reason (condition bfs) (suc k) c b) → (r.position < k) ⊎ (r.position ≡ k) → ⊥
      go r (inl l) = none r.position l r.ours
      go r (inr e) = r.theirs (subst (λ (p : ℕ). T (b p)) (sym e) new)

-- ---- what enqueue adds

enqueue_one : AddsOne enqueue
enqueue_one = record {
  out = λ xs x u t. out xs x u (decided (among xs x)) t;
  old = λ xs x u t. old xs x u (decided (among xs x)) t;
  new = λ xs x u e. new xs x u e (decided (among xs x));
}
  where
    moved : {xs ys : List ℕ} (u : ℕ) → xs ≡ ys → T (among xs u) → T (among ys u)
    moved u e = subst (λ (zs : List ℕ). T (among zs u)) e

    out : (xs : List ℕ) (x u : ℕ) → T (among xs x) ⊎ (T (among xs x) → ⊥) → T (among (enqueue xs x) u) → T (among xs u) ⊎ (x ≡ u)
    out xs x u (inl there) t = inl (moved u (enqueue_there xs x there) t)
    out xs x u (inr other) t = among_last_out xs x u (moved u (enqueue_new xs x other) t)

    old : (xs : List ℕ) (x u : ℕ) → T (among xs x) ⊎ (T (among xs x) → ⊥) → T (among xs u) → T (among (enqueue xs x) u)
    old xs x u (inl there) t = moved u (sym (enqueue_there xs x there)) t
    old xs x u (inr other) t = moved u (sym (enqueue_new xs x other)) (among_append_left xs (x ∷ []) u t)

    new : (xs : List ℕ) (x u : ℕ) → x ≡ u → T (among xs x) ⊎ (T (among xs x) → ⊥) → T (among (enqueue xs x) u)
    new xs x u e (inl there) = moved u (sym (enqueue_there xs x there)) (subst (λ (z : ℕ). T (among xs z)) e there)
    new xs x u e (inr other) = moved u (sym (enqueue_new xs x other)) (among_last xs x u e)

-- ---- a turn

module _ (arc : ℕ → ℕ → Bool) (n : ℕ) (tie : ℕ → ℕ → Type 0) (w : List ℕ) (v : ℕ) (rest : List ℕ) (left : Left bfs arc n tie w v rest) where
  abbrev now : ℕ → ℕ → Bool
  now u = label arc (w ++ v ∷ []) u

  abbrev OrderNow : ℕ → ℕ → Type 0
  OrderNow u u' = InOrder bfs arc n tie (w ++ v ∷ []) (suc (length w)) u u'

  -- who is left has a position
  left_reached : (u : ℕ) → T (among rest u) → Some (length w) (now u)
  left_reached u t =
      let s = (left.only u t).0.reached in
      record { at = s.at; below = s.below; holds = subst (λ (b : Bool). T b) (sym (label_same w v arc u s.at s.below)) s.holds }

  -- who is not has none but the new one
  new_unreached : (u : ℕ) → u < n → T (awaits arc w v u) → (T (among rest u) → ⊥) → (p : ℕ) → p < length w → T (now u p) → ⊥
  new_unreached u l t out p h x =
      let free = (awaits_out w v arc u t).1 in
      out (left.all u (record {
        vertex = l;
        unnumbered = λ y. free (numbered_before w v u y);
        reached = record { at = p; below = h; holds = subst (λ (b : Bool). T b) (label_same w v arc u p h) x };
      }) (λ e. free (numbered_now w v u e)))

  old_old : (u u' : ℕ) → T (among rest u) → T (among rest u') → InOrder bfs arc n tie w (length w) u u' → OrderNow u u'
  old_old u u' t t' order =
      let o = in_order_grown bfs arc n tie w v u u' order in
      record {
        apart = o.apart;
        behind = not_overtaken (length w) (now u') (now u) (left_reached u t) o.behind;
        tied = λ level. o.tied (λ x. level (stays_ahead (length w) (now u) (now u') x));
      }

  old_new : (u u' : ℕ) → (u ≡ u' → ⊥) → T (among rest u) → ((p : ℕ) → p < length w → T (now u' p) → ⊥) → OrderNow u u'
  old_new u u' apart t none = record {
    apart = apart;
    behind = not_overtaken (length w) (now u') (now u) (left_reached u t)
        (λ x. let r = outranks→reason (length w) (now u') (now u) bfs x in none r.position r.below r.ours);
    tied = λ level. absurd (level (found_earlier (length w) (now u) (now u') (left_reached u t) none));
  }

  new_new : (u u' : ℕ) → (u ≡ u' → ⊥) → T (arc v u) → ((p : ℕ) → p < length w → T (now u' p) → ⊥) → tie u u' → OrderNow u u'
  new_new u u' apart t none tied = record {
    apart = apart;
    behind = found_now (length w) (now u') (now u) none (subst (λ (b : Bool). T b) (sym (label_now w v arc u)) t);
    tied = λ level. tied;
  }

  queue_ordered : (xs : List ℕ) → ((u : ℕ) → T (among xs u) → (u < n) × T (awaits arc w v u)) → Pairwise (λ u u'. tie u' u) xs
      → Pairwise OrderNow (each enqueue rest xs)
  unfolding each
  queue_ordered [] waits arranged = pairwise_map rest old_old left.ordered
  queue_ordered (x ∷ xs) waits arranged = go (decided (among q x)) (queue_ordered xs (λ u t. waits u (among_later x u xs t)) arranged.1)
    where
      q : List ℕ
      q = each enqueue rest xs

      me : (x < n) × T (awaits arc w v x)
      me = waits x (among_here x x xs refl)

      before : (T (among q x) → ⊥) → (u : ℕ) → T (among q u) → OrderNow u x
      before out u t = split (decided (among rest u)) (each_out enqueue enqueue_one rest xs u t)
        where
          apart : u ≡ x → ⊥
          apart e = out (subst (λ (y : ℕ). T (among q y)) e t)

          none : (p : ℕ) → p < length w → T (now x p) → ⊥
          none = new_unreached x me.0 me.1 (λ r. out (each_in enqueue enqueue_one rest xs x (inl r)))

          split : T (among rest u) ⊎ (T (among rest u) → ⊥) → T (among rest u) ⊎ T (among xs u) → OrderNow u x
          split (inl r) _ = old_new u x apart r none
          split (inr other) (inl r) = absurd (other r)
          split (inr other) (inr r) = new_new u x apart (awaits_out w v arc u (waits u (among_later x u xs r)).1).0 none (arranged.0 u r)

      go : T (among q x) ⊎ (T (among q x) → ⊥) → Pairwise OrderNow q → Pairwise OrderNow (enqueue q x)
      go (inl there) done = subst (λ (zs : List ℕ). Pairwise OrderNow zs) (sym (enqueue_there q x there)) done
      go (inr out) done = subst (λ (zs : List ℕ). Pairwise OrderNow zs) (sym (enqueue_new q x out)) (pairwise_last OrderNow q x done (before out))

-- line 5 begins at the end of the list: who comes first in the run stands last in it
abbrev pub LastFirst : (ℕ → ℕ → Type 0) → List ℕ → Type 0
LastFirst tie xs = Pairwise (λ u u'. tie u' u) xs

pub enqueue_adding : Adding bfs enqueue backward LastFirst
enqueue_adding = record {
  one = enqueue_one;
  anyhow = pairwise_any;
  in_line = λ {n} {f} {xs} order. order_backward xs order;
  arranges = pairwise_backward;
  ordered = λ arc n tie w v rest new left order arranged. queue_ordered arc n tie w v rest left new order.only arranged;
}
