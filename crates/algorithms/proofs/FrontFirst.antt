-- Algorithms 2 and 4 at once: where a turn keeps the list in order, what is produced are the runs.
--   AddsOne add                    add puts one vertex in; each_out, each_in: so a loop puts in all
--   Adding s add line Arranged     what else it has to keep to; Arranged tie xs: after xs, taken by line 5, ties are in order
--   front_agrees                   then the algorithm agrees with the search
-- Assumes nothing.
use mathlib.Core.Path.{◌≡◌, refl, sym, subst}
use mathlib.Core.Bool.{Bool}
use mathlib.Core.Logic.{◌⊎◌, inl, inr}
use mathlib.Core.List.{List, [], ◌∷◌, ◌++◌}
use Prim.Native.Nat.{ℕ, suc, ◌<◌}
use native.Mathlib.Omega.{arith}
use lib.Dec.{T, eqb→eq, eqb_refl}
use lib.ListN.{length}
use Rattle.searches.specs.Kind.{Search}
use Rattle.searches.specs.Ordering.{IsFullOrdering}
use Rattle.algorithms.specs.Lists.{among, keep, Pairwise, InAnyOrder, each}
use Rattle.algorithms.specs.Algorithm.{awaits}
use Rattle.algorithms.specs.FrontFirst.{Takes, front, restart, front_first}
use Rattle.algorithms.specs.Following.{is_front, behind_front, front_follower}
use Rattle.algorithms.proofs.Lists.{among_here, among_later, among_none, among_out, Earlier, order_listed, listed_earlier}
use Rattle.algorithms.proofs.Grown.{free_out}
use Rattle.algorithms.proofs.Waiting.{InOrder, Waiting, Left, taken_offered, taken_left, start_left, next_front, waiting_on}
use Rattle.algorithms.proofs.Lift.{run_full, Sound, sound_run, Complete, run_follows, Agrees}

-- ---- what the list has after a loop

module _ (add : List ℕ → ℕ → List ℕ) where
  pub record AddsOne : Type 0 where
    pub out : (xs : List ℕ) (x u : ℕ) → T (among (add xs x) u) → T (among xs u) ⊎ (x ≡ u)
    pub old : (xs : List ℕ) (x u : ℕ) → T (among xs u) → T (among (add xs x) u)
    pub new : (xs : List ℕ) (x u : ℕ) → x ≡ u → T (among (add xs x) u)

  module _ (one : AddsOne) (d : List ℕ) where
    pub each_out : (xs : List ℕ) (u : ℕ) → T (among (each add d xs) u) → T (among d u) ⊎ T (among xs u)
    unfolding each
    each_out [] u t = inl t
    each_out (x ∷ xs) u t = go (one.out (each add d xs) x u t) (each_out xs u)
      where
        later : T (among d u) ⊎ T (among xs u) → T (among d u) ⊎ T (among (x ∷ xs) u)
        later (inl r) = inl r
        later (inr r) = inr (among_later x u xs r)

        go : T (among (each add d xs) u) ⊎ (x ≡ u) → (T (among (each add d xs) u) → T (among d u) ⊎ T (among xs u)) → T (among d u) ⊎ T (among (x ∷ xs) u)
        go (inl r) rest = later (rest r)
        go (inr e) rest = inr (among_here x u xs e)

    pub each_in : (xs : List ℕ) (u : ℕ) → T (among d u) ⊎ T (among xs u) → T (among (each add d xs) u)
    unfolding each
    each_in [] u (inl t) = t
    each_in [] u (inr t) = absurd (among_none u t)
    each_in (x ∷ xs) u (inl t) = one.old (each add d xs) x u (each_in xs u (inl t))
    each_in (x ∷ xs) u (inr t) = go (among_out x u xs t) (λ r. each_in xs u (inr r))
      where
        go : (x ≡ u) ⊎ T (among xs u) → (T (among xs u) → T (among (each add d xs) u)) → T (among (add (each add d xs) x) u)
        go (inl e) rest = one.new (each add d xs) x u e
        go (inr r) rest = one.old (each add d xs) x u (rest r)

-- ---- turns

pub record Adding (s : Search) (add : List ℕ → ℕ → List ℕ) (line : List ℕ → List ℕ) (Arranged : (ℕ → ℕ → Type 0) → List ℕ → Type 0) : Type 1 where
  pub one : AddsOne add
  -- any list is arranged where ties go by nothing, and line arranges one in which ties are in order
  pub anyhow : (xs : List ℕ) → Arranged (λ u u'. Unit {0}) xs
  pub in_line : {n : ℕ} {f : ℕ → Bool} {xs : List ℕ} → InAnyOrder n f xs → InAnyOrder n f (line xs)
  pub arranges : (tie : ℕ → ℕ → Type 0) (xs : List ℕ) → Pairwise tie xs → Arranged tie (line xs)
  pub ordered : (arc : ℕ → ℕ → Bool) (n : ℕ) (tie : ℕ → ℕ → Type 0) (w : List ℕ) (v : ℕ) (rest new : List ℕ) → Left s arc n tie w v rest
      → InAnyOrder n (awaits arc w v) new → Arranged tie new → Pairwise (InOrder s arc n tie (w ++ v ∷ []) (suc (length w))) (each add rest new)

module _ (s : Search) (add : List ℕ → ℕ → List ℕ) (line : List ℕ → List ℕ) (Arranged : (ℕ → ℕ → Type 0) → List ℕ → Type 0)
    (adding : Adding s add line Arranged)
    (arc : ℕ → ℕ → Bool) (n : ℕ) where
  waiting_added : (tie : ℕ → ℕ → Type 0) (w : List ℕ) (v : ℕ) (rest new : List ℕ) → Left s arc n tie w v rest → InAnyOrder n (awaits arc w v) new
      → Arranged tie new → Waiting s arc n tie (w ++ v ∷ []) (each add rest new)
  waiting_added tie w v rest new left order arranged =
      waiting_on s arc n tie w v rest new (each add rest new) left order (each_out add adding.one rest new) (each_in add adding.one rest new)
      (adding.ordered arc n tie w v rest new left order arranged)

  abbrev untied : ℕ → ℕ → Type 0
  untied u u' = Unit {0}

  front_sound : Sound s arc n (front_first add arc n) (Waiting s arc n untied)
  front_sound = record {
    opens = λ x v xs' l step.
        let start = start_left s arc n untied x v step.rest step.takes in (
          subst (λ (y : ℕ). y < n) start.0 l,
          subst (λ (xs : List ℕ). Waiting s arc n untied (v ∷ []) xs) (sym step.becomes)
              (waiting_added untied [] v step.rest step.neighbours start.1 step.in_any_order (adding.anyhow step.neighbours)),
        );
    offers = λ w xs v xs' l waiting step. taken_offered s arc n untied w xs v step.rest waiting step.takes;
    keeps = λ w xs v xs' l waiting step.
        subst (λ (ys : List ℕ). Waiting s arc n untied (w ++ v ∷ []) ys) (sym step.becomes)
        (waiting_added untied w v step.rest step.neighbours (taken_left s arc n untied w xs v step.rest waiting step.takes)
        step.in_any_order (adding.anyhow step.neighbours));
  }

  only_front : (v : ℕ) → T (is_front n [] (v ∷ []) v)
  unfolding is_front
  only_front v = eqb_refl v

  front_takes : (w xs : List ℕ) (v : ℕ) → T (is_front n w xs v) → Takes n w xs v (behind_front xs)
  unfolding is_front behind_front
  front_takes w [] v t = let new = free_out n w v t in restart v new.0 new.1
  front_takes w (x ∷ rest) v t = subst (λ (y : ℕ). Takes n w (x ∷ rest) y rest) (eqb→eq x v t) (front x rest)

  module _ (r : List ℕ) (full : IsFullOrdering n r) where
    -- line 5 takes the neighbours so that the run's order is kept
    kept_along : (w xs : List ℕ) (v : ℕ) → Left s arc n (Earlier r) w v (behind_front xs)
        → Waiting s arc n (Earlier r) (w ++ v ∷ []) (each add (behind_front xs) (line (keep (awaits arc w v) r)))
    kept_along w xs v left =
        let f = awaits arc w v in
        waiting_added (Earlier r) w v (behind_front xs) (line (keep f r)) left (adding.in_line (order_listed n r full f))
        (adding.arranges (Earlier r) (keep f r) (listed_earlier n r full f))

    front_complete : Complete s arc n (front_first add arc n) (Waiting s arc n (Earlier r)) (front_follower arc n add line) r
    front_complete = record {
      opens = λ v along l.
          let t = only_front v in
          (t, kept_along [] (v ∷ []) v (start_left s arc n (Earlier r) v v (behind_front (v ∷ [])) (front_takes [] (v ∷ []) v t)).1);
      goes = λ w xs v along waiting o.
          let t = next_front s arc n r w along.so_far v along.then (omega (arith, along.inside, full.full)) xs waiting o in
          (t, kept_along w xs v (taken_left s arc n (Earlier r) w xs v (behind_front xs) waiting (front_takes w xs v t)));
    }

  pub front_agrees : Agrees s arc n (front_first add arc n) (front_follower arc n add line)
  front_agrees = record {
    sound = sound_run s arc n (front_first add arc n) (Waiting s arc n untied) front_sound;
    followed = λ r run.
        run_follows s arc n (front_first add arc n) (Waiting s arc n (Earlier r)) (front_follower arc n add line) r (front_complete r (run_full s arc n run)) run;
    lawful = λ r full w xs v t. record {
      rest = behind_front xs;
      takes = front_takes w xs v t;
      neighbours = line (keep (awaits arc w v) r);
      in_any_order = adding.in_line (order_listed n r full (awaits arc w v));
      becomes = refl;
    };
  }
