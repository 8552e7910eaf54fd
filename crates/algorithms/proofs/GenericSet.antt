-- Algorithm 1: of the unnumbered vertices the set has just those to which a numbered one leads.
--   set_agrees     it agrees with generic search
-- Assumes nothing.
use mathlib.Core.Path.{◌≡◌, refl, sym, ◌∙◌, subst}
use mathlib.Core.Bool.{Bool, not, ◌&&◌, ◌||◌}
use mathlib.Core.Logic.{◌⊎◌, inl, inr, ◌↔◌}
use mathlib.Core.List.{List, [], ◌∷◌, ◌++◌}
use Prim.Native.Nat.{ℕ, ◌<◌}
use native.Mathlib.Omega.{arith}
use lib.Dec.{T, eqb, eqb→eq, eqb_refl, not_T, T_not}
use lib.ListN.{length}
use Rattle.bitset.specs.Below.{any_below}
use Rattle.bitset.proofs.Tests.{and_in, and_out, or_inl, or_inr, or_out, decided}
use Rattle.bitset.proofs.Below.{Some, any_out, any_at}
use Rattle.searches.specs.Kind.{generic}
use Rattle.searches.specs.Label.{label}
use Rattle.searches.specs.Run.{offered}
use Rattle.searches.specs.Violation.{condition}
use Rattle.searches.proofs.Reason.{outranks→reason}
use Rattle.searches.proofs.Run.{offered_in, offered_out, restart_allowed, restart_only_then}
use Rattle.algorithms.specs.Algorithm.{numbered, awaits}
use Rattle.algorithms.specs.GenericSet.{Candidate, inside, restart, added, SetStep, generic_set}
use Rattle.algorithms.specs.Following.{free, is_candidate, set_follower}
use Rattle.algorithms.proofs.Grown.{none_numbered, free_in, free_out, numbered_before, numbered_now, awaits_in, awaits_out, reached_after, reached_now, reached_before}
use Rattle.algorithms.proofs.Lift.{Sound, sound_run, Complete, run_follows, Agrees}

module _ (arc : ℕ → ℕ → Bool) (n : ℕ) where
  abbrev ReachedBy : List ℕ → ℕ → Type 0
  ReachedBy w u = Some (length w) (label arc w u)

  abbrev Holds : List ℕ → (ℕ → Bool) → Type 0
  Holds w set = (u : ℕ) → u < n → (T (numbered w u) → ⊥) → T (set u) ↔ ReachedBy w u

  -- who is put in is reached now; who was in stays in, but for the vertex picked
  holds_on : (w : List ℕ) (set : ℕ → Bool) (v u : ℕ) → (T (numbered (w ++ v ∷ []) u) → ⊥) → ((v ≡ u → ⊥) → T (set u) ↔ ReachedBy w u)
      → T (added arc w set v u) ↔ ReachedBy (w ++ v ∷ []) u
  unfolding added
  holds_on w set v u out before =
      (λ t. forth (or_out (set u && not (eqb v u)) (awaits arc w v u) t), λ s. back (reached_before w v arc u s))
    where
      other : v ≡ u → ⊥
      other e = out (numbered_now w v u e)

      forth : T (set u && not (eqb v u)) ⊎ T (awaits arc w v u) → ReachedBy (w ++ v ∷ []) u
      forth (inl t) = reached_after w v arc u ((before other).0 (and_out (set u) (not (eqb v u)) t).0)
      forth (inr t) = reached_now w v arc u (awaits_out w v arc u t).0

      back : ReachedBy w u ⊎ T (arc v u) → T ((set u && not (eqb v u)) || awaits arc w v u)
      back (inl s) =
          or_inl (set u && not (eqb v u)) (awaits arc w v u)
          (and_in (set u) (not (eqb v u)) ((before other).1 s) (not_T (eqb v u) (λ t. other (eqb→eq v u t))))
      back (inr t) = or_inr (set u && not (eqb v u)) (awaits arc w v u) (awaits_in w v arc u t out)

  -- the start vertex is picked first
  starts_there : (x v : ℕ) → x < n → Candidate n (eqb x) [] v → x ≡ v
  starts_there x v l (inside t) = eqb→eq x v t
  starts_there x v l (restart none) = absurd (none x l (eqb_refl x) (none_numbered x))

  holds_first : (x v : ℕ) (set' : ℕ → Bool) → x < n → SetStep arc n [] (eqb x) v set' → Holds (v ∷ []) set'
  holds_first x v set' l step u h out =
      let same = starts_there x v l step.candidate in
      subst (λ (set : ℕ → Bool). T (set u) ↔ ReachedBy (v ∷ []) u) (sym step.becomes)
      (holds_on [] (eqb x) v u out (λ apart. (λ t. absurd (apart (sym same ∙ eqb→eq x u t)), λ s. absurd (omega (arith, s.below)))))

  -- who is in the set has a position, and any position excuses in generic search
  candidate_offered : (w : List ℕ) (set : ℕ → Bool) (v : ℕ) → Holds w set → v < n → (T (numbered w v) → ⊥) → Candidate n set w v
      → T (offered generic arc n w (length w) v)
  unfolding condition
  candidate_offered w set v holds l out (inside t) =
      let s = (holds v l out).0 t in
      offered_in generic arc n w (length w) v (record {
        vertex = l;
        unplaced = out;
        unbeaten = λ u h free ahead. (outranks→reason (length w) (label arc w u) (label arc w v) generic ahead).unexcused s.at s.below s.holds tt;
      })
  candidate_offered w set v holds l out (restart none) =
      restart_allowed generic arc n w (length w) v l out (λ u h free p below t.
      none u h ((holds u h free).1 (record { at = p; below = below; holds = t })) free)

  offered_candidate : (w : List ℕ) (set : ℕ → Bool) (v : ℕ) → Holds w set → T (offered generic arc n w (length w) v) → Candidate n set w v
  offered_candidate w set v holds o = go (decided (any_below (length w) (label arc w v)))
    where
      go : T (any_below (length w) (label arc w v)) ⊎ (T (any_below (length w) (label arc w v)) → ⊥) → Candidate n set w v
      go (inl t) =
          let offer = offered_out generic arc n w (length w) v o in
          inside ((holds v offer.vertex offer.unplaced).1 (any_out (length w) (label arc w v) t))
      go (inr none) = restart (λ u h t free.
          let s = (holds u h free).0 t in
          restart_only_then generic arc n w (length w) v (λ p l x. none (any_at (length w) (label arc w v) p l x)) o u h free s.at s.below s.holds)

  set_sound : Sound generic arc n (generic_set arc n) Holds
  set_sound = record {
    opens = λ x v set' l step. (step.vertex, holds_first x v set' l step);
    offers = λ w set v set' l holds step. candidate_offered w set v holds step.vertex step.unnumbered step.candidate;
    keeps = λ w set v set' l holds step u h out.
        subst (λ (s : ℕ → Bool). T (s u) ↔ ReachedBy (w ++ v ∷ []) u) (sym step.becomes)
        (holds_on w set v u out (λ apart. holds u h (λ t. out (numbered_before w v u t))));
  }

  step_allowed : (w : List ℕ) (set : ℕ → Bool) (v : ℕ) → v < n → (T (numbered w v) → ⊥) → Candidate n set w v → T (is_candidate n w set v)
  unfolding is_candidate
  step_allowed w set v l out c = and_in (free n w v) (set v || not (any_below n waits)) (free_in n w v l out) (go c)
    where
      waits : ℕ → Bool
      waits u = set u && not (numbered w u)

      go : Candidate n set w v → T (set v || not (any_below n waits))
      go (inside t) = or_inl (set v) (not (any_below n waits)) t
      go (restart none) = or_inr (set v) (not (any_below n waits)) (not_T (any_below n waits) (λ t.
          let u = any_out n waits t in
          let both = and_out (set u.at) (not (numbered w u.at)) u.holds in
          none u.at u.below both.0 (T_not (numbered w u.at) both.1)))

  allowed_step : (w : List ℕ) (set : ℕ → Bool) (v : ℕ) → T (is_candidate n w set v) → SetStep arc n w set v (added arc w set v)
  unfolding is_candidate
  allowed_step w set v t =
      let both = and_out (free n w v) (set v || not (any_below n waits)) t in
      let new = free_out n w v both.0 in
      record { vertex = new.0; unnumbered = new.1; candidate = go (or_out (set v) (not (any_below n waits)) both.1); becomes = refl }
    where
      waits : ℕ → Bool
      waits u = set u && not (numbered w u)

      go : T (set v) ⊎ T (not (any_below n waits)) → Candidate n set w v
      go (inl t) = inside t
      go (inr none) = restart (λ u l t out. T_not (any_below n waits) none (any_at n waits u l (and_in (set u) (not (numbered w u)) t (not_T (numbered w u) out))))

  set_complete : (r : List ℕ) → Complete generic arc n (generic_set arc n) Holds (set_follower arc n) r
  set_complete r = record {
    opens = λ v along l.
        let t = step_allowed [] (eqb v) v l (none_numbered v) (inside (eqb_refl v)) in
        (t, holds_first v v (added arc [] (eqb v) v) l (allowed_step [] (eqb v) v t));
    goes = λ w set v along holds o.
        let offer = offered_out generic arc n w (length w) v o in
        let t = step_allowed w set v offer.vertex offer.unplaced (offered_candidate w set v holds o) in
        (t, set_sound.keeps w set v (added arc w set v) along.inside holds (allowed_step w set v t));
  }

  pub set_agrees : Agrees generic arc n (generic_set arc n) (set_follower arc n)
  set_agrees = record {
    sound = sound_run generic arc n (generic_set arc n) Holds set_sound;
    followed = λ r run. run_follows generic arc n (generic_set arc n) Holds (set_follower arc n) r (set_complete r) run;
    lawful = λ r full w set v t. allowed_step w set v t;
  }
