-- Algorithms 3, 5, 6 and 7 at once: where labels can be read as sets of positions so that larger is ahead, what is produced are the runs.
--   Reading s n ls means    `means k f l`: with k vertices numbered, the label l says the positions f; and what that has to keep to
--   labelling_agrees        then the algorithm agrees with the search
-- Assumes nothing.
use mathlib.Core.Path.{◌≡◌, refl, sym, ap, ◌∙◌, subst}
use mathlib.Core.Bool.{Bool, cond, not, ◌&&◌}
use mathlib.Core.Logic.{◌⊎◌, inl, inr}
use mathlib.Core.List.{List, [], ◌∷◌, ◌++◌}
use Prim.Native.Nat.{ℕ, suc, ◌≤◌, ◌<◌}
use native.Mathlib.Omega.{arith}
use lib.Dec.{T, eqb, eqb→eq, eqb_refl, not_T, T_not}
use lib.ListN.{length}
use Rattle.bitset.specs.Below.{any_below}
use Rattle.bitset.proofs.Tests.{and_in, and_out, decided, cond_yes, cond_no}
use Rattle.bitset.proofs.Below.{any_out, any_at}
use Rattle.searches.specs.Kind.{Search}
use Rattle.searches.specs.Label.{label, outranks}
use Rattle.searches.specs.Run.{offered}
use Rattle.searches.proofs.Ordering.{length_grown}
use Rattle.searches.proofs.Run.{offered_in, offered_out}
use Rattle.algorithms.specs.Algorithm.{numbered, awaits}
use Rattle.algorithms.specs.Labelling.{Labels, first_labels, relabelled, LabelStep, labelling}
use Rattle.algorithms.specs.Following.{free, is_largest, label_follower}
use Rattle.algorithms.proofs.Grown.{none_numbered, free_in, free_out, numbered_before, numbered_now, awaits_in, awaits_out, label_same, label_now}
use Rattle.algorithms.proofs.Lift.{Sound, sound_run, Complete, run_follows, Agrees}

pub record Reading (s : Search) (n : ℕ) (ls : Labels) (means : ℕ → (ℕ → Bool) → ls.Label → Type 0) : Type 0 where
  -- what a label says, as vertices are numbered
  pub blank_means : (f : ℕ → Bool) → means 0 f ls.blank
  pub put_means : (k : ℕ) (f : ℕ → Bool) (l : ls.Label) → k < n → T (f k) → means k f l → means (suc k) f (ls.put (suc k) l)
  pub kept_means : (k : ℕ) (f : ℕ → Bool) (l : ls.Label) → (T (f k) → ⊥) → means k f l → means (suc k) f l
  pub means_same : (k : ℕ) (f g : ℕ → Bool) (l : ls.Label) → ((p : ℕ) → p < k → f p ≡ g p) → means k f l → means k g l
  -- larger is ahead
  pub larger_ahead : (k : ℕ) (c b : ℕ → Bool) (x y : ls.Label) → k ≤ n → means k c x → means k b y → T (ls.larger x y) → T (outranks s k c b)
  pub ahead_larger : (k : ℕ) (c b : ℕ → Bool) (x y : ls.Label) → k ≤ n → means k c x → means k b y → T (outranks s k c b) → T (ls.larger x y)
  -- the start vertex comes first
  pub first_larger : T (ls.larger ls.first ls.blank)
  pub blank_smaller : T (ls.larger ls.blank ls.first) → ⊥
  pub first_itself : T (ls.larger ls.first ls.first) → ⊥

module _ (s : Search) (arc : ℕ → ℕ → Bool) (n : ℕ) (ls : Labels) (means : ℕ → (ℕ → Bool) → ls.Label → Type 0) (reading : Reading s n ls means) where
  -- the label of every unnumbered vertex says its positions
  abbrev Said : List ℕ → (ℕ → ls.Label) → Type 0
  Said w d = (u : ℕ) → u < n → (T (numbered w u) → ⊥) → means (length w) (label arc w u) (d u)

  -- so it does after a turn
  said_on : (w : List ℕ) (d : ℕ → ls.Label) (v u : ℕ) → length w < n → (T (numbered (w ++ v ∷ []) u) → ⊥) → means (length w) (label arc w u) (d u)
      → means (length (w ++ v ∷ [])) (label arc (w ++ v ∷ []) u) (relabelled ls arc w v d u)
  unfolding relabelled
  said_on w d v u l out m = subst (λ (k : ℕ). means k now (relabelled ls arc w v d u)) (sym (length_grown w v)) (go (decided (awaits arc w v u)))
    where
      now : ℕ → Bool
      now = label arc (w ++ v ∷ []) u

      before : means (length w) now (d u)
      before = reading.means_same (length w) (label arc w u) now (d u) (λ p h. sym (label_same w v arc u p h)) m

      new : ls.Label
      new = ls.put (suc (length w)) (d u)

      go : T (awaits arc w v u) ⊎ (T (awaits arc w v u) → ⊥) → means (suc (length w)) now (cond (awaits arc w v u) new (d u))
      go (inl t) =
          subst (λ (x : ls.Label). means (suc (length w)) now x) (sym (cond_yes (awaits arc w v u) new (d u) t))
          (reading.put_means (length w) now (d u) l (subst (λ (b : Bool). T b) (sym (label_now w v arc u)) (awaits_out w v arc u t).0) before)
      go (inr none) =
          subst (λ (x : ls.Label). means (suc (length w)) now x) (sym (cond_no (awaits arc w v u) new (d u) none))
          (reading.kept_means (length w) now (d u) (λ t. none (awaits_in w v arc u (subst (λ (b : Bool). T b) (label_now w v arc u) t) out)) before)

  first_start : (x : ℕ) → first_labels ls x x ≡ ls.first
  unfolding first_labels
  first_start x = cond_yes (eqb x x) ls.first ls.blank (eqb_refl x)

  first_other : (x u : ℕ) → (x ≡ u → ⊥) → first_labels ls x u ≡ ls.blank
  unfolding first_labels
  first_other x u apart = cond_no (eqb x u) ls.first ls.blank (λ t. apart (eqb→eq x u t))

  -- the start vertex is picked first
  starts_there : (x v : ℕ) (d' : ℕ → ls.Label) → x < n → LabelStep ls arc n [] (first_labels ls x) v d' → x ≡ v
  starts_there x v d' vertex step = go (decided (eqb x v))
    where
      go : T (eqb x v) ⊎ (T (eqb x v) → ⊥) → x ≡ v
      go (inl t) = eqb→eq x v t
      go (inr apart) =
          let other = first_other x v (λ e. apart (subst (λ (y : ℕ). T (eqb x y)) e (eqb_refl x))) in
          absurd (step.largest x vertex (none_numbered x)
          (subst (λ (y : ls.Label). T (ls.larger (first_labels ls x x) y)) (sym other)
          (subst (λ (y : ls.Label). T (ls.larger y ls.blank)) (sym (first_start x)) reading.first_larger)))

  said_first : (x v : ℕ) (d' : ℕ → ls.Label) → x < n → LabelStep ls arc n [] (first_labels ls x) v d' → Said (v ∷ []) d'
  said_first x v d' vertex step u l out =
      let e = starts_there x v d' vertex step in
      let other : first_labels ls x u ≡ ls.blank = first_other x u (λ same. out (numbered_now [] v u (sym e ∙ same))) in
      subst (λ (d : ℕ → ls.Label). means 1 (label arc (v ∷ []) u) (d u)) (sym step.becomes)
      (said_on [] (first_labels ls x) v u (omega (arith, step.vertex)) out
      (subst (λ (y : ls.Label). means 0 (label arc [] u) y) (sym other) (reading.blank_means (label arc [] u))))

  labelling_sound : Sound s arc n (labelling ls arc n) Said
  labelling_sound = record {
    opens = λ x v d' vertex step. (step.vertex, said_first x v d' vertex step);
    offers = λ w d v d' l said step.
        offered_in s arc n w (length w) v (record {
          vertex = step.vertex;
          unplaced = step.unnumbered;
          unbeaten = λ u h out ahead. step.largest u h out
              (reading.ahead_larger (length w) (label arc w u) (label arc w v) (d u) (d v) l (said u h out) (said v step.vertex step.unnumbered) ahead);
        });
    keeps = λ w d v d' l said step u h out.
        subst (λ (d : ℕ → ls.Label). means (length (w ++ v ∷ [])) (label arc (w ++ v ∷ []) u) (d u)) (sym step.becomes)
        (said_on w d v u l out (said u h (λ t. out (numbered_before w v u t))));
  }

  first_step : (v : ℕ) → v < n → LabelStep ls arc n [] (first_labels ls v) v (relabelled ls arc [] v (first_labels ls v))
  first_step v l = record {
    vertex = l;
    unnumbered = none_numbered v;
    largest = λ u h out t. go u (decided (eqb v u)) (subst (λ (y : ls.Label). T (ls.larger (first_labels ls v u) y)) (first_start v) t);
    becomes = refl;
  }
    where
      go : (u : ℕ) → T (eqb v u) ⊎ (T (eqb v u) → ⊥) → T (ls.larger (first_labels ls v u) ls.first) → ⊥
      go u (inl same) t =
          reading.first_itself (subst (λ (y : ls.Label). T (ls.larger y ls.first)) (ap (λ (x : ℕ). first_labels ls v x) (sym (eqb→eq v u same)) ∙ first_start v) t)
      go u (inr apart) t =
          let other = first_other v u (λ e. apart (subst (λ (y : ℕ). T (eqb v y)) e (eqb_refl v))) in
          reading.blank_smaller (subst (λ (y : ls.Label). T (ls.larger y ls.first)) other t)

  next_step : (w : List ℕ) (d : ℕ → ls.Label) (v : ℕ) → length w < n → Said w d → T (offered s arc n w (length w) v)
      → LabelStep ls arc n w d v (relabelled ls arc w v d)
  next_step w d v l said o =
      let offer = offered_out s arc n w (length w) v o in
      record {
        vertex = offer.vertex;
        unnumbered = offer.unplaced;
        largest = λ u h out larger. offer.unbeaten u h out
            (reading.larger_ahead (length w) (label arc w u) (label arc w v) (d u) (d v) (omega arith) (said u h out) (said v offer.vertex offer.unplaced) larger);
        becomes = refl;
      }

  step_allowed : (w : List ℕ) (d : ℕ → ls.Label) (v : ℕ) (d' : ℕ → ls.Label) → LabelStep ls arc n w d v d' → T (is_largest ls n w d v)
  unfolding is_largest
  step_allowed w d v d' step =
      and_in (free n w v) (not (any_below n above)) (free_in n w v step.vertex step.unnumbered) (not_T (any_below n above) (λ t.
      let u = any_out n above t in
      let both = and_out (not (numbered w u.at)) (ls.larger (d u.at) (d v)) u.holds in
      step.largest u.at u.below (T_not (numbered w u.at) both.0) both.1))
    where
      above : ℕ → Bool
      above u = not (numbered w u) && ls.larger (d u) (d v)

  allowed_step : (w : List ℕ) (d : ℕ → ls.Label) (v : ℕ) → T (is_largest ls n w d v) → LabelStep ls arc n w d v (relabelled ls arc w v d)
  unfolding is_largest
  allowed_step w d v t =
      let both = and_out (free n w v) (not (any_below n above)) t in
      let new = free_out n w v both.0 in
      record {
        vertex = new.0;
        unnumbered = new.1;
        largest = λ u l out larger.
            T_not (any_below n above) both.1
            (any_at n above u l (and_in (not (numbered w u)) (ls.larger (d u) (d v)) (not_T (numbered w u) out) larger));
        becomes = refl;
      }
    where
      above : ℕ → Bool
      above u = not (numbered w u) && ls.larger (d u) (d v)

  labelling_complete : (r : List ℕ) → Complete s arc n (labelling ls arc n) Said (label_follower arc n ls) r
  labelling_complete r = record {
    opens = λ v along l.
        let d' = relabelled ls arc [] v (first_labels ls v) in
        (step_allowed [] (first_labels ls v) v d' (first_step v l), said_first v v d' l (first_step v l));
    goes = λ w d v along said o.
        let d' = relabelled ls arc w v d in
        let step = next_step w d v along.inside said o in
        (step_allowed w d v d' step, labelling_sound.keeps w d v d' along.inside said step);
  }

  pub labelling_agrees : Agrees s arc n (labelling ls arc n) (label_follower arc n ls)
  labelling_agrees = record {
    sound = sound_run s arc n (labelling ls arc n) Said labelling_sound;
    followed = λ r run. run_follows s arc n (labelling ls arc n) Said (label_follower arc n ls) r (labelling_complete r) run;
    lawful = λ r full w d v t. allowed_step w d v t;
  }
