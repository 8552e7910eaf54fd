-- From single turns to orderings, for any algorithm and any search. Shown of an algorithm are two things, each with a fact about its data:
-- every turn picks an offered vertex (Sound), and along a run every turn is allowed (Complete).
--   sound_run          then what it produces are runs
--   run_follows        then it can be followed along every run
--   follows_produced   and a full ordering along which it can be followed is produced
--   Agrees, agrees_runs, agrees_follows   so it produces the runs, and those are the orderings along which it can be followed
-- Assumes nothing.
use mathlib.Core.Path.{◌≡◌, refl, sym, ap, ◌∙◌, subst}
use mathlib.Core.Bool.{Bool}
use mathlib.Core.Logic.{◌↔◌}
use mathlib.Core.List.{List, [], ◌∷◌, ◌++◌, append_assoc, append-nil}
use Prim.Native.Nat.{ℕ, zero, ◌≤◌, ◌<◌}
use native.Mathlib.Omega.{arith}
use lib.Dec.{T}
use lib.ListN.{length, length-append, get_or-append}
use lib.Seq.{get_or-append_seam}
use Rattle.bitset.proofs.Tests.{and_in, and_out}
use Rattle.searches.specs.Kind.{Search}
use Rattle.searches.specs.Ordering.{at, IsOrdering, IsFullOrdering}
use Rattle.searches.specs.Run.{offered, Reached, nothing, next, Run}
use Rattle.searches.proofs.Ordering.{Agree, length_grown}
use Rattle.searches.proofs.Run.{offered_out, offered_agree, all_offered_first, Greedy, greedy_ordering, reached_greedy}
use Rattle.algorithms.specs.Algorithm.{Algorithm, Steps, begun, turned, Produced}
use Rattle.algorithms.specs.Following.{Follower, follows}

module _ (s : Search) (arc : ℕ → ℕ → Bool) (n : ℕ) where
  reached_ordering : {w : List ℕ} → Reached s arc n w → IsOrdering n w (length w)
  reached_ordering {w} r = greedy_ordering s arc n w (length w) (omega arith) (reached_greedy s arc n r)

  pub run_full : {r : List ℕ} → Run s arc n r → IsFullOrdering n r
  run_full {r} run = record { ordering = subst (λ (k : ℕ). IsOrdering n r k) run.full (reached_ordering run.reached); full = run.full }

  -- w is numbered, the first vertices of r, and v comes next in r
  pub record Along (r w : List ℕ) (v : ℕ) : Type 0 where
    pub so_far : Agree (length w) r w
    pub then : at r (length w) ≡ v
    pub inside : length w < n

  module _ (a : Algorithm) (holds : List ℕ → a.Data → Type 0) where
    -- the turns of a search keep `holds`, a fact about the data once a vertex is numbered, and pick offered vertices
    pub record Sound : Type 0 where
      pub opens : (x v : ℕ) (d' : a.Data) → x < n → a.Step [] (a.start x) v d' → (v < n) × holds (v ∷ []) d'
      pub offers : (w : List ℕ) (d : a.Data) (v : ℕ) (d' : a.Data) → length w ≤ n → holds w d → a.Step w d v d' → T (offered s arc n w (length w) v)
      pub keeps : (w : List ℕ) (d : a.Data) (v : ℕ) (d' : a.Data) → length w < n → holds w d → a.Step w d v d' → holds (w ++ v ∷ []) d'

    -- before the first turn the data is the start's
    abbrev Held : ℕ → List ℕ → a.Data → Type 0
    Held x [] d = d ≡ a.start x
    Held x (y ∷ w) d = holds (y ∷ w) d

    held_after : (x : ℕ) (w : List ℕ) (v : ℕ) (d : a.Data) → holds (w ++ v ∷ []) d → Held x (w ++ v ∷ []) d
    held_after x [] v d h = h
    held_after x (y ∷ w) v d h = h

    module _ (sound : Sound) (x : ℕ) (vertex : zero < n → x < n) where
      one_turn : (w : List ℕ) (d : a.Data) (v : ℕ) (d' : a.Data) → length w < n → Held x w d → a.Step w d v d'
          → T (offered s arc n w (length w) v) × holds (w ++ v ∷ []) d'
      one_turn [] d v d' l h step =
          let o = sound.opens x v d' (vertex l) (subst (λ (e : a.Data). a.Step [] e v d') h step) in
          (all_offered_first s arc n [] v o.0, o.1)
      one_turn (y ∷ w) d v d' l h step = (sound.offers (y ∷ w) d v d' (omega arith) h step, sound.keeps (y ∷ w) d v d' l h step)

      steps_reached : {w : List ℕ} {d : a.Data} → Steps a x w d → length w ≤ n → Reached s arc n w × Held x w d
      steps_reached begun l = (nothing, refl)
      steps_reached (turned {w = w} {d = d} v d' before step) l =
          let room : length w < n = omega (arith, l, length_grown w v) in
          let so_far = steps_reached before (omega arith) in
          let now = one_turn w d v d' room so_far.1 step in
          (next v so_far.0 now.0, held_after x w v d' now.1)

    pub sound_run : Sound → (w : List ℕ) → Produced a n w → Run s arc n w
    sound_run sound w p = record { reached = (steps_reached sound p.from p.vertex p.steps (omega (arith, p.full))).0; full = p.full }

    module _ (f : Follower a) (r : List ℕ) where
      -- along r every turn is allowed that picks an offered vertex, and it keeps `holds`
      pub record Complete : Type 0 where
        pub opens : (v : ℕ) → Along r [] v → v < n → T (f.allowed [] (a.start v) v) × holds (v ∷ []) (f.after r [] (a.start v) v)
        pub goes : (w : List ℕ) (d : a.Data) (v : ℕ) → Along r w v → holds w d → T (offered s arc n w (length w) v)
            → T (f.allowed w d v) × holds (w ++ v ∷ []) (f.after r w d v)

      module _ (complete : Complete) where
        one_allowed : (w : List ℕ) (d : a.Data) (v : ℕ) → Along r w v → T (offered s arc n w (length w) v) → Held (at r 0) w d
            → T (f.allowed w d v) × holds (w ++ v ∷ []) (f.after r w d v)
        one_allowed [] d v along o h =
            subst (λ (d : a.Data). T (f.allowed [] d v) × holds (v ∷ []) (f.after r [] d v)) (ap (λ (x : ℕ). a.start x) (sym along.then) ∙ sym h)
            (complete.opens v along (offered_out s arc n [] 0 v o).vertex)
        one_allowed (y ∷ w) d v along o h = complete.goes (y ∷ w) d v along h o

        all_allowed : Greedy s arc n r n → length r ≡ n → (w : List ℕ) (d : a.Data) (vs : List ℕ) → w ++ vs ≡ r → Held (at r 0) w d → T (follows a f r w d vs)
        unfolding follows
        all_allowed greedy full w d [] e h = tt
        all_allowed greedy full w d (v ∷ vs) e h =
            let so_far : Agree (length w) r w = λ p l. ap (λ (x : List ℕ). at x p) (sym e) ∙ get_or-append w (v ∷ vs) 0 p l in
            let then : at r (length w) ≡ v = ap (λ (x : List ℕ). at x (length w)) (sym e) ∙ get_or-append_seam w v vs 0 in
            let room : length w < n = omega (arith, length-append w (v ∷ vs), ap length e, full) in
            let along : Along r w v = record { so_far = so_far; then = then; inside = room } in
            let o = subst (λ (x : ℕ). T (offered s arc n w (length w) x)) then (offered_agree s arc n (length w) (at r (length w)) r w so_far (greedy (length w) room)) in
            let now = one_allowed w d v along o h in
            and_in (f.allowed w d v) (follows a f r (w ++ v ∷ []) (f.after r w d v) vs) now.0
            (all_allowed greedy full (w ++ v ∷ []) (f.after r w d v) vs (append_assoc w (v ∷ []) vs ∙ e) (held_after (at r 0) w v (f.after r w d v) now.1))

        pub run_follows : Run s arc n r → T (follows a f r [] (a.start (at r 0)) r)
        run_follows run =
            all_allowed (subst (λ (k : ℕ). Greedy s arc n r k) run.full (reached_greedy s arc n run.reached)) run.full [] (a.start (at r 0)) r refl refl

-- ---- what can be followed is produced

module _ (a : Algorithm) (f : Follower a) (r : List ℕ) (steps : (w : List ℕ) (d : a.Data) (v : ℕ) → T (f.allowed w d v) → a.Step w d v (f.after r w d v)) where
  follows_steps : (x : ℕ) (w : List ℕ) (d : a.Data) (vs : List ℕ) → Steps a x w d → T (follows a f r w d vs) → (d' : a.Data) × Steps a x (w ++ vs) d'
  unfolding follows
  follows_steps x w d [] so_far t = (d, subst (λ (u : List ℕ). Steps a x u d) (sym (append-nil w)) so_far)
  follows_steps x w d (v ∷ vs) so_far t =
      let both = and_out (f.allowed w d v) (follows a f r (w ++ v ∷ []) (f.after r w d v) vs) t in
      let on = follows_steps x (w ++ v ∷ []) (f.after r w d v) vs (turned v (f.after r w d v) so_far (steps w d v both.0)) both.1 in
      (on.0, subst (λ (u : List ℕ). Steps a x u on.0) (append_assoc w (v ∷ []) vs) on.1)

  pub follows_produced : (n : ℕ) → IsFullOrdering n r → T (follows a f r [] (a.start (at r 0)) r) → Produced a n r
  follows_produced n full t =
      let made = follows_steps (at r 0) [] (a.start (at r 0)) r begun t in
      record { from = at r 0; vertex = λ l. full.ordering.vertices 0 l; afterwards = made.0; steps = made.1; full = full.full }

-- ---- both at once

-- what is shown of each algorithm
pub record Agrees (s : Search) (arc : ℕ → ℕ → Bool) (n : ℕ) (a : Algorithm) (f : Follower a) : Type 0 where
  pub sound : (w : List ℕ) → Produced a n w → Run s arc n w
  pub followed : (r : List ℕ) → Run s arc n r → T (follows a f r [] (a.start (at r 0)) r)
  pub lawful : (r : List ℕ) → IsFullOrdering n r → (w : List ℕ) (d : a.Data) (v : ℕ) → T (f.allowed w d v) → a.Step w d v (f.after r w d v)

module _ {s : Search} {arc : ℕ → ℕ → Bool} {n : ℕ} {a : Algorithm} {f : Follower a} (agrees : Agrees s arc n a f) (w : List ℕ) where
  pub agrees_runs : Produced a n w ↔ Run s arc n w
  agrees_runs = (
    agrees.sound w,
    λ run. let full = run_full s arc n run in follows_produced a f w (agrees.lawful w full) n full (agrees.followed w run),
  )

  pub agrees_follows : IsFullOrdering n w → T (follows a f w [] (a.start (at w 0)) w) ↔ Produced a n w
  agrees_follows full = (follows_produced a f w (agrees.lawful w full) n full, λ p. agrees.followed w (agrees.sound w p))
