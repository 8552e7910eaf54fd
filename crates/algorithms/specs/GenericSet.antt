-- Algorithm 1 of document 001, generic search. A set holds the candidates, at first the start vertex alone (line 1). Each turn any
-- unnumbered vertex of the set is picked and leaves it (3), gets the next number (4), and every unnumbered vertex to which it leads
-- is put in (5, 6). The set says nothing on which of its vertices is picked: that is left open.
-- Restart: where the set has no unnumbered vertex, any unnumbered vertex is put in and picked.
--   Candidate n set w v     v may be picked
--   added arc w set v       the set after v was picked
--   SetStep arc n           one turn
--   generic_set arc n        the algorithm
use Rattle.std.specs.Prelude.{ℕ, ◌<◌, ◌≡◌, Bool, not, ◌&&◌, ◌||◌, List, T, eqb}
use Rattle.algorithms.specs.Algorithm.{Algorithm, numbered, awaits}

pub data Candidate (n : ℕ) (set : ℕ → Bool) (w : List ℕ) (v : ℕ) : Type 0 where
  inside : T (set v) → Candidate n set w v
  restart : ((u : ℕ) → u < n → T (set u) → (T (numbered w u) → ⊥) → ⊥) → Candidate n set w v

unfoldable pub added : (ℕ → ℕ → Bool) → List ℕ → (ℕ → Bool) → ℕ → ℕ → Bool
added arc w set v u = (set u && not (eqb v u)) || awaits arc w v u

pub record SetStep (arc : ℕ → ℕ → Bool) (n : ℕ) (w : List ℕ) (set : ℕ → Bool) (v : ℕ) (set' : ℕ → Bool) : Type 0 where
  pub vertex : v < n
  pub unnumbered : T (numbered w v) → ⊥
  pub candidate : Candidate n set w v
  pub becomes : set' ≡ added arc w set v

abbrev pub generic_set : (ℕ → ℕ → Bool) → ℕ → Algorithm
generic_set arc n = record { Data = ℕ → Bool; start = λ s. eqb s; Step = SetStep arc n }
