-- What algorithms 2 and 4 of document 001 share. A list, front first, holds the start vertex alone (line 1). Each turn the vertex at its
-- front leaves it (3) and gets the next number (4); every unnumbered vertex to which it leads (5) is then added to the list, each algorithm
-- in its own way (6, 7). In which order line 5 takes these vertices is left open.
-- Restart: where the list is empty, any unnumbered vertex is put in and taken.
--   Takes n w xs v rest      v is taken from the front of xs, or put in and taken where xs is empty
--   FrontStep add arc n      one turn, where add puts one vertex into the list
--   front_first add arc n     the algorithm
use Rattle.std.specs.Prelude.{ℕ, ◌<◌, ◌≡◌, Bool, List, [], ◌∷◌, T}
use Rattle.algorithms.specs.Lists.{InAnyOrder, each}
use Rattle.algorithms.specs.Algorithm.{Algorithm, numbered, awaits}

pub data Takes (n : ℕ) (w : List ℕ) : List ℕ → ℕ → List ℕ → Type 0 where
  front : (v : ℕ) (rest : List ℕ) → Takes n w (v ∷ rest) v rest
  restart : (v : ℕ) → v < n → (T (numbered w v) → ⊥) → Takes n w [] v []

module _ (add : List ℕ → ℕ → List ℕ) (arc : ℕ → ℕ → Bool) (n : ℕ) where
  pub record FrontStep (w xs : List ℕ) (v : ℕ) (xs' : List ℕ) : Type 0 where
    pub rest : List ℕ
    pub takes : Takes n w xs v rest
    pub neighbours : List ℕ
    pub in_any_order : InAnyOrder n (awaits arc w v) neighbours
    pub becomes : xs' ≡ each add rest neighbours

  abbrev pub front_first : Algorithm
  front_first = record { Data = List ℕ; start = λ s. s ∷ []; Step = FrontStep }
