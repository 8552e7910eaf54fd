-- Chordal graphs. A graph is a relation `arc` and a number n of vertices; its links go both ways, so `arc` is symmetric below n.
--   Symmetric arc n               every link goes both ways
--   NextTo m p q                  of the positions p < q of a ring of m, the one follows the other: q is the next, or p is the first and q the last
--   IsChordlessCycle arc n c m    the first m entries of c are four or more distinct vertices in a ring, linked exactly where they are next to each
--                                 other on it                                                          [02: K9, such a cycle]
--   Chordal arc n                 there is no chordless cycle                                          [02: K9, chordal]
--   IsEliminationOrder arc n e    the first n entries of e are all vertices, each once, and the later neighbours of each are linked to one another
--                                                                                                      [02: K9, elimination order]
use Rattle.std.specs.Prelude.{ℕ, suc, ◌≤◌, ◌<◌, ◌≡◌, Bool, ◌⊎◌, ◌↔◌, List, T}
use Rattle.searches.specs.Ordering.{at, IsOrdering}

abbrev pub Symmetric : (ℕ → ℕ → Bool) → ℕ → Type 0
Symmetric arc n = (u v : ℕ) → u < n → v < n → arc u v ≡ arc v u

abbrev pub NextTo : ℕ → ℕ → ℕ → Type 0
NextTo m p q = (suc p ≡ q) ⊎ ((p ≡ 0) × (suc q ≡ m))

pub record IsChordlessCycle (arc : ℕ → ℕ → Bool) (n : ℕ) (c : List ℕ) (m : ℕ) : Type 0 where
  -- four or more
  pub four : 4 ≤ m
  -- distinct vertices
  pub distinct : IsOrdering n c m
  -- linked exactly where they are next to each other on the ring
  pub linked : (p q : ℕ) → p < q → q < m → T (arc (at c p) (at c q)) ↔ NextTo m p q

abbrev pub Chordal : (ℕ → ℕ → Bool) → ℕ → Type 0
Chordal arc n = (c : List ℕ) (m : ℕ) → IsChordlessCycle arc n c m → ⊥

pub record IsEliminationOrder (arc : ℕ → ℕ → Bool) (n : ℕ) (e : List ℕ) : Type 0 where
  -- all vertices once
  pub all : IsOrdering n e n
  -- the later neighbours of each, those at q and r, are linked to one another
  pub later : (p q r : ℕ) → p < q → q < r → r < n → T (arc (at e p) (at e q)) → T (arc (at e p) (at e r)) → T (arc (at e q) (at e r))
