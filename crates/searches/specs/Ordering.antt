-- Graphs and orderings. A graph is a relation `arc` and a number n of vertices, 0 to n - 1; nothing here asks that arcs go both ways.
-- An ordering is a list w of vertices. What is said of its first k positions is said of the prefix of k vertices.
--   arcs rows u v      u leads to v: bit v of row u is set                          [01: linked]
--   at w p             the vertex at position p                                     [01: the point at place p]
--   placed w k v       v stands at one of the first k positions
--   IsOrdering n w k   the first k positions hold k distinct vertices of n          [01: walk, part of a walk]
--   IsFullOrdering n w  w holds each of the n vertices once
--   Begins w k r       r begins with the first k vertices of w, in order            [01: begins]
use Rattle.std.specs.Prelude.{ℕ, ◌≤◌, ◌<◌, ◌≡◌, Bool, List, eqb, length, get_or, take}
use Rattle.bitset.specs.Below.{any_below}
use Rattle.bitset.specs.Word.{member}

unfoldable pub arcs : List ℕ → ℕ → ℕ → Bool
arcs rows u v = member (get_or rows u 0) v

abbrev pub at : List ℕ → ℕ → ℕ
at w p = get_or w p 0

unfoldable pub placed : List ℕ → ℕ → ℕ → Bool
placed w k v = any_below k (λ p. eqb (at w p) v)

pub record IsOrdering (n : ℕ) (w : List ℕ) (k : ℕ) : Type 0 where
  pub long : k ≤ length w
  pub vertices : (p : ℕ) → p < k → at w p < n
  pub distinct : (p q : ℕ) → p < q → q < k → at w p ≡ at w q → ⊥

pub record IsFullOrdering (n : ℕ) (w : List ℕ) : Type 0 where
  pub ordering : IsOrdering n w n
  pub full : length w ≡ n

abbrev pub Begins : List ℕ → ℕ → List ℕ → Type 0
Begins w k r = take k r ≡ take k w
