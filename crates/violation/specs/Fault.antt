-- The search for the first violation with a vertex that was not offered, on labels that are kept as words.
--   front_in rows free a b         the free vertices that a leads to; none where it leads to b, too
--   violates_in s rows w labels free j i c   the vertices at i and j and c are a violation, seen at j's turn
--   last_in, first_in               candidate e for c, position i of a take part in one
--   first_fault s rows w labels free j k   the first violation with the vertex at position j, as judge shows it
--   completes_in s labels front i mine c   c is one of `front`, and with b's label `mine` nothing excuses position i against c's
--   behind_in s labels front i mine w j p  p is behind j, and the vertex there is such a c
--   last_of s labels front i mine w j k    the first such c: by position behind j, where there is none by number
--   Searchable s rows w k labels weights free j   the first k entries of w are vertices, j is one of these positions, free those of a set of vertices that are
--                                 unplaced at its turn, and the weights are those of the labels
--   Positioned w k j i            w has k positions, j is one of them, and i is the number of a bit of a label
use Rattle.std.specs.Prelude.{ℕ, ◌+◌, ◌≤◌, ◌<◌, ◌≡◌, Bool, cond, not, ◌&&◌, List, eqb, ltb, length, get_or}
use Rattle.bitset.specs.Below.{any_below, first_below}
use Rattle.bitset.specs.Word.{member, common}
use Rattle.searches.specs.Kind.{Search}
use Rattle.searches.specs.Ordering.{arcs, at}
use Rattle.searches.specs.Violation.{third, Verdict, fails}
use Rattle.labels.specs.Words.{Weighed, unexcused_in}
use Rattle.steps.specs.Steps.{AreVertices, free_after}

unfoldable pub front_in : List ℕ → ℕ → ℕ → ℕ → ℕ
front_in rows free a b = cond (arcs rows a b) 0 (common (get_or rows a 0) free)

module _ (s : Search) where
  module _ (rows w labels : List ℕ) (free j : ℕ) where
    unfoldable pub violates_in : ℕ → ℕ → Bool
    violates_in i c =
        arcs rows (at w i) c && not (arcs rows (at w i) (at w j)) && (member free c && not (eqb c (at w j)))
        && unexcused_in s i (get_or labels c 0) (get_or labels (at w j) 0)

    unfoldable pub last_in : ℕ → ℕ → ℕ → Bool
    last_in k i e = violates_in i (third w k e)

    unfoldable pub first_in : ℕ → ℕ → Bool
    first_in k i = any_below (k + length rows) (last_in k i)

    unfoldable pub first_fault : ℕ → Verdict
    first_fault k =
        let i = first_below j (first_in k) in
        fails (at w i) (at w j) (third w k (first_below (k + length rows) (last_in k i)))

  module _ (labels : List ℕ) (front i mine : ℕ) where
    unfoldable pub completes_in : ℕ → Bool
    completes_in c = member front c && unexcused_in s i (get_or labels c 0) mine

    unfoldable pub behind_in : List ℕ → ℕ → ℕ → Bool
    behind_in w j p = ltb j p && completes_in (at w p)

    unfoldable pub last_of : List ℕ → ℕ → ℕ → ℕ
    last_of w j k =
        let p = first_below k (behind_in w j) in
        let number = first_below 64 completes_in in
        cond (ltb p k) (at w p) number

pub record Searchable (s : Search) (rows w : List ℕ) (k : ℕ) (labels weights : List ℕ) (free j : ℕ) : Type 0 where
  pub long : k ≤ length w
  pub inside : j < k
  pub fits : k ≤ length rows
  pub small : length rows ≤ 64
  pub vertices : (p : ℕ) → p < k → at w p < length rows
  pub all : ℕ
  pub within : AreVertices (length rows) all
  pub unplaced : free ≡ free_after all w j
  pub weighed : Weighed s labels weights

pub record Positioned (w : List ℕ) (k j i : ℕ) : Type 0 where
  pub long : k ≤ length w
  pub inside : j < k
  pub bit : i < 64
