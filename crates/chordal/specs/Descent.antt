-- How an order or a cycle is found, from an ordering w of all vertices. Vertices are given by their positions.
--   joined arc w p q          the vertices at p and q are linked
--   Gap arc w n i j l         those at i < j are linked to the one at l behind them, and not to each other
--   is_gap l j i, is_middle l j, is_top l     the test, and whether some i, some j and i, make it hold
--   first_low l j, first_middle l, first_top n     the first i, j, l at which these hold
--   opened i l d, step i l q d   the descent may go to d: to i, or above i to a vertex that is not linked to the one at l;   and from q, as those at d and q
--                             are linked
--   next i l q                where it goes from q: to the first position of these below q
--   stop i l j s              where it is after s steps from j;   steps i l j   how many lead to i
--   cycle_at i l j p           the position of the p-th vertex of the cycle: l, then j and where the descent goes from there
--   cycle_length i l j         how many vertices that are
--   listed k f                f 0, .., f (k - 1);   numbers k   0, .., k - 1
--   cycle_vertex arc w i l j p, cycle_of arc w i l j m   the p-th vertex of the cycle, and the first m
--   turned w n p              the p-th of the first n vertices of w, counted from the last
use Rattle.std.specs.Prelude.{ℕ, zero, suc, ◌-◌, ◌<◌, Bool, not, ◌&&◌, ◌||◌, List, [], ◌∷◌, ◌++◌, T, ltb, eqb}
use Rattle.bitset.specs.Below.{any_below, first_below}
use Rattle.searches.specs.Ordering.{at}

module _ (arc : ℕ → ℕ → Bool) (w : List ℕ) where
  abbrev pub joined : ℕ → ℕ → Bool
  joined p q = arc (at w p) (at w q)

  pub record Gap (n i j l : ℕ) : Type 0 where
    pub low : i < j
    pub high : j < l
    pub inside : l < n
    pub outer : T (joined i l)
    pub inner : T (joined j l)
    pub apart : T (joined i j) → ⊥

  unfoldable pub is_gap : ℕ → ℕ → ℕ → Bool
  is_gap l j i = joined j l && (joined i l && not (joined i j))

  unfoldable pub is_middle : ℕ → ℕ → Bool
  is_middle l j = any_below j (is_gap l j)

  unfoldable pub is_top : ℕ → Bool
  is_top l = any_below l (is_middle l)

  unfoldable pub first_low : ℕ → ℕ → ℕ
  first_low l j = first_below j (is_gap l j)

  unfoldable pub first_middle : ℕ → ℕ
  first_middle l = first_below l (is_middle l)

  unfoldable pub first_top : ℕ → ℕ
  first_top n = first_below n is_top

  module _ (i l : ℕ) where
    unfoldable pub opened : ℕ → Bool
    opened d = eqb d i || (ltb i d && not (joined d l))

    unfoldable pub step : ℕ → ℕ → Bool
    step q d = opened d && joined d q

    unfoldable pub next : ℕ → ℕ
    next q = first_below q (step q)

    module _ (j : ℕ) where
      unfoldable pub stop : ℕ → ℕ
      stop zero = j
      stop (suc s) = next (stop s)

      -- each step leads to an earlier position, so there are at most j
      unfoldable pub steps : ℕ
      steps = first_below (suc j) (λ s. eqb (stop s) i)

      unfoldable pub cycle_at : ℕ → ℕ
      cycle_at zero = l
      cycle_at (suc s) = stop s

      abbrev pub cycle_length : ℕ
      cycle_length = suc (suc steps)

unfoldable pub listed : ℕ → (ℕ → ℕ) → List ℕ
listed zero f = []
listed (suc k) f = listed k f ++ f k ∷ []

abbrev pub numbers : ℕ → List ℕ
numbers k = listed k (λ v. v)

abbrev pub cycle_vertex : (ℕ → ℕ → Bool) → List ℕ → ℕ → ℕ → ℕ → ℕ → ℕ
cycle_vertex arc w i l j p = at w (cycle_at arc w i l j p)

abbrev pub cycle_of : (ℕ → ℕ → Bool) → List ℕ → ℕ → ℕ → ℕ → ℕ → List ℕ
cycle_of arc w i l j m = listed m (cycle_vertex arc w i l j)

abbrev pub turned : List ℕ → ℕ → ℕ → ℕ
turned w n p = at w (n - suc p)
