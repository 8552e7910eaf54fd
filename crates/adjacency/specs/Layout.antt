-- A graph as adjacency lists. `neighbours` holds the neighbours of vertex 0, then those of vertex 1, and so on; `offsets` has one number more than there
-- are vertices, and the neighbours of u stand at the positions from offset u up to offset u + 1.                     [02, K10: the second layout]
--   size_of offsets                  the number of vertices
--   stands_in list begin end v       v stands in the list at a position from `begin` up to `end`
--   arcs_listed offsets neighbours u v   u leads to v: v stands among the neighbours of u                            [02, K10: bit v of row u is set]
--   falls_at offsets u               the offsets fall behind u
--   unsorted_in list begin end       from `begin` up to `end` the list is not strictly ascending
--   unsorted_at offsets neighbours u   the neighbours of u are not strictly ascending
--   form_tests offsets neighbours    the six cases of refusal 26, in the order of 02                                 [02, K10: 26]
--   self_loop_in, one_way_in n arc      a vertex linked to itself; a link in one direction only
--   listed_tests mark offsets neighbours   what is refused: 2, 26, 4 and 5                                           [02, K10: checks]
--   list_of k f                      the list of f 0 to f (k - 1)
--   rows_of n arc                    the rows of a relation on n vertices, as words
--   rows_listed offsets neighbours   the rows of a layout
--   columns_of rows                  the rows of the transposed graph
--   IsCover offsets neighbours      the offsets start at 0, do not fall and end at the length of the neighbour list
--   IsLayout offsets neighbours     the layout of a graph of at most 64 vertices: none of the six cases holds
use Rattle.std.specs.Prelude.{ℕ, zero, suc, ◌-◌, ◌≤◌, ◌<◌, ◌≡◌, Bool, not, ◌&&◌, List, [], ◌∷◌, ◌++◌, ltb, leb, eqb, length}
use Rattle.bitset.specs.Below.{any_below}
use Rattle.bitset.specs.Word.{set_below}
use Rattle.searches.specs.Ordering.{arcs, at}
use Rattle.searches.specs.Answer.{is_two_way, vertex_outside}
use Rattle.searches.specs.declared.Mark.{Mark}

unfoldable pub size_of : List ℕ → ℕ
size_of offsets = length offsets - 1

unfoldable pub stands_in : List ℕ → ℕ → ℕ → ℕ → Bool
stands_in list begin end v = any_below end (λ e. leb begin e && eqb (at list e) v)

unfoldable pub arcs_listed : List ℕ → List ℕ → ℕ → ℕ → Bool
arcs_listed offsets neighbours u v = stands_in neighbours (at offsets u) (at offsets (suc u)) v

-- ---- what is refused

unfoldable pub falls_at : List ℕ → ℕ → Bool
falls_at offsets u = ltb (at offsets (suc u)) (at offsets u)

unfoldable pub unsorted_in : List ℕ → ℕ → ℕ → Bool
unsorted_in list begin end = any_below end (λ e. ltb begin e && leb (at list e) (at list (e - 1)))

unfoldable pub unsorted_at : List ℕ → List ℕ → ℕ → Bool
unsorted_at offsets neighbours u = unsorted_in neighbours (at offsets u) (at offsets (suc u))

unfoldable pub form_tests : List ℕ → List ℕ → List (ℕ × Bool)
form_tests offsets neighbours =
    -- there is no offset
    (26, eqb (length offsets) 0)
    -- the offsets do not start at 0,
    ∷ (26, not (eqb (at offsets 0) 0))
    -- fall,
    ∷ (26, any_below (size_of offsets) (falls_at offsets))
    -- or do not end at the length of the neighbour list
    ∷ (26, not (eqb (at offsets (size_of offsets)) (length neighbours)))
    -- the neighbours of a vertex are not strictly ascending,
    ∷ (26, any_below (size_of offsets) (unsorted_at offsets neighbours))
    -- or not all below n
    ∷ (26, vertex_outside (size_of offsets) neighbours (length neighbours))
    ∷ []

unfoldable pub self_loop_in : ℕ → (ℕ → ℕ → Bool) → Bool
self_loop_in n arc = any_below n (λ u. arc u u)

unfoldable pub one_way_in : ℕ → (ℕ → ℕ → Bool) → Bool
one_way_in n arc = any_below n (λ u. any_below n (λ v. arc u v && not (arc v u)))

unfoldable pub listed_tests : Mark → List ℕ → List ℕ → List (ℕ × Bool)
listed_tests mark offsets neighbours =
    (2, ltb 65 (length offsets))
    ∷ form_tests offsets neighbours
    ++ (4, self_loop_in (size_of offsets) (arcs_listed offsets neighbours))
    ∷ (5, is_two_way mark && one_way_in (size_of offsets) (arcs_listed offsets neighbours))
    ∷ []

-- ---- rows

unfoldable pub list_of : ℕ → (ℕ → ℕ) → List ℕ
list_of zero f = []
list_of (suc k) f = list_of k f ++ f k ∷ []

unfoldable pub rows_of : ℕ → (ℕ → ℕ → Bool) → List ℕ
rows_of n arc = list_of n (λ u. set_below n (arc u))

unfoldable pub rows_listed : List ℕ → List ℕ → List ℕ
rows_listed offsets neighbours = rows_of (size_of offsets) (arcs_listed offsets neighbours)

unfoldable pub columns_of : List ℕ → List ℕ
columns_of rows = rows_of (length rows) (λ v u. arcs rows u v)

pub record IsCover (offsets neighbours : List ℕ) : Type 0 where
  pub some : 0 < length offsets
  pub starts : at offsets 0 ≡ 0
  pub rises : (u : ℕ) → u < size_of offsets → at offsets u ≤ at offsets (suc u)
  pub ends : at offsets (size_of offsets) ≡ length neighbours

pub record IsLayout (offsets neighbours : List ℕ) : Type 0 where
  pub few : length offsets ≤ 65
  pub cover : IsCover offsets neighbours
  pub ascends : (u e : ℕ) → u < size_of offsets → at offsets u ≤ e → suc e < at offsets (suc u) → at neighbours e < at neighbours (suc e)
  pub inside : (e : ℕ) → e < length neighbours → at neighbours e < size_of offsets
