-- The layout of rows, entry by entry.
--   own_next                      the neighbours of a vertex stand behind those of the vertices before it
--   begins                        the neighbours of the first vertices stand at the front of those of more
--   offsets_length, offsets_at    one offset more than there are rows: as many neighbours as those of the vertices before it
--   size_rows                     as many vertices as rows
--   neighbours_more, neighbours_grow   how many neighbours one vertex more brings;   neighbours_upto   at most all
--   neighbours_at                 the neighbours of a vertex stand behind those of the vertices before it
--   neighbours_inside             each is a vertex
-- Assumes nothing.
use Prim.Native.Nat.{ℕ, zero, suc, ◌+◌, ◌-◌, ◌≤◌, ◌<◌}
use mathlib.Core.Path.{◌≡◌, refl, sym, ap, ◌∙◌, subst}
use mathlib.Core.List.{List, [], ◌++◌, append-nil, append_assoc}
use mathlib.Core.Logic.{◌⊎◌, inl, inr}
use native.Mathlib.Omega.{arith}
use lib.ListN.{length, length-append, get_or-append}
use lib.Seq.{get_or-append-add}
use Rattle.bitset.specs.Matrix.{Within}
use Rattle.bitset.proofs.Tests.{below_or}
use Rattle.searches.specs.Ordering.{arcs, at}
use Rattle.adjacency.specs.Layout.{size_of}
use Rattle.adjacency.proofs.Rows.{list_of_length, list_of_at}
use Rattle.conversion.specs.Conversion.{numbers_below, neighbours_below, neighbours_of, offsets_of}
use Rattle.conversion.proofs.Numbers.{numbers_sound}

module _ (rows : List ℕ) where
  -- the neighbours of u, and how many stand before them
  abbrev own : ℕ → List ℕ
  own u = numbers_below 64 (arcs rows u)

  abbrev before : ℕ → ℕ
  before u = length (neighbours_below rows u)

  -- behind the neighbours of the vertices before u stand its own: those whose bit is set in its row
  own_next : (u : ℕ) → neighbours_below rows (suc u) ≡ neighbours_below rows u ++ own u
  unfolding neighbours_below
  own_next u = refl

  pub begins : (u m : ℕ) → u ≤ m → (rest : List ℕ) × (neighbours_below rows m ≡ neighbours_below rows u ++ rest)
  unfolding neighbours_below
  begins zero zero l = ([], refl)
  begins (suc u) zero l = absurd (omega arith)
  begins u (suc m) l = go (below_or m u) (begins u m)
    where
      go : (m < u) ⊎ (u ≤ m) → (u ≤ m → (rest : List ℕ) × (neighbours_below rows m ≡ neighbours_below rows u ++ rest))
          → (rest : List ℕ) × (neighbours_below rows (suc m) ≡ neighbours_below rows u ++ rest)
      go (inl h) earlier = let e : suc m ≡ u = omega arith in ([], ap (neighbours_below rows) e ∙ sym (append-nil (neighbours_below rows u)))
      go (inr h) earlier =
          let x = earlier h in
          (x.0 ++ own m, own_next m ∙ ap (λ (l : List ℕ). l ++ own m) x.1 ∙ append_assoc (neighbours_below rows u) x.0 (own m))

  pub offsets_length : length (offsets_of rows) ≡ suc (length rows)
  unfolding offsets_of
  offsets_length = list_of_length before (suc (length rows))

  pub size_rows : size_of (offsets_of rows) ≡ length rows
  unfolding size_of
  size_rows = omega (arith, offsets_length)

  pub offsets_at : (u : ℕ) → u ≤ length rows → at (offsets_of rows) u ≡ length (neighbours_below rows u)
  unfolding offsets_of
  offsets_at u l = list_of_at before (suc (length rows)) u (omega arith)

  pub neighbours_more : (u : ℕ) → length (neighbours_below rows (suc u)) ≡ length (neighbours_below rows u) + length (numbers_below 64 (arcs rows u))
  neighbours_more u = ap length (own_next u) ∙ length-append (neighbours_below rows u) (own u)

  pub neighbours_grow : (u m : ℕ) → u ≤ m → length (neighbours_below rows u) ≤ length (neighbours_below rows m)
  neighbours_grow u m l = let x = begins u m l in omega (arith, ap length x.1 ∙ length-append (neighbours_below rows u) x.0)

  pub neighbours_upto : (u : ℕ) → u ≤ length rows → length (neighbours_below rows u) ≤ length (neighbours_of rows)
  unfolding neighbours_of
  neighbours_upto u l = neighbours_grow u (length rows) l

  pub neighbours_at : (u i : ℕ) → u < length rows → i < length (numbers_below 64 (arcs rows u))
      → at (neighbours_of rows) (length (neighbours_below rows u) + i) ≡ at (numbers_below 64 (arcs rows u)) i
  unfolding neighbours_of
  neighbours_at u i l h =
      let x = begins (suc u) (length rows) l in
      ap (λ (list : List ℕ). at list (before u + i)) (x.1 ∙ ap (λ (list : List ℕ). list ++ x.0) (own_next u))
      ∙ get_or-append (neighbours_below rows u ++ own u) x.0 0 (before u + i) (omega (arith, length-append (neighbours_below rows u) (own u)))
      ∙ get_or-append-add (neighbours_below rows u) (own u) i 0

  module _ (within : Within rows) where
    below : (m : ℕ) (e : ℕ) → e < length (neighbours_below rows m) → at (neighbours_below rows m) e < length rows
    unfolding neighbours_below arcs
    below zero e l = absurd (omega arith)
    below (suc m) e l = go (below m e) (below_or e (before m))
      where
        list : List ℕ
        list = neighbours_below rows m ++ own m

        go : (e < before m → at (neighbours_below rows m) e < length rows) → (e < before m) ⊎ (before m ≤ e) → at list e < length rows
        go earlier (inl h) = subst (λ (v : ℕ). v < length rows) (sym (get_or-append (neighbours_below rows m) (own m) 0 e h)) (earlier h)
        go earlier (inr h) =
            let i : ℕ = e - before m in
            let here : before m + i ≡ e = omega arith in
            let s = numbers_sound 64 (arcs rows m) i (omega (arith, neighbours_more m)) in
            subst (λ (v : ℕ). v < length rows) (sym (get_or-append-add (neighbours_below rows m) (own m) i 0) ∙ ap (λ (p : ℕ). at list p) here)
            (within.within m (at (own m) i) s.0 s.1)

    pub neighbours_inside : (e : ℕ) → e < length (neighbours_of rows) → at (neighbours_of rows) e < length rows
    unfolding neighbours_of
    neighbours_inside = below (length rows)
