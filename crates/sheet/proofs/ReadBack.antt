-- What is read of the sheet of a valid graph and a walk of it: the two.
--   written_accepted      it is not refused
--   walk_back             the walk is read back
--   arcs_same             the links that are read are the graph's;   rows_back   so the rows are read back
-- Assumes nothing.
use Prim.Native.Nat.{ℕ, zero, suc, ◌+◌, ◌*◌, ◌/◌, ◌%◌, ◌^◌, ◌≤◌, ◌<◌}
use mathlib.Core.Path.{◌≡◌, sym, ap, ap₂, ◌∙◌, subst}
use mathlib.Core.Bool.{Bool}
use mathlib.Core.Logic.{◌⊎◌, inl, inr}
use mathlib.Core.List.{List}
use native.Mathlib.Omega.{arith}
use lib.Dec.{T}
use lib.ListN.{length}
use lib.Seq.{ext_get_or}
use Rattle.bitset.specs.Below.{any_below}
use Rattle.bitset.proofs.Tests.{same_test, three_ways}
use Rattle.bitset.proofs.Below.{any_out, any_at, any_same}
use Rattle.bitset.proofs.Word.{equal_members}
use Rattle.searches.specs.Ordering.{arcs, at, IsOrdering}
use Rattle.searches.proofs.Ordering.{ordering_fits}
use Rattle.sheet.specs.Sheet.{points_of, links_of, places_of, from_of, to_of, before_from, before_to, place_at, tabulate, walk_of, rows_of}
use Rattle.lines.specs.Line.{is_below}
use Rattle.sheet.specs.Written.{link_list}
use Rattle.sheet.proofs.Sheets.{tabulate_length, tabulate_at}
use Rattle.sheet.proofs.Joined.{joins, joins_in, joins_back, joins_out}
use Rattle.sheet.proofs.Accepted.{Line, Accepted, length_read, words_read, arcs_read}
use Rattle.sheet.proofs.Written.{Written}
use Rattle.sheet.proofs.Links.{Graph, before_in, parts, link_out, link_in, links_listed, fits}

-- b holds what the sheet of a graph and a walk holds
module _ (b rows w : List ℕ) (g : Graph rows) (o : IsOrdering (length rows) w (length w)) (x : Written b rows w) where
  -- the number of link j, and its two points
  link_points : (j : ℕ) → j < length (link_list rows) → (from_of b j < to_of b j) × (to_of b j < length rows) × T (arcs rows (from_of b j) (to_of b j))
  link_points j l =
      let c = at (link_list rows) j in
      let link = link_out rows c ((links_listed rows).holds j l) in
      let from : from_of b j ≡ c / 64 = x.from j l in
      let to : to_of b j ≡ c % 64 = x.to j l in
      let start : c / 64 < length rows = omega (arith, (links_listed rows).below j l) in
      let end : c % 64 < length rows = g.inside (c / 64) (c % 64) start (omega arith) link.1 in
      (omega (arith, link.0), omega arith, subst (λ (t : Bool). T t) (sym (ap₂ (λ (y z : ℕ). arcs rows y z) from to)) link.1)

  number_here : (j : ℕ) → j < length (link_list rows) → 64 * from_of b j + to_of b j ≡ at (link_list rows) j
  number_here j l = omega (arith, x.from j l, x.to j l)

  after_before : (j : ℕ) → j < length (link_list rows) → T (is_below (before_from b j) (before_to b j) (from_of b j) (to_of b j))
  unfolding before_from before_to
  after_before zero l =
      let here = link_points 0 l in
      before_in 0 0 (from_of b 0) (to_of b 0) (omega (arith, here.0)) (omega (arith, here.1, g.few))
  after_before (suc j) l =
      let here = link_points (suc j) l in
      before_in (from_of b j) (to_of b j) (from_of b (suc j)) (to_of b (suc j))
      (omega (arith, number_here j (omega arith), number_here (suc j) l, (links_listed rows).ascending j (suc j) (omega arith) l)) (omega (arith, here.1, g.few))

  pub walk_back : walk_of b ≡ w
  unfolding walk_of
  walk_back =
      let long : length (tabulate (places_of b) (place_at b)) ≡ places_of b = tabulate_length (place_at b) (places_of b) in
      let places : places_of b ≡ length w = x.places in
      ext_get_or 0 (tabulate (places_of b) (place_at b)) w (long ∙ places) (λ p l. tabulate_at (place_at b) (places_of b) p (omega arith) ∙ x.place p (omega arith))

  pub written_accepted : Accepted b
  written_accepted =
      let points : points_of b ≡ length rows = x.points in
      let links : links_of b ≡ length (link_list rows) = x.links in
      let places : places_of b ≡ length w = x.places in
      record {
        points = omega (arith, g.few);
        links = omega (arith, (fits rows g o).links);
        places = omega (arith, ordering_fits (length rows) o);
        ended = x.ended;
        link_lines = λ j l. line j (omega arith);
        place_lines = λ j l. x.place_ended j (omega arith);
        long = x.long;
        walk =
            subst (λ (n : ℕ). IsOrdering n (walk_of b) (places_of b)) (sym points)
            (subst (λ (k : ℕ). IsOrdering (length rows) (walk_of b) k) (sym places) (subst (λ (l : List ℕ). IsOrdering (length rows) l (length w)) (sym walk_back) o));
      }
    where
      line : (j : ℕ) → j < length (link_list rows) → Line b j
      line j l =
          let here = link_points j l in
          record { up = here.0; inside = subst (λ (n : ℕ). to_of b j < n) (sym x.points) here.1; ended = x.link_ended j l; after = after_before j l }

  -- a link of the rows is one of the sheet's
  link_found : (u v : ℕ) → u < v → v < length rows → T (arcs rows u v) → (j : ℕ) × (j < links_of b) × (from_of b j ≡ u) × (to_of b j ≡ v)
  link_found u v l h t =
      let few : length rows ≤ 64 = g.few in
      let links : links_of b ≡ length (link_list rows) = x.links in
      let s = (links_listed rows).all (64 * u + v) (omega arith) (link_in rows u v l (omega arith) t) in
      let e = parts u v (omega arith) in
      (s.0, omega (arith, s.1), x.from s.0 s.1 ∙ ap (λ (c : ℕ). c / 64) s.2 ∙ e.0, x.to s.0 s.1 ∙ ap (λ (c : ℕ). c % 64) s.2 ∙ e.1)

  joined_somewhere : (u v : ℕ) → u < v → v < length rows → T (arcs rows u v) → T (any_below (links_of b) (λ i. joins (from_of b i) (to_of b i) u v))
  joined_somewhere u v l h t =
      let s = link_found u v l h t in
      any_at (links_of b) (λ i. joins (from_of b i) (to_of b i) u v) s.0 s.1
      (subst (λ (a : Bool). T a) (ap₂ (λ (y z : ℕ). joins (from_of b s.0) (to_of b s.0) y z) s.2 s.3) (joins_in (from_of b s.0) (to_of b s.0)))

  found_joined : (u v : ℕ) → u < length rows → v < 64 → T (arcs rows u v) → T (any_below (links_of b) (λ i. joins (from_of b i) (to_of b i) u v))
  found_joined u v l h t = go (g.inside u v l h t) (three_ways u v)
    where
      go : v < length rows → (u < v) ⊎ ((u ≡ v) ⊎ (v < u)) → T (any_below (links_of b) (λ i. joins (from_of b i) (to_of b i) u v))
      go in-range (inl up) = joined_somewhere u v up in-range t
      go in-range (inr (inl e)) = absurd (g.loopless u l (subst (λ (y : ℕ). T (arcs rows u y)) (sym e) t))
      go in-range (inr (inr down)) =
          subst (λ (a : Bool). T a)
          (any_same (links_of b) (λ i. joins (from_of b i) (to_of b i) v u) (λ i. joins (from_of b i) (to_of b i) u v) (λ i _. joins_back (from_of b i) (to_of b i) v u))
          (joined_somewhere v u down l (g.both_ways u v l in-range t))

  joined_found : (u v : ℕ) → T (any_below (links_of b) (λ i. joins (from_of b i) (to_of b i) u v)) → T (arcs rows u v)
  joined_found u v t =
      let s = any_out (links_of b) (λ i. joins (from_of b i) (to_of b i) u v) t in
      let links : links_of b ≡ length (link_list rows) = x.links in
      go (link_points s.at (omega (arith, s.below))) (joins_out (from_of b s.at) (to_of b s.at) u v s.holds)
    where
      go : {p q : ℕ} → (p < q) × (q < length rows) × T (arcs rows p q) → ((p ≡ u) × (q ≡ v)) ⊎ ((p ≡ v) × (q ≡ u)) → T (arcs rows u v)
      go link (inl e) = subst (λ (a : Bool). T a) (ap₂ (λ (y z : ℕ). arcs rows y z) e.0 e.1) link.2
      go {p} {q} link (inr e) =
          subst (λ (a : Bool). T a) (ap₂ (λ (y z : ℕ). arcs rows y z) e.1 e.0) (g.both_ways p q (omega (arith, link.0, link.1)) link.1 link.2)

  arcs_same : (u v : ℕ) → u < length rows → v < 64 → arcs (rows_of b) u v ≡ arcs rows u v
  arcs_same u v l h =
      arcs_read b written_accepted u v (subst (λ (n : ℕ). u < n) (sym x.points) l)
      ∙ same_test (any_below (links_of b) (λ i. joins (from_of b i) (to_of b i) u v)) (arcs rows u v) (joined_found u v) (found_joined u v l h)

  pub rows_back : ((u : ℕ) → u < length rows → at rows u < 2 ^ 64) → rows_of b ≡ rows
  unfolding arcs
  rows_back words =
      let long : length (rows_of b) ≡ points_of b = length_read b written_accepted in
      let points : points_of b ≡ length rows = x.points in
      ext_get_or 0 (rows_of b) rows (long ∙ points)
      (λ u l. equal_members 64 (words_read b written_accepted u (omega arith)) (words u (omega arith)) (λ v h. arcs_same u v (omega arith) h))
