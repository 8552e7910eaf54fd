-- The path in the tree of a BFS ordering is a shortest one.
--   tree_count, tree_path_lem     the tree's path is a path of the graph, from the root's vertex to the given one; how many arcs it has
--   tree_falls, tree_ordering    its vertices stand in the ordering one after the other, so they are distinct
--   climbs                    in a run, m steps from a vertex lead no later than any path of m arcs to that vertex starts
--   run_shortest              so no path has fewer arcs: in a run,
--   shortest                  and in any ordering that passes, which begins a run; the parents of its vertices are the same there
-- Assumes nothing.
use mathlib.Core.Path.{◌≡◌, refl, sym, ap, ◌∙◌, subst}
use mathlib.Core.Logic.{◌⊎◌, inl, inr}
use mathlib.Core.Bool.{Bool}
use mathlib.Core.List.{List}
use Prim.Native.Nat.{ℕ, zero, suc, ◌-◌, ◌≤◌, ◌<◌}
use native.Mathlib.Omega.{arith}
use lib.Dec.{T}
use lib.ListN.{length}
use Rattle.bitset.proofs.Tests.{below_or}
use Rattle.searches.specs.Kind.{bfs}
use Rattle.searches.specs.Ordering.{at, IsOrdering}
use Rattle.searches.specs.Run.{Run}
use Rattle.searches.specs.Violation.{passes, judge}
use Rattle.searches.proofs.Ordering.{begins_agree, placed_out, all_placed, ordering_fits, same_position}
use Rattle.searches.proofs.Run.{Greedy, greedy_ordering, reached_greedy}
use Rattle.searches.proofs.Passing.{passes_begins}
use Rattle.route.specs.Tree.{ancestor, depth, root, tree_path}
use Rattle.route.specs.Path.{arc_count, IsPath}
use Rattle.route.proofs.Tree.{parent_leads, parent_earliest, ancestor_within, ancestor_falls, ancestor_agree, depth_agree, parent_monotone, tree_length, tree_at}

module _ (arc : ℕ → ℕ → Bool) (n : ℕ) where
  -- ---- the tree's path

  module _ (w : List ℕ) (k : ℕ) (o : IsOrdering n w k) (q : ℕ) (l : q < k) where
    abbrev d : ℕ
    d = depth arc w q

    stands : (p i : ℕ) → p ≤ d → d - p ≡ i → at (tree_path arc w q) p ≡ at w (ancestor arc w q i)
    stands p i h e = tree_at arc w q p h ∙ ap (λ (x : ℕ). at w (ancestor arc w q x)) e

    pub tree_count : arc_count (tree_path arc w q) ≡ d
    unfolding arc_count
    tree_count = omega (arith, tree_length arc w q)

    pub tree_path_lem : IsPath arc n (at w (root arc w q)) (at w q) (tree_path arc w q)
    unfolding ancestor
    tree_path_lem = record {
      some = omega (arith, tree_length arc w q);
      vertices = λ p h.
          subst (λ (v : ℕ). v < n) (sym (tree_at arc w q p (omega (arith, tree_length arc w q))))
          (o.vertices (ancestor arc w q (d - p)) (omega (arith, ancestor_within arc w q (d - p))));
      first = stands 0 d (omega arith) (omega arith);
      last = ap (λ (p : ℕ). at (tree_path arc w q) p) tree_count ∙ stands d 0 (omega arith) (omega arith);
      leads = λ p h.
          let m : ℕ = d - suc p in
          let inside : p < d = omega (arith, tree_count) in
          let falls = ancestor_falls arc w q m (suc m) (omega arith) (omega arith) in
          subst (λ (v : ℕ). T (arc (at (tree_path arc w q) p) v)) (sym (stands (suc p) m (omega arith) refl))
          (subst (λ (u : ℕ). T (arc u (at w (ancestor arc w q m)))) (sym (stands p (suc m) (omega arith) (omega arith)))
          (parent_leads arc w (ancestor arc w q m) falls));
    }

    pub tree_falls : (i j : ℕ) → i < j → j < length (tree_path arc w q) → ancestor arc w q (d - i) < ancestor arc w q (d - j)
    tree_falls i j h inside = ancestor_falls arc w q (d - j) (d - i) (omega (arith, tree_length arc w q)) (omega arith)

    pub tree_ordering : IsOrdering n (tree_path arc w q) (length (tree_path arc w q))
    tree_ordering = record {
      long = omega arith;
      vertices = tree_path_lem.vertices;
      distinct = λ i j h inside e.
          let len : length (tree_path arc w q) ≡ suc d = tree_length arc w q in
          o.distinct (ancestor arc w q (d - i)) (ancestor arc w q (d - j)) (tree_falls i j h inside) (omega (arith, ancestor_within arc w q (d - j)))
          (sym (tree_at arc w q i (omega arith)) ∙ e ∙ tree_at arc w q j (omega arith));
    }

  -- ---- runs

  module _ (r : List ℕ) (run : Run bfs arc n r) where
    greedy : Greedy bfs arc n r n
    greedy = subst (λ (k : ℕ). Greedy bfs arc n r k) run.full (reached_greedy bfs arc n run.reached)

    ordering : IsOrdering n r n
    ordering = greedy_ordering bfs arc n r n (let e = run.full in omega arith) greedy

    module _ (q : ℕ) (l : q < n) (u : ℕ) (x : List ℕ) (path : IsPath arc n u (at r q) x) where
      inside : (p : ℕ) → p ≤ arc_count x → p < length x
      unfolding arc_count
      inside p h = omega (arith, path.some)

      -- each vertex of the path stands somewhere in the run
      met : (c : ℕ) → c ≤ arc_count x → (p : ℕ) × (p < n) × (at r p ≡ at x c)
      met c h = placed_out r n (at x c) (all_placed n ordering (at x c) (path.vertices c (inside c h)))

      step : (m p p' : ℕ) → ancestor arc r q m ≤ p' → p' < n → T (arc (at r p) (at r p')) → ancestor arc r q (suc m) ≤ p
      unfolding ancestor
      step m p p' up h led = omega (arith, parent_monotone arc n r n ordering greedy (ancestor arc r q m) p' up h, parent_earliest arc r p p' led)

      led_on : (c p p' : ℕ) → c < arc_count x → at r p ≡ at x c → at r p' ≡ at x (suc c) → T (arc (at r p) (at r p'))
      led_on c p p' h e e' = subst (λ (v : ℕ). T (arc (at r p) v)) (sym e') (subst (λ (u : ℕ). T (arc u (at x (suc c)))) (sym e) (path.leads c h))

      climbs : (m : ℕ) → m ≤ arc_count x → (p : ℕ) → p < n → at r p ≡ at x (arc_count x - m) → ancestor arc r q m ≤ p
      unfolding ancestor
      climbs zero h p i e =
          let all : arc_count x - 0 ≡ arc_count x = omega arith in
          let same : p ≡ q = same_position n ordering p q i l (e ∙ ap (λ (c : ℕ). at x c) all ∙ path.last) in
          omega arith
      climbs (suc m) h p i e =
          let c : ℕ = arc_count x - suc m in
          let next : suc c ≡ arc_count x - m = omega arith in
          let there = met (suc c) (omega arith) in
          let there_too : at r there.0 ≡ at x (arc_count x - m) = subst (λ (y : ℕ). at r there.0 ≡ at x y) next there.2 in
          step m p there.0 (climbs m (omega arith) there.0 there.1 there_too) there.1 (led_on c p there.0 (omega arith) e there.2)

    run_shortest : (q : ℕ) → q < n → (x : List ℕ) → IsPath arc n (at r (root arc r q)) (at r q) x → depth arc r q ≤ arc_count x
    run_shortest q l x path = go (below_or (arc_count x) (depth arc r q))
      where
        from : at r (root arc r q) ≡ at x (arc_count x - arc_count x)
        from = sym path.first ∙ ap (λ (c : ℕ). at x c) (let e : 0 ≡ arc_count x - arc_count x = omega arith in e)

        go : (arc_count x < depth arc r q) ⊎ (depth arc r q ≤ arc_count x) → depth arc r q ≤ arc_count x
        go (inl fewer) =
            absurd (omega (
              arith,
              climbs q l (at r (root arc r q)) x path (arc_count x) (omega arith) (root arc r q) (omega (arith, ancestor_within arc r q (depth arc r q))) from,
              ancestor_falls arc r q (arc_count x) (depth arc r q) fewer (omega arith),
            ))
        go (inr fine) = fine

  -- ---- orderings that pass

  module _ (w : List ℕ) (k : ℕ) (o : IsOrdering n w k) (passing : judge bfs arc n w k ≡ passes) (q : ℕ) (l : q < k) where
    pub shortest : (x : List ℕ) → IsPath arc n (at w (root arc w q)) (at w q) x → arc_count (tree_path arc w q) ≤ arc_count x
    shortest x path =
        let begun = passes_begins bfs arc n w k o passing in
        let r : List ℕ = begun.run in
        let same = (begins_agree k w r o.long begun.begins).1 in
        let deep : depth arc r q ≡ depth arc w q = depth_agree arc k r w same q l in
        let start : root arc r q ≡ root arc w q = ancestor_agree arc k r w same q (depth arc r q) l ∙ ap (λ (m : ℕ). ancestor arc w q m) deep in
        let from : at r (root arc r q) ≡ at w (root arc w q) =
        same (root arc r q) (omega (arith, ancestor_within arc r q (depth arc r q))) ∙ ap (λ (p : ℕ). at w p) start
        in
        let there : IsPath arc n (at r (root arc r q)) (at r q) x = record {
          some = path.some;
          vertices = path.vertices;
          first = path.first ∙ sym from;
          last = path.last ∙ sym (same q l);
          leads = path.leads;
        } in
        omega (arith, run_shortest r begun.is q (omega (arith, ordering_fits n o)) x there, tree_count w k o q l)
