-- The way to a placed vertex of a BFS ordering is a shortest one.
--   way_length                  how many vertices it has
--   way_alone, alone_way        one exactly where the given vertex has no parent
--   shortest_way                all that 02 says of it, for any graph
-- Assumes nothing.
use mathlib.Core.Path.{◌≡◌, sym, ap, ◌∙◌, subst}
use mathlib.Core.Bool.{Bool}
use mathlib.Core.List.{List}
use Prim.Native.Nat.{ℕ, suc, ◌-◌, ◌<◌}
use native.Mathlib.Omega.{arith}
use lib.Dec.{T}
use lib.ListN.{length}
use Rattle.searches.specs.Kind.{bfs}
use Rattle.searches.specs.Ordering.{at, placed, IsOrdering}
use Rattle.searches.specs.Violation.{passes, judge}
use Rattle.route.specs.Tree.{ancestor, depth, root, tree_path}
use Rattle.route.specs.Path.{IsPath}
use Rattle.route.specs.WayBack.{position_of, way_to, ShortestWay}
use Rattle.route.proofs.Tree.{ancestor_within, root_unled, unled_root, root_there, tree_length, tree_at, alone_depth, depth_alone}
use Rattle.route.proofs.Standing.{placed_stands, at_position}
use Rattle.route.proofs.Shortest.{tree_path_lem, tree_falls, tree_ordering, shortest}

module _ (arc : ℕ → ℕ → Bool) (w : List ℕ) (v : ℕ) where
  pub way_length : length (way_to arc w v) ≡ suc (depth arc w (position_of w v))
  unfolding way_to
  way_length = tree_length arc w (position_of w v)

  module _ (stands : T (placed w (length w) v)) where
    here : at w (position_of w v) ≡ v
    here = (placed_stands w v stands).1

    pub alone_way : ((p : ℕ) → p < position_of w v → T (arc (at w p) v) → ⊥) → length (way_to arc w v) ≡ 1
    alone_way unled =
        way_length
        ∙ ap suc (alone_depth arc w (position_of w v) (unled_root arc w (position_of w v) (λ p l t. unled p l (subst (λ (u : ℕ). T (arc (at w p) u)) here t))))

    pub way_alone : length (way_to arc w v) ≡ 1 → (p : ℕ) → p < position_of w v → T (arc (at w p) v) → ⊥
    way_alone one p l t =
        root_unled arc w (position_of w v) (depth_alone arc w (position_of w v) (omega (arith, way_length))) p l
        (subst (λ (u : ℕ). T (arc (at w p) u)) (sym here) t)

    module _ (n : ℕ) (o : IsOrdering n w (length w)) where
      abbrev q : ℕ
      q = position_of w v

      inside : q < length w
      inside = (placed_stands w v stands).0

      abbrev way : List ℕ
      way = tree_path arc w q

      tree_way : IsPath arc n (at w (root arc w q)) (at w q) way
      tree_way = tree_path_lem arc n w (length w) o q inside

      stood : (i : ℕ) → i < length way → position_of w (at way i) ≡ ancestor arc w q (depth arc w q - i)
      stood i l =
          ap (position_of w) (tree_at arc w q i (omega (arith, tree_length arc w q)))
          ∙ at_position o (ancestor arc w q (depth arc w q - i)) (omega (arith, ancestor_within arc w q (depth arc w q - i), inside))

      root_stood : position_of w (at way 0) ≡ root arc w q
      root_stood = ap (position_of w) tree_way.first ∙ at_position o (root arc w q) (omega (arith, ancestor_within arc w q (depth arc w q), inside))

      pub shortest_way : judge bfs arc n w (length w) ≡ passes → ShortestWay arc n w v (way_to arc w v)
      unfolding way_to
      shortest_way passing = record {
        path = subst (λ (u : ℕ). IsPath arc n u v way) (sym tree_way.first) (subst (λ (b : ℕ). IsPath arc n (at w (root arc w q)) b way) here tree_way);
        distinct = tree_ordering arc n w (length w) o q inside;
        parentless = λ p l t.
            root_unled arc w (root arc w q) (root_there arc w q) p (subst (λ (i : ℕ). p < i) root_stood l)
            (subst (λ (u : ℕ). T (arc (at w p) u)) tree_way.first t);
        in_order = λ i j h l.
            let falls = tree_falls arc n w (length w) o q inside i j h l in
            omega (arith, falls, stood i (omega arith), stood j l);
        none_shorter = λ y path.
            shortest arc n w (length w) o passing q inside y
            (subst (λ (u : ℕ). IsPath arc n u (at w q) y) tree_way.first (subst (λ (b : ℕ). IsPath arc n (at way 0) b y) (sym here) path));
      }
