-- Laws of the tree of an ordering.
--   parent_within, parent_leads, parent_earliest    the parent is the earliest-placed of those before that lead to the vertex
--   root_out, root_unled, unled_root, unrooted      a vertex without a parent is one to which none of those before leads
--   ancestor_within, ancestor_falls                 steps lead to earlier positions
--   depth_within, root_there                        where they end
--   path_length, path_at, tree_length, tree_at      the vertices on the way down
--   alone_depth, depth_alone                        which are one exactly where the given vertex has no parent
--   parent_agree, ancestor_agree, depth_agree       only the positions up to the vertex matter
--   parent_monotone                                 in a BFS ordering, of two vertices the later one has the later parent
-- Assumes nothing.
use mathlib.Core.Path.{◌≡◌, refl, sym, ap, ◌∙◌, subst}
use mathlib.Core.Logic.{◌⊎◌, inl, inr}
use mathlib.Core.Bool.{Bool}
use mathlib.Core.List.{List}
use Prim.Native.Nat.{ℕ, zero, suc, ◌+◌, ◌-◌, ◌≤◌, ◌<◌}
use native.Mathlib.Omega.{arith}
use lib.Dec.{T, eqb, ltb→lt, eqb→eq, eqb_refl}
use lib.ListN.{length}
use Rattle.bitset.proofs.Tests.{decided, below_or, below_suc}
use Rattle.bitset.proofs.Below.{first, first_earliest, first_same}
use Rattle.searches.specs.Kind.{bfs}
use Rattle.searches.specs.Ordering.{at, placed, IsOrdering}
use Rattle.searches.specs.Label.{label, outranks}
use Rattle.searches.specs.Violation.{condition}
use Rattle.searches.proofs.Reason.{reason→outranks}
use Rattle.searches.proofs.Ordering.{Agree, placed_more, ordering_unplaced}
use Rattle.searches.proofs.Run.{Greedy, offered_out}
use Rattle.route.specs.Tree.{parent, is_root, ancestor, depth, root, path_down, tree_path}

module _ (arc : ℕ → ℕ → Bool) (w : List ℕ) where
  -- ---- the parent

  pub parent_within : (q : ℕ) → parent arc w q ≤ q
  unfolding parent
  parent_within q = (first q (label arc w (at w q))).within

  pub parent_leads : (q : ℕ) → parent arc w q < q → T (arc (at w (parent arc w q)) (at w q))
  unfolding parent label
  parent_leads q l = (first q (label arc w (at w q))).holds l

  pub parent_earliest : (p q : ℕ) → T (arc (at w p) (at w q)) → parent arc w q ≤ p
  unfolding parent label
  parent_earliest p q t = first_earliest q (label arc w (at w q)) p t

  pub root_out : (q : ℕ) → T (is_root arc w q) → parent arc w q ≡ q
  unfolding is_root
  root_out q t = eqb→eq (parent arc w q) q t

  pub root_unled : (q : ℕ) → T (is_root arc w q) → (p : ℕ) → p < q → T (arc (at w p) (at w q)) → ⊥
  root_unled q t p l leads = omega (arith, root_out q t, parent_earliest p q leads)

  unrooted : (q : ℕ) → (T (is_root arc w q) → ⊥) → parent arc w q < q
  unfolding is_root
  unrooted q none = go (below_or (parent arc w q) q)
    where
      go : (parent arc w q < q) ⊎ (q ≤ parent arc w q) → parent arc w q < q
      go (inl l) = l
      go (inr h) =
          let same : parent arc w q ≡ q = omega (arith, parent_within q) in
          absurd (none (subst (λ (p : ℕ). T (eqb (parent arc w q) p)) same (eqb_refl (parent arc w q))))

  pub unled_root : (q : ℕ) → ((p : ℕ) → p < q → T (arc (at w p) (at w q)) → ⊥) → T (is_root arc w q)
  unled_root q unled = go (decided (is_root arc w q))
    where
      go : T (is_root arc w q) ⊎ (T (is_root arc w q) → ⊥) → T (is_root arc w q)
      go (inl t) = t
      go (inr none) = let l = unrooted q none in absurd (unled (parent arc w q) l (parent_leads q l))

  -- ---- steps to the parent

  pub ancestor_within : (q m : ℕ) → ancestor arc w q m ≤ q
  unfolding ancestor
  ancestor_within q zero = omega arith
  ancestor_within q (suc m) = omega (arith, parent_within (ancestor arc w q m), ancestor_within q m)

  step_falls : (q m : ℕ) → m < depth arc w q → ancestor arc w q (suc m) < ancestor arc w q m
  unfolding ancestor depth
  step_falls q m l = unrooted (ancestor arc w q m) ((first q (λ i. is_root arc w (ancestor arc w q i))).least m l)

  pub ancestor_falls : (q i j : ℕ) → i < j → j ≤ depth arc w q → ancestor arc w q j < ancestor arc w q i
  ancestor_falls q i zero l h = absurd (omega arith)
  ancestor_falls q i (suc j) l h = go (ancestor_falls q i j) (below_suc j i l)
    where
      go : (i < j → j ≤ depth arc w q → ancestor arc w q j < ancestor arc w q i) → (i < j) ⊎ (i ≡ j) → ancestor arc w q (suc j) < ancestor arc w q i
      go rest (inl earlier) = omega (arith, step_falls q j h, rest earlier (omega arith))
      go rest (inr same) = subst (λ (x : ℕ). ancestor arc w q (suc j) < ancestor arc w q x) (sym same) (step_falls q j h)

  pub depth_within : (q : ℕ) → depth arc w q ≤ q
  unfolding depth
  depth_within q = (first q (λ i. is_root arc w (ancestor arc w q i))).within

  -- m steps lead at least m positions back
  steps_back : (q m : ℕ) → m ≤ depth arc w q → ancestor arc w q m + m ≤ q
  steps_back q zero l = omega (arith, ancestor_within q zero)
  steps_back q (suc m) l = omega (arith, step_falls q m l, steps_back q m (omega arith))

  pub root_there : (q : ℕ) → T (is_root arc w (root arc w q))
  unfolding depth
  root_there q = go (below_or (depth arc w q) q)
    where
      ended : depth arc w q < q → T (is_root arc w (root arc w q))
      ended = (first q (λ i. is_root arc w (ancestor arc w q i))).holds

      go : (depth arc w q < q) ⊎ (q ≤ depth arc w q) → T (is_root arc w (root arc w q))
      go (inl l) = ended l
      go (inr h) = unled_root (root arc w q) (λ p l. absurd (omega (arith, steps_back q (depth arc w q) (omega arith))))

  -- ---- the way down

  pub path_length : (q m : ℕ) → length (path_down arc w q m) ≡ m
  unfolding path_down
  path_length q zero = refl
  path_length q (suc m) = ap suc (path_length q m)

  path_at : (q m p : ℕ) → p < m → at (path_down arc w q m) p ≡ at w (ancestor arc w q (m - 1 - p))
  unfolding path_down
  path_at q zero p l = absurd (omega arith)
  path_at q (suc m) zero l = ap (λ (i : ℕ). at w (ancestor arc w q i)) (let e : m ≡ suc m - 1 - 0 = omega arith in e)
  path_at q (suc m) (suc p) l =
      path_at q m p (omega arith) ∙ ap (λ (i : ℕ). at w (ancestor arc w q i)) (let e : m - 1 - p ≡ suc m - 1 - suc p = omega arith in e)

  pub tree_length : (q : ℕ) → length (tree_path arc w q) ≡ suc (depth arc w q)
  unfolding tree_path
  tree_length q = path_length q (suc (depth arc w q))

  pub tree_at : (q p : ℕ) → p ≤ depth arc w q → at (tree_path arc w q) p ≡ at w (ancestor arc w q (depth arc w q - p))
  unfolding tree_path
  tree_at q p l =
      path_at q (suc (depth arc w q)) p (omega arith)
      ∙ ap (λ (i : ℕ). at w (ancestor arc w q i)) (let e : suc (depth arc w q) - 1 - p ≡ depth arc w q - p = omega arith in e)

  -- a vertex without a parent is alone on its path, and no other is
  pub alone_depth : (q : ℕ) → T (is_root arc w q) → depth arc w q ≡ 0
  unfolding depth ancestor
  alone_depth q t = let h = first_earliest q (λ m. is_root arc w (ancestor arc w q m)) 0 t in omega (arith, h)

  pub depth_alone : (q : ℕ) → depth arc w q ≡ 0 → T (is_root arc w q)
  unfolding ancestor
  depth_alone q e = subst (λ (m : ℕ). T (is_root arc w (ancestor arc w q m))) e (root_there q)

-- ---- only the positions up to the vertex matter

module _ (arc : ℕ → ℕ → Bool) (k : ℕ) (w w' : List ℕ) (a : Agree k w w') where
  pub parent_agree : (q : ℕ) → q < k → parent arc w q ≡ parent arc w' q
  unfolding parent label
  parent_agree q l =
      first_same q (label arc w (at w q)) (label arc w' (at w' q)) (λ p h.
      let e : at w p ≡ at w' p = a p (omega arith) in
      let f : at w q ≡ at w' q = a q l in
      cc)

  pub ancestor_agree : (q m : ℕ) → q < k → ancestor arc w q m ≡ ancestor arc w' q m
  unfolding ancestor
  ancestor_agree q zero l = refl
  ancestor_agree q (suc m) l =
      parent_agree (ancestor arc w q m) (omega (arith, ancestor_within arc w q m)) ∙ ap (λ (p : ℕ). parent arc w' p) (ancestor_agree q m l)

  pub depth_agree : (q : ℕ) → q < k → depth arc w q ≡ depth arc w' q
  unfolding depth is_root
  depth_agree q l =
      first_same q (λ m. is_root arc w (ancestor arc w q m)) (λ m. is_root arc w' (ancestor arc w' q m)) (λ m _.
      let e : ancestor arc w q m ≡ ancestor arc w' q m = ancestor_agree q m l in
      let f : parent arc w (ancestor arc w q m) ≡ parent arc w' (ancestor arc w q m) =
      parent_agree (ancestor arc w q m) (omega (arith, ancestor_within arc w q m))
      in
      cc)

-- ---- BFS

-- Of two vertices the later one has the later parent, or the same: else its parent would be a reason why it was ahead when the earlier one was placed.
-- A vertex without a parent counts as its own, so nothing placed before a new piece's first vertex leads to a vertex placed after it.
module _ (arc : ℕ → ℕ → Bool) (n : ℕ) (w : List ℕ) (k : ℕ) (o : IsOrdering n w k) (g : Greedy bfs arc n w k) where
  pub parent_monotone : (a b : ℕ) → a ≤ b → b < k → parent arc w a ≤ parent arc w b
  unfolding condition label
  parent_monotone a b l h = go (below_or (parent arc w b) (parent arc w a))
    where
      unplaced : T (placed w a (at w b)) → ⊥
      unplaced t = ordering_unplaced n o b h (placed_more w a b (at w b) l t)

      ahead : parent arc w b < parent arc w a → T (outranks bfs a (label arc w (at w b)) (label arc w (at w a)))
      ahead earlier = reason→outranks a (label arc w (at w b)) (label arc w (at w a)) bfs (record {
        position = parent arc w b;
        below = omega (arith, parent_within arc w a);
        ours = parent_leads arc w b (omega (arith, parent_within arc w a));
        theirs = λ t. omega (arith, earlier, parent_earliest arc w (parent arc w b) a t);
        unexcused = λ d i t before. omega (arith, earlier, parent_earliest arc w d a t, ltb→lt d (parent arc w b) before);
      })

      go : (parent arc w b < parent arc w a) ⊎ (parent arc w a ≤ parent arc w b) → parent arc w a ≤ parent arc w b
      go (inl earlier) =
          absurd ((offered_out bfs arc n w a (at w a) (g a (omega arith))).unbeaten (at w b) (o.vertices b h) unplaced (ahead earlier))
      go (inr fine) = fine
