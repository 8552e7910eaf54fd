-- The two loops that climb from a vertex to its ancestors.
--   Climbing arc w start q m     m steps to the parent lead from start to q, and no vertex before was without a parent
--   climbing_start, climbing_next               where the loop begins, and after a step to an earlier position
--   climbing_found, climbing_top                what the depth is, at a vertex without a parent and after all turns
--   Writing arc w start count out₀ out q m      m steps lead from start to q, and the last m of count vertices are written
--   writing_start, writing_next, writing_end
-- Assumes nothing.
use mathlib.Core.Path.{◌≡◌, refl, sym, ap, ap₂, ◌∙◌}
use mathlib.Core.Bool.{Bool}
use mathlib.Core.List.{List, [], ◌∷◌, ◌++◌, append_assoc}
use Prim.Native.Nat.{ℕ, suc, ◌+◌, ◌-◌, ◌≤◌, ◌<◌}
use native.Mathlib.Numerals.{add-one}
use native.Mathlib.Omega.{arith}
use borrow.Author.Tests.{eq-eqb, ne_eqb}
use lib.Dec.{eqb}
use lib.ListN.{length, get_or, take, drop, set, length-set, take-append-drop}
use lib.Seq.{length-take-le, take-suc, set_at}
use Rattle.bitset.proofs.Passed.{Passed, passed_start, passed_more, first_found, first_unfound}
use Rattle.searches.specs.Ordering.{at}
use Rattle.route.specs.Tree.{parent, is_root, ancestor, depth, path_down}
use Rattle.route.proofs.Tree.{ancestor_within}

module _ (arc : ℕ → ℕ → Bool) (w : List ℕ) (start : ℕ) where
  -- one step more
  stepped : {q up : ℕ} (m : ℕ) → q ≡ ancestor arc w start m → up ≡ parent arc w q → up ≡ ancestor arc w start (m + 1)
  unfolding ancestor
  stepped m here of_parent =
      of_parent ∙ ap (λ (p : ℕ). parent arc w p) here ∙ ap (λ (i : ℕ). ancestor arc w start i) (sym (add-one m))

  -- ---- how many steps there are

  pub record Climbing (q m : ℕ) : Type 0 where
    pub here : q ≡ ancestor arc w start m
    pub passed : Passed start (λ i. is_root arc w (ancestor arc w start i)) m

  pub climbing_start : Climbing start 0
  unfolding ancestor
  climbing_start = record { here = refl; passed = passed_start _ _ }

  pub climbing_within : {q m : ℕ} → Climbing q m → q ≤ start
  climbing_within {q} {m} c = omega (arith, c.here, ancestor_within arc w start m)

  -- whether the vertex has a parent is whether the step leads elsewhere
  asked : {q up m : ℕ} → Climbing q m → up ≡ parent arc w q → is_root arc w (ancestor arc w start m) ≡ eqb up q
  unfolding is_root
  asked {q} {up} {m} c of_parent =
      ap (λ (p : ℕ). eqb (parent arc w p) p) (sym c.here) ∙ ap (λ (p : ℕ). eqb p q) (sym of_parent)

  pub climbing_next : {q up m : ℕ} → Climbing q m → m < start → up ≡ parent arc w q → (up ≡ q → ⊥) → Climbing up (m + 1)
  climbing_next {q} {up} {m} c l of_parent other = record {
    here = stepped m c.here of_parent;
    passed = passed_more c.passed l (asked c of_parent ∙ ne_eqb up q other);
  }

  pub climbing_found : {q up m : ℕ} → Climbing q m → up ≡ parent arc w q → up ≡ q → m ≡ depth arc w start
  unfolding depth
  climbing_found {q} {up} {m} c of_parent same = first_found c.passed (asked c of_parent ∙ eq-eqb up q same)

  pub climbing_top : {q m : ℕ} → Climbing q m → start ≤ m → start ≡ depth arc w start
  unfolding depth
  climbing_top c l = first_unfound c.passed l

  -- ---- the vertices, from the last one on

  module _ (count : ℕ) (out₀ : List ℕ) where
    pub record Writing (out : List ℕ) (q m : ℕ) : Type 0 where
      pub within : m ≤ count
      pub here : q ≡ ancestor arc w start m
      pub long : length out ≡ length out₀
      pub written : out ≡ take (count - m) out₀ ++ (path_down arc w start m ++ drop count out₀)

    pub writing_start : Writing out₀ start 0
    unfolding ancestor path_down
    writing_start = record {
      within = omega arith;
      here = refl;
      long = refl;
      written =
          sym (take-append-drop count out₀) ∙ ap (λ (i : ℕ). take i out₀ ++ drop count out₀) (let e : count ≡ count - 0 = omega arith in e);
    }

    pub writing_within : {out : List ℕ} {q m : ℕ} → Writing out q m → q ≤ start
    writing_within {out} {q} {m} x = omega (arith, x.here, ancestor_within arc w start m)

    pub writing_next : {out : List ℕ} {q m v up : ℕ} → Writing out q m → m < count → count ≤ length out₀ → v ≡ at w q → up ≡ parent arc w q
        → Writing (set out (count - 1 - m) v) up (m + 1)
    unfolding path_down
    writing_next {out} {q} {m} {v} {up} x l room of-vertex of_parent = record {
      within = omega arith;
      here = stepped m x.here of_parent;
      long = length-set out j v ∙ x.long;
      written =
          ap (λ (y : List ℕ). set y j v) (x.written ∙ apart)
          ∙ set_at (take j out₀) (get_or out₀ j 0) rest v j (length-take-le j out₀ (omega arith))
          ∙ ap₂ (λ (i : ℕ) (u : ℕ). take i out₀ ++ u ∷ rest) (let e : j ≡ count - (m + 1) = omega arith in e)
          (of-vertex ∙ ap (λ (p : ℕ). at w p) x.here)
          ∙ ap (λ (i : ℕ). take (count - (m + 1)) out₀ ++ (path_down arc w start i ++ drop count out₀)) (sym (add-one m));
    }
      where
        j : ℕ
        j = count - 1 - m

        rest : List ℕ
        rest = path_down arc w start m ++ drop count out₀

        apart : take (count - m) out₀ ++ rest ≡ take j out₀ ++ get_or out₀ j 0 ∷ rest
        apart =
            ap (λ (i : ℕ). take i out₀ ++ rest) (let e : count - m ≡ suc j = omega arith in e)
            ∙ ap (λ (y : List ℕ). y ++ rest) (take-suc out₀ j 0 (omega arith)) ∙ append_assoc (take j out₀) (get_or out₀ j 0 ∷ []) rest

    pub writing_end : {out : List ℕ} {q m : ℕ} → Writing out q m → count ≤ m → out ≡ path_down arc w start count ++ drop count out₀
    writing_end {out} {q} {m} x l =
        let all : m ≡ count = omega (arith, x.within) in
        let none : count - m ≡ 0 = omega arith in
        x.written ∙ ap₂ (λ (i : ℕ) (c : ℕ). take i out₀ ++ (path_down arc w start c ++ drop count out₀)) none all
