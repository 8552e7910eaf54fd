-- Ones counted in row AND placed mask are as many as the positions in the label.
--   placed_members        placed_after holds the placed vertices
--   count_joined          a set that a number may join is larger by one where it does
--   tally_more, label_more   so much larger are the count in a row, and a label, with one vertex more placed
--   tallied_after         after each vertex of an ordering the two are equal; the row is that of the transposed graph
-- Assumes nothing.
use mathlib.Core.Path.{◌≡◌, refl, sym, ap, ap₂, ◌∙◌, subst}
use mathlib.Core.Bool.{Bool, true, false, cond, ◌&&◌, ◌||◌}
use mathlib.Core.Logic.{◌⊎◌, inl, inr}
use mathlib.Core.List.{List}
use Prim.Native.Nat.{ℕ, zero, suc, ◌≤◌, ◌<◌}
use native.Mathlib.Omega.{arith}
use lib.Dec.{T, eqb, eqb→eq}
use lib.ListN.{length, get_or}
use Rattle.bitset.specs.Below.{any_below, count_below}
use Rattle.bitset.specs.Word.{member, inserted, common}
use Rattle.bitset.proofs.Tests.{and_in, and_out, and_true, or_inl, or_inr, or_out, same_test}
use Rattle.bitset.proofs.Count.{count_same, count_none, count_added}
use Rattle.bitset.proofs.Word as word
use Rattle.searches.specs.Ordering.{arcs, at, placed, IsOrdering}
use Rattle.searches.specs.Label.{label}
use Rattle.searches.proofs.Ordering.{ordering_unplaced, ordering_fits}
use Rattle.labels.specs.Weights.{tally}
use Rattle.labels.specs.Words.{label_with, joined_in}
use Rattle.labels.proofs.Spreading.{member_joined}
use Rattle.lookup.specs.Columns.{Transposed}
use Rattle.steps.specs.Steps.{AreVertices, labels_after, free_after, placed_after}
use Rattle.steps.proofs.Representation.{cut_below, free_vertex, free_earlier, kept_start, kept_next, label_members}

-- ---- one number more

-- the number joins where b says so
pub count_joined : (n a : ℕ) (f : ℕ → Bool) → a < n → (T (f a) → ⊥) → (b : Bool)
    → count_below n (λ p. (eqb a p && b) || f p) ≡ cond b (suc (count_below n f)) (count_below n f)
count_joined n a f l out true =
    count_same n (λ p. (eqb a p && true) || f p) (λ p. eqb a p || f p) (λ p _. ap (λ (x : Bool). x || f p) (sym (and_true (eqb a p)))) ∙ count_added n f a l out
count_joined n a f l out false = count_same n (λ p. (eqb a p && false) || f p) f (λ p _. ap (λ (x : Bool). x || f p) (never (eqb a p)))
  where
    never : (x : Bool) → (x && false) ≡ false
    never true = refl
    never false = refl

tally_more : (row set u : ℕ) → u < 64 → (T (member set u) → ⊥)
    → count_below 64 (member (common row (inserted set u))) ≡ cond (member row u) (suc (count_below 64 (member (common row set)))) (count_below 64 (member (common row set)))
tally_more row set u l out =
    count_same 64 (member (common row (inserted set u))) (λ p. (eqb u p && member row u) || member (common row set) p)
    (λ p _. word.member_common row (inserted set u) p ∙ ap (λ (x : Bool). member row p && x) (word.member_inserted set l p) ∙ joins p
    ∙ ap (λ (x : Bool). (eqb u p && member row u) || x) (sym (word.member_common row set p)))
    ∙ count_joined 64 u (member (common row set)) l
    (λ t. out (and_out (member row u) (member set u) (subst (λ (x : Bool). T x) (word.member_common row set u) t)).1) (member row u)
  where
    joins : (p : ℕ) → (member row p && (eqb u p || member set p)) ≡ ((eqb u p && member row u) || (member row p && member set p))
    joins p =
        same_test (member row p && (eqb u p || member set p)) ((eqb u p && member row u) || (member row p && member set p))
        (λ t. let x = and_out (member row p) (eqb u p || member set p) t in forth x.0 (or_out (eqb u p) (member set p) x.1))
        (λ t. back (or_out (eqb u p && member row u) (member row p && member set p) t))
      where
        forth : T (member row p) → T (eqb u p) ⊎ T (member set p) → T ((eqb u p && member row u) || (member row p && member set p))
        forth t (inl e) =
            or_inl (eqb u p && member row u) (member row p && member set p)
            (and_in (eqb u p) (member row u) e (subst (λ (x : ℕ). T (member row x)) (sym (eqb→eq u p e)) t))
        forth t (inr m) = or_inr (eqb u p && member row u) (member row p && member set p) (and_in (member row p) (member set p) t m)

        back : T (eqb u p && member row u) ⊎ T (member row p && member set p) → T (member row p && (eqb u p || member set p))
        back (inl t) =
            let x = and_out (eqb u p) (member row u) t in
            and_in (member row p) (eqb u p || member set p) (subst (λ (y : ℕ). T (member row y)) (eqb→eq u p x.0) x.1) (or_inl (eqb u p) (member set p) x.0)
        back (inr t) =
            let x = and_out (member row p) (member set p) t in
            and_in (member row p) (eqb u p || member set p) x.0 (or_inr (eqb u p) (member set p) x.1)

label_more : (row q v x : ℕ) → q < 64 → (T (member x q) → ⊥)
    → count_below 64 (member (joined_in row q v x)) ≡ cond (member row v) (suc (count_below 64 (member x))) (count_below 64 (member x))
label_more row q v x l out =
    count_same 64 (member (joined_in row q v x)) (λ p. (eqb q p && member row v) || member x p) (λ p _. member_joined row q v x l p)
    ∙ count_joined 64 q (member x) l out (member row v)

-- ---- along an ordering

module _ (rows w : List ℕ) (k : ℕ) (small : length rows ≤ 64) (o : IsOrdering (length rows) w k) where
  pub placed_members : (j : ℕ) → j ≤ k → (v : ℕ) → member (placed_after w j) v ≡ placed w j v
  unfolding placed_after placed any_below
  placed_members zero h v = word.member_zero v
  placed_members (suc j) h v =
      word.member_inserted (placed_after w j) {e = at w j} (omega (arith, o.vertices j h)) v
      ∙ ap (λ (b : Bool). eqb (at w j) v || b) (placed_members j (omega arith) v)

  module _ (all : ℕ) (inside : AreVertices (length rows) all) (columns : List ℕ) (transpose : Transposed rows columns) where
    -- of an unplaced vertex
    pub tallied_after : (j : ℕ) → j ≤ k → (v : ℕ) → T (member (free_after all w j) v)
        → tally columns (placed_after w j) v ≡ count_below 64 (member (get_or (labels_after rows all w j) v 0))
    unfolding placed_after tally arcs
    tallied_after zero h v f =
        let l = free_vertex all w inside 0 v f in
        count_none 64 (member (common (get_or columns v 0) 0)) (λ p _ t. word.empty_back refl p (and_out (member (get_or columns v 0) p) (member 0 p) (subst (λ (x : Bool). T x) (word.member_common (get_or columns v 0) 0 p) t)).1)
        ∙ sym (count_none 64 (member (get_or (labels_after rows all w 0) v 0)) (λ p _. word.empty_back (kept_start label_with 0 rows all w v (omega arith)) p))
    tallied_after (suc j) h v f =
        let u : ℕ = at w j in
        let row = get_or rows u 0 in
        let old = get_or (labels_after rows all w j) v 0 in
        let vertex = free_vertex all w inside (suc j) v f in
        let before = free_earlier rows all w j v f in
        let here = o.vertices j h in
        -- the vertex is placed for the first time, and its position is in no label yet
        let fresh : T (member (placed_after w j) u) → ⊥ =
        λ t. ordering_unplaced (length rows) o j h (subst (λ (x : Bool). T x) (placed_members j (omega arith) u) t)
        in
        let unused : T (member old j) → ⊥ =
        λ t. omega (arith, cut_below j (member old) (label (arcs rows) w v) (label_members rows all w k small inside o j (omega arith) v before) j t)
        in
        tally_more (get_or columns v 0) (placed_after w j) u (omega arith) fresh
        ∙ ap₂ (λ (b : Bool) (x : ℕ). cond b (suc x) x) (transpose.swapped u v here vertex) (tallied_after j (omega arith) v before)
        ∙ sym (label_more row j v old (omega (arith, ordering_fits (length rows) o)) unused)
        ∙ sym (ap (λ (x : ℕ). count_below 64 (member x)) (kept_next label_with 0 rows all w j v (omega arith) f))
