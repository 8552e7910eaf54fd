-- What is kept of a vertex, and what one position more in its label makes of it.
--   smallest_upto, largest_last, largest_some   the running values as they are kept: no more than 512; one more than the last position; not 0 of a label with one
--   first_joined, last_joined, some_joined   the smallest and the largest number of a set into which one above all of it is put: it is not empty
--   row_other, row_grown              the label of another vertex, and of the vertex itself
--   smallest_raised, largest_raised, count_raised   the running values of that vertex, and how many positions it has
--   kept_raised                       a value that is kept of every label, written anew for one
--   weighable_raised                  it may then be weighed
--   stored_raised                     the label, the running values and the weight of one vertex are written: Stored again
--   tallied_same                      Tallied looks at the vertex's own label only
-- Assumes nothing.
use mathlib.Core.Path.{◌≡◌, sym, ap, ◌∙◌, subst, fun_ext}
use mathlib.Core.Bool.{Bool, cond, ◌&&◌, ◌||◌, or-false, or_comm}
use mathlib.Core.Logic.{◌⊎◌, inl, inr}
use mathlib.Core.List.{List}
use Prim.Native.Nat.{ℕ, suc, ◌+◌, ◌≤◌, ◌<◌}
use native.Mathlib.Omega.{arith}
use native.Mathlib.Numerals.{add-one}
use lib.Dec.{T, eqb, eqb→eq, eqb_refl}
use lib.ListN.{length, get_or, set, length-set}
use lib.Seq.{get_or-set_same, get_or-set_other}
use Rattle.bitset.specs.Below.{any_below, first_below, last_below, count_below}
use Rattle.bitset.proofs.Tests.{or_inl, or_inr, or_out, decided, is_true, is_false, cond_yes, cond_no}
use Rattle.bitset.proofs.Below.{any_at, first, first_unique, last_unique}
use Rattle.bitset.proofs.Count.{count_same, count_added}
use Rattle.searches.specs.Kind.{Search, mns}
use Rattle.searches.specs.Running.{smallest_in, largest_in}
use Rattle.searches.specs.declared.Mark.{Mark}
use Rattle.searches.proofs.Running.{largest_found, largest_absent}
use Rattle.tables.specs.Rows.{row_of, with_bit}
use Rattle.wide.specs.Store.{smallest_kept, largest_kept, weight_in, Stored, Tallied, Raisable}
use Rattle.wide.specs.Place.{Weighable}
use Rattle.tables.proofs.Bits.{row_with_bit, length_with_bit}
use Rattle.wide.proofs.Comparing.{smallest_first}

-- ---- the two values of a label

module _ (f : ℕ → Bool) where
  pub smallest_upto : smallest_kept (smallest_in 512 f) ≤ 512
  smallest_upto = omega (arith, smallest_first f, (first 512 f).within)

  pub largest_last : T (any_below 512 f) → largest_kept (largest_in 512 f) ≡ suc (last_below 512 f)
  unfolding largest_kept
  largest_last t = ap largest_kept (largest_found 512 f t)

  -- a label of which a largest position is kept is not empty
  pub largest_some : 0 < largest_kept (largest_in 512 f) → T (any_below 512 f)
  unfolding largest_kept
  largest_some l = go (decided (any_below 512 f))
    where
      go : T (any_below 512 f) ⊎ (T (any_below 512 f) → ⊥) → T (any_below 512 f)
      go (inl t) = t
      go (inr out) = absurd (omega (arith, l, ap largest_kept (largest_absent 512 f out)))

-- ---- a number above all of a set is put into it

module _ (f g : ℕ → Bool) (p : ℕ) (joined : (q : ℕ) → g q ≡ (f q || eqb p q)) (above : (q : ℕ) → T (f q) → q < p) where
  had : (q : ℕ) → T (f q) → T (g q)
  had q t = subst (λ (b : Bool). T b) (sym (joined q)) (or_inl (f q) (eqb p q) t)

  has : T (g p)
  has = subst (λ (b : Bool). T b) (sym (joined p)) (or_inr (f p) (eqb p p) (eqb_refl p))

  only : (q : ℕ) → T (g q) → T (f q) ⊎ (p ≡ q)
  only q t = go (or_out (f q) (eqb p q) (subst (λ (b : Bool). T b) (joined q) t))
    where
      go : T (f q) ⊎ T (eqb p q) → T (f q) ⊎ (p ≡ q)
      go (inl t) = inl t
      go (inr e) = inr (eqb→eq p q e)

  pub first_joined : (n : ℕ) → p < n → first_below n g ≡ cond (eqb (first_below n f) n) p (first_below n f)
  first_joined n l = go (decided (eqb (first_below n f) n))
    where
      m : ℕ
      m = first_below n f

      none_before : m ≡ n → (i : ℕ) → i < p → T (f i) ⊎ (p ≡ i) → ⊥
      none_before e i h (inl t) = (first n f).least i (omega arith) t
      none_before e i h (inr same) = omega arith

      still_first : T (f m) → (i : ℕ) → i < m → T (f i) ⊎ (p ≡ i) → ⊥
      still_first t i h (inl u) = (first n f).least i h u
      still_first t i h (inr same) = omega (arith, above m t)

      go : T (eqb m n) ⊎ (T (eqb m n) → ⊥) → first_below n g ≡ cond (eqb m n) p m
      go (inl t) =
          sym (first_unique (record { within = omega arith; holds = λ _. has; least = λ i h u. none_before (eqb→eq m n t) i h (only i u) }))
          ∙ sym (cond_yes (eqb m n) p m t)
      go (inr out) =
          let below : m < n = strictly (first n f).within (λ e. out (subst (λ (x : ℕ). T (eqb m x)) e (eqb_refl m))) in
          let there = (first n f).holds below in
          sym (first_unique (record { within = omega arith; holds = λ _. had m there; least = λ i h u. still_first there i h (only i u) }))
          ∙ sym (cond_no (eqb m n) p m out)
        where
          strictly : m ≤ n → (m ≡ n → ⊥) → m < n
          strictly h other = omega (arith, other)

  pub last_joined : (n : ℕ) → p < n → last_below n g ≡ p
  last_joined n l = sym (last_unique {n = n} {f = g} {m = p} (record { below = l; holds = has; greatest = λ i _ t. upto i (only i t) }))
    where
      upto : (i : ℕ) → T (f i) ⊎ (p ≡ i) → i ≤ p
      upto i (inl t) = omega (arith, above i t)
      upto i (inr e) = omega arith

  pub some_joined : (n : ℕ) → p < n → T (any_below n g)
  some_joined n l = any_at n g p l has

-- ---- a position is put into the label of v

module _ (labels : List ℕ) (v p : ℕ) (room : length labels ≡ 4096) (vertex : v < 512) (place : p < 512) where
  pub row_other : (u : ℕ) → u < 512 → (v ≡ u → ⊥) → row_of (with_bit labels v p) u ≡ row_of labels u
  row_other u l other = fun_ext (λ q.
      row_with_bit labels v p u q room vertex place l
      ∙ ap (λ (x : Bool). row_of labels u q || (x && eqb p q)) (is_false (eqb v u) (λ t. other (eqb→eq v u t))) ∙ or-false (row_of labels u q))

  pub row_grown : (q : ℕ) → row_of (with_bit labels v p) v q ≡ (row_of labels v q || eqb p q)
  row_grown q = row_with_bit labels v p v q room vertex place vertex ∙ ap (λ (x : Bool). row_of labels v q || (x && eqb p q)) (is_true (eqb v v) (eqb_refl v))

  module _ (above : (q : ℕ) → T (row_of labels v q) → q < p) where
    abbrev before : ℕ → Bool
    before = row_of labels v

    abbrev after : ℕ → Bool
    after = row_of (with_bit labels v p) v

    pub smallest_raised : {kept first : ℕ} → kept ≡ smallest_kept (smallest_in 512 before) → first ≡ cond (eqb kept 512) p kept
        → first ≡ smallest_kept (smallest_in 512 after)
    smallest_raised {kept} e is =
        is ∙ ap (λ (x : ℕ). cond (eqb x 512) p x) (e ∙ smallest_first before) ∙ sym (first_joined before after p row_grown above 512 place)
        ∙ sym (smallest_first after)

    pub largest_raised : p + 1 ≡ largest_kept (largest_in 512 after)
    largest_raised =
        add-one p ∙ ap suc (sym (last_joined before after p row_grown above 512 place)) ∙ sym (largest_last after (some_joined before after p row_grown above 512 place))

    pub count_raised : count_below 512 after ≡ suc (count_below 512 before)
    count_raised =
        count_same 512 after (λ q. eqb p q || before q) (λ q _. row_grown q ∙ or_comm (before q) (eqb p q))
        ∙ count_added 512 before p place (λ t. let l : p < p = above p t in omega arith)

-- what is kept of the other vertices stays as it was
module _ (value : (ℕ → Bool) → ℕ) (labels kept : List ℕ) (v p : ℕ) (size : length kept ≡ 512) (room : length labels ≡ 4096) (vertex : v < 512) (place : p < 512) where
  pub kept_raised : {x : ℕ} → x ≡ value (row_of (with_bit labels v p) v) → ((u : ℕ) → u < 512 → get_or kept u 0 ≡ value (row_of labels u))
      → (u : ℕ) → u < 512 → get_or (set kept v x) u 0 ≡ value (row_of (with_bit labels v p) u)
  kept_raised {x} is all u l = go (decided (eqb v u))
    where
      go : T (eqb v u) ⊎ (T (eqb v u) → ⊥) → get_or (set kept v x) u 0 ≡ value (row_of (with_bit labels v p) u)
      go (inl t) =
          subst (λ (y : ℕ). get_or (set kept v x) y 0 ≡ value (row_of (with_bit labels v p) y)) (eqb→eq v u t)
          (get_or-set_same kept v x 0 (omega arith) ∙ is)
      go (inr out) =
          let other : v ≡ u → ⊥ = λ e. out (subst (λ (y : ℕ). T (eqb v y)) e (eqb_refl v)) in
          get_or-set_other kept v u x 0 (λ e. other (sym e)) ∙ all u l ∙ ap value (sym (row_other labels v p room vertex place u l other))

-- what `raise` asks for, and the labels with the position put in
module _ {s : Search} {mark : Mark} {table placed labels smallest largest weights : List ℕ} {v p : ℕ} (r : Raisable s mark table placed labels smallest largest weights v p)
    {labels' : List ℕ} (put : labels' ≡ with_bit labels v p) {first : ℕ} (is : first ≡ cond (eqb (get_or smallest v 0) 512) p (get_or smallest v 0)) where
  room : length labels ≡ 4096
  room = r.stored.weighed.room

  least : first ≡ smallest_kept (smallest_in 512 (row_of (with_bit labels v p) v))
  least = smallest_raised labels v p room r.vertex r.place r.earlier (r.stored.keeps_smallest v r.vertex) is

  greatest : p + 1 ≡ largest_kept (largest_in 512 (row_of (with_bit labels v p) v))
  greatest = largest_raised labels v p room r.vertex r.place r.earlier

  counts : s ≡ mns → suc (get_or weights v 0) ≡ count_below 512 (row_of (with_bit labels v p) v)
  unfolding weight_in
  counts e =
      ap suc (r.stored.weighed.is v r.vertex ∙ ap (λ (x : Search). weight_in x 512 (row_of labels v)) e)
      ∙ sym (count_raised labels v p room r.vertex r.place r.earlier)

  pub weighable_raised : Weighable s mark table placed labels' v first (p + 1) (get_or weights v 0)
  weighable_raised = subst (λ (l : List ℕ). Weighable s mark table placed l v first (p + 1) (get_or weights v 0)) (sym put) (record {
    vertex = r.vertex;
    inside = r.inside;
    tallied = r.tallied;
    keeps_smallest = least;
    keeps_largest = greatest;
    some = omega arith;
    counted = counts;
  })

  pub stored_raised : {weight : ℕ} → weight ≡ weight_in s 512 (row_of labels' v) → Stored s labels' (set smallest v first) (set largest v (p + 1)) (set weights v weight)
  stored_raised {weight} weighs = subst (λ (l : List ℕ). Stored s l (set smallest v first) (set largest v (p + 1)) (set weights v weight)) (sym put) (record {
    weighed = record {
      size = length-set weights v weight ∙ r.stored.weighed.size;
      room = length_with_bit labels v p ∙ room;
      is = kept_raised (weight_in s 512) labels weights v p r.stored.weighed.size room r.vertex r.place
          (weighs ∙ ap (λ (l : List ℕ). weight_in s 512 (row_of l v)) put) r.stored.weighed.is;
    };
    sizes = (length-set smallest v first ∙ r.stored.sizes.0, length-set largest v (p + 1) ∙ r.stored.sizes.1);
    keeps_smallest = kept_raised (λ f. smallest_kept (smallest_in 512 f)) labels smallest v p r.stored.sizes.0 room r.vertex r.place least r.stored.keeps_smallest;
    keeps_largest = kept_raised (λ f. largest_kept (largest_in 512 f)) labels largest v p r.stored.sizes.1 room r.vertex r.place greatest r.stored.keeps_largest;
  })

-- a label that is as it was grows as it would have then
pub tallied_same : (mark : Mark) (table placed old new : List ℕ) (v p : ℕ) → length old ≡ 4096 → length new ≡ 4096 → v < 512 → p < 512
    → ((q : ℕ) → row_of new v q ≡ row_of old v q) → Tallied mark table placed old v p → Tallied mark table placed new v p
tallied_same mark table placed old new v p size size' vertex place same tallied two =
    tallied two ∙ ap (count_below 512) (fun_ext (λ q.
    row_grown old v p size vertex place q ∙ ap (λ (b : Bool). b || eqb p q) (sym (same q)) ∙ sym (row_grown new v p size' vertex place q)))
